use Rattle.std.proofs.Common.{◌+◌, ◌∙◌, Ok, Err, subst, sym}
use Rattle.si_arena.specs.declared.cause.Cause.{Cause}
use Rattle.si_arena.specs.declared.cause.Fault.{Fault}
use Rattle.si_arena.specs.declared.value.Ref.{Ref}
use Rattle.si_arena.specs.Causes.{CauseLies}
use Rattle.si_ops.specs.declared.calls.Called.{Called}
use Rattle.si_ops.specs.Calls.{Calls}
use Rattle.si_steps.specs.Moments.{Did}
use Rattle.si_steps.specs.inner.Pieces.{IsUnderWay, Lands, raised_line}
use Rattle.si_steps.proofs.Lines.{where_ok}
use Rattle.si_steps.proofs.Provided.{Provides, arguments_lie, printed_did, ran_in, refused_did, refused_under_way, room_there, starved_did, value_did, with_call}
use Rattle.si_steps.proofs.state.State.call_provided.Goals as goal

pub arguments-arguments-requires : goal.arguments-arguments-requires
arguments-arguments-requires g c =
    room_there c.args.target c.args.at c.args.count c.args.self.now c.make_room.new.self g.p c.requires.0 (where_ok c.make_room.result (sym c.is_err.ensures.value ∙ c.if-is_err.false) c.make_room.ensures.ok)

pub call-requires-clause-arguments : goal.call-requires-clause-arguments
call-requires-clause-arguments g c =
    let room = where_ok c.make_room.result (sym c.is_err.ensures.value ∙ c.if-is_err.false) c.make_room.ensures.ok in
    arguments_lie c.args.target c.args.at c.args.count c.args.self.now c.make_room.new.self g.p c.args.callee c.arguments-arguments.result.now
    (record { ready = c.requires.0; room = room; callee = c.requires.1.0; kind = c.requires.1.1; arguments = c.arguments-arguments.ensures })

pub raise-requires : goal.raise-requires
raise-requires g c =
    let old = c.args.self.now in
    let mid = c.make_room.new.self in
    let m = c.call.new.arena in
    let l = c.call.new.line in
    let rs = c.arguments-arguments.result.now in
    let k = c.in-Err-Raises in
    let room = where_ok c.make_room.result (sym c.is_err.ensures.value ∙ c.if-is_err.false) c.make_room.ensures.ok in
    let provides : Provides c.args.target c.args.at c.args.count old mid g.p c.args.callee rs = record { ready = c.requires.0; room = room; callee = c.requires.1.0; kind = c.requires.1.1; arguments = c.arguments-arguments.ensures } in
    let calls = subst (λ (f : Fault). Calls (ran_in mid c.args.callee rs) mid.arena m c.clear.new.self l (Err f)) k.field-0-is k.ensures.calls in
    subst (λ (a : Cause). IsUnderWay (with_call m l mid) g.p × CauseLies m.names a) (sym k.cause-is)
    (refused_under_way c.args.target c.args.at c.args.count old mid g.p c.args.callee rs m c.clear.new.self l k.cause provides calls)

pub returns-in-Ok-Value : goal.returns-in-Ok-Value
returns-in-Ok-Value g c =
    let old = c.args.self.now in
    let mid = c.make_room.new.self in
    let m = c.call.new.arena in
    let l = c.call.new.line in
    let rs = c.arguments-arguments.result.now in
    let k = c.in-Ok-Value in
    let room = where_ok c.make_room.result (sym c.is_err.ensures.value ∙ c.if-is_err.false) c.make_room.ensures.ok in
    let provides : Provides c.args.target c.args.at c.args.count old mid g.p c.args.callee rs = record { ready = c.requires.0; room = room; callee = c.requires.1.0; kind = c.requires.1.1; arguments = c.arguments-arguments.ensures } in
    let calls = subst (λ (v : Called). Calls (ran_in mid c.args.callee rs) mid.arena m c.clear.new.self l (Ok v)) k.field-0-is k.ensures.calls in
    let lands = subst (λ (v : Ref). Lands c.args.target v (old.pc + 1) (with_call m l mid) c.land.new.self) k.value-is c.land.ensures in
    value_did c.args.target c.args.at c.args.count old mid c.land.new.self g.p c.args.callee k.value rs m c.clear.new.self l provides calls lands

pub returns-in-Ok-Printed : goal.returns-in-Ok-Printed
returns-in-Ok-Printed g c =
    let old = c.args.self.now in
    let mid = c.make_room.new.self in
    let m = c.call.new.arena in
    let l = c.call.new.line in
    let rs = c.arguments-arguments.result.now in
    let k = c.in-Ok-Printed in
    let room = where_ok c.make_room.result (sym c.is_err.ensures.value ∙ c.if-is_err.false) c.make_room.ensures.ok in
    let provides : Provides c.args.target c.args.at c.args.count old mid g.p c.args.callee rs = record { ready = c.requires.0; room = room; callee = c.requires.1.0; kind = c.requires.1.1; arguments = c.arguments-arguments.ensures } in
    let calls = subst (λ (v : Called). Calls (ran_in mid c.args.callee rs) mid.arena m c.clear.new.self l (Ok v)) k.field-0-is k.ensures.calls in
    printed_did c.args.target c.args.at c.args.count old mid c.print.new.self g.p c.args.callee rs m c.clear.new.self l c.print.result provides c.clear.ensures.bytes calls c.print.ensures

pub returns-in-Err-Raises : goal.returns-in-Err-Raises
returns-in-Err-Raises g c =
    let old = c.args.self.now in
    let mid = c.make_room.new.self in
    let m = c.call.new.arena in
    let l = c.call.new.line in
    let rs = c.arguments-arguments.result.now in
    let k = c.in-Err-Raises in
    let room = where_ok c.make_room.result (sym c.is_err.ensures.value ∙ c.if-is_err.false) c.make_room.ensures.ok in
    let provides : Provides c.args.target c.args.at c.args.count old mid g.p c.args.callee rs = record { ready = c.requires.0; room = room; callee = c.requires.1.0; kind = c.requires.1.1; arguments = c.arguments-arguments.ensures } in
    let calls = subst (λ (f : Fault). Calls (ran_in mid c.args.callee rs) mid.arena m c.clear.new.self l (Err f)) k.field-0-is k.ensures.calls in
    let did = subst (λ (a : Cause). Did (raised_line a (with_call m l mid) g.p) g.p (with_call m l mid) c.raise.new.self c.raise.result) k.cause-is c.raise.ensures in
    refused_did c.args.target c.args.at c.args.count old mid c.raise.new.self g.p c.args.callee rs m c.clear.new.self l k.cause c.raise.result provides calls did

pub returns-in-Err-NoMemory : goal.returns-in-Err-NoMemory
returns-in-Err-NoMemory g c =
    let old = c.args.self.now in
    let mid = c.make_room.new.self in
    let m = c.call.new.arena in
    let l = c.call.new.line in
    let rs = c.arguments-arguments.result.now in
    let k = c.in-Err-NoMemory in
    let starved = c.starve-in-Err-NoMemory in
    let room = where_ok c.make_room.result (sym c.is_err.ensures.value ∙ c.if-is_err.false) c.make_room.ensures.ok in
    let provides : Provides c.args.target c.args.at c.args.count old mid g.p c.args.callee rs = record { ready = c.requires.0; room = room; callee = c.requires.1.0; kind = c.requires.1.1; arguments = c.arguments-arguments.ensures } in
    let calls = subst (λ (f : Fault). Calls (ran_in mid c.args.callee rs) mid.arena m c.clear.new.self l (Err f)) k.field-0-is k.ensures.calls in
    starved_did c.args.target c.args.at c.args.count old mid starved.new.self g.p c.args.callee rs m c.clear.new.self l starved.result provides calls starved.ensures.step starved.ensures.state
