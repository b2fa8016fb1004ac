use Rattle.std.proofs.Common.{◌≡◌, ℕ, ◌+◌, ◌∙◌, Ok, Err, subst, sym}
use Rattle.si_arena.specs.declared.cause.Cause.{Cause}
use Rattle.si_arena.specs.declared.cause.Fault.{Fault}
use Rattle.si_arena.specs.declared.value.Ref.{Ref}
use Rattle.si_arena.specs.Causes.{CauseLies}
use Rattle.si_arena.specs.Memory.{Lies}
use Rattle.si_parcel.specs.declared.action.Action.{Action}
use Rattle.si_methods.specs.declared.request.Awaited.{Awaited}
use Rattle.si_methods.specs.declared.request.Answered.{Answered}
use Rattle.si_methods.specs.Answering.{Answers}
use Rattle.si_slots.specs.declared.operand.Target.{Target}
use Rattle.si_steps.specs.declared.state.State.{State}
use Rattle.si_steps.specs.Moments.{Did}
use Rattle.si_steps.specs.inner.Pieces.{IsUnderWay, Lands, key_line, raised_line}
use Rattle.si_steps.proofs.Lines.{where_ok}
use Rattle.si_steps.proofs.Asked.{Finds, asking, method_asked, method_gave, method_missed, method_missing, method_object, method_passed, method_refused, method_room, method_starved, method_threw, ran_method, with_arena}
use Rattle.si_steps.proofs.state.State.call_found.Goals as goal

-- what is asked is what was matched
asks_same : {a b : Awaited} {x y : Action} (s new : State) (g : Target) (next : ℕ) → a ≡ b → x ≡ y → new ≡ asking a x g next s → new ≡ asking b y g next s
asks_same s new g next e f h = cc

pub arguments-arguments-requires : goal.arguments-arguments-requires
arguments-arguments-requires g c =
    method_room c.args.target c.args.at c.args.count c.args.self.now c.make_room.new.self g.p c.args.object c.requires (where_ok c.make_room.result (sym c.is_err.ensures.value ∙ c.if-is_err.false) c.make_room.ensures.ok)

pub call_method-requires-clause-object : goal.call_method-requires-clause-object
call_method-requires-clause-object g c =
    method_object c.args.target c.args.at c.args.count c.args.self.now c.make_room.new.self g.p c.args.object c.requires (where_ok c.make_room.result (sym c.is_err.ensures.value ∙ c.if-is_err.false) c.make_room.ensures.ok)

pub call_method-requires-clause-arguments : goal.call_method-requires-clause-arguments
call_method-requires-clause-arguments g c =
    let room = where_ok c.make_room.result (sym c.is_err.ensures.value ∙ c.if-is_err.false) c.make_room.ensures.ok in
    (method_passed c.args.target c.args.at c.args.count c.args.self.now c.make_room.new.self g.p c.args.object c.arguments-arguments.result.now
    (record { call = c.requires; room = room; arguments = c.arguments-arguments.ensures })).0

pub raise-requires : goal.raise-requires
raise-requires g c =
    let old = c.args.self.now in
    let mid = c.make_room.new.self in
    let m = c.call_method.new.arena in
    let r = c.args.object in
    let rs = c.arguments-arguments.result.now in
    let k = c.in-Err-Raises in
    let room = where_ok c.make_room.result (sym c.is_err.ensures.value ∙ c.if-is_err.false) c.make_room.ensures.ok in
    let finds : Finds c.args.target c.args.at c.args.count old mid g.p r rs = record { call = c.requires; room = room; arguments = c.arguments-arguments.ensures } in
    let answers = subst (λ (f : Fault). Answers (ran_method c.args.method mid r rs c.args.names.now) mid.own mid.arena m (Err f)) k.field-0-is k.ensures.answers in
    subst (λ (a : Cause). IsUnderWay (with_arena m mid) g.p × CauseLies m.names a) (sym k.cause-is)
    (method_refused c.args.method c.args.target c.args.at c.args.count c.args.names.now old mid g.p r rs m k.cause finds answers)

pub returns-in-Ok-Value : goal.returns-in-Ok-Value
returns-in-Ok-Value g c =
    let old = c.args.self.now in
    let mid = c.make_room.new.self in
    let m = c.call_method.new.arena in
    let r = c.args.object in
    let rs = c.arguments-arguments.result.now in
    let k = c.in-Ok-Value in
    let room = where_ok c.make_room.result (sym c.is_err.ensures.value ∙ c.if-is_err.false) c.make_room.ensures.ok in
    let finds : Finds c.args.target c.args.at c.args.count old mid g.p r rs = record { call = c.requires; room = room; arguments = c.arguments-arguments.ensures } in
    let answers = subst (λ (v : Answered). Answers (ran_method c.args.method mid r rs c.args.names.now) mid.own mid.arena m (Ok v)) k.field-0-is k.ensures.answers in
    let lands = subst (λ (v : Ref). Lands c.args.target v (old.pc + 1) (with_arena m mid) c.land.new.self) k.value-is c.land.ensures in
    method_gave c.args.method c.args.target c.args.at c.args.count c.args.names.now old mid c.land.new.self g.p r k.value rs m finds answers lands

pub returns-in-Ok-Asks : goal.returns-in-Ok-Asks
returns-in-Ok-Asks g c =
    let old = c.args.self.now in
    let mid = c.make_room.new.self in
    let m = c.call_method.new.arena in
    let r = c.args.object in
    let rs = c.arguments-arguments.result.now in
    let k = c.in-Ok-Asks in
    let room = where_ok c.make_room.result (sym c.is_err.ensures.value ∙ c.if-is_err.false) c.make_room.ensures.ok in
    let finds : Finds c.args.target c.args.at c.args.count old mid g.p r rs = record { call = c.requires; room = room; arguments = c.arguments-arguments.ensures } in
    let answers = subst (λ (v : Answered). Answers (ran_method c.args.method mid r rs c.args.names.now) mid.own mid.arena m (Ok v)) k.field-0-is k.ensures.answers in
    let state = asks_same (with_arena m mid) c.ask.new.self c.args.target (old.pc + 1) k.awaited-is k.action-is c.ask.ensures.state in
    method_asked c.args.method c.args.target c.args.at c.args.count c.args.names.now old mid c.ask.new.self g.p r rs m k.awaited k.action c.ask.result finds answers c.ask.ensures.step state

pub returns-in-Err-Raises : goal.returns-in-Err-Raises
returns-in-Err-Raises g c =
    let old = c.args.self.now in
    let mid = c.make_room.new.self in
    let m = c.call_method.new.arena in
    let r = c.args.object in
    let rs = c.arguments-arguments.result.now in
    let k = c.in-Err-Raises in
    let room = where_ok c.make_room.result (sym c.is_err.ensures.value ∙ c.if-is_err.false) c.make_room.ensures.ok in
    let finds : Finds c.args.target c.args.at c.args.count old mid g.p r rs = record { call = c.requires; room = room; arguments = c.arguments-arguments.ensures } in
    let answers = subst (λ (f : Fault). Answers (ran_method c.args.method mid r rs c.args.names.now) mid.own mid.arena m (Err f)) k.field-0-is k.ensures.answers in
    let did = subst (λ (a : Cause). Did (raised_line a (with_arena m mid) g.p) g.p (with_arena m mid) c.raise.new.self c.raise.result) k.cause-is c.raise.ensures in
    method_threw c.args.method c.args.target c.args.at c.args.count c.args.names.now old mid c.raise.new.self g.p r rs m k.cause c.raise.result finds answers did

pub returns-in-Err-NoMemory : goal.returns-in-Err-NoMemory
returns-in-Err-NoMemory g c =
    let old = c.args.self.now in
    let mid = c.make_room.new.self in
    let m = c.call_method.new.arena in
    let r = c.args.object in
    let rs = c.arguments-arguments.result.now in
    let k = c.in-Err-NoMemory in
    let starved = c.starve-in-Err-NoMemory in
    let room = where_ok c.make_room.result (sym c.is_err.ensures.value ∙ c.if-is_err.false) c.make_room.ensures.ok in
    let finds : Finds c.args.target c.args.at c.args.count old mid g.p r rs = record { call = c.requires; room = room; arguments = c.arguments-arguments.ensures } in
    let answers = subst (λ (f : Fault). Answers (ran_method c.args.method mid r rs c.args.names.now) mid.own mid.arena m (Err f)) k.field-0-is k.ensures.answers in
    method_starved c.args.method c.args.target c.args.at c.args.count c.args.names.now old mid starved.new.self g.p r rs m starved.result finds answers starved.ensures.step starved.ensures.state

pub raise_key-requires : goal.raise_key-requires
raise_key-requires g c =
    let old = c.args.self.now in
    let mid = c.make_room.new.self in
    let m = c.call_method.new.arena in
    let r = c.args.object in
    let rs = c.arguments-arguments.result.now in
    let k = c.in-Ok-NoKey in
    let room = where_ok c.make_room.result (sym c.is_err.ensures.value ∙ c.if-is_err.false) c.make_room.ensures.ok in
    let finds : Finds c.args.target c.args.at c.args.count old mid g.p r rs = record { call = c.requires; room = room; arguments = c.arguments-arguments.ensures } in
    let answers = subst (λ (v : Answered). Answers (ran_method c.args.method mid r rs c.args.names.now) mid.own mid.arena m (Ok v)) k.field-0-is k.ensures.answers in
    subst (λ (v : Ref). IsUnderWay (with_arena m mid) g.p × Lies m v) (sym k.key-is) (method_missing c.args.method c.args.target c.args.at c.args.count c.args.names.now old mid g.p r k.key rs m finds answers)

pub returns-in-Ok-NoKey : goal.returns-in-Ok-NoKey
returns-in-Ok-NoKey g c =
    let old = c.args.self.now in
    let mid = c.make_room.new.self in
    let m = c.call_method.new.arena in
    let r = c.args.object in
    let rs = c.arguments-arguments.result.now in
    let k = c.in-Ok-NoKey in
    let room = where_ok c.make_room.result (sym c.is_err.ensures.value ∙ c.if-is_err.false) c.make_room.ensures.ok in
    let finds : Finds c.args.target c.args.at c.args.count old mid g.p r rs = record { call = c.requires; room = room; arguments = c.arguments-arguments.ensures } in
    let answers = subst (λ (v : Answered). Answers (ran_method c.args.method mid r rs c.args.names.now) mid.own mid.arena m (Ok v)) k.field-0-is k.ensures.answers in
    let did = subst (λ (v : Ref). Did (key_line v (with_arena m mid) g.p) g.p (with_arena m mid) c.raise_key.new.self c.raise_key.result) k.key-is c.raise_key.ensures in
    method_missed c.args.method c.args.target c.args.at c.args.count c.args.names.now old mid c.raise_key.new.self g.p r k.key rs m c.raise_key.result finds answers did
