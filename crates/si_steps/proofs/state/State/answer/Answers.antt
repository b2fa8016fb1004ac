use Rattle.std.proofs.Common.{◌∙◌, Ok, ap, refl, subst, sym, arith}
use Rattle.si_arena.specs.declared.object.Object.{Object}
use Rattle.si_arena.specs.declared.value.Ref.{Ref}
use Rattle.si_arena.specs.Memory.{object_of, Lies, ObjectLies}
use Rattle.si_parcel.specs.Shared.{answer_of}
use Rattle.si_methods.specs.declared.replying.Replied.{Replied}
use Rattle.si_methods.specs.Kept.{AwaitedLies}
use Rattle.si_methods.specs.Given.{answer_in}
use Rattle.si_methods.specs.Replying.{Replies}
use Rattle.si_steps.specs.declared.state.State.{State}
use Rattle.si_steps.specs.declared.state.Standing.TheVariants as standing
use Rattle.si_steps.specs.inner.Asking.{Fails, KeepsRequest, Resumes}
use Rattle.si_steps.proofs.Lines.{where_ok, where_err}
use Rattle.si_steps.proofs.Sources.{at_same}
use Rattle.si_steps.proofs.Asked.{Awaits, asking_as, answer_asked, answer_failed, answer_got, answer_starved, awaiting_stands, first_starved, given_line, kept_failed, kept_starved, with_arena}
use Rattle.si_steps.proofs.state.State.answer.Goals as goal

pub reply-requires : goal.reply-requires
reply-requires g c =
    let room = where_ok c.make_room.result (sym c.is_err.ensures.value ∙ c.if-is_err.false) c.make_room.ensures.ok in
    subst (λ (s : State). AwaitedLies s.arena s.awaited) (sym room.0) c.requires.0.lies

pub resume_with-requires-clause-value : goal.resume_with-requires-clause-value
resume_with-requires-clause-value g c =
    let mid = c.make_room.new.self in
    let m = c.reply.new.arena in
    let k = c.in-Ok-Got in
    subst (Lies m) (sym k.value-is) (subst (λ (r : Replied). Replies mid.awaited (answer_of c.args.answer.now) mid.arena m (Ok r)) k.field-0-is k.ensures).1

pub resume_with-requires-clause-place : goal.resume_with-requires-clause-place
resume_with-requires-clause-place g c = omega (arith, c.requires.0.short)

pub fail-requires : goal.fail-requires
fail-requires g c =
    let old = c.args.self.now in
    let mid = c.make_room.new.self in
    let m = c.reply.new.arena in
    let k = c.in-Ok-Failed in
    let room = where_ok c.make_room.result (sym c.is_err.ensures.value ∙ c.if-is_err.false) c.make_room.ensures.ok in
    let waits : Awaits g.q.0 old.target old mid g.q.1 = record { waits = c.requires; target = refl; room = room } in
    let failed = subst (λ (r : Replied). Replies mid.awaited (answer_of c.args.answer.now) mid.arena m (Ok r)) k.field-0-is k.ensures in
    (at_same mid m g.q.1 failed.there.extends failed.there.store (awaiting_stands g.q.0 old.target old mid g.q.1 waits), subst (ObjectLies m) (sym k.object-is) failed.there.lies)

pub returns-in-Ok-Got-clause-did : goal.returns-in-Ok-Got-clause-did
returns-in-Ok-Got-clause-did g c =
    let old = c.args.self.now in
    let mid = c.make_room.new.self in
    let m = c.reply.new.arena in
    let a = answer_of c.args.answer.now in
    let k = c.in-Ok-Got in
    let room = where_ok c.make_room.result (sym c.is_err.ensures.value ∙ c.if-is_err.false) c.make_room.ensures.ok in
    let waits : Awaits g.q.0 old.target old mid g.q.1 = record { waits = c.requires; target = refl; room = room } in
    let got = subst (λ (r : Replied). Replies mid.awaited a mid.arena m (Ok r)) k.field-0-is k.ensures in
    let lands = subst (λ (v : Ref). Resumes old.target v old.pc (with_arena m mid) c.resume_with.new.self) k.value-is c.resume_with.ensures.state in
    answer_got g.q.0 a old.target old mid c.resume_with.new.self g.q.1 k.value m c.resume_with.result waits got c.resume_with.ensures.step lands

pub returns-in-Ok-Got-clause-kept : goal.returns-in-Ok-Got-clause-kept
returns-in-Ok-Got-clause-kept g c = subst (KeepsRequest c.args.self.now c.resume_with.new.self) (sym c.resume_with.ensures.step) tt

pub returns-in-Ok-Failed-clause-did : goal.returns-in-Ok-Failed-clause-did
returns-in-Ok-Failed-clause-did g c =
    let old = c.args.self.now in
    let mid = c.make_room.new.self in
    let m = c.reply.new.arena in
    let a = answer_of c.args.answer.now in
    let k = c.in-Ok-Failed in
    let room = where_ok c.make_room.result (sym c.is_err.ensures.value ∙ c.if-is_err.false) c.make_room.ensures.ok in
    let waits : Awaits g.q.0 old.target old mid g.q.1 = record { waits = c.requires; target = refl; room = room } in
    let failed = subst (λ (r : Replied). Replies mid.awaited a mid.arena m (Ok r)) k.field-0-is k.ensures in
    let fails = subst (λ (o : Object). Fails (object_of m o) g.q.1 (with_arena m mid) c.fail.new.self c.fail.result) k.object-is c.fail.ensures in
    answer_failed g.q.0 a old.target old mid c.fail.new.self g.q.1 k.object m c.fail.result waits failed fails

pub returns-in-Ok-Failed-clause-kept : goal.returns-in-Ok-Failed-clause-kept
returns-in-Ok-Failed-clause-kept g c =
    let old = c.args.self.now in
    let m = c.reply.new.arena in
    let room = where_ok c.make_room.result (sym c.is_err.ensures.value ∙ c.if-is_err.false) c.make_room.ensures.ok in
    kept_failed _ old.target old c.make_room.new.self c.fail.new.self g.q.1 m c.fail.result room c.fail.ensures

pub returns-in-Ok-Wants-clause-did : goal.returns-in-Ok-Wants-clause-did
returns-in-Ok-Wants-clause-did g c =
    let old = c.args.self.now in
    let mid = c.make_room.new.self in
    let m = c.reply.new.arena in
    let a = answer_of c.args.answer.now in
    let k = c.in-Ok-Wants in
    let room = where_ok c.make_room.result (sym c.is_err.ensures.value ∙ c.if-is_err.false) c.make_room.ensures.ok in
    let waits : Awaits g.q.0 old.target old mid g.q.1 = record { waits = c.requires; target = refl; room = room } in
    let asks = subst (λ (r : Replied). Replies mid.awaited a mid.arena m (Ok r)) k.field-0-is k.ensures in
    let state = asking_as old.target old.pc (with_arena m mid) c.ask.new.self k.awaited-is k.action-is c.ask.ensures.state in
    answer_asked g.q.0 a old.target old mid c.ask.new.self g.q.1 k.awaited k.action m c.ask.result waits asks c.ask.ensures.step state

pub returns-in-Ok-Wants-clause-kept : goal.returns-in-Ok-Wants-clause-kept
returns-in-Ok-Wants-clause-kept g c = subst (KeepsRequest c.args.self.now c.ask.new.self) (sym c.ask.ensures.step) tt

pub returns-in-Err-clause-did : goal.returns-in-Err-clause-did
returns-in-Err-clause-did g c =
    let old = c.args.self.now in
    let mid = c.make_room.new.self in
    let a = answer_in (answer_of c.args.answer.now) in
    let starved = c.starve-in-Err in
    let room = where_ok c.make_room.result (sym c.is_err.ensures.value ∙ c.if-is_err.false) c.make_room.ensures.ok in
    let waits : Awaits g.q.0 old.target old mid g.q.1 = record { waits = c.requires; target = refl; room = room } in
    answer_starved g.q.0 (given_line g.q.0 a old.target old g.q.1) old.target old mid starved.new.self g.q.1 c.reply.new.arena starved.result waits c.in-Err.ensures.0 c.in-Err.ensures.1 starved.ensures.step starved.ensures.state

pub returns-in-Err-clause-kept : goal.returns-in-Err-clause-kept
returns-in-Err-clause-kept g c =
    let old = c.args.self.now in
    let starved = c.starve-in-Err in
    let room = where_ok c.make_room.result (sym c.is_err.ensures.value ∙ c.if-is_err.false) c.make_room.ensures.ok in
    subst (KeepsRequest old starved.new.self) (sym starved.ensures.step) (kept_starved old.target old c.make_room.new.self starved.new.self c.reply.new.arena room starved.ensures.state)

pub returns-then-is_err-clause-did : goal.returns-then-is_err-clause-did
returns-then-is_err-clause-did g c =
    let old = c.args.self.now in
    let a = answer_in (answer_of c.args.answer.now) in
    let same = where_err c.make_room.result (sym c.is_err.ensures.value ∙ c.if-is_err.true) c.make_room.ensures.err in
    let state = c.starve.ensures.state ∙ ap (λ (s : State). let t : State = record s { standing = standing.Starved } in t) same in
    first_starved g.q.0 (given_line g.q.0 a old.target old g.q.1) old c.starve.new.self g.q.1 c.starve.result c.requires c.starve.ensures.step state

pub returns-then-is_err-clause-kept : goal.returns-then-is_err-clause-kept
returns-then-is_err-clause-kept g c =
    let old = c.args.self.now in
    let same = where_err c.make_room.result (sym c.is_err.ensures.value ∙ c.if-is_err.true) c.make_room.ensures.err in
    let state = c.starve.ensures.state ∙ ap (λ (s : State). let t : State = record s { standing = standing.Starved } in t) same in
    subst (KeepsRequest old c.starve.new.self) (sym c.starve.ensures.step) (ap (λ (s : State). s.awaited) state, ap (λ (s : State). s.target) state)
