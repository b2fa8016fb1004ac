use Rattle.std.proofs.Common.{◌+◌, Ok, Err, take, subst}
use Rattle.si_semantics.specs.Operations.{tuple_within}
use Rattle.si_arena.specs.declared.cause.Cause.{Cause}
use Rattle.si_arena.specs.declared.cause.Fault.{Fault}
use Rattle.si_arena.specs.declared.cause.Fault.TheVariants.{Raises}
use Rattle.si_arena.specs.Memory.{all_of, PlacesTuple}
use Rattle.si_slots.specs.Views.{target_of}
use Rattle.si_stacks.proofs.Keeping.{keeps_fewer}
use Rattle.si_steps.specs.declared.state.State.{State}
use Rattle.si_steps.specs.Moments.{Did}
use Rattle.si_steps.specs.inner.Pieces.{raised_line}
use Rattle.si_steps.proofs.Lines.{alike}
use Rattle.si_steps.proofs.Operated.{given_anew, thrown_over}
use Rattle.si_steps.proofs.Displayed.{items_there, items_lie, display_is, gathered, placed_runs}
use Rattle.si_steps.proofs.state.State.gather.Goals as goal

pub arguments-items-requires : goal.arguments-items-requires
arguments-items-requires g c = items_there tuple_within (target_of c.args.target) c.args.at c.args.count (c.args.self.now.pc + 1) c.args.self.now g.p c.requires.at c.requires.open_line

pub place_tuple-requires : goal.place_tuple-requires
place_tuple-requires g c = items_lie tuple_within (target_of c.args.target) c.args.at c.args.count (c.args.self.now.pc + 1) c.args.self.now g.p c.arguments-items.result.now c.requires.at c.requires.open_line c.arguments-items.ensures

pub returns-in-Ok : goal.returns-in-Ok
returns-in-Ok g c =
    let s = c.args.self.now in
    let rs = c.arguments-items.result.now in
    let runs = placed_runs (all_of s.arena rs) s.arena c.place_tuple.new.self (Ok c.in-Ok.tuple) c.in-Ok.ensures.tuple in
    alike _ _ g.p s c.put.new.self c.put.result (display_is tuple_within (target_of c.args.target) c.args.at c.args.count (s.pc + 1) s g.p rs c.requires.at c.requires.open_line c.arguments-items.ensures)
    (given_anew c.args.target (gathered s rs) c.in-Ok.tuple g.p (take c.args.at g.p.ts) s c.put.new.self c.place_tuple.new.self c.put.result c.requires.at c.requires.running
    (keeps_fewer s.arena s.frames.temporaries g.p.ts c.args.at c.requires.at.0.temporaries) runs c.put.ensures)

pub returns-in-Err-Raises : goal.returns-in-Err-Raises
returns-in-Err-Raises g c =
    let s = c.args.self.now in
    let rs = c.arguments-items.result.now in
    let m = c.place_tuple.new.self in
    let k = c.in-Err-Raises in
    let placed = subst (λ (f : Fault). PlacesTuple (all_of s.arena rs) s.arena m (Err f)) k.field-0-is k.ensures.tuple in
    let runs = placed_runs (all_of s.arena rs) s.arena m (Err (Raises k.cause)) placed in
    let mid : State = record s { arena = m } in
    let did = subst (λ (a : Cause). Did (raised_line a mid g.p) g.p mid c.raise.new.self c.raise.result) k.cause-is c.raise.ensures in
    alike _ _ g.p s c.raise.new.self c.raise.result (display_is tuple_within (target_of c.args.target) c.args.at c.args.count (s.pc + 1) s g.p rs c.requires.at c.requires.open_line c.arguments-items.ensures)
    (thrown_over (target_of c.args.target) (gathered s rs) k.cause g.p (take c.args.at g.p.ts) s c.raise.new.self m c.raise.result c.requires.at runs.0 runs.1 did)
