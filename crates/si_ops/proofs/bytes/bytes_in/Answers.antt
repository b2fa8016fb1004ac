use Rattle.std.proofs.Common.{◌≡◌, ◌<◌, refl, sym, ◌∙◌, to_z, of_z, w64, rules, arith}
use Rattle.si_semantics.specs.Operations.{range_length}
use Rattle.si_ops.proofs.MadeBytes.{none_yet, none_made, one_made, no_byte, a_byte, near}
use Rattle.si_ops.proofs.bytes.bytes_in.Goals as goal

pub loop-i-init : goal.loop-i-init
loop-i-init c =
    let s = c.args.steps.now in
    let a : to_z w64 (of_z w64 s.start) ≡ s.start = search rules in
    none_yet s.start s.stop s.step _ _ a c.new-bytes.ensures.items

pub returns-in_default-clause-err : goal.returns-in_default-clause-err
returns-in_default-clause-err c =
    let s = c.args.steps.now in
    let more : c.loop-i.i < range_length s.start s.stop s.step = omega (arith, c.loop-i-test.true, c.items_in-i-end.ensures) in
    (none_made s.start s.stop s.step c.loop-i.i _ _ more (no_byte (to_z w64 c.loop-i.at-bits) (sym c.byte_of.ensures ∙ c.in_default.is)) c.loop-i.invariant, refl)

pub loop-i-preserved : goal.loop-i-preserved
loop-i-preserved c =
    let s = c.args.steps.now in
    let more : c.loop-i.i < range_length s.start s.stop s.step = omega (arith, c.loop-i-test.true, c.items_in-i-end.ensures) in
    let byte = a_byte (to_z w64 c.loop-i.at-bits) _ (sym c.byte_of.ensures ∙ c.in-Some.is) in
    let next : to_z w64 (of_z w64 c.step_from-at.result) ≡ c.step_from-at.result = search rules in
    let step : to_z w64 (of_z w64 s.step) ≡ s.step = search rules in
    let from = rw step at c.step_from-at.ensures in
    one_made s.start s.stop s.step c.loop-i.i (to_z w64 c.loop-i.at-bits) _ _ _ _ more byte.0 byte.1 (rw next (near (to_z w64 c.loop-i.at-bits) s.step _ from)) c.in_ok-keep.ensures c.loop-i.invariant
