use Rattle.std.proofs.Common.{◌≡◌, false}
use Rattle.std.specs.Prelude.{codes, ◌&&◌}
use Rattle.si_semantics.specs.Text.{same_text}
use Rattle.si_arena.specs.Memory.{value_of}
use Rattle.si_methods.proofs.Words.{target_word, args_word, spelled}
use Rattle.si_methods.proofs.Passed.{in_this_order, in_other_order, in_no_order, first_no, second_no}
use Rattle.si_methods.proofs.arguments.in_order.Goals.{else-is_spelled-via-then-is_spelled+else-is_spelled-2, else-is_spelled-via-else-is_spelled, else-is_spelled-3-via-then-is_spelled-3+else-is_spelled-4, else-is_spelled-3-via-else-is_spelled-3}
use Rattle.si_methods.proofs.arguments.in_order.Goals as goal

pub returns-then-is_spelled-2 : goal.returns-then-is_spelled-2
returns-then-is_spelled-2 c = λ m h.
    let x = c.args.one.now in
    let y = c.args.other.now in
    let first = spelled x (codes "target") c.is_spelled.result _ c.is_spelled.ensures target_word c.if-is_spelled.true in
    let second = spelled y (codes "args") c.is_spelled-then-is_spelled.result _ c.is_spelled-then-is_spelled.ensures args_word c.if-is_spelled-2.true in
    (h.0, h.1.0, λ w. in_this_order x y (value_of m c.args.first) (value_of m c.args.second) w first second)

pub returns-then-is_spelled-4 : goal.returns-then-is_spelled-4
returns-then-is_spelled-4 c = λ m h.
    let x = c.args.one.now in
    let y = c.args.other.now in
    let no : (same_text x (codes "target") && same_text y (codes "args")) ≡ false = elim c.else-is_spelled.branch [
      | else-is_spelled-via-then-is_spelled+else-is_spelled-2 v ↦
          second_no (same_text x (codes "target")) (same_text y (codes "args"))
          (spelled x (codes "target") c.is_spelled.result _ c.is_spelled.ensures target_word v.if-is_spelled.true)
          (spelled y (codes "args") v.is_spelled-then-is_spelled.result _ v.is_spelled-then-is_spelled.ensures args_word v.if-is_spelled-2.false)
      | else-is_spelled-via-else-is_spelled v ↦
          first_no (same_text x (codes "target")) (same_text y (codes "args"))
          (spelled x (codes "target") c.is_spelled.result _ c.is_spelled.ensures target_word v.if-is_spelled.false)
    ] in
    let first = spelled x (codes "args") c.is_spelled-2.result _ c.is_spelled-2.ensures args_word c.if-is_spelled-3.true in
    let second = spelled y (codes "target") c.is_spelled-then-is_spelled-3.result _ c.is_spelled-then-is_spelled-3.ensures target_word c.if-is_spelled-4.true in
    (h.1.0, h.0, λ w. in_other_order x y (value_of m c.args.first) (value_of m c.args.second) w no first second)

pub returns : goal.returns
returns c = λ m w.
    let x = c.args.one.now in
    let y = c.args.other.now in
    let no : (same_text x (codes "target") && same_text y (codes "args")) ≡ false = elim c.else-is_spelled.branch [
      | else-is_spelled-via-then-is_spelled+else-is_spelled-2 v ↦
          second_no (same_text x (codes "target")) (same_text y (codes "args"))
          (spelled x (codes "target") c.is_spelled.result _ c.is_spelled.ensures target_word v.if-is_spelled.true)
          (spelled y (codes "args") v.is_spelled-then-is_spelled.result _ v.is_spelled-then-is_spelled.ensures args_word v.if-is_spelled-2.false)
      | else-is_spelled-via-else-is_spelled v ↦
          first_no (same_text x (codes "target")) (same_text y (codes "args"))
          (spelled x (codes "target") c.is_spelled.result _ c.is_spelled.ensures target_word v.if-is_spelled.false)
    ] in
    let neither : (same_text x (codes "args") && same_text y (codes "target")) ≡ false = elim c.else-is_spelled-3.branch [
      | else-is_spelled-3-via-then-is_spelled-3+else-is_spelled-4 v ↦
          second_no (same_text x (codes "args")) (same_text y (codes "target"))
          (spelled x (codes "args") c.is_spelled-2.result _ c.is_spelled-2.ensures args_word v.if-is_spelled-3.true)
          (spelled y (codes "target") v.is_spelled-then-is_spelled-3.result _ v.is_spelled-then-is_spelled-3.ensures target_word v.if-is_spelled-4.false)
      | else-is_spelled-3-via-else-is_spelled-3 v ↦
          first_no (same_text x (codes "args")) (same_text y (codes "target"))
          (spelled x (codes "args") c.is_spelled-2.result _ c.is_spelled-2.ensures args_word v.if-is_spelled-3.false)
    ] in
    in_no_order x y (value_of m c.args.first) (value_of m c.args.second) w no neither
