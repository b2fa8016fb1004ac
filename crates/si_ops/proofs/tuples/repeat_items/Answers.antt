use Rattle.std.proofs.Common.{List, refl, sym, ap, subst, ◌∙◌}
use Rattle.si_semantics.specs.Value.{Value, tuple_of}
use Rattle.si_semantics.specs.Tuples.{is_too_large, copies}
use Rattle.si_arena.specs.Memory.{value_of, all_of, AllLie, PlacesTuple}
use Rattle.si_ops.specs.Operands.{members_of}
use Rattle.si_ops.proofs.Tupled.{no_items, copied_past, empty_small, large_told}
use Rattle.si_ops.proofs.Gathered.{copies_empty}
use Rattle.si_ops.proofs.tuples.repeat_items.Goals as goal

pub returns-then-is_empty-clause-tuple : goal.returns-then-is_empty-clause-tuple
returns-then-is_empty-clause-tuple c =
    let m = c.args.arena.now in
    let none = sym c.members-items.ensures.items ∙ ap (all_of m) (no_items c.members-items.result.now c.is_empty.result c.is_empty.ensures c.if-is_empty.true) in
    let e = ap (copies c.args.count) none ∙ copies_empty c.args.count in
    let P : List Value → Type 0 = λ vs. PlacesTuple vs m c.place_tuple.new.self c.place_tuple.result in
    subst P (sym e) c.place_tuple.ensures.tuple

pub returns-then-is_empty-clause-told : goal.returns-then-is_empty-clause-told
returns-then-is_empty-clause-told c = λ h.
    let m = c.args.arena.now in
    let none = sym c.members-items.ensures.items ∙ ap (all_of m) (no_items c.members-items.result.now c.is_empty.result c.is_empty.ensures c.if-is_empty.true) in
    let e = ap (copies c.args.count) none ∙ copies_empty c.args.count in
    absurd (empty_small (ap (λ vs. is_too_large (tuple_of vs)) (sym e) ∙ h))

pub returns-then-is_copied_past-clause-tuple : goal.returns-then-is_copied_past-clause-tuple
returns-then-is_copied_past-clause-tuple c =
    let past = copied_past (value_of c.args.arena.now c.args.tuple) c.args.count _ _ c.requires.some c.size.ensures.values c.size.ensures.levels in
    (past ∙ sym c.is_copied_past.ensures ∙ c.if-is_copied_past.true, refl, refl)

pub returns-in_err-all-clause-told : goal.returns-in_err-all-clause-told
returns-in_err-all-clause-told c = λ h.
    let v = value_of c.args.arena.now c.args.tuple in
    let past = copied_past v c.args.count _ _ c.requires.some c.size.ensures.values c.size.ensures.levels in
    large_told (copies c.args.count (members_of v)) c.from_residual.result (past ∙ sym c.is_copied_past.ensures ∙ c.if-is_copied_past.false) h

pub place_tuple-requires-2 : goal.place_tuple-requires-2
place_tuple-requires-2 c =
    let m = c.args.arena.now in
    subst (AllLie m) (sym c.as_slice.ensures.value) (c.in_ok-all.ensures.lie m c.members-items.ensures.lie)

pub returns-clause-tuple : goal.returns-clause-tuple
returns-clause-tuple c =
    let m = c.args.arena.now in
    let is = ap (all_of m) c.as_slice.ensures.value ∙ c.in_ok-all.ensures.all m ∙ ap (copies c.args.count) c.members-items.ensures.items in
    let P : List Value → Type 0 = λ vs. PlacesTuple vs m c.place_tuple-2.new.self c.place_tuple-2.result in
    subst P is c.place_tuple-2.ensures.tuple

pub returns-clause-told : goal.returns-clause-told
returns-clause-told c = λ h.
    let v = value_of c.args.arena.now c.args.tuple in
    let past = copied_past v c.args.count _ _ c.requires.some c.size.ensures.values c.size.ensures.levels in
    large_told (copies c.args.count (members_of v)) c.place_tuple-2.result (past ∙ sym c.is_copied_past.ensures ∙ c.if-is_copied_past.false) h
