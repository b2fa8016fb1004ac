use Rattle.std.proofs.Common.{◌≡◌, ◌<◌, ◌-◌, ℕ, List, Bool, Option, Some, Result, Ok, length, slice_get, refl, arith, sym, ap, subst, ◌∙◌}
use Rattle.std.specs.Prelude.{option_map}
use Rattle.si_plain.specs.declared.kind.Kind.{Kind}
use Rattle.si_semantics.specs.Value.{Value, Key, Address, Object, Items, Pairs}
use Rattle.si_semantics.specs.Dicts.{key_of, value_at}
use Rattle.si_arena.specs.declared.view.View.TheVariants as view
use Rattle.std.proofs.lemmas.List.{length-map}
use Rattle.si_semantics.specs.Operations.{equal_within}
use Rattle.si_arena.specs.declared.value.Ref.{Ref}
use Rattle.si_arena.specs.Memory.{Memory, value_of, all_of, pair_of, pairs_of, object_of, list_at, dict_at, value_by, key_meant, IsKey}
use Rattle.si_arena.proofs.Sizes.{lies_at}
use Rattle.si_ops.specs.inner.Equal.{compared_at}
use Rattle.si_ops.proofs.Equal.{shown_tuples, shown_objects, shown_bare, one_object, two_objects, list_and_other, dict_and_plain, plain_and_other, plain_object, lengths_apart, lengths_same, each_next, each_other, each_refused, each_end, keys_apart, keys_same, found_none, found_next, found_other, found_refused, found_end}
use Rattle.si_ops.proofs.equality.+equal.Goals as goal

pub are_equal_within-returns-in-Tuple-view : goal.are_equal_within-returns-in-Tuple-view
are_equal_within-returns-in-Tuple-view t c = λ w e.
    let m = c.args.arena.now in
    shown_tuples c.args.depth _ _ w _ (all_of m c.in-Tuple.xs.now) (all_of m c.in-Tuple-view.ys.now) c.in-Tuple.ensures.value c.in-Tuple-view.ensures.value (c.are_items_equal.ensures w e)

pub are_equal_within-returns-in_default-view : goal.are_equal_within-returns-in_default-view
are_equal_within-returns-in_default-view t c = λ w e.
    let m = c.args.arena.now in
    shown_bare c.args.depth _ _ w _ m (view.Tuple c.in-Tuple.xs) c.view-in-Tuple.result c.in-Tuple.ensures.value c.view-in-Tuple.ensures.value (c.are_equal_bare.ensures m (compared_at c.args.depth w) w)

pub are_equal_within-returns-in_default : goal.are_equal_within-returns-in_default
are_equal_within-returns-in_default t c = λ w e.
    let m = c.args.arena.now in
    shown_bare c.args.depth _ _ w _ m c.view.result c.view-in_default.result c.view.ensures.value c.view-in_default.ensures.value (c.are_equal_bare-in_default.ensures m (compared_at c.args.depth w) w)

pub are_equal_within-returns-in-Object-view : goal.are_equal_within-returns-in-Object-view
are_equal_within-returns-in-Object-view t c = λ w e.
    shown_objects c.args.depth _ _ w _ c.in-Object.a c.in-Object-view.b c.in-Object.ensures.value c.in-Object-view.ensures.value (c.are_objects_equal.ensures w e)

pub are_equal_within-returns-in_default-view-2 : goal.are_equal_within-returns-in_default-view-2
are_equal_within-returns-in_default-view-2 t c = λ w e.
    let m = c.args.arena.now in
    shown_bare c.args.depth _ _ w _ m (view.Object c.in-Object.a) c.view-in-Object.result c.in-Object.ensures.value c.view-in-Object.ensures.value (c.are_equal_bare-in_default-view-2.ensures m (compared_at c.args.depth w) w)

-- ---- objects

pub are_objects_equal-returns-then-a-b : goal.are_objects_equal-returns-then-a-b
are_objects_equal-returns-then-a-b t c = λ w e. one_object (compared_at c.args.depth w) c.args.a c.args.b w c.if-a-b.true

pub are_objects_equal-returns-in-Some : goal.are_objects_equal-returns-in-Some
are_objects_equal-returns-in-Some t c = λ w e.
    let m = c.args.arena.now in
    let us = all_of m c.in-List.xs.now in
    let vs = all_of m c.in-Some.ys.now in
    two_objects (compared_at c.args.depth w) c.args.a c.args.b w m.store (Some (Items us)) (Some (Items vs)) c.if-a-b.false e c.in-List.ensures.object c.in-Some.ensures.some.0 ∙ c.are_items_equal.ensures w e

pub are_objects_equal-returns-in-None : goal.are_objects_equal-returns-in-None
are_objects_equal-returns-in-None t c = λ w e.
    let m = c.args.arena.now in
    let us = all_of m c.in-List.xs.now in
    two_objects (compared_at c.args.depth w) c.args.a c.args.b w m.store (Some (Items us)) (slice_get m.store c.args.b) c.if-a-b.false e c.in-List.ensures.object refl
    ∙ list_and_other (compared_at c.args.depth w) us (slice_get m.store c.args.b) c.in-None.ensures.none

one_address : (store : List Object) (b x : ℕ) (o : Object) → Address b ≡ Address x → slice_get store x ≡ Some o → slice_get store b ≡ Some o
one_address store b x o e h = let same : b ≡ x = cc in subst (λ y. slice_get store y ≡ Some o) (sym same) h

pub are_objects_equal-returns-in-Dict-held_at : goal.are_objects_equal-returns-in-Dict-held_at
are_objects_equal-returns-in-Dict-held_at t c = λ w e.
    let m = c.args.arena.now in
    let ps = pairs_of m c.in-Dict.pairs.now in
    let x = c.in-Dict-held_at.other in
    let h = c.in-Dict-held_at.ensures in
    two_objects (compared_at c.args.depth w) c.args.a c.args.b w m.store (Some (Pairs ps)) (Some (Pairs (dict_at m x))) c.if-a-b.false e c.in-Dict.ensures.object (one_address m.store c.args.b x _ h.0 h.2) ∙ c.are_pairs_equal.ensures w e

pub are_objects_equal-returns-in-List-held_at : goal.are_objects_equal-returns-in-List-held_at
are_objects_equal-returns-in-List-held_at t c = λ w e.
    let m = c.args.arena.now in
    let ps = pairs_of m c.in-Dict.pairs.now in
    let x = c.in-List-held_at.field-0 in
    let h = c.in-List-held_at.ensures in
    two_objects (compared_at c.args.depth w) c.args.a c.args.b w m.store (Some (Pairs ps)) (Some (Items (list_at m x))) c.if-a-b.false e c.in-Dict.ensures.object (one_address m.store c.args.b x _ h.0 h.2)

pub are_objects_equal-returns-in-Other : goal.are_objects_equal-returns-in-Other
are_objects_equal-returns-in-Other t c = λ w e.
    let m = c.args.arena.now in
    let ps = pairs_of m c.in-Dict.pairs.now in
    two_objects (compared_at c.args.depth w) c.args.a c.args.b w m.store (Some (Pairs ps)) (slice_get m.store c.args.b) c.if-a-b.false e c.in-Dict.ensures.object refl
    ∙ dict_and_plain (compared_at c.args.depth w) ps (slice_get m.store c.args.b) c.in-Other.ensures

pub are_objects_equal-returns-in-Plain : goal.are_objects_equal-returns-in-Plain
are_objects_equal-returns-in-Plain t c = λ w e.
    let m = c.args.arena.now in
    let o = object_of m c.in-Plain.field-0 in
    two_objects (compared_at c.args.depth w) c.args.a c.args.b w m.store (Some o) (slice_get m.store c.args.b) c.if-a-b.false e c.in-Plain.ensures.object refl
    ∙ plain_and_other (compared_at c.args.depth w) (Some o) (slice_get m.store c.args.b) (plain_object m c.in-Plain.field-0)

-- ---- items

pub are_items_equal-returns-then-depth-eq0 : goal.are_items_equal-returns-then-depth-eq0
are_items_equal-returns-then-depth-eq0 t c = λ w e.
    let m = c.args.arena.now in
    ap (λ n. (compared_at n w).items (all_of m c.args.xs.now) (all_of m c.args.ys.now)) c.if-depth-eq0.true

pub are_items_equal-returns-then-xs-ys : goal.are_items_equal-returns-then-xs-ys
are_items_equal-returns-then-xs-ys t c = λ w e.
    let m = c.args.arena.now in
    let a = length-map c.args.xs.now (value_of m) in
    let b = length-map c.args.ys.now (value_of m) in
    lengths_apart c.args.depth (all_of m c.args.xs.now) (all_of m c.args.ys.now) w (omega arith) (λ e. c.if-xs-ys.true (sym a ∙ e ∙ b))

pub are_items_equal-are_equal_within-requires : goal.are_items_equal-are_equal_within-requires
are_items_equal-are_equal_within-requires t c =
    let m = c.args.arena.now in
    let here : c.loop-i.i < length c.args.ys.now = omega arith in
    (omega arith, (lies_at m c.args.xs.now c.loop-i.i _ _ c.index-xs-i.is c.loop-i-test.true c.requires.xs, lies_at m c.args.ys.now c.loop-i.i _ _ c.index-ys-i.is here c.requires.ys))

pub are_items_equal-returns-in-Ok-false : goal.are_items_equal-returns-in-Ok-false
are_items_equal-returns-in-Ok-false t c = λ w e.
    let m = c.args.arena.now in
    let xs = c.args.xs.now in
    let ys = c.args.ys.now in
    let E : Value → Value → Result Bool Kind = λ a b. equal_within (c.args.depth - 1) a b w in
    let there : c.loop-i.i < length ys = omega arith in
    let long : length (all_of m xs) ≡ length (all_of m ys) = omega (arith, length-map xs (value_of m), length-map ys (value_of m)) in
    lengths_same c.args.depth (all_of m xs) (all_of m ys) w (omega arith) long
    ∙ sym (c.loop-i.invariant w e)
    ∙ each_other E m xs ys c.loop-i.i _ _ c.loop-i-test.true there c.index-xs-i.is c.index-ys-i.is (c.in-Ok-false.ensures w e ∙ ap Ok c.in-Ok-false.field-0-test)

pub are_items_equal-returns-in-Err : goal.are_items_equal-returns-in-Err
are_items_equal-returns-in-Err t c = λ w e.
    let m = c.args.arena.now in
    let xs = c.args.xs.now in
    let ys = c.args.ys.now in
    let E : Value → Value → Result Bool Kind = λ a b. equal_within (c.args.depth - 1) a b w in
    let there : c.loop-i.i < length ys = omega arith in
    let long : length (all_of m xs) ≡ length (all_of m ys) = omega (arith, length-map xs (value_of m), length-map ys (value_of m)) in
    lengths_same c.args.depth (all_of m xs) (all_of m ys) w (omega arith) long
    ∙ sym (c.loop-i.invariant w e)
    ∙ each_refused E m xs ys c.loop-i.i _ _ c.loop-i-test.true there c.index-xs-i.is c.index-ys-i.is c.in-Err.refusal (c.in-Err.ensures w e)

pub are_items_equal-loop-i-preserved : goal.are_items_equal-loop-i-preserved
are_items_equal-loop-i-preserved t c = λ w e.
    let m = c.args.arena.now in
    let xs = c.args.xs.now in
    let ys = c.args.ys.now in
    let E : Value → Value → Result Bool Kind = λ a b. equal_within (c.args.depth - 1) a b w in
    let there : c.loop-i.i < length ys = omega arith in
    each_next E m xs ys c.loop-i.i _ _ c.loop-i-test.true there c.index-xs-i.is c.index-ys-i.is (c.in-Ok-true.ensures w e ∙ ap Ok c.in-Ok-true.field-0-test) ∙ c.loop-i.invariant w e

pub are_items_equal-returns : goal.are_items_equal-returns
are_items_equal-returns t c = λ w e.
    let m = c.args.arena.now in
    let xs = c.args.xs.now in
    let ys = c.args.ys.now in
    let E : Value → Value → Result Bool Kind = λ a b. equal_within (c.args.depth - 1) a b w in
    let long : length (all_of m xs) ≡ length (all_of m ys) = omega (arith, length-map xs (value_of m), length-map ys (value_of m)) in
    lengths_same c.args.depth (all_of m xs) (all_of m ys) w (omega arith) long ∙ sym (c.loop-i.invariant w e) ∙ each_end E m xs ys c.loop-i.i (omega arith) (omega arith)

-- ---- pairs

pub are_pairs_equal-returns-then-depth-eq0 : goal.are_pairs_equal-returns-then-depth-eq0
are_pairs_equal-returns-then-depth-eq0 t c = λ w e.
    let m = c.args.arena.now in
    ap (λ n. (compared_at n w).pairs (pairs_of m c.args.pairs.now) (dict_at m c.args.other)) c.if-depth-eq0.true

pub are_pairs_equal-returns-then-len-keys_at : goal.are_pairs_equal-returns-then-len-keys_at
are_pairs_equal-returns-then-len-keys_at t c = λ w e.
    let m = c.args.arena.now in
    let es = c.args.pairs.now in
    let a = c.len.ensures in
    let b = c.keys_at.ensures in
    let counted = length-map es (λ e. pair_of m e.1) in
    keys_apart c.args.depth (pairs_of m es) (dict_at m c.args.other) w (omega arith) (λ same. c.if-len-keys_at.true (a ∙ sym counted ∙ same ∙ sym b))

pub are_pairs_equal-pair-pair-requires : goal.are_pairs_equal-pair-pair-requires
are_pairs_equal-pair-pair-requires t c = let a = c.len-i-end.ensures in let b = c.loop-i-test.true in omega (arith, a, b)

pub are_pairs_equal-find-requires : goal.are_pairs_equal-find-requires
are_pairs_equal-find-requires t c = record { address = c.requires.address; key = (c.pair-pair.ensures.lies c.args.arena.now c.requires.pairs).key }

pub are_pairs_equal-are_equal_within-requires : goal.are_pairs_equal-are_equal_within-requires
are_pairs_equal-are_equal_within-requires t c = (omega arith, ((c.pair-pair.ensures.lies c.args.arena.now c.requires.pairs).value, c.in-Some.ensures.lies))

value_found : (m : Memory) (v : Value) (ps : List (Key × Value)) (o : Option Ref) → IsKey v → option_map (value_of m) o ≡ value_by (key_of v) ps → value_at (key_meant v) ps ≡ option_map (value_of m) o
value_found m v ps o h e = sym (e ∙ ap (λ k. value_by k ps) h)

pub are_pairs_equal-returns-in_default : goal.are_pairs_equal-returns-in_default
are_pairs_equal-returns-in_default t c = λ w e.
    let m = c.args.arena.now in
    let es = c.args.pairs.now in
    let ps = pairs_of m es in
    let qs = dict_at m c.args.other in
    let p = c.pair-pair.result in
    let isk = (c.pair-pair.ensures.lies m c.requires.pairs).is_key in
    let E : Value → Value → Result Bool Kind = λ a b. equal_within (c.args.depth - 1) a b w in
    let long : length ps ≡ length qs = length-map es (λ e. pair_of m e.1) ∙ sym c.len.ensures ∙ c.if-len-keys_at.false ∙ c.keys_at.ensures in
    keys_same c.args.depth ps qs w (omega arith) long
    ∙ sym (c.loop-i.invariant w e)
    ∙ found_none E ps qs c.loop-i.i (pair_of m p) (c.pair-pair.ensures.pair m) (value_found m (value_of m p.key) qs c.find.result isk c.find.ensures.value ∙ ap (option_map (value_of m)) c.in_default.is)

pub are_pairs_equal-returns-in-Ok-false : goal.are_pairs_equal-returns-in-Ok-false
are_pairs_equal-returns-in-Ok-false t c = λ w e.
    let m = c.args.arena.now in
    let es = c.args.pairs.now in
    let ps = pairs_of m es in
    let qs = dict_at m c.args.other in
    let p = c.pair-pair.result in
    let isk = (c.pair-pair.ensures.lies m c.requires.pairs).is_key in
    let E : Value → Value → Result Bool Kind = λ a b. equal_within (c.args.depth - 1) a b w in
    let long : length ps ≡ length qs = length-map es (λ e. pair_of m e.1) ∙ sym c.len.ensures ∙ c.if-len-keys_at.false ∙ c.keys_at.ensures in
    keys_same c.args.depth ps qs w (omega arith) long
    ∙ sym (c.loop-i.invariant w e)
    ∙ found_other E ps qs c.loop-i.i (pair_of m p) (c.pair-pair.ensures.pair m) (value_of m c.in-Some.there) (value_found m (value_of m p.key) qs (Some c.in-Some.there) isk c.in-Some.ensures.value) (c.in-Ok-false.ensures w e ∙ ap Ok c.in-Ok-false.field-0-test)

pub are_pairs_equal-returns-in-Err : goal.are_pairs_equal-returns-in-Err
are_pairs_equal-returns-in-Err t c = λ w e.
    let m = c.args.arena.now in
    let es = c.args.pairs.now in
    let ps = pairs_of m es in
    let qs = dict_at m c.args.other in
    let p = c.pair-pair.result in
    let isk = (c.pair-pair.ensures.lies m c.requires.pairs).is_key in
    let E : Value → Value → Result Bool Kind = λ a b. equal_within (c.args.depth - 1) a b w in
    let long : length ps ≡ length qs = length-map es (λ e. pair_of m e.1) ∙ sym c.len.ensures ∙ c.if-len-keys_at.false ∙ c.keys_at.ensures in
    keys_same c.args.depth ps qs w (omega arith) long
    ∙ sym (c.loop-i.invariant w e)
    ∙ found_refused E ps qs c.loop-i.i (pair_of m p) (c.pair-pair.ensures.pair m) (value_of m c.in-Some.there) (value_found m (value_of m p.key) qs (Some c.in-Some.there) isk c.in-Some.ensures.value) c.in-Err.refusal (c.in-Err.ensures w e)

pub are_pairs_equal-loop-i-preserved : goal.are_pairs_equal-loop-i-preserved
are_pairs_equal-loop-i-preserved t c = λ w e.
    let m = c.args.arena.now in
    let es = c.args.pairs.now in
    let ps = pairs_of m es in
    let qs = dict_at m c.args.other in
    let p = c.pair-pair.result in
    let isk = (c.pair-pair.ensures.lies m c.requires.pairs).is_key in
    let E : Value → Value → Result Bool Kind = λ a b. equal_within (c.args.depth - 1) a b w in
    found_next E ps qs c.loop-i.i (pair_of m p) (c.pair-pair.ensures.pair m) (value_of m c.in-Some.there) (value_found m (value_of m p.key) qs (Some c.in-Some.there) isk c.in-Some.ensures.value) (c.in-Ok-true.ensures w e ∙ ap Ok c.in-Ok-true.field-0-test) ∙ c.loop-i.invariant w e

pub are_pairs_equal-returns : goal.are_pairs_equal-returns
are_pairs_equal-returns t c = λ w e.
    let m = c.args.arena.now in
    let es = c.args.pairs.now in
    let ps = pairs_of m es in
    let qs = dict_at m c.args.other in
    let E : Value → Value → Result Bool Kind = λ a b. equal_within (c.args.depth - 1) a b w in
    let counted = length-map es (λ e. pair_of m e.1) in
    let long : length ps ≡ length qs = counted ∙ sym c.len.ensures ∙ c.if-len-keys_at.false ∙ c.keys_at.ensures in
    let a = c.len-i-end.ensures in
    let b = c.loop-i-test.false in
    keys_same c.args.depth ps qs w (omega arith) long ∙ sym (c.loop-i.invariant w e) ∙ found_end E ps qs c.loop-i.i (omega (arith, a, b, counted))
