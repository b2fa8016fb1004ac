use Rattle.std.proofs.Common.{◌≡◌, ◌+◌, ◌≤◌, Some, length, sym, ap, ◌∙◌, arith, slice_get}
use Rattle.std.proofs.lemmas.List.{length-map}
use Rattle.si_semantics.specs.Value.{value_of_key}
use Rattle.si_semantics.specs.Dicts.{keys_in}
use Rattle.si_semantics.specs.Operations.{next_of_dict, item_or_end, Keys}
use Rattle.si_arena.specs.Memory.{object_of, pairs_of}
use Rattle.si_ops.proofs.Equal.{plain_object}
use Rattle.si_ops.proofs.Holding.{slice_over, keys_left, keys_changed, count_pairs, key_at, plain_dict_next}
use Rattle.si_ops.proofs.items.next_key.Goals as goal

pub returns-then-len-count : goal.returns-then-len-count
returns-then-len-count c =
    let m = c.args.arena.now in
    let x = c.args.address in
    let ps = pairs_of m c.in-Dict.pairs.now in
    ((λ w e. ap (λ s. next_of_dict x c.args.at c.args.count (slice_get s x)) e ∙ ap (next_of_dict x c.args.at c.args.count) c.in-Dict.ensures.object ∙ keys_changed x c.args.at c.args.count ps (λ same. c.if-len-count.true (c.len.ensures ∙ sym (count_pairs m c.in-Dict.pairs.now) ∙ same))), tt)

pub returns-then-at-count : goal.returns-then-at-count
returns-then-at-count c = λ w e.
    let m = c.args.arena.now in
    let x = c.args.address in
    let ps = pairs_of m c.in-Dict.pairs.now in
    let long : length ps ≡ c.args.count = count_pairs m c.in-Dict.pairs.now ∙ sym c.len.ensures ∙ c.if-len-count.false in
    let over : length (keys_in ps) ≤ c.args.at = omega (arith, long, length-map ps (λ q. value_of_key q.0)) in
    ap (λ s. next_of_dict x c.args.at c.args.count (slice_get s x)) e ∙ ap (next_of_dict x c.args.at c.args.count) c.in-Dict.ensures.object ∙ keys_left x c.args.at c.args.count ps long
    ∙ ap (λ o. item_or_end o (Keys x (c.args.at + 1) c.args.count)) (slice_over (keys_in ps) c.args.at over)

pub pair-key-requires : goal.pair-key-requires
pair-key-requires c = let a = c.len.ensures in let b = c.if-len-count.false in omega (arith, a, b)

pub returns-else-at-count : goal.returns-else-at-count
returns-else-at-count c =
    let m = c.args.arena.now in
    let x = c.args.address in
    let ps = pairs_of m c.in-Dict.pairs.now in
    let p = c.pair-key.result in
    let lies = c.pair-key.ensures.lies m c.in-Dict.ensures.lies in
    let long : length ps ≡ c.args.count = count_pairs m c.in-Dict.pairs.now ∙ sym c.len.ensures ∙ c.if-len-count.false in (
      (λ w e. ap (λ s. next_of_dict x c.args.at c.args.count (slice_get s x)) e ∙ ap (next_of_dict x c.args.at c.args.count) c.in-Dict.ensures.object ∙ keys_left x c.args.at c.args.count ps long
          ∙ ap (λ o. item_or_end o (Keys x (c.args.at + 1) c.args.count)) (key_at m ps c.args.at p (c.pair-key.ensures.pair m) lies.is_key)),
      lies.key,
      c.requires,
    )

pub returns-in-List : goal.returns-in-List
returns-in-List c = λ w e.
    let x = c.args.address in
    ap (λ s. next_of_dict x c.args.at c.args.count (slice_get s x)) e ∙ ap (next_of_dict x c.args.at c.args.count) c.in-List.ensures.object

pub returns-in-Plain : goal.returns-in-Plain
returns-in-Plain c = λ w e.
    let m = c.args.arena.now in
    let x = c.args.address in
    ap (λ s. next_of_dict x c.args.at c.args.count (slice_get s x)) e ∙ ap (next_of_dict x c.args.at c.args.count) c.in-Plain.ensures.object ∙ plain_dict_next x c.args.at c.args.count (Some (object_of m c.in-Plain.field-0)) (plain_object m c.in-Plain.field-0)
