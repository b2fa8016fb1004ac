use Rattle.std.proofs.Common.{◌≡◌, ◌<◌, Some, length, sym, ap, subst, ◌∙◌, arith, rules, to_z, of_z, w64, slice_get}
use Rattle.si_semantics.specs.Value as pure
use Rattle.si_arena.specs.Memory.{all_of}
use Rattle.si_arena.specs.Texts.{text_of}
use Rattle.si_arena.proofs.Sizes.{lies_at}
use Rattle.si_ops.specs.Items.{gone_over}
use Rattle.si_ops.proofs.Gathered.{step_at}
use Rattle.si_ops.proofs.Indexed.{text_is}
use Rattle.si_ops.proofs.Tupled.{items_back, items_length}
use Rattle.si_ops.proofs.Holding.{slice_there}
use Rattle.si_ops.proofs.GoneOver.{character_there, number_there, integer_there, characters_count, numbers_count, integers_count}
use Rattle.si_ops.proofs.gone_over.nth_item.Goals as goal

pub character-requires-clause-index : goal.character-requires-clause-index
character-requires-clause-index c =
    let m = c.args.arena.now in
    let s = text_of m.texts c.args.value in
    let there = subst (λ u. c.args.index < length (gone_over m u)) (text_is m c.args.value c.in-Str.ensures.text) c.requires.there in
    omega (arith, there, characters_count s)

pub returns-in-Str-clause-item : goal.returns-in-Str-clause-item
returns-in-Str-clause-item c =
    let m = c.args.arena.now in
    let s = text_of m.texts c.args.value in
    let is = text_is m c.args.value c.in-Str.ensures.text in
    let there = subst (λ u. c.args.index < length (gone_over m u)) is c.requires.there in
    let within : c.args.index < length s = omega (arith, there, characters_count s) in
    ap (λ u. slice_get (gone_over m u) c.args.index) is ∙ character_there s c.args.index within ∙ ap Some (sym c.character.ensures.denotes)

pub returns-in-Str-clause-lies : goal.returns-in-Str-clause-lies
returns-in-Str-clause-lies c = c.character.ensures.lies

pub bounds-bytes-index : goal.bounds-bytes-index
bounds-bytes-index c =
    let m = c.args.arena.now in
    let bs = c.in-Bytes.bytes.now in
    let there = subst (λ u. c.args.index < length (gone_over m u)) (sym c.in-Bytes.ensures.value) c.requires.there in
    omega (arith, there, numbers_count bs)

pub returns-in-Bytes-clause-item : goal.returns-in-Bytes-clause-item
returns-in-Bytes-clause-item c =
    let m = c.args.arena.now in
    let bs = c.in-Bytes.bytes.now in
    let there = subst (λ u. c.args.index < length (gone_over m u)) (sym c.in-Bytes.ensures.value) c.requires.there in
    let within : c.args.index < length bs = omega (arith, there, numbers_count bs) in
    let value : to_z w64 (of_z w64 c.from.result) ≡ c.from.result = search rules in
    ap (λ u. slice_get (gone_over m u) c.args.index) (sym c.in-Bytes.ensures.value) ∙ number_there bs c.args.index within ∙ ap (λ z. Some (pure.Int z)) (sym (value ∙ c.from.ensures))

pub item_of-requires : goal.item_of-requires
item_of-requires c =
    let m = c.args.arena.now in
    let s = c.in-Range.steps.now in
    let there = subst (λ u. c.args.index < length (gone_over m u)) (sym c.in-Range.ensures.value) c.requires.there in
    omega (arith, there, integers_count s.start s.stop s.step)

pub returns-in-Range-clause-item : goal.returns-in-Range-clause-item
returns-in-Range-clause-item c =
    let m = c.args.arena.now in
    let s = c.in-Range.steps.now in
    let there = subst (λ u. c.args.index < length (gone_over m u)) (sym c.in-Range.ensures.value) c.requires.there in
    let within = subst (λ n. c.args.index < n) (integers_count s.start s.stop s.step) there in
    let value : to_z w64 (of_z w64 c.item_of.result) ≡ c.item_of.result = search rules in
    let there : c.item_of.result ≡ step_at s.start s.step c.args.index = search (rules, c.item_of.ensures) in
    ap (λ u. slice_get (gone_over m u) c.args.index) (sym c.in-Range.ensures.value) ∙ integer_there s.start s.stop s.step c.args.index within ∙ ap (λ z. Some (pure.Int z)) (sym (value ∙ there))

pub nth_of-requires : goal.nth_of-requires
nth_of-requires c =
    let m = c.args.arena.now in
    let rs = c.in-Tuple.items.now in
    let there = subst (λ u. c.args.index < length (gone_over m u)) (sym c.in-Tuple.ensures.value) c.requires.there in
    omega (arith, there, items_length m rs)

pub returns-in-Tuple : goal.returns-in-Tuple
returns-in-Tuple c =
    let m = c.args.arena.now in
    let rs = c.in-Tuple.items.now in
    let r = c.nth_of.result in
    let there = subst (λ u. c.args.index < length (gone_over m u)) (sym c.in-Tuple.ensures.value) c.requires.there in
    let within : c.args.index < length rs = omega (arith, there, items_length m rs) in
    record {
      item = ap (λ u. slice_get (gone_over m u) c.args.index) (sym c.in-Tuple.ensures.value) ∙ ap (λ vs. slice_get vs c.args.index) (items_back (all_of m rs)) ∙ slice_there m rs c.args.index r within c.nth_of.ensures;
      lies = lies_at m rs c.args.index r r c.nth_of.ensures within c.in-Tuple.ensures.parts;
    }

pub nth_of_object-requires : goal.nth_of_object-requires
nth_of_object-requires c =
    let m = c.args.arena.now in
    record { address = c.in-Object.ensures.parts; there = subst (λ u. c.args.index < length (gone_over m u)) (sym c.in-Object.ensures.value) c.requires.there }

pub returns-in-Object : goal.returns-in-Object
returns-in-Object c =
    let m = c.args.arena.now in
    record {
      item = ap (λ u. slice_get (gone_over m u) c.args.index) (sym c.in-Object.ensures.value) ∙ c.nth_of_object.ensures.item;
      lies = c.nth_of_object.ensures.lies;
    }
