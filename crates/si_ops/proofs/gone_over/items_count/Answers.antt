use Rattle.std.proofs.Common.{Some, length, sym, ap, ◌∙◌}
use Rattle.std.specs.Prelude.{option_map}
use Rattle.si_semantics.specs.Operations.{items_from}
use Rattle.si_arena.specs.Texts.{characters_in}
use Rattle.si_ops.specs.Items.{world_of}
use Rattle.si_ops.proofs.Tupled.{items_length}
use Rattle.si_ops.proofs.GoneOver.{characters_count, numbers_count, integers_count, none_shown}
use Rattle.si_ops.proofs.gone_over.items_count.Goals as goal

pub returns-in-Str : goal.returns-in-Str
returns-in-Str c =
    let m = c.args.arena.now in
    ap Some (c.length_of.ensures ∙ sym (characters_count (characters_in c.in-Str.text))) ∙ ap (λ v. option_map length (items_from v (world_of m))) c.in-Str.ensures.value

pub returns-in-Bytes : goal.returns-in-Bytes
returns-in-Bytes c =
    let m = c.args.arena.now in
    ap Some (sym (numbers_count c.in-Bytes.bytes.now)) ∙ ap (λ v. option_map length (items_from v (world_of m))) c.in-Bytes.ensures.value

pub returns-in-Range : goal.returns-in-Range
returns-in-Range c =
    let m = c.args.arena.now in
    let s = c.in-Range.steps.now in
    ap Some (c.items_in.ensures ∙ sym (integers_count s.start s.stop s.step)) ∙ ap (λ v. option_map length (items_from v (world_of m))) c.in-Range.ensures.value

pub returns-in-Tuple : goal.returns-in-Tuple
returns-in-Tuple c =
    let m = c.args.arena.now in
    ap Some (sym (items_length m c.in-Tuple.items.now)) ∙ ap (λ v. option_map length (items_from v (world_of m))) c.in-Tuple.ensures.value

pub returns-in-Object : goal.returns-in-Object
returns-in-Object c =
    let m = c.args.arena.now in
    c.object_count.ensures ∙ ap (λ v. option_map length (items_from v (world_of m))) c.in-Object.ensures.value

pub returns-in_default : goal.returns-in_default
returns-in_default c =
    let m = c.args.arena.now in
    sym (ap (option_map length) (none_shown m c.view.result c.in_default.not-Str c.in_default.not-Bytes c.in_default.not-Range c.in_default.not-Tuple c.in_default.not-Object)) ∙ ap (λ v. option_map length (items_from v (world_of m))) c.view.ensures.value
