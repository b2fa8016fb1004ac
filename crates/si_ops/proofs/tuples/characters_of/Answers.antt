use Rattle.std.proofs.Common.{◌<◌, length, arith, sym, ap, subst, ◌++◌, ◌∙◌}
use Rattle.si_arena.specs.Memory.{all_of, AllLie}
use Rattle.si_arena.specs.Texts.{text_of}
use Rattle.si_ops.proofs.Gathered.{one_more, lie_joined, characters_left}
use Rattle.si_ops.proofs.tuples.characters_of.Goals as goal

pub loop-i-preserved : goal.loop-i-preserved
loop-i-preserved c =
    let m = c.args.arena.now in
    let s = text_of m.texts c.args.text in
    let there : c.loop-i.i < length s = omega (arith, c.requires.count) in
    let rest = sym (ap (λ vs. all_of m c.loop-i.all.items ++ vs) (characters_left s c.loop-i.i there)) ∙ c.loop-i.invariant.all in
    record {
      all = one_more m c.loop-i.all.items c.keep.new.values.items _ _ _ _ c.in_ok-keep.ensures c.character.ensures.denotes rest;
      lie = subst (AllLie m) (sym c.in_ok-keep.ensures) (lie_joined m _ _ c.loop-i.invariant.lie (c.character.ensures.lies, tt));
    }
