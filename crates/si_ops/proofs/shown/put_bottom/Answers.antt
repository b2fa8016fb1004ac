use Rattle.std.proofs.Common.{sym, subst, codes}
use Rattle.si_semantics.specs.Value as pure
use Rattle.si_arena.specs.Memory.{all_of, object_of, pairs_of}
use Rattle.si_ops.specs.Writing.{Puts}
use Rattle.si_ops.specs.inner.Written.{addresses_of}
use Rattle.si_ops.proofs.Showing.{repr_at, list_again_is, dict_again_is}
use Rattle.si_ops.proofs.shown.put_bottom.Goals as goal

pub returns-in-Plain : goal.returns-in-Plain
returns-in-Plain c = λ start.
    let m = c.args.arena.now in
    let ins = addresses_of c.args.inside.now in
    subst (λ w. Puts {U = Unit {0}} w start c.args.out.now c.put_plain_bottom.new.out c.put_plain_bottom.result) (sym (repr_at 0 m.store ins c.args.address (object_of m c.in-Plain.object) c.in-Plain.ensures.object)) (c.put_plain_bottom.ensures m ins c.args.address start)

pub returns-in-List : goal.returns-in-List
returns-in-List c = λ start.
    let m = c.args.arena.now in
    let ins = addresses_of c.args.inside.now in
    subst (λ w. Puts {U = Unit {0}} w start c.args.out.now c.put_again.new.out c.put_again.result) (sym (repr_at 0 m.store ins c.args.address (pure.Items (all_of m c.in-List.field-0.now)) c.in-List.ensures.object)) (c.put_again.ensures (codes "[...]") start list_again_is)

pub returns-in-Dict : goal.returns-in-Dict
returns-in-Dict c = λ start.
    let m = c.args.arena.now in
    let ins = addresses_of c.args.inside.now in
    subst (λ w. Puts {U = Unit {0}} w start c.args.out.now c.put_again-in-Dict.new.out c.put_again-in-Dict.result) (sym (repr_at 0 m.store ins c.args.address (pure.Pairs (pairs_of m c.in-Dict.field-0.now)) c.in-Dict.ensures.object)) (c.put_again-in-Dict.ensures (codes "{...}") start dict_again_is)
