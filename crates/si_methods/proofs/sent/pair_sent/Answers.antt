use Rattle.std.proofs.Common.{[], ◌∷◌, refl, sym, subst, ap}
use Rattle.si_plain.specs.declared.kind.Kind.TheVariants.{TypeError}
use Rattle.si_semantics.specs.Value as pure
use Rattle.si_arena.specs.Memory.{value_of, key_meant}
use Rattle.si_methods.specs.Passing.{AreSent, alone_of}
use Rattle.si_methods.proofs.Sending.{key_unsent}
use Rattle.si_methods.proofs.sent.pair_sent.Goals as goal

pub returns-in-Some : goal.returns-in-Some
returns-in-Some c =
    let m = c.args.arena.now in
    let P : pure.Key → Type 0 = λ k. AreSent ((k, value_of m c.args.pair.value) ∷ []) (alone_of c.named_sent.result) in
    subst P (sym (ap key_meant c.in-Some.ensures.characters)) c.named_sent.ensures

pub returns-in-None : goal.returns-in-None
returns-in-None c =
    let m = c.args.arena.now in
    (TypeError, key_unsent (value_of m c.args.pair.key) (value_of m c.args.pair.value) c.requires.is_key c.in-None.ensures.characters, refl)
