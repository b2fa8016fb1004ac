use Rattle.std.proofs.Common.{[], ◌∷◌, sym, subst, ap, ◌∙◌}
use Rattle.si_semantics.specs.Value as pure
use Rattle.si_semantics.specs.Attributes.{prepare}
use Rattle.si_arena.specs.Memory.{value_of}
use Rattle.si_methods.specs.Passing.{IsNamespace}
use Rattle.si_methods.proofs.Otherwise.{nothing_is, no_namespace}
use Rattle.si_methods.proofs.interpreters.dict_in.Goals as goal

pub returns-then-is_none : goal.returns-then-is_none
returns-then-is_none c =
    let v = value_of c.args.arena.now c.args.namespace in
    ((λ i named w e. ap (λ u. prepare i (u ∷ []) named w) (nothing_is v (sym c.is_none.ensures ∙ c.if-is_none.true))), tt)

pub returns-in-Some : goal.returns-in-Some
returns-in-Some c =
    let P : pure.Value → Type 0 = λ v. IsNamespace (v ∷ []) c.args.arena.now c.dict_at.result in
    subst P (sym c.in-Some.ensures.address) c.dict_at.ensures

pub returns-in-None : goal.returns-in-None
returns-in-None c = λ i named.
    let v = value_of c.args.arena.now c.args.namespace in
    ((λ w e. no_namespace i v named w (sym c.is_none.ensures ∙ c.if-is_none.false) c.in-None.ensures.address), tt)
