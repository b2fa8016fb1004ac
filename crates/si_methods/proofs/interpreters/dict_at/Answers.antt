use Rattle.std.proofs.Common.{Some, ap, ◌∙◌}
use Rattle.std.specs.Prelude.{slice_get}
use Rattle.si_semantics.specs.Attributes.{prepare_from}
use Rattle.si_arena.specs.Memory.{contents_of}
use Rattle.si_methods.proofs.Otherwise.{no_pairs_at}
use Rattle.si_methods.proofs.interpreters.dict_at.Goals as goal

pub returns-in-Plain : goal.returns-in-Plain
returns-in-Plain c = λ i named.
    let m = c.args.arena.now in
    ((λ w e. no_pairs_at i c.args.address c.object.result _ m named w e c.object.ensures.object c.in-Plain.is), tt)

pub returns-in-List : goal.returns-in-List
returns-in-List c = λ i named.
    let m = c.args.arena.now in
    let x = c.args.address in
    ((λ w e. ap (λ s. prepare_from i (slice_get s x) named w) e ∙ ap (λ o. prepare_from i o named w) c.object.ensures.object ∙ ap (λ o. prepare_from i (Some (contents_of m o)) named w) c.in-List.is), tt)

pub returns-in-Dict : goal.returns-in-Dict
returns-in-Dict c =
    let m = c.args.arena.now in
    let x = c.args.address in
    ((λ i named w e. ap (λ s. prepare_from i (slice_get s x) named w) e ∙ ap (λ o. prepare_from i o named w) c.object.ensures.object ∙ ap (λ o. prepare_from i (Some (contents_of m o)) named w) c.in-Dict.is), rw c.in-Dict.is at c.object.ensures.lies)
