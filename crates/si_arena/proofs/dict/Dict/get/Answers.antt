use Rattle.std.proofs.Common.{ap, ◌∙◌}
use Rattle.std.specs.Map.{lookup}
use Rattle.indexmap.specs.IndexMap.{get_by}
use Rattle.si_arena.specs.contracts.atom.AtomPartialEq.TheImpl as atoms
use Rattle.si_arena.specs.inner.Keys.{found_pair}
use Rattle.si_arena.proofs.Keyed.{atom_eq}
use Rattle.si_arena.proofs.dict.Dict.get.Goals as goal

pub returns : goal.returns
returns c =
    let k = c.args.key.now in
    c.get.ensures.value
    ∙ ap (get_by ((atoms.eq-value).it k)) c.deref.ensures
    ∙ ap (λ eq. lookup (eq k) c.self.inside.entries.value.entries) atom_eq
    ∙ ap (found_pair k) c.self.view_is
