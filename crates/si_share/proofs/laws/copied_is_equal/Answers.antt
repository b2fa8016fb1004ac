use Rattle.std.proofs.Common.{◌≡◌, Some, sym, ◌∙◌}
use Rattle.si_arena.specs.Memory.{value_of}
use Rattle.si_share.proofs.Parts.{value_back}
use Rattle.si_share.proofs.laws.copied_is_equal.Goals as goal

pub returns : goal.returns
returns c = λ from old new r s p out into.
    let same : Some into.0 ≡ Some (value_of from r) = sym into.1 ∙ value_back (value_of from r) p out.0 in
    let v : into.0 ≡ value_of from r = cc in
    into.2.denotes ∙ v
