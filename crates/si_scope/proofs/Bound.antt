-- Targets that are bound, one after another.
use Rattle.std.proofs.Common.{◌≡◌, ℕ, ◌+◌, ◌<◌, ◌≤◌, List, length, drop, get_or, sym, ap, ◌∙◌}
use Rattle.std.proofs.lemmas.List.{drop_all}
use Rattle.si_syntax.specs.declared.target.Target.{Target}
use Rattle.si_syntax.specs.Trees.{target_of, targets_of}
use Rattle.si_syntax.proofs.Rows.{rest_is}
use Rattle.si_scope.specs.declared.seen.Seen.{Seen}
use Rattle.si_scope.specs.inner.Walk.{binding_target, binding_targets}

-- one of several, and then the rest
pub next_target : (ts : List Target) (i : ℕ) (t : Target) (before now later : Seen) → i < length ts → get_or ts i t ≡ t
    → binding_targets (targets_of ts) before ≡ binding_targets (targets_of (drop i ts)) now → later ≡ binding_target (target_of t) now
    → binding_targets (targets_of ts) before ≡ binding_targets (targets_of (drop (i + 1) ts)) later
next_target ts i t before now later lt at so_far more =
    so_far ∙ ap (λ l. binding_targets (targets_of l) now) (rest_is ts i t lt at) ∙ ap (binding_targets (targets_of (drop (i + 1) ts))) (sym more)

pub last_target : (ts : List Target) (i : ℕ) (before now : Seen) → length ts ≤ i → binding_targets (targets_of ts) before ≡ binding_targets (targets_of (drop i ts)) now → now ≡ binding_targets (targets_of ts) before
last_target ts i before now le so_far = sym (so_far ∙ ap (λ l. binding_targets (targets_of l) now) (drop_all i ts le))
