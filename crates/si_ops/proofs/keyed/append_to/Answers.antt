use Rattle.std.proofs.Common.{◌++◌, [], ◌∷◌, refl, sym, ◌∙◌, slice_get}
use Rattle.si_semantics.specs.Value as pure
use Rattle.si_semantics.specs.Containers as containers
use Rattle.si_arena.specs.Memory.{value_of, list_at}
use Rattle.si_ops.proofs.Changing.{throws_long}
use Rattle.si_ops.proofs.Setting.{changed_changes}
use Rattle.si_ops.proofs.Popping.{append_at, append_fits, append_over}
use Rattle.si_ops.proofs.keyed.append_to.Goals as goal

pub returns-then-are_too_many : goal.returns-then-are_too_many
returns-then-are_too_many c =
    let m = c.args.arena.now in
    let v = value_of m c.args.value in
    let x = c.args.address in
    let vs = list_at m x in
    let over = sym c.are_too_many.ensures ∙ c.if-are_too_many.true in
    (throws_long (λ w. containers.append x (slice_get w.store x) v w) m (λ w e. append_at m x w e (pure.Items vs) v c.requires.list ∙ append_over x vs v w over), refl)

pub returns : goal.returns
returns c =
    let m = c.args.arena.now in
    let v = value_of m c.args.value in
    let x = c.args.address in
    let vs = list_at m x in
    let short = sym c.are_too_many.ensures ∙ c.if-are_too_many.false in
    changed_changes (λ w. containers.append x (slice_get w.store x) v w) x (pure.Items (vs ++ v ∷ [])) m c.append.new.self (λ w e. append_at m x w e (pure.Items vs) v c.requires.list ∙ append_fits x vs v w short) c.in_ok-append.ensures.ok
