use Rattle.std.proofs.Common.{◌≡◌, ◌-◌, length, sym, ap₂, subst, List}
use Rattle.si_semantics.specs.Value as pure
use Rattle.si_semantics.specs.Attributes as attributes
use Rattle.si_semantics.specs.Attributes.{prepares_in, paired}
use Rattle.si_arena.specs.declared.value.Ref.{Ref}
use Rattle.si_arena.specs.Memory.{all_of, AllLie}
use Rattle.si_methods.proofs.Passed.{first_lie, last_lie, first_are, last_are}
use Rattle.si_methods.proofs.Calling.{answers_as}
use Rattle.si_methods.proofs.interpreters.prepare.Goals as goal

pub prepare_parts-requires-clause-first : goal.prepare_parts-requires-clause-first
prepare_parts-requires-clause-first c =
    let m = c.args.arena.now in
    let P : List Ref → Type 0 = λ xs. AllLie m xs in
    subst P (sym c.split_at.ensures.front) (first_lie m c.args.arguments.now c.saturating_sub-split.result c.requires)

pub prepare_parts-requires-clause-lie : goal.prepare_parts-requires-clause-lie
prepare_parts-requires-clause-lie c =
    let m = c.args.arena.now in
    let P : List Ref → Type 0 = λ xs. AllLie m xs in
    subst P (sym c.split_at.ensures.back) (last_lie m c.args.arguments.now c.saturating_sub-split.result c.requires)

pub returns : goal.returns
returns c = λ own.
    let m = c.args.arena.now in
    let xs = c.args.arguments.now in
    let names = c.args.names.now in
    let k = c.saturating_sub-split.result in
    let e : k ≡ length xs - length names = c.saturating_sub-split.ensures in
    answers_as (λ w. prepares_in (pure.Interpreter c.args.id) (all_of m xs) names w)
    (λ w. attributes.prepare c.args.id (all_of m c.split_at.result.0.now) (paired names (all_of m c.split_at.result.1.now)) w) own m m c.prepare_parts.result
    (λ w s. ap₂ (λ vs bs. attributes.prepare c.args.id vs bs w) (first_are m xs c.split_at.result.0.now names k e c.split_at.ensures.front) (last_are m xs c.split_at.result.1.now names k e c.split_at.ensures.back))
    (c.prepare_parts.ensures own)
