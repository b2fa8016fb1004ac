use Rattle.std.proofs.Common.{[], sym, ap, ◌∙◌}
use Rattle.si_semantics.specs.Value as pure
use Rattle.si_semantics.specs.Operations.{gave}
use Rattle.si_semantics.specs.Shareable.{is_shareable}
use Rattle.si_semantics.specs.Attributes as attributes
use Rattle.si_semantics.specs.Attributes.{call_method, one_argument}
use Rattle.si_arena.specs.Memory.{all_of}
use Rattle.si_arena.specs.declared.value.Ref.TheVariants.{Truth}
use Rattle.si_arena.specs.declared.cause.Cause.TheVariants.{WrongArguments}
use Rattle.si_methods.proofs.Words.{obj_word}
use Rattle.si_methods.proofs.Calling.{gives, throws}
use Rattle.si_methods.proofs.modules.is_shareable.Goals as goal

pub is_shareable-requires : goal.is_shareable-requires
is_shareable-requires c = (c.in-Some.ensures c.args.arena.now c.requires).0

pub returns-in-Some : goal.returns-in-Some
returns-in-Some c = λ own v.
    let m = c.args.arena.now in
    let p = c.in-Some.ensures m c.requires in
    gives (λ w. call_method attributes.IsShareable v (all_of m c.args.arguments.now) c.args.names.now w) own m (Truth [] c.is_shareable.result) tt
    (λ w e.
    ap (λ x. one_argument x (all_of m c.args.arguments.now) c.args.names.now (λ u. gave (pure.Truth (is_shareable u)) w) w) (sym obj_word)
    ∙ p.1 (λ u. gave (pure.Truth (is_shareable u)) w) w
    ∙ ap (λ b. gave (pure.Truth b) w) (sym c.is_shareable.ensures))

pub returns-in-None : goal.returns-in-None
returns-in-None c = λ own v.
    let m = c.args.arena.now in
    throws (λ w. call_method attributes.IsShareable v (all_of m c.args.arguments.now) c.args.names.now w) own m WrongArguments tt
    (λ w e.
    ap (λ x. one_argument x (all_of m c.args.arguments.now) c.args.names.now (λ u. gave (pure.Truth (is_shareable u)) w) w) (sym obj_word)
    ∙ c.in-None.ensures m (λ u. gave (pure.Truth (is_shareable u)) w) w)
