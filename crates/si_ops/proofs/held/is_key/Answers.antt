use Rattle.std.proofs.Common.{ap, ◌∙◌}
use Rattle.std.specs.Prelude.{is_some}
use Rattle.si_semantics.specs.Dicts.{key_of}
use Rattle.si_ops.proofs.Holding.{no_key_shown}
use Rattle.si_ops.proofs.held.is_key.Goals as goal

pub returns-in-Int : goal.returns-in-Int
returns-in-Int c = ap (λ v. is_some (key_of v)) c.in-Int.ensures.value

pub returns-in-Str : goal.returns-in-Str
returns-in-Str c = ap (λ v. is_some (key_of v)) c.in-Str.ensures.value

pub returns-in_default : goal.returns-in_default
returns-in_default c =
    no_key_shown c.args.arena.now c.view.result c.in_default.not-Int c.in_default.not-Str ∙ ap (λ v. is_some (key_of v)) c.view.ensures.value
