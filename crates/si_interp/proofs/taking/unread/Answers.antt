use Rattle.std.proofs.Common.{◌∙◌, ap, codes, refl}
use Rattle.si_plain.specs.declared.kind.Kind.TheVariants.{SyntaxError}
use Rattle.si_semantics.specs.Life as language
use Rattle.si_interp.proofs.Answering.{spelled}
use Rattle.si_interp.proofs.taking.unread.Goals as goal

pub returns : goal.returns
returns c = ap (language.Raised SyntaxError) (c.in_ok-message.ensures.text ∙ c.in_ok-from_str.ensures ∙ spelled (codes "invalid syntax") refl)
