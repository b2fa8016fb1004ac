use Rattle.std.proofs.Common.{sym, ap, ◌∙◌, slice_get}
use Rattle.si_semantics.specs.Operations.{is_true, is_true_object}
use Rattle.si_ops.proofs.truth.is_other_true.Goals as goal

pub returns-in-Object : goal.returns-in-Object
returns-in-Object c = λ w e.
    c.is_object_true.ensures ∙ ap (λ s. is_true_object (slice_get s c.in-Object.address)) (sym e) ∙ ap (λ v. is_true v w) c.in-Object.ensures.value

pub returns-in_default : goal.returns-in_default
returns-in_default c = λ w e. c.is_shown_true.ensures c.args.arena.now w ∙ ap (λ v. is_true v w) c.view.ensures.value
