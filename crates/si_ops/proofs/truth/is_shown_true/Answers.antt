use Rattle.std.proofs.Common.{◌≡◌, sym, subst}
use Rattle.std.specs.Prelude.{not}
use Rattle.si_semantics.specs.Operations.{is_true}
use Rattle.si_arena.specs.declared.view.View.{View}
use Rattle.si_arena.specs.Views.{value_in}
use Rattle.si_ops.proofs.Tupled.{full_true}
use Rattle.si_ops.proofs.truth.is_shown_true.Goals as goal

pub returns-in-Tuple : goal.returns-in-Tuple
returns-in-Tuple c = λ m w.
    let P : View → Type 0 = λ v. not c.is_empty.result ≡ is_true (value_in m v) w in
    subst P (sym c.in-Tuple.is) (full_true m c.in-Tuple.items.now c.is_empty.result w c.is_empty.ensures)
