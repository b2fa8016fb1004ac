use Rattle.std.proofs.Common.{◌≡◌, sym, subst}
use Rattle.std.specs.Prelude.{IfOk}
use Rattle.si_steps.proofs.Globals.{slot_text}
use Rattle.si_steps.proofs.state.State.name_text.Goals as goal

pub returns : goal.returns
returns c =
    let same = slot_text c.args.self.now.table.names c.args.slot c.in-Some.name.now c.in-Some.ensures in
    subst (λ x. IfOk c.text_of.result (λ text. text ≡ x)) (sym same) c.text_of.ensures
