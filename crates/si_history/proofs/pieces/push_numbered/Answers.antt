use Rattle.std.proofs.lemmas.Result.{on_ok_weaker}
use Rattle.si_history.proofs.Adds.{adds_both}
use Rattle.si_history.proofs.pieces.push_numbered.Goals as goal

pub returns : goal.returns
returns c =
    on_ok_weaker c.push_number.result (adds_both _ _ _ _ _ c.in_ok-push_word.ensures) c.push_number.ensures
