use Rattle.std.proofs.Common.{◌∙◌, ap}
use Rattle.std.proofs.lemmas.Str.{encodes-chars}
use Rattle.si_reading.specs.Texts.{tree_of_text}
use Rattle.si_reading.specs.inner.Trees.{tree_in}
use Rattle.si_reading.proofs.Trees.{reads_only}
use Rattle.si_cli.specs.Laws.{RunsWhatIsRead}
use Rattle.si_cli.specs.Service.{without_mark}
use Rattle.si_cli.proofs.laws.runs_what_is_read.Goals as goal

runs_what_is_read : RunsWhatIsRead
unfolding tree_of_text
runs_what_is_read script body (text, taken) =
    ap tree_in (encodes-chars (without_mark script) text) ∙ reads_only (without_mark script) body taken

pub returns : goal.returns
returns c = runs_what_is_read
