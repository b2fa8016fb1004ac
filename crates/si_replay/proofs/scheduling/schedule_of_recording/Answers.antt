use Rattle.std.proofs.Common.{◌∙◌, ap, arith}
use Rattle.si_plain.specs.Ranges.{Numbers}
use Rattle.si_replay.specs.Replays.{callers}
use Rattle.si_replay.proofs.Callers.{recorded_schedule}
use Rattle.si_replay.proofs.scheduling.schedule_of_recording.Goals as goal

pub unreachable-requires : goal.unreachable-requires
unreachable-requires c =
    let n = c.interpreters.ensures.value ∙ ap (λ (l : Numbers). l.interpreters) c.limits.ensures in
    let by = c.in_ok-by.ensures ∙ ap callers c.journal.ensures in
    let ok = c.in_ok-by.by.ok in
    let small = c.in_ok-by.by.small in
    c.in-None.ensures (recorded_schedule c.args.recording.now c.interpreters.result c.in_ok-by.by.items c.facts.ensures n by c.interpreters.ensures.least c.interpreters.ensures.most
    (let a = ok.0 in let b = ok.1 in omega arith))
