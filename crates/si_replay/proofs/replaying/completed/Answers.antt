use Rattle.si_plain.specs.Characters.{characters_of}
use Rattle.si_replay.proofs.Unique.{only_memory}
use Rattle.si_replay.proofs.Worlds.{replayed_is, replay_same}
use Rattle.si_replay.proofs.replaying.completed.Goals as goal

pub returns-in-Ok-into_recording-clause-same : goal.returns-in-Ok-into_recording-clause-same
returns-in-Ok-into_recording-clause-same c = λ turns t.
    replay_same (characters_of c.args.script.now) c.args.limits c.args.entries.now turns c.in-Ok.world c.in-Ok-into_recording.recording c.facts.ensures.world c.in-Ok.ensures.ok c.in-Ok-into_recording.ensures t

pub returns-in-Ok-into_recording-clause-ok : goal.returns-in-Ok-into_recording-clause-ok
returns-in-Ok-into_recording-clause-ok c =
    replayed_is (characters_of c.args.script.now) c.args.limits c.args.entries.now c.in-Ok.world c.in-Ok-into_recording.recording c.in-Ok.ensures.ok c.in-Ok-into_recording.ensures

pub returns-in-Err-clause-memory : goal.returns-in-Err-clause-memory
returns-in-Err-clause-memory c = λ turns t. only_memory (characters_of c.args.script.now) c.args.limits c.args.entries.now turns c.in-Err.fault t c.in-Err.ensures.err
