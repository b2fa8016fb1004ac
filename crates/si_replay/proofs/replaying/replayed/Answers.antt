use Rattle.si_plain.specs.Characters.{characters_of}
use Rattle.si_replay.specs.Replays.{IsFault}
use Rattle.si_replay.proofs.Faults.{passed}
use Rattle.si_replay.proofs.Worlds.{first_fed, left_is, tail_fault_of}
use Rattle.si_replay.proofs.replaying.replayed.Goals as goal

pub walk-requires-clause-fed : goal.walk-requires-clause-fed
walk-requires-clause-fed c = first_fed (characters_of c.args.script.now) c.args.limits c.in-Ok.world c.in-Ok.ensures

pub returns-in_err-finish-clause-err : goal.returns-in_err-finish-clause-err
returns-in_err-finish-clause-err c =
    let f = c.in_err-finish.field-0.0 in
    passed c.from_residual-in_err-finish.result (λ e. IsFault (characters_of c.args.script.now) c.args.limits c.args.entries.now e) f c.from_residual-in_err-finish.ensures.1
    (tail_fault_of (characters_of c.args.script.now) c.args.limits c.args.entries.now c.in-Ok.world c.walk.new.world f c.in-Ok.ensures c.in_ok-walk.ensures.ok c.in_err-finish.ensures.err)

pub returns-clause-ok : goal.returns-clause-ok
returns-clause-ok c =
    left_is (characters_of c.args.script.now) c.args.limits c.args.entries.now c.in-Ok.world c.walk.new.world c.finish.new.world c.in-Ok.ensures c.in_ok-walk.ensures.ok c.in_ok-finish.ensures.ok
