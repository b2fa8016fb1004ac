use Rattle.si_schedule.proofs.Schedules.{version_reading}
use Rattle.si_schedule.proofs.BadLines.{no_version, no_interpreters, wide, no_count, heads}
use Rattle.si_schedule.proofs.reading.read_head.Goals as goal

pub returns-in-None-clause-err : goal.returns-in-None-clause-err
returns-in-None-clause-err c = no_version c.args.text.now c.in-None.ensures.none

pub returns-in-None-next_interpreters-clause-err : goal.returns-in-None-next_interpreters-clause-err
returns-in-None-next_interpreters-clause-err c =
    let t = c.args.text.now in
    let r = version_reading t c.in-Some.after_version.now c.in-Some.ensures.some in
    no_interpreters t c.in-Some.after_version.now r c.in-None-next_interpreters.ensures.none

pub returns-in-None-next_count-clause-err : goal.returns-in-None-next_count-clause-err
returns-in-None-next_count-clause-err c =
    let t = c.args.text.now in
    let r = version_reading t c.in-Some.after_version.now c.in-Some.ensures.some in
    let s = c.in-Some-next_interpreters in
    let q = wide t c.in-Some.after_version.now s.after_interpreters.now s.interpreters r s.ensures.some in
    no_count t s.after_interpreters.now s.interpreters q c.in-None-next_count.ensures.none

pub returns-in-Some-next_count-clause-ok : goal.returns-in-Some-next_count-clause-ok
returns-in-Some-next_count-clause-ok c =
    let t = c.args.text.now in
    let r = version_reading t c.in-Some.after_version.now c.in-Some.ensures.some in
    let s = c.in-Some-next_interpreters in
    let u = c.in-Some-next_count in
    let q = wide t c.in-Some.after_version.now s.after_interpreters.now s.interpreters r s.ensures.some in
    heads t s.after_interpreters.now u.left.now s.interpreters u.count q s.ensures.some.0 s.ensures.some.1 u.ensures.some.0 u.ensures.some.1
