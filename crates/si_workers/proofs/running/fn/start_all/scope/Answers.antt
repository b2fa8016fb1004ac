-- What a thread is started with may cross to it: references to the program's handle, to the desk and to the gate, the
-- interpreter itself, and the limits.
use mir.Syntax.{named}
use denote.Exit.{no}
use denote.Param.{param}
use denote.Ref.{ShrRef}
use denote.Param.Send.{sendable, param_send, arg_send, shr_send}
use Rattle.std.specs.Thread.{IsSync}
use borrow.Author.Rules.{rules}
use Rattle.si_plain.proofs.limits.Limits.TheSendSync as sent_limits
use Rattle.si_plain.specs.contracts.limits.Limits as limits
use Rattle.si_interp.specs.contracts.interp.Interp as interp
use Rattle.si_workers.specs.contracts.running.Desk as desk
use Rattle.si_workers.proofs.Crossing.{interp_send, worked_send, desk_sync, five_send}
use Rattle.si_workers.proofs.running.fn.start_all.scope.Goals as goal

pub spawn-requires-send-F : goal.spawn-requires-send-F
spawn-requires-send-F g c κs within =
    let handle : IsSync (param 1 g.row.R) = search (rules, c.requires, sendable) parts 8 in
    let gate : IsSync (param 0 g.row.G) = search (rules, c.requires, sendable) parts 8 in
    param_send 1 _ (arg_send _ no _ (five_send
    _
    (ShrRef (named 5) κs.1.1.1.1.1.0 (param 1 g.row.R))
    (ShrRef (named 6) κs.1.1.1.1.1.1.0 desk.the_row)
    (ShrRef (named 7) κs.1.1.1.1.1.1.1.0 (param 0 g.row.G))
    interp.the_row
    limits.the_row
    (shr_send _ _ _ handle)
    (shr_send _ _ _ desk_sync)
    (shr_send _ _ _ gate)
    interp_send
    sent_limits.the_send))

pub spawn-requires-send-T : goal.spawn-requires-send-T
spawn-requires-send-T g c κs within = search (worked_send, sendable) depth 60 fits 20000
