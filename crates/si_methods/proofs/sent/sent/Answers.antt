use Rattle.std.proofs.Common.{Err, sym, subst}
use Rattle.si_arena.specs.declared.cause.Fault.{Fault}
use Rattle.si_arena.specs.Memory.{value_of}
use Rattle.si_methods.specs.Passing.{IsSent}
use Rattle.si_methods.proofs.Sending.{is_sent, not_sent}
use Rattle.si_methods.proofs.sent.sent.Goals as goal

pub returns-in-Ok : goal.returns-in-Ok
returns-in-Ok c = is_sent (value_of c.args.arena.now c.args.value) c.in-Ok.parcel c.in-Ok.ensures

pub returns-in-Err : goal.returns-in-Err
returns-in-Err c =
    let P : Fault → Type 0 = λ f. IsSent (value_of c.args.arena.now c.args.value) (Err f) in
    subst P (sym c.unsent.ensures) (not_sent (value_of c.args.arena.now c.args.value) c.in-Err.fault c.in-Err.ensures)
