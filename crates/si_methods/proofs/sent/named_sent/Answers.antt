use Rattle.std.proofs.Common.{[], ◌∷◌, Result, sym, subst}
use Rattle.si_semantics.specs.Value as pure
use Rattle.si_semantics.specs.Value.{Text}
use Rattle.si_semantics.specs.Parcels.{Tree}
use Rattle.si_arena.specs.declared.cause.Fault.{Fault}
use Rattle.si_arena.specs.Texts.{characters_in}
use Rattle.si_arena.specs.Memory.{value_of}
use Rattle.si_methods.specs.Passing.{AreSent, alone_of}
use Rattle.si_methods.proofs.Sending.{name_sent, name_unsent}
use Rattle.si_methods.proofs.sent.named_sent.Goals as goal

pub returns-in-Ok : goal.returns-in-Ok
returns-in-Ok c =
    let x = characters_in c.args.name in
    let v = value_of c.args.arena.now c.args.value in
    let P : Result (Text × Tree) Fault → Type 0 = λ r. AreSent ((pure.Word x, v) ∷ []) (alone_of r) in
    subst P (sym c.paired.ensures) (name_sent x v c.in-Ok.parcel c.text_of.result c.text_of.ensures c.in-Ok.ensures)

pub returns-in-Err : goal.returns-in-Err
returns-in-Err c = name_unsent (characters_in c.args.name) (value_of c.args.arena.now c.args.value) c.in-Err.fault c.in-Err.ensures
