use Rattle.std.proofs.Common.{Option, Some, None, sym, subst}
use Rattle.si_semantics.specs.Tree.{Module}
use Rattle.si_semantics.specs.World as language
use Rattle.si_scope.specs.Scripts.{script_of}
use Rattle.si_slots.specs.Code.{compiled}
use Rattle.si_slots.specs.Laws.{with_answer}
use Rattle.si_slots.specs.Machine.{next}
use Rattle.si_reading.specs.Texts.{tree_of_text}
use Rattle.si_interp.specs.inner.Keeps.{IsUnderWay}
use Rattle.si_interp.proofs.Answering.{tree_is, unread_leads}
use Rattle.si_interp.proofs.taking.run.Goals as goal

pub returns-in_ok-begin-in-Ok-clause-leads : goal.returns-in_ok-begin-in-Ok-clause-leads
returns-in_ok-begin-in-Ok-clause-leads g c =
    let tree : Module = record { body = script_of c.in-Ok.script } in
    let is = tree_is c.args.text.now c.as_str.result.now (Some tree) c.as_str.ensures.bytes c.in-Ok.ensures.tree in
    subst (λ (t : Option Module). IsUnderWay (next compiled (with_answer (language.Taken (language.Run t)) g.c)) c.begin.new.machine) (sym is) c.in_ok-begin-in-Ok.ensures.begun

pub returns-in_ok-unread-in-Err-Syntax-clause-leads : goal.returns-in_ok-unread-in-Err-Syntax-clause-leads
returns-in_ok-unread-in-Err-Syntax-clause-leads g c =
    let none = rw c.in-Err-Syntax.field-0-is at c.in-Err-Syntax.ensures.none in
    let is = tree_is c.args.text.now c.as_str.result.now None c.as_str.ensures.bytes (none tt) in
    unread_leads g.c (tree_of_text c.args.text.now) c.in_ok-unread-in-Err-Syntax.field-0 c.args.machine.now c.requires.0 is c.in_ok-unread-in-Err-Syntax.ensures
