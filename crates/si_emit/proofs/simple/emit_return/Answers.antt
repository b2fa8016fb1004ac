use Rattle.std.proofs.Common.{sym, ap, subst}
use Rattle.std.specs.Option.{option_map}
use Rattle.std.proofs.lemmas.Result.{on_ok_weaker}
use Rattle.si_syntax.specs.Trees.{expr_of}
use Rattle.si_slots.specs.Machine as machine
use Rattle.si_slots.specs.Code.{return_code}
use Rattle.si_slots.specs.Views.{Gains}
use Rattle.si_emit.proofs.Alone.{with_gains}
use Rattle.si_emit.proofs.simple.emit_return.Goals as goal

pub returns-in_ok-operand-in-Some-clause-ok : goal.returns-in_ok-operand-in-Some-clause-ok
returns-in_ok-operand-in-Some-clause-ok c =
    let ls = c.args.locals.now in
    let same = ap (λ v. return_code ls (option_map expr_of v)) c.in-Some.is in
    on_ok_weaker c.put_named.result
    (λ h. subst (Gains c.args.table.now c.put_named.new.self) (sym same)
    (with_gains ls (expr_of c.in-Some.expr) c.in_ok-operand-in-Some.operand (λ s. machine.Return s) c.requires c.in_ok-operand-in-Some.ensures.ok c.in_ok-operand-in-Some.ensures.is h))
    c.put_named.ensures.ok
