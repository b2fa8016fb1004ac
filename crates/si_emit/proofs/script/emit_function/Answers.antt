use Rattle.std.proofs.Common.{◌≡◌, length, subst, arith, [], ◌++◌, ◌∷◌}
use Rattle.std.proofs.lemmas.Result.{on_ok_weaker}
use Rattle.si_semantics.specs.Value.{Nothing}
use Rattle.si_syntax.specs.Trees.{body_of}
use Rattle.si_slots.specs.Code.{stmts_code}
use Rattle.si_slots.specs.Machine as machine
use Rattle.si_emit.specs.inner.Functions.{GainsRoutines}
use Rattle.si_emit.proofs.Functions.{routine_gains}
use Rattle.si_emit.proofs.script.emit_function.Goals as goal

pub returns-clause-ok : goal.returns-clause-ok
returns-clause-ok c =
    let many : c.in_ok-map_err.field-0 ≡ length c.args.function.now.parameters.items = grind (arith, c.in_ok-map_err.ensures.cases, c.try_from.ensures, c.len-2.ensures, c.args.function.now.parameters.ok.0) in
    let names : c.in_ok-map_err-2.field-0 ≡ length c.args.locals.now = grind (arith, c.in_ok-map_err-2.ensures.cases, c.try_from-2.ensures, c.len-3.ensures.len) in
    let emitted = subst (λ l. GainsRoutines c.args.table.now c.emit_code.new.table (machine.owned (length c.args.locals.now) (stmts_code c.args.locals.now 0 (body_of l) ++ machine.Return (machine.Literal Nothing) ∷ [])) []) c.deref.ensures.value c.in_ok-emit_code.ensures.ok in
    on_ok_weaker c.add_routine.result
    (routine_gains _ c.len.result _ _ (length c.args.function.now.parameters.items) (length c.args.locals.now) c.len.ensures many names emitted)
    c.add_routine.ensures.ok
