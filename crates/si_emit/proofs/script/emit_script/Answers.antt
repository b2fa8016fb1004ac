use Rattle.std.proofs.Common.{◌≡◌, ◌+◌, ◌++◌, length, sym, subst, arith}
use Rattle.si_semantics.specs.Tree.{functions_in}
use Rattle.si_scope.specs.Scripts.{script_of}
use Rattle.si_slots.specs.Code.{entries_from, functions_code, module_code}
use Rattle.si_slots.specs.Machine as machine
use Rattle.si_emit.specs.inner.Functions.{GainsRoutines, StandAt}
use Rattle.si_emit.proofs.Functions.{stand_all, script_gains, script_at}
use Rattle.si_emit.proofs.script.emit_script.Goals as goal

pub emit_functions-requires : goal.emit_functions-requires
emit_functions-requires c =
    let all = functions_in (script_of c.args.tree.now) in
    subst (λ b. StandAt all 0 (functions_in b)) (sym c.body.ensures) (stand_all all)

pub returns-clause-ok : goal.returns-clause-ok
returns-clause-ok c =
    let script = script_of c.args.tree.now in
    let functions = functions_in script in
    let count : c.in_ok-first.first ≡ length c.begin_text.new.self.routines = grind (arith, c.in_ok-first.ensures.cases, c.try_from.ensures, c.routines.ensures) in
    subst (λ t. GainsRoutines t c.emit_body.new.table (functions_code functions ++ machine.owned 0 (module_code (length t.routines) script)) (entries_from (length t.lines) functions)) c.begin_text.ensures
    (script_gains script _ _ _ _ c.body.ensures c.body-2.ensures count c.in_ok-emit_functions.ensures.ok c.in_ok-emit_body.ensures.ok)

pub returns-clause-at : goal.returns-clause-at
returns-clause-at c =
    let script = script_of c.args.tree.now in
    subst (λ t. c.len-at.result ≡ length t.lines + length (functions_code (functions_in script))) c.begin_text.ensures
    (script_at script _ c.len-at.result c.body.ensures c.len-at.ensures c.in_ok-emit_functions.ensures.ok)
