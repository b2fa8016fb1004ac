use Rattle.std.proofs.Common.{◌≡◌, ◌∙◌, true, false, sym, ap, subst}
use Rattle.si_semantics.specs.Scope.{is_scoped}
use Rattle.si_parse.specs.Modules.{IsRead}
use Rattle.si_scope.specs.Faults.{IsScope}
use Rattle.si_scope.specs.Scripts.{script_of}
use Rattle.si_reading.proofs.Trees.{no_tree, reads_only}
use Rattle.si_reading.proofs.script.read.Goals as goal

pub returns-in-Ok-resolve-clause-tree : goal.returns-in-Ok-resolve-clause-tree
returns-in-Ok-resolve-clause-tree c =
    let script = script_of c.in-Ok-resolve.script in
    reads_only c.args.text.now script (subst (IsRead c.args.text.now) (sym c.in-Ok-resolve.ensures.ok) c.in-Ok.ensures.found, c.facts.ensures)

pub returns-in-Err-Scope-clause-refused : goal.returns-in-Err-Scope-clause-refused
returns-in-Err-Scope-clause-refused c = λ u body h.
    let same = c.in-Ok.ensures.only body h.0 in
    let both : false ≡ true = sym (c.in-Err-Scope.ensures.scope (subst IsScope (sym c.in-Err-Scope.field-0-is) tt)) ∙ ap is_scoped same ∙ h.1 in
    let no : ⊥ = cc in
    no

pub returns-in-Err-Scope-clause-none : goal.returns-in-Err-Scope-clause-none
returns-in-Err-Scope-clause-none c = λ u. no_tree c.args.text.now (returns-in-Err-Scope-clause-refused c u)

pub returns-in-Err-clause-refused : goal.returns-in-Err-clause-refused
returns-in-Err-clause-refused c = λ u body h. c.in-Err.ensures.refused u body h.0

pub returns-in-Err-clause-none : goal.returns-in-Err-clause-none
returns-in-Err-clause-none c = λ u. no_tree c.args.text.now (returns-in-Err-clause-refused c u)
