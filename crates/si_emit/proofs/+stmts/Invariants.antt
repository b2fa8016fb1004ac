use Rattle.std.proofs.Common.{◌≡◌, ℕ, ◌+◌, ◌≤◌, List, ◌++◌, drop, map, length}
use Rattle.std.specs.List.{AllByRecursion}
use Rattle.si_semantics.specs.Grammar.{clauses_of, elifs_of}
use Rattle.si_semantics.specs.Tree.{functions_in, functions_in_clauses}
use Rattle.si_syntax.specs.declared.stmt.If.{out-If}
use Rattle.si_syntax.specs.Trees.{body_of, branch_of, clause_of}
use Rattle.si_slots.specs.Code.{stmts_code}
use Rattle.si_slots.specs.Contents.{Contents, Extends}
use Rattle.si_slots.specs.inner.Jumps.{Due}
use Rattle.si_slots.specs.Views.{Gains, locals_now}
use Rattle.si_emit.proofs.Elifs.{Elifs}
use Rattle.si_emit.proofs.Tried.{Handlers}
use Rattle.si_emit.proofs.+stmts.Given as goal

-- the jumps so far are due, whatever the clauses that are left make due; with the functions of those they are all
abbrev pub invariant-handlers::emit_clauses-loop-clause : goal.invariant-handlers::emit_clauses-loop-clause
invariant-handlers::emit_clauses-loop-clause l = record {
  due : (end : Contents) (later : List ℕ) → Due l.table later (Handlers l.locals l.next (drop l.clause-index l.clauses)) end → Due l.initial.table (l.ends.items ++ later) (Handlers l.locals l.initial.next l.clauses) end;
  after : AllByRecursion (λ at. length l.initial.table.lines ≤ at) l.ends.items;
  number : l.next + length (functions_in_clauses (clauses_of (map clause_of (drop l.clause-index l.clauses)))) ≡ l.initial.next + length (functions_in_clauses (clauses_of (map clause_of l.clauses)));
  extends : Extends l.initial.table l.table;
  names : locals_now l.table ≡ l.locals;
}

-- with the code and the functions of the rest they are all
abbrev pub invariant-suite::emit_suite-loop-stmt : goal.invariant-suite::emit_suite-loop-stmt
invariant-suite::emit_suite-loop-stmt l = record {
  gains : (end : Contents) → Gains l.table end (stmts_code l.locals l.next (body_of (drop l.stmt-index l.body))) → Gains l.initial.table end (stmts_code l.locals l.initial.next (body_of l.body));
  number : l.next + length (functions_in (body_of (drop l.stmt-index l.body))) ≡ l.initial.next + length (functions_in (body_of l.body));
  extends : Extends l.initial.table l.table;
  names : locals_now l.table ≡ l.locals;
}

-- the jumps so far are due, whatever the rest makes due; with the functions of the rest they are all
abbrev pub invariant-choosing::emit_others-loop-branch : goal.invariant-choosing::emit_others-loop-branch
invariant-choosing::emit_others-loop-branch l = record {
  due : (end : Contents) (later : List ℕ) → Due l.table later (Elifs l.locals l.next (drop l.branch-index l.branch-items) (body_of (out-If l.statement).last.items)) end
      → Due l.initial.table (l.ends.items ++ later) (Elifs l.locals l.initial.next l.branch-items (body_of (out-If l.statement).last.items)) end;
  after : AllByRecursion (λ at. length l.initial.table.lines ≤ at) l.ends.items;
  number : l.next + length (functions_in (elifs_of (map branch_of (drop l.branch-index l.branch-items)) (body_of (out-If l.statement).last.items)))
      ≡ l.initial.next + length (functions_in (elifs_of (map branch_of l.branch-items) (body_of (out-If l.statement).last.items)));
  extends : Extends l.initial.table l.table;
  names : locals_now l.table ≡ l.locals;
  left : l.left + l.branch-index ≡ length l.branch-items;
}
