use Rattle.std.proofs.Common.{◌<◌, ◌∙◌, length, map, ap, sym, arith}
use Rattle.si_plain.proofs.Lengths.{empty, not_empty}
use Rattle.si_semantics.specs.Grammar.{elifs_of}
use Rattle.si_syntax.specs.declared.stmt.If.{out-If}
use Rattle.si_syntax.specs.Trees.{body_of, branch_of}
use Rattle.si_emit.specs.inner.Silence.{silent_suite}
use Rattle.si_emit.proofs.Elifs.{elifs_loud}
use Rattle.si_emit.proofs.Tried.{no_items}
use Rattle.si_emit.proofs.choosing.stands_alone.Goals as goal

pub returns-else-is_empty : goal.returns-else-is_empty
returns-else-is_empty c =
    let bs = (out-If c.args.statement.now).elifs in
    let some : 0 < length bs.items = omega (arith, bs.ok.0, not_empty bs.len _ c.is_empty.ensures c.if-is_empty.false) in
    c.if-is_empty.false ∙ elifs_loud bs.items (body_of (out-If c.args.statement.now).last.items) some

pub returns-then-is_empty : goal.returns-then-is_empty
returns-then-is_empty c =
    let s = out-If c.args.statement.now in
    let none = no_items s.elifs.items (omega (arith, s.elifs.ok.0, empty s.elifs.len _ c.is_empty.ensures c.if-is_empty.true)) in
    c.is_silent.ensures ∙ ap (λ l. silent_suite (body_of l)) c.deref.ensures.value ∙ ap (λ l. silent_suite (elifs_of (map branch_of l) (body_of s.last.items))) (sym none)
