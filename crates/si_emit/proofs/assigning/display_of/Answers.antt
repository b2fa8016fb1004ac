use Rattle.std.proofs.Common.{ap, sym, length, ◌≡◌, ◌∙◌, Some, map}
use Rattle.si_semantics.specs.Grammar.{exprs_of}
use Rattle.si_syntax.specs.Trees.{expr_of}
use Rattle.si_emit.proofs.AssignCode.{display_there, display_other}
use Rattle.si_emit.proofs.assigning.display_of.Goals as goal

pub returns-then-len-count : goal.returns-then-len-count
returns-then-len-count c =
    let items = c.in-Tuple.items in
    let many : length items.items ≡ c.args.count = sym items.ok.0 ∙ sym c.len.ensures ∙ c.if-len-count.true in
    let there = display_there c.args.value.now items c.args.count c.in-Tuple.is many in
    (there ∙ ap (λ es. Some (exprs_of (map expr_of es))) (sym c.deref.ensures.value), ap length c.deref.ensures.value ∙ many)

pub returns-else-len-count : goal.returns-else-len-count
returns-else-len-count c =
    let items = c.in-Tuple.items in
    display_other c.args.value.now items c.args.count c.in-Tuple.is (λ e. c.if-len-count.false (c.len.ensures ∙ items.ok.0 ∙ e))
