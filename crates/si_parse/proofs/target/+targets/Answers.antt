use Rattle.std.proofs.Common.{◌<◌, [], ◌∷◌, length, Some, sym, ◌∙◌, ap, map, subst, arith}
use Rattle.std.proofs.lemmas.Result.{err_from_is_err_and}
use Rattle.std.proofs.lemmas.List.{map-append, length-map, nil_from_length}
use Rattle.si_semantics.specs.Grammar.{exprs_of}
use Rattle.si_semantics.specs.Grammar as grammar
use Rattle.si_syntax.specs.Trees.{expr_of, target_of}
use Rattle.si_parse.specs.inner.Targets.{with_targets}
use Rattle.si_parse.specs.inner.Gives.{Fails}
use Rattle.si_plain.proofs.Lengths.{not_empty}
use Rattle.si_parse.proofs.Built.{unpack_built}
use Rattle.si_parse.proofs.Targets.{with_all, unpack_some, targets_on, targets_fail}
use Rattle.si_parse.proofs.target.+targets.Goals as goal

pub as_targets-returns-in_err-target : goal.as_targets-returns-in_err-target
as_targets-returns-in_err-target t c =
    let fails = targets_fail (map target_of c.loop-expr.targets.items) c.loop-expr.expr-iterator.rest.items c.next.new.self.rest.items c.in-Some.expr c.in-Some.ensures.steps.0 _ c.in_err-target.ensures in
    let p = err_from_is_err_and c.from_residual.result c.from_residual.ensures.1 in
    rw (p.1, p.2) (subst (Fails _) c.loop-expr.invariant fails)

pub as_targets-loop-expr-preserved : goal.as_targets-loop-expr-preserved
as_targets-loop-expr-preserved t c =
    let pushed = ap (map target_of) c.in_ok-push.ensures.items ∙ map-append target_of c.loop-expr.targets.items (c.in_ok-target.target ∷ []) in
    ap (λ l. with_targets l (grammar.targets_of (exprs_of (map expr_of c.next.new.self.rest.items)))) pushed
    ∙ targets_on (map target_of c.loop-expr.targets.items) c.loop-expr.expr-iterator.rest.items c.next.new.self.rest.items c.in-Some.expr c.in-Some.ensures.steps.0 _ c.in_ok-target.ensures
    ∙ c.loop-expr.invariant

pub as_targets-returns : goal.as_targets-returns
as_targets-returns t c =
    let over = nil_from_length c.loop-expr.expr-iterator.rest.items (omega (arith, c.in-None.ensures.steps.0, c.loop-expr.expr-iterator.rest.ok.0)) in
    sym c.loop-expr.invariant ∙ ap (λ l. with_targets (map target_of c.loop-expr.targets.items) (grammar.targets_of (exprs_of (map expr_of l)))) over ∙ with_all (map target_of c.loop-expr.targets.items)

pub unpacked-returns : goal.unpacked-returns
unpacked-returns t c =
    let targets = c.in_ok-targets.targets in
    let some : 0 < length (map target_of targets.items) = omega (arith, length-map targets.items target_of, targets.ok.0, not_empty targets.len _ c.is_empty.ensures c.if-is_empty.false) in
    ap grammar.unpack_of c.in_ok-targets.ensures ∙ unpack_some (map target_of targets.items) some ∙ ap Some (sym (unpack_built targets))
