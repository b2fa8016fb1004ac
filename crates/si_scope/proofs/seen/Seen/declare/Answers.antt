use Rattle.std.proofs.Common.{true, false, sym, ap, ◌∙◌, map, drop, ◌+◌, string_bytes}
use Rattle.si_scope.specs.inner.Walk.{declaring}
use Rattle.si_scope.proofs.Declared.{seen_of, next_declared, last_declared}
use Rattle.si_scope.proofs.seen.Seen.declare.Goals as goal

pub returns-then-is_some : goal.returns-then-is_some
returns-then-is_some c =
    next_declared c.args.names.now c.loop-global.global-index c.global-item.result c.as_str-name.result.now c.position.result true c.args.self.now c.loop-global.self c.loop-global-test.true (sym c.global-item.is) c.as_str-name.ensures.value c.position.ensures
    (sym c.is_some.ensures ∙ c.if-is_some.true) c.loop-global.invariant

pub loop-global-preserved : goal.loop-global-preserved
loop-global-preserved c =
    let s = c.loop-global.self in
    next_declared c.args.names.now c.loop-global.global-index c.global-item.result c.as_str-name.result.now c.position.result false c.args.self.now s c.loop-global-test.true (sym c.global-item.is) c.as_str-name.ensures.value c.position.ensures
    (sym c.is_some.ensures ∙ c.if-is_some.false) c.loop-global.invariant
    ∙ ap (λ d. declaring (map string_bytes (drop (c.loop-global.global-index + 1) c.args.names.now)) (seen_of s.used d s.locals)) (sym c.in_ok-slot_of.ensures.names)

pub returns : goal.returns
returns c = last_declared c.args.names.now c.loop-global.global-index c.args.self.now c.loop-global.self c.loop-global-test.false c.loop-global.invariant
