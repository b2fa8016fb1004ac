use Rattle.std.proofs.Common.{◌≡◌, ◌<◌, Some, [], ◌∷◌, ◌++◌, false, true, sym, ap, ◌∙◌, map, length, string_bytes, arith}
use Rattle.std.specs.Option.{is_some}
use Rattle.std.proofs.lemmas.List.{map-append, length-map, nil_from_length}
use Rattle.si_plain.specs.Names.{place_in, with_name}
use Rattle.si_semantics.specs.Scope.{is_in}
use Rattle.si_syntax.specs.Trees.{expr_of}
use Rattle.si_parse.specs.inner.Expressions.{passed_from}
use Rattle.si_parse.specs.inner.Gives.{argument_of}
use Rattle.si_plain.proofs.Lengths.{empty, not_empty}
use Rattle.si_parse.proofs.Passed.{placed, with_new_name, positional_on, positional_stuck, named_on, named_stuck, goes_on, stuck}
use Rattle.si_parse.proofs.argument.passed.Goals as goal

pub loop-argument-init : goal.loop-argument-init
loop-argument-init c = record {
  passed = ap (λ l. passed_from (map expr_of l, map string_bytes c.new-names.result.items) (map argument_of c.into_iter-argument-iterator.result.rest.items)) c.in_ok-values.ensures.items
      ∙ ap (λ l. passed_from ([], map string_bytes l) (map argument_of c.into_iter-argument-iterator.result.rest.items)) c.new-names.ensures.items
      ∙ ap (λ l. passed_from ([], []) (map argument_of l)) c.into_iter-argument-iterator.ensures.into_iter_gives.0;
  kept = c.new-seen.ensures ∙ sym (ap (map string_bytes) c.new-names.ensures.items);
}

pub returns-then-not-is_empty : goal.returns-then-not-is_empty
returns-then-not-is_empty c =
    let values = map expr_of c.loop-argument.values.items in
    let names = map string_bytes c.loop-argument.names.items in
    let some : 0 < length names = omega (arith, length-map c.loop-argument.names.items string_bytes, c.loop-argument.names.ok.0, not_empty c.loop-argument.names.len _ c.is_empty.ensures c.if-not-is_empty.true) in
    sym c.loop-argument.invariant.passed
    ∙ stuck (values, names) c.loop-argument.argument-iterator.rest.items c.next.new.self.rest.items c.in-Some.argument _ c.in-Some.ensures.steps.0 (ap argument_of c.in-Positional.is)
    (positional_stuck values names (expr_of c.in-Positional.value) some)

pub loop-argument-preserved-in-Continue-branch-2 : goal.loop-argument-preserved-in-Continue-branch-2
loop-argument-preserved-in-Continue-branch-2 c =
    let values = map expr_of c.loop-argument.values.items in
    let names = map string_bytes c.loop-argument.names.items in
    let none : length names ≡ 0 = omega (arith, length-map c.loop-argument.names.items string_bytes, c.loop-argument.names.ok.0, empty c.loop-argument.names.len _ c.is_empty.ensures c.if-not-is_empty.false) in
    let pushed = ap (map expr_of) c.in_ok-push-in-Positional.ensures.items ∙ map-append expr_of c.loop-argument.values.items (c.in-Positional.value ∷ []) in
    record {
      passed = ap (λ l. passed_from (l, names) (map argument_of c.next.new.self.rest.items)) pushed
          ∙ sym (goes_on (values, names) c.loop-argument.argument-iterator.rest.items c.next.new.self.rest.items c.in-Some.argument _ c.in-Some.ensures.steps.0 (ap argument_of c.in-Positional.is)
          _ (positional_on values names (expr_of c.in-Positional.value) none))
          ∙ c.loop-argument.invariant.passed;
      kept = c.loop-argument.invariant.kept;
    }

pub returns-then-is_some : goal.returns-then-is_some
returns-then-is_some c =
    let x = string_bytes c.in-ByName.name in
    let values = map expr_of c.loop-argument.values.items in
    let names = map string_bytes c.loop-argument.names.items in
    let there : is_in x names ≡ true =
    sym (placed x names)
    ∙ ap (λ l. is_some (place_in x l)) (sym c.loop-argument.invariant.kept)
    ∙ ap (λ x. is_some (place_in x c.loop-argument.seen)) (sym c.as_str.ensures.value)
    ∙ ap is_some (sym c.position.ensures)
    ∙ sym c.is_some.ensures
    ∙ c.if-is_some.true in
    sym c.loop-argument.invariant.passed
    ∙ stuck (values, names) c.loop-argument.argument-iterator.rest.items c.next.new.self.rest.items c.in-Some.argument _ c.in-Some.ensures.steps.0 (ap argument_of c.in-ByName.is)
    (named_stuck values names x (expr_of c.in-ByName.value) there)

pub loop-argument-preserved : goal.loop-argument-preserved
loop-argument-preserved c =
    let x = string_bytes c.in-ByName.name in
    let values = map expr_of c.loop-argument.values.items in
    let names = map string_bytes c.loop-argument.names.items in
    let new : is_in x names ≡ false =
    sym (placed x names)
    ∙ ap (λ l. is_some (place_in x l)) (sym c.loop-argument.invariant.kept)
    ∙ ap (λ x. is_some (place_in x c.loop-argument.seen)) (sym c.as_str.ensures.value)
    ∙ ap is_some (sym c.position.ensures)
    ∙ sym c.is_some.ensures
    ∙ c.if-is_some.false in
    let pushed = ap (map expr_of) c.in_ok-push-in-ByName-2.ensures.items ∙ map-append expr_of c.loop-argument.values.items (c.in-ByName.value ∷ []) in
    let named = ap (map string_bytes) c.in_ok-push-in-ByName.ensures.items ∙ map-append string_bytes c.loop-argument.names.items (c.in-ByName.name ∷ []) in
    record {
      passed = ap (λ l. passed_from (l, map string_bytes c.push-in-ByName.new.self.items) (map argument_of c.next.new.self.rest.items)) pushed
          ∙ ap (λ l. passed_from (values ++ expr_of c.in-ByName.value ∷ [], l) (map argument_of c.next.new.self.rest.items)) named
          ∙ sym (goes_on (values, names) c.loop-argument.argument-iterator.rest.items c.next.new.self.rest.items c.in-Some.argument _ c.in-Some.ensures.steps.0 (ap argument_of c.in-ByName.is)
          _ (named_on values names x (expr_of c.in-ByName.value) new))
          ∙ c.loop-argument.invariant.passed;
      kept = c.in_ok-slot_of-in-ByName.ensures.names
          ∙ ap (λ l. with_name l c.as_str-in-ByName.result.now) c.loop-argument.invariant.kept
          ∙ ap (with_name names) c.as_str-in-ByName.ensures.value
          ∙ with_new_name x names new
          ∙ sym named;
    }

pub returns : goal.returns
returns c =
    let over = nil_from_length c.loop-argument.argument-iterator.rest.items (omega (arith, c.in-None.ensures.steps.0, c.loop-argument.argument-iterator.rest.ok.0)) in
    sym c.loop-argument.invariant.passed ∙ ap (λ l. passed_from (map expr_of c.loop-argument.values.items, map string_bytes c.loop-argument.names.items) (map argument_of l)) over
    ∙ ap (λ l. Some (map expr_of c.loop-argument.values.items, map string_bytes l)) (sym c.fitted.ensures)
