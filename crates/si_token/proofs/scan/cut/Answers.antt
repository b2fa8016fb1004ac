use Rattle.std.proofs.Common.{◌≡◌, Some, None, arith, sym, ◌∙◌, ap, Bool}
use Rattle.std.specs.Prelude.{if◌then◌else◌}
use Rattle.si_token.proofs.Runs.{Longest, longest_found, word_by}
use Rattle.si_token.proofs.Boundaries.{cut_at}
use Rattle.si_token.specs.Views.{sort_of}
use Rattle.si_token.specs.inner.Reading.{longest_at}
use Rattle.si_token.proofs.scan.cut.Goals as goal

longest : (c : goal.In_ok-sort) → longest_at c.args.rest.now ≡ Some (sort_of c.in_ok-sort.sort, c.in_ok-sort.length)
longest c = ap longest_at (sym c.as_bytes.ensures.value) ∙ sym c.in_ok-sort.ensures

found : (c : goal.In_ok-sort) → Longest c.args.rest.now (sort_of c.in_ok-sort.sort) c.in_ok-sort.length
found c = longest_found _ _ _ (longest c)

pub split_at-requires : goal.split_at-requires
split_at-requires c = cut_at c.args.rest.now _ c.in_ok-sort.length c.utf8.rest (found c)

pub returns-then-is_allowed-clause-word : goal.returns-then-is_allowed-clause-word
returns-then-is_allowed-clause-word c =
    word_by c.args.rest.now c.split_at.result.0.now c.split_at.result.1.now (sort_of c.in_ok-sort.sort) c.in_ok-sort.length c.is_allowed.result
    (ap longest_at (sym c.as_bytes.ensures.value) ∙ sym c.in_ok-sort.ensures) c.split_at.ensures.front c.split_at.ensures.back c.is_allowed.ensures
    ∙ ap (λ (t : Bool). if t then Some (sort_of c.in_ok-sort.sort, c.in_ok-sort.length) else None) c.if-is_allowed.true
    ∙ ap (λ n. Some (sort_of c.in_ok-sort.sort, n)) (sym c.split_at.ensures.front_len)

pub returns-then-is_allowed-clause-some : goal.returns-then-is_allowed-clause-some
returns-then-is_allowed-clause-some c =
    let some = (longest_found c.args.rest.now (sort_of c.in_ok-sort.sort) c.in_ok-sort.length (ap longest_at (sym c.as_bytes.ensures.value) ∙ sym c.in_ok-sort.ensures)).some in
    let long = c.split_at.ensures.front_len in omega (arith, some, long)

pub returns-else-is_allowed-clause-none : goal.returns-else-is_allowed-clause-none
returns-else-is_allowed-clause-none c =
    word_by c.args.rest.now c.split_at.result.0.now c.split_at.result.1.now (sort_of c.in_ok-sort.sort) c.in_ok-sort.length c.is_allowed.result
    (ap longest_at (sym c.as_bytes.ensures.value) ∙ sym c.in_ok-sort.ensures) c.split_at.ensures.front c.split_at.ensures.back c.is_allowed.ensures
    ∙ ap (λ (t : Bool). if t then Some (sort_of c.in_ok-sort.sort, c.in_ok-sort.length) else None) c.if-is_allowed.false
