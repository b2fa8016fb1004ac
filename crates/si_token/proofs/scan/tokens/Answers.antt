use Rattle.std.proofs.Common.{arith, sym, ◌∙◌, ap, subst, length, map, reverse, ◌+◌, ◌++◌, drop, ◌≡◌, []}
use Rattle.std.specs.Prelude.{IfErr, IfSome, IsErrAnd, IsUtf8, replicate}
use Rattle.std.proofs.Common.{Result, Ok, Err}
use Rattle.si_semantics.specs.Tokens.{Dedent}
use Rattle.si_token.specs.declared.scan.TokenFault.{TokenFault}
use Rattle.si_token.specs.inner.Laying.{Adds}
use Rattle.std.proofs.lemmas.List.{length-append}
use Rattle.si_plain.specs.LineEnds.{ends_before}
use Rattle.si_semantics.specs.Layout.{HasTokens, line_at}
use Rattle.si_token.specs.Views.{Place, token_of, kind_of, place_of, sort_of}
use Rattle.std.specs.Option.{option_map, option_to_list}
use Rattle.si_token.specs.inner.Reading.{word_at}
use Rattle.si_token.specs.Spans.{EndsIn}
use Rattle.si_token.specs.declared.token.TokenKind.TheVariants.{End}
use Rattle.si_token.proofs.Steps.{AreBefore, all_ending, at_start, next_word, no_word, no_place, over_right, over_only}
use Rattle.si_token.specs.Rows.{plain}
use Rattle.si_token.specs.inner.Kept.{IsWhole}
use Rattle.si_token.proofs.Added.{adds_parts, parts_ended}
use Rattle.si_token.proofs.Kept.{plain_tokens, plain_part, plain_parts, part_whole}
use Rattle.si_token.proofs.Loop.{some_rest, no_rest, laid_at, turned, not_turned, end_is, ended}
use Rattle.si_token.proofs.Slices.{AreParts, parts_first, at_first, word_dropped, line_after, parts_kept, ends_in}
use Rattle.si_token.proofs.scan.tokens.Goals as goal

-- an error goes on by `?`
carried : {X : Type 0} (r : Result X TokenFault) (e : TokenFault) (P : TokenFault → Type 0) → IsErrAnd r (λ f. f ≡ e) → P e → IfErr r P
carried (Ok x) e P h p = tt
carried (Err f) e P h p = subst P (sym h) p

pub loop-rest-init : goal.loop-rest-init
loop-rest-init c =
    let gives = c.line_start-place.ensures.gives in
    let zero : c.line_start-place.result.at ≡ 0 = ap (λ (p : Place). p.at) gives in
    record {
      source = c.new-all.ensures.source;
      utf8 = c.utf8.text;
      short = search;
      at = omega (arith, zero);
      within = c.line_start-place.ensures.within;
      line = c.line_start-place.ensures.line ∙ ap (line_at c.args.text.now) (sym zero);
      left = ap (λ n. drop n c.args.text.now) zero ∙ at_first c.args.text.now;
      parts = subst (AreParts c.args.text.now c.new-all.result.items) (sym zero)
          (subst (λ l. AreParts c.args.text.now l 0) (sym c.new-all.ensures.items) (parts_first c.args.text.now));
      before = at_start (map token_of c.new-all.result.items) (place_of c.line_start-place.result) (reverse c.new-columns.result.items) c.args.text.now
          (ap (map token_of) c.new-all.ensures.items) gives (ap reverse c.new-columns.ensures.items);
    }

pub loop-rest-preserved : goal.loop-rest-preserved
loop-rest-preserved c =
    let word = c.in-Some.ensures in
    let front = c.in-Some.front.now in
    let after = c.in-Some.after.now in
    let begun = c.in_ok-before_word.ensures.begun in
    let before = subst (λ rest. AreBefore (map token_of c.loop-rest.all.items) (place_of c.loop-rest.place) (reverse c.loop-rest.columns.items) rest c.args.text.now) word.parts c.loop-rest.invariant.before in
    let at : c.laid.result.1.at ≡ c.loop-rest.place.at + length front =
    ap (λ (p : Place). p.at) (ap (λ r. r.1) c.laid.ensures.gives) ∙ laid_at (place_of c.loop-rest.place) (option_map kind_of c.token_kind-kind.result) (sort_of c.in-Some.sort) front in
    let few = c.line_ends.ensures.few in
    let small = c.loop-rest.invariant.within.line in
    let ends : c.line_ends.result ≡ ends_before (length front) c.loop-rest.rest.now = c.line_ends.ensures.ends ∙ ap (ends_before (length front)) c.as_bytes.ensures.value in
    let parts = ap length word.parts ∙ length-append front after in
    let whole = c.loop-rest.invariant.at in
    let left = c.loop-rest.invariant.left ∙ word.parts in
    let turn = turned c.loop-rest.all.items c.before_word.new.all.items c.keep.new.all.items (option_map plain c.laid.result.0) c.loop-rest.place.line (place_of c.loop-rest.place) (place_of c.laid.result.1) (option_map kind_of c.token_kind-kind.result)
    (sort_of c.in-Some.sort) front (reverse c.loop-rest.columns.items) (reverse c.before_word.new.columns.items) begun.kinds c.token_kind-kind.ensures begun.is (ap (λ m. (option_to_list m, place_of c.laid.result.1)) (plain_tokens c.laid.result.0) ∙ c.laid.ensures.gives) begun.adds c.in_ok-keep.ensures.items in
    record {
      source = c.keep.ensures.source ∙ c.before_word.ensures.source ∙ c.loop-rest.invariant.source;
      utf8 = word.utf8;
      short = c.loop-rest.invariant.short;
      at = omega (arith, at, parts, whole);
      within = record { line = omega (arith, at, few, small); column = c.laid.ensures.within.column; brackets = c.laid.ensures.within.brackets };
      line = line_after c.args.text.now c.loop-rest.rest.now c.loop-rest.place.at (length front) c.loop-rest.place.line c.line_ends.result
          c.loop-rest.invariant.left c.loop-rest.invariant.line ends ∙ ap (line_at c.args.text.now) (sym at);
      left = ap (λ n. drop n c.args.text.now) at ∙ word_dropped c.args.text.now front after c.loop-rest.place.at left;
      parts = subst (AreParts c.args.text.now c.keep.new.all.items) (sym at)
          (parts_kept c.args.text.now front after c.before_word.new.all.items c.keep.new.all.items c.loop-rest.place.at c.loop-rest.place.line (option_map plain c.laid.result.0) left c.loop-rest.invariant.line (plain_parts c.loop-rest.place.at c.loop-rest.place.line front c.laid.result.0 c.laid.ensures.part) c.in_ok-keep.ensures.items
          (adds_parts c.args.text.now c.loop-rest.rest.now c.loop-rest.place.at c.loop-rest.place.line begun.kinds c.loop-rest.all.items c.before_word.new.all.items c.loop-rest.invariant.left c.loop-rest.invariant.line begun.adds c.loop-rest.invariant.parts));
      before = subst (λ l. AreBefore l (place_of c.laid.result.1) (reverse c.before_word.new.columns.items) after c.args.text.now) turn.1
          (next_word (map token_of c.loop-rest.all.items) (place_of c.loop-rest.place) (reverse c.loop-rest.columns.items) c.args.text.now front after (sort_of c.in-Some.sort) _ (place_of c.laid.result.1)
          (reverse c.before_word.new.columns.items) word.some (ap word_at (sym word.parts) ∙ word.word) turn.0 before);
    }

pub keep-requires-clause-whole : goal.keep-requires-clause-whole
keep-requires-clause-whole c =
    let word = c.in-Some.ensures in
    let text = c.args.text.now in
    let at = c.loop-rest.place.at in
    let front = c.in-Some.front.now in
    let after = c.in-Some.after.now in
    let parts = ap length word.parts ∙ length-append front after in
    let whole = c.loop-rest.invariant.at in
    let left = c.loop-rest.invariant.left in
    let first : IsUtf8 (drop at text) = subst IsUtf8 (sym left) c.loop-rest.invariant.utf8 in
    let second : IsUtf8 (drop (at + length front) text) = subst IsUtf8 (sym (word_dropped text front after at (left ∙ word.parts))) word.utf8 in
    subst (λ source. IfSome c.laid.result.0 (λ t. IsWhole source t.span)) (sym (c.before_word.ensures.source ∙ c.loop-rest.invariant.source))
    (part_whole text front at c.loop-rest.place.line c.laid.result.0 (omega (arith, parts, whole)) first second c.laid.ensures.part)

pub returns-in_default-clause-refused : goal.returns-in_default-clause-refused
returns-in_default-clause-refused c =
    λ u ts h. no_word (map token_of c.loop-rest.all.items) (place_of c.loop-rest.place) (reverse c.loop-rest.columns.items) c.loop-rest.rest.now c.args.text.now
    (some_rest c.loop-rest.rest.now (sym c.loop-rest-test.ensures)) c.in_default.ensures.none c.loop-rest.invariant.before ts h

pub returns-in_err-before_word-clause-refused : goal.returns-in_err-before_word-clause-refused
returns-in_err-before_word-clause-refused c =
    let word = c.in-Some.ensures in
    let before = subst (λ rest. AreBefore (map token_of c.loop-rest.all.items) (place_of c.loop-rest.place) (reverse c.loop-rest.columns.items) rest c.args.text.now) word.parts c.loop-rest.invariant.before in
    let refused = c.in_err-before_word.ensures.refused in
    carried c.from_residual.result c.in_err-before_word.field-0.0 _ c.from_residual.ensures.1
    (λ u ts h. no_place (map token_of c.loop-rest.all.items) (place_of c.loop-rest.place) (reverse c.loop-rest.columns.items) c.args.text.now c.in-Some.front.now c.in-Some.after.now (sort_of c.in-Some.sort)
    word.some (ap word_at (sym word.parts) ∙ word.word)
    (not_turned (place_of c.loop-rest.place) (option_map kind_of c.token_kind-kind.result) (sort_of c.in-Some.sort) c.in-Some.front.now (reverse c.loop-rest.columns.items) c.token_kind-kind.ensures (refused u))
    before ts h)

pub returns-in_err-before_word-clause-long : goal.returns-in_err-before_word-clause-long
returns-in_err-before_word-clause-long c =
    carried c.from_residual.result c.in_err-before_word.field-0.0 _ c.from_residual.ensures.1 (λ u. absurd (c.in_err-before_word.ensures.short u))

nothing_left : (c : goal.After-drop-columns-2) → c.loop-rest.rest.now ≡ []
nothing_left c = no_rest c.loop-rest.rest.now (sym c.loop-rest-test.ensures)

all_before : (c : goal.After-drop-columns-2) → AreBefore (map token_of c.loop-rest.all.items) (place_of c.loop-rest.place) (reverse c.loop-rest.columns.items) [] c.args.text.now
all_before c =
    subst (λ rest. AreBefore (map token_of c.loop-rest.all.items) (place_of c.loop-rest.place) (reverse c.loop-rest.columns.items) rest c.args.text.now) (nothing_left c) c.loop-rest.invariant.before

dedents_added : (c : goal.After-drop-columns-2) → Adds c.loop-rest.place.at c.loop-rest.place.line (replicate (length c.loop-rest.columns.items) Dedent) c.keep-2.new.all.items c.dedents.new.all.items
dedents_added c =
    subst (λ n. Adds c.loop-rest.place.at c.loop-rest.place.line (replicate n Dedent) c.keep-2.new.all.items c.dedents.new.all.items) (c.len.ensures ∙ c.loop-rest.columns.ok.0) c.in_ok-dedents.ensures.adds

all_ended : (c : goal.After-drop-columns-2) → map token_of c.push.new.self.items ≡ map token_of c.loop-rest.all.items ++ all_ending (place_of c.loop-rest.place) (reverse c.loop-rest.columns.items)
all_ended c =
    ended c.loop-rest.all.items c.keep-2.new.all.items c.dedents.new.all.items c.push.new.self.items (option_map plain c.missing_newline.result) (plain c.token_at.result) c.loop-rest.place.line (place_of c.loop-rest.place) c.loop-rest.columns.items
    (ap option_to_list (plain_tokens c.missing_newline.result) ∙ c.missing_newline.ensures.gives)
    (end_is (plain c.token_at.result) c.loop-rest.place.at c.loop-rest.place.line c.token_at.ensures.kind (plain_part c.loop-rest.place.at c.loop-rest.place.line [] c.token_at.result c.token_at.ensures.part))
    c.in_ok-keep-2.ensures.items (dedents_added c) c.in_ok-push.ensures.items

all_parts : (c : goal.After-drop-columns-2) → AreParts c.args.text.now c.push.new.self.items (length c.args.text.now)
all_parts c =
    let over = nothing_left c in
    let whole = c.loop-rest.invariant.at in
    let none = ap length over in
    parts_ended c.args.text.now c.loop-rest.all.items c.keep-2.new.all.items c.dedents.new.all.items c.push.new.self.items c.loop-rest.place.at c.loop-rest.place.line (option_map plain c.missing_newline.result) _ (plain c.token_at.result)
    (c.loop-rest.invariant.left ∙ over) (omega (arith, whole, none)) c.loop-rest.invariant.line
    (plain_parts c.loop-rest.place.at c.loop-rest.place.line [] c.missing_newline.result c.missing_newline.ensures.part)
    (plain_part c.loop-rest.place.at c.loop-rest.place.line [] c.token_at.result c.token_at.ensures.part)
    c.in_ok-keep-2.ensures.items (dedents_added c) c.in_ok-push.ensures.items c.loop-rest.invariant.parts

pub returns-clause-tokens : goal.returns-clause-tokens
returns-clause-tokens c =
    subst (λ l. HasTokens l c.args.text.now) (sym (all_ended c))
    (over_right (map token_of c.loop-rest.all.items) (place_of c.loop-rest.place) (reverse c.loop-rest.columns.items) c.args.text.now (all_before c))

pub returns-clause-only : goal.returns-clause-only
returns-clause-only c =
    λ ts h. over_only (map token_of c.loop-rest.all.items) (place_of c.loop-rest.place) (reverse c.loop-rest.columns.items) c.args.text.now (all_before c) ts h ∙ sym (all_ended c)

pub returns-clause-slices : goal.returns-clause-slices
returns-clause-slices c = (all_parts c).slices

pub returns-clause-order : goal.returns-clause-order
returns-clause-order c = (all_parts c).order

pub returns-clause-lines : goal.returns-clause-lines
returns-clause-lines c = (all_parts c).lines

pub returns-clause-end : goal.returns-clause-end
returns-clause-end c = subst (EndsIn End) (sym c.in_ok-push.ensures.items) (ends_in End c.dedents.new.all.items (plain c.token_at.result) c.token_at.ensures.kind)
