use Rattle.std.proofs.Common.{◌≡◌, ◌*◌, ◌≤◌, ◌<◌, length, ap, refl, ◌∙◌, arith}
use Rattle.std.proofs.Math.Facts.{to_z-of_z}
use Rattle.si_semantics.specs.Text.{max_length}
use Rattle.si_semantics.specs.Operations.{times}
use Rattle.si_arena.specs.Texts.{text_of, copies_of, repeated_text}
use Rattle.si_arena.proofs.Rows.{pushed_stands, stands_added, grows_none, same_added}
use Rattle.si_arena.proofs.Repeats.{repeated_length, copies_same}
use Rattle.si_arena.proofs.texts.Texts.repeat.Goals as goal
use Rattle.si_arena.proofs.texts.Texts.repeat.Goals.{else-eq-via-then-eq+else-total-le-CAPACITY, else-eq-via-else-eq}

pub returns-then-total-gt-MAX_STR_LENGTH-clause-text : goal.returns-then-total-gt-MAX_STR_LENGTH-clause-text
returns-then-total-gt-MAX_STR_LENGTH-clause-text c =
    let t = text_of c.args.self.now c.args.text in
    let l = c.length-length.result in
    let copies = c.copies_that_count-copies.ensures ∙ ap (copies_of l) (to_z-of_z c.ranges.count) in
    let long : length (repeated_text t c.args.count) ≡ l * c.copies_that_count-copies.result = repeated_length t c.args.count l _ c.length-length.ensures.length copies in
    let over : max_length < length (repeated_text t c.args.count) = omega (arith, long, c.saturating_mul-total.ensures) in
    (over, refl, refl)

pub returns-then-total-le-CAPACITY-clause-text : goal.returns-then-total-le-CAPACITY-clause-text
returns-then-total-le-CAPACITY-clause-text c =
    let t = text_of c.args.self.now c.args.text in
    let l = c.length-length.result in
    let copies = c.copies_that_count-copies.ensures ∙ ap (copies_of l) (to_z-of_z c.ranges.count) in
    let long : length (repeated_text t c.args.count) ≡ l * c.copies_that_count-copies.result = repeated_length t c.args.count l _ c.length-length.ensures.length copies in
    let within : length (repeated_text t c.args.count) ≤ max_length = omega (arith, long, c.saturating_mul-total.ensures) in (
      within,
      record {
        is = c.short_copies.ensures ∙ copies_same t c.args.count l _ c.length-length.ensures.length copies;
        text = tt;
        lies = tt;
        grown = grows_none _;
      },
    )

pub returns-clause-text : goal.returns-clause-text
returns-clause-text c =
    let t = text_of c.args.self.now c.args.text in
    let l = c.length-length.result in
    let n = c.copies_that_count-copies.result in
    let copies = c.copies_that_count-copies.ensures ∙ ap (copies_of l) (to_z-of_z c.ranges.count) in
    let long : length (repeated_text t c.args.count) ≡ l * n = repeated_length t c.args.count l n c.length-length.ensures.length copies in
    let within : length (repeated_text t c.args.count) ≤ max_length = omega (arith, long, c.saturating_mul-total.ensures) in
    let same : times n t ≡ repeated_text t c.args.count = copies_same t c.args.count l n c.length-length.ensures.length copies in
    let count : c.saturating_mul-total.result ≡ length (times n t) = omega (arith, long, c.saturating_mul-total.ensures, ap length same) in
    let stands = pushed_stands c.of_both-width.result (times n t) _ _ _ c.in_ok-push_copies.ensures.ok c.end-start.ensures in
    let there = stands_added _ _ _ _ _ _ stands count in
    (within, rw c.slice.ensures.is (same_added _ _ same there))

pub returns-then-total-gt-MAX_STR_LENGTH-clause-short : goal.returns-then-total-gt-MAX_STR_LENGTH-clause-short
returns-then-total-gt-MAX_STR_LENGTH-clause-short c = λ h k.
    let t = text_of c.args.self.now c.args.text in
    let l = c.length-length.result in
    let copies = c.copies_that_count-copies.ensures ∙ ap (copies_of l) (to_z-of_z c.ranges.count) in
    let long : length (repeated_text t c.args.count) ≡ l * c.copies_that_count-copies.result = repeated_length t c.args.count l _ c.length-length.ensures.length copies in
    let over : max_length < length (repeated_text t c.args.count) = omega (arith, long, c.saturating_mul-total.ensures) in
    absurd (omega (arith, over, k))

pub returns-in_err-push_copies-clause-short : goal.returns-in_err-push_copies-clause-short
returns-in_err-push_copies-clause-short c = λ h k.
    let t = text_of c.args.self.now c.args.text in
    let l = c.length-length.result in
    let copies = c.copies_that_count-copies.ensures ∙ ap (copies_of l) (to_z-of_z c.ranges.count) in
    let long : length (repeated_text t c.args.count) ≡ l * c.copies_that_count-copies.result = repeated_length t c.args.count l _ c.length-length.ensures.length copies in
    let few : c.saturating_mul-total.result ≤ 11 = omega (arith, long, k, c.saturating_mul-total.ensures) in
    let narrow = c.of_both-width.ensures.narrow h h in
    absurd (elim c.else-eq.branch [ else-eq-via-then-eq+else-total-le-CAPACITY w ↦ omega (arith, few, w.if-total-le-CAPACITY.false) | else-eq-via-else-eq w ↦ let e = rw narrow at w.if-eq.ensures in cc ])

pub returns-clause-short : goal.returns-clause-short
returns-clause-short c = λ h k.
    let t = text_of c.args.self.now c.args.text in
    let l = c.length-length.result in
    let copies = c.copies_that_count-copies.ensures ∙ ap (copies_of l) (to_z-of_z c.ranges.count) in
    let long : length (repeated_text t c.args.count) ≡ l * c.copies_that_count-copies.result = repeated_length t c.args.count l _ c.length-length.ensures.length copies in
    let few : c.saturating_mul-total.result ≤ 11 = omega (arith, long, k, c.saturating_mul-total.ensures) in
    let narrow = c.of_both-width.ensures.narrow h h in
    absurd (elim c.else-eq.branch [ else-eq-via-then-eq+else-total-le-CAPACITY w ↦ omega (arith, few, w.if-total-le-CAPACITY.false) | else-eq-via-else-eq w ↦ let e = rw narrow at w.if-eq.ensures in cc ])

pub returns-then-total-le-CAPACITY-clause-long : goal.returns-then-total-le-CAPACITY-clause-long
returns-then-total-le-CAPACITY-clause-long c = λ over.
    let t = text_of c.args.self.now c.args.text in
    let l = c.length-length.result in
    let copies = c.copies_that_count-copies.ensures ∙ ap (copies_of l) (to_z-of_z c.ranges.count) in
    let long : length (repeated_text t c.args.count) ≡ l * c.copies_that_count-copies.result = repeated_length t c.args.count l _ c.length-length.ensures.length copies in
    absurd (omega (arith, long, over, c.saturating_mul-total.ensures))

pub returns-in_err-push_copies-clause-long : goal.returns-in_err-push_copies-clause-long
returns-in_err-push_copies-clause-long c = λ over.
    let t = text_of c.args.self.now c.args.text in
    let l = c.length-length.result in
    let copies = c.copies_that_count-copies.ensures ∙ ap (copies_of l) (to_z-of_z c.ranges.count) in
    let long : length (repeated_text t c.args.count) ≡ l * c.copies_that_count-copies.result = repeated_length t c.args.count l _ c.length-length.ensures.length copies in
    absurd (omega (arith, long, over, c.saturating_mul-total.ensures))

pub returns-clause-long : goal.returns-clause-long
returns-clause-long c = λ over.
    let t = text_of c.args.self.now c.args.text in
    let l = c.length-length.result in
    let copies = c.copies_that_count-copies.ensures ∙ ap (copies_of l) (to_z-of_z c.ranges.count) in
    let long : length (repeated_text t c.args.count) ≡ l * c.copies_that_count-copies.result = repeated_length t c.args.count l _ c.length-length.ensures.length copies in
    absurd (omega (arith, long, over, c.saturating_mul-total.ensures))
