use Rattle.std.proofs.Common.{◌≡◌, ◌+◌, ◌<◌, length, ap, ◌∙◌, arith, true, false}
use Rattle.std.specs.Prelude.{if◌then◌else◌}
use Rattle.si_plain.specs.LineEnds.{ends_before}
use Rattle.si_plain.proofs.LineFacts.{one_more, past_the_end}
use Rattle.si_plain.proofs.lines.line_ends.Goals.{then-ends_line, else-ends_line}
use Rattle.si_plain.proofs.lines.line_ends.Goals as goal

pub loop-place-preserved : goal.loop-place-preserved
loop-place-preserved c =
    let here : c.loop-place.place < length c.args.text.now = omega arith in
    let before = c.loop-place.invariant.counted in
    let more : ends_before (c.loop-place.place + 1) c.args.text.now ≡ ends_before c.loop-place.place c.args.text.now + (if c.ends_line.result then 1 else 0) =
    one_more c.loop-place.place c.args.text.now c.ends_line.result here c.ends_line.ensures in
    elim c.if-ends_line.branch [
      | then-ends_line w ↦ let one = more ∙ ap (λ t. ends_before c.loop-place.place c.args.text.now + (if t then 1 else 0)) w.if-ends_line.true in
          record { counted = omega (arith, w.ends-is, one, before); few = omega (arith, w.ends-is) }
      | else-ends_line w ↦ let one = more ∙ ap (λ t. ends_before c.loop-place.place c.args.text.now + (if t then 1 else 0)) w.if-ends_line.false in
          record { counted = omega (arith, w.ends-is, one, before); few = omega (arith, w.ends-is) }
    ]

pub returns-clause-ends : goal.returns-clause-ends
returns-clause-ends c =
    let last : c.loop-place.place ≡ c.min-place-end.result = omega arith in
    c.loop-place.invariant.counted ∙ ap (λ n. ends_before n c.args.text.now) (last ∙ c.min-place-end.ensures) ∙ past_the_end c.args.count c.args.text.now
