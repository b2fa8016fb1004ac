-- The worked cases of the layout compute.
use Rattle.std.specs.Prelude.{refl}
use Rattle.std.proofs.Common.{arith}
use Rattle.si_semantics.specs.Words.{symbols, keywords}
use Rattle.si_semantics.specs.Worked.Layout.{LayoutCases}

pub worked_layout : LayoutCases
unfolding symbols keywords
worked_layout = record {
  deeper = refl;
  as_deep = refl;
  two_closed = refl;
  one_closed = refl;
  between_columns = refl;
  blank_line = refl;
  comment_alone = refl;
  tab_first = refl;
  tab_before_comment = refl;
  tab_after = refl;
  all_closed = refl;
  four_lines_are = (
    _,
    refl,
    (λ h. cc, tt),
    refl,
    (
      _,
      refl,
      (λ h. cc, (λ h. cc, (λ h. omega arith, (λ h. cc, tt)))),
      refl,
      (
        _,
        refl,
        (λ h. cc, (λ h. cc, tt)),
        refl,
        (refl, (λ h. cc, tt), refl),
      ),
    ),
  );
  four_lines_make = (_, _, _, refl, refl, (_, _, _, refl, refl, (_, _, _, refl, refl, (_, _, _, refl, refl, refl))));
  line_of_the_first_byte = refl;
  line_of_a_line_end = refl;
  line_after_cr_lf = refl;
  line_after_lf = refl;
  line_after_cr = refl;
  line_after_two_cr = refl;
  line_at_the_end = refl;
  line_in_a_literal = refl;
  line_after_a_literal = refl;
  line_in_no_text = refl;
}
