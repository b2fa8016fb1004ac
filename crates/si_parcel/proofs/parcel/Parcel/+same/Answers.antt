use Rattle.std.proofs.Common.{◌≡◌, ◌<◌, length, arith, ap, sym, ◌∙◌}
use Rattle.si_parcel.proofs.Trees.{tuple_injective, same_at}
use Rattle.si_parcel.proofs.parcel.Parcel.+same.Goals as goal

pub returns-then-len-others : goal.returns-then-len-others
returns-then-len-others t c = (
  λ h. cc,
  λ e. let same = tuple_injective _ _ ((rw c.in-Tuple-Tuple.is-0 at c.self.view_is) ∙ e ∙ sym (rw c.in-Tuple-Tuple.is-1 at c.other.view_is)) in
      let lists : c.as_slice-parts.result.now ≡ c.as_slice-others.result.now = cc in
      let k : length c.as_slice-parts.result.now ≡ length c.as_slice-others.result.now = ap length lists in
      absurd (omega arith),
)

pub returns-then-not-same : goal.returns-then-not-same
returns-then-not-same t c = (
  λ h. cc,
  λ e. let same = tuple_injective _ _ ((rw c.in-Tuple-Tuple.is-0 at c.self.view_is) ∙ e ∙ sym (rw c.in-Tuple-Tuple.is-1 at c.other.view_is)) in
      let lists : c.as_slice-parts.result.now ≡ c.as_slice-others.result.now = cc in
      let n : c.items.i < length c.as_slice-parts.result.now = omega arith in
      let k = same_at _ _ c.items.i c.index-parts-i.result c.index-others-i.result lists n c.index-parts-i.is c.index-others-i.is in
      let h = c.same.ensures.1 k in
      cc,
)
