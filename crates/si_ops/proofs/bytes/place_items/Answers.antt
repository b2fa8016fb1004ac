use Rattle.std.proofs.Common.{ℕ, Some, Result, Vec, Global, refl, sym, ap, ◌∙◌}
use Rattle.si_semantics.specs.World.{World}
use Rattle.si_semantics.specs.Operations.{bytes_of, bytes_made, bytes_in, bytes_from, range_items}
use Rattle.si_arena.specs.declared.value.Ref.{Ref}
use Rattle.si_arena.specs.declared.cause.Fault.{Fault}
use Rattle.si_arena.specs.Memory.{value_of, all_of}
use Rattle.si_ops.specs.Runs.{Runs}
use Rattle.si_semantics.specs.Operations.{bytes_of_object}
use Rattle.std.proofs.Common.{slice_get}
use Rattle.si_ops.proofs.Changing.{runs_as}
use Rattle.si_ops.proofs.Ends.{passed}
use Rattle.si_ops.proofs.Tupled.{items_back}
use Rattle.si_ops.proofs.RunningBytes.{none_run, made_run}
use Rattle.si_ops.proofs.bytes.place_items.Goals as goal
use Rattle.si_ops.proofs.bytes.place_items.Goals.{in-Range+in_ok-bytes-in-Range, in-Tuple+in_ok-bytes-in-Tuple, in-Object+in-Some+in_ok-bytes-in-Some}

pub returns-in_err-bytes-in-Tuple : goal.returns-in_err-bytes-in-Tuple
returns-in_err-bytes-in-Tuple c =
    let m = c.args.arena.now in
    let rs = c.in-Tuple.items.now in
    let fault = c.in_err-bytes-in-Tuple.field-0.0 in
    let P : Result Ref Fault → Type 0 = λ r. Runs (λ w. bytes_of (value_of m c.args.value) w) m m r in
    passed c.from_residual-in_err-bytes-in-Tuple.result P fault c.from_residual-in_err-bytes-in-Tuple.ensures.1
    (none_run (λ w. bytes_of (value_of m c.args.value) w) (bytes_in (all_of m rs)) m fault (λ w. ap (λ v. bytes_of v w) (sym c.in-Tuple.ensures.value) ∙ ap (λ vs. bytes_made (bytes_in vs) w) (items_back (all_of m rs))) c.in_err-bytes-in-Tuple.ensures.err)

pub returns : goal.returns
returns c =
    let m = c.args.arena.now in
    let f = λ (w : World). bytes_of (value_of m c.args.value) w in
    let placed = rw c.as_slice.ensures.value at c.place_bytes.ensures.bytes in
    elim c.match-view.branch [
      | in-Range+in_ok-bytes-in-Range x ↦ made_run f (bytes_from (range_items x.in-Range.steps.now.start x.in-Range.steps.now.stop x.in-Range.steps.now.step)) c.match-view.bytes.items m c.place_bytes.new.self c.place_bytes.result (λ w. ap (λ v. bytes_of v w) (sym x.in-Range.ensures.value)) (x.in_ok-bytes-in-Range.ensures.ok ∙ ap (λ (b : Vec ℕ Global). Some b.items) (sym x.bytes-is)) placed
      | in-Tuple+in_ok-bytes-in-Tuple x ↦ made_run f (bytes_in (all_of m x.in-Tuple.items.now)) c.match-view.bytes.items m c.place_bytes.new.self c.place_bytes.result (λ w. ap (λ v. bytes_of v w) (sym x.in-Tuple.ensures.value) ∙ ap (λ vs. bytes_made (bytes_in vs) w) (items_back (all_of m x.in-Tuple.items.now))) (x.in_ok-bytes-in-Tuple.ensures.ok ∙ ap (λ (b : Vec ℕ Global). Some b.items) (sym x.bytes-is)) placed
      | in-Object+in-Some+in_ok-bytes-in-Some x ↦
          let rs = x.in-Some.items.now in
          let g = λ (w : World). bytes_made (bytes_in (all_of m rs)) w in
          runs_as f g m c.place_bytes.new.self c.place_bytes.result (λ w e. ap (λ v. bytes_of v w) (sym x.in-Object.ensures.value) ∙ ap (λ s. bytes_of_object (slice_get s x.in-Object.address) w) e ∙ ap (λ o. bytes_of_object o w) x.in-Some.ensures.some.0)
          (made_run g (bytes_in (all_of m rs)) c.match-view.bytes.items m c.place_bytes.new.self c.place_bytes.result (λ w. refl) (x.in_ok-bytes-in-Some.ensures.ok ∙ ap (λ (b : Vec ℕ Global). Some b.items) (sym x.bytes-is)) placed)
    ]
