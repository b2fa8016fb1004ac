use Rattle.std.proofs.Common.{◌≡◌, ◌∙◌, ◌+◌, ◌++◌, List, [], ◌∷◌, take, ap, sym, subst}
use Rattle.std.proofs.lemmas.List.{take_more}
use Rattle.si_semantics.specs.Parcels.{Tree}
use Rattle.si_semantics.specs.Value.{Text}
use Rattle.si_semantics.specs.World.{World}
use Rattle.si_steps.specs.Machines.{Waits}
use Rattle.si_interp.specs.Life.{values_of}
use Rattle.si_interp.specs.inner.Keeps.{with_values}
use Rattle.si_interp.proofs.Answering.{more_bound}
use Rattle.si_interp.proofs.taking.bind_all.Goals as goal

pub binds-preserved : goal.binds-preserved
binds-preserved g c =
    let xs = c.args.binds.now in
    let item : Text × Tree = c.binds-item.result in
    let front = take c.binds.name-index xs in
    let more : take (c.binds.name-index + 1) xs ≡ front ++ item ∷ [] =
    take_more xs c.binds.name-index item c.binds-test.true ∙ ap (λ (x : Text × Tree). front ++ x ∷ []) (sym c.binds-item.is) in
    let before : World = with_values (values_of front) g.w in
    let one = c.in_ok-bind.ensures.bound before c.binds.invariant.waits in
    let all = subst (λ (w : World). Waits w c.bind.new.machine) (sym (more_bound front item g.w)) one in
    record {
      waits = subst (λ (ys : List (Text × Tree)). Waits (with_values (values_of ys) g.w) c.bind.new.machine) (sym more) all;
      table = c.in_ok-bind.ensures.table ∙ c.binds.invariant.table;
      printed = c.in_ok-bind.ensures.printed ∙ c.binds.invariant.printed;
    }
