use Rattle.std.proofs.Common.{◌∙◌, ℕ, List, ap, sym, subst, take}
use Rattle.si_interp.specs.Meaning.{InterpView}
use Rattle.si_world.specs.Worlds.{WorldView}
use Rattle.si_world.specs.inner.Copies.{AllFree}
use Rattle.si_world.proofs.Copying.{free_all, recorded_is}
use Rattle.si_world.proofs.world.World.recording.Goals as goal

pub copy_reports-requires-clause-taken : goal.copy_reports-requires-clause-taken
copy_reports-requires-clause-taken c =
    let w : WorldView = record { past = c.self.inside.hub.past; interps = c.self.inside.interps.items } in
    subst AllFree (sym c.as_slice.ensures.value) (free_all w c.self.invariant.0)

pub of-requires : goal.of-requires
of-requires c =
    let p = c.self.inside.hub.past in
    let reports = c.in_ok-reports.ensures ∙ ap (λ (xs : List InterpView). take c.self.inside.made xs) c.as_slice.ensures.value in
    recorded_is p c.self.inside.interps.items c.in_ok-reports.reports.items (reports ∙ ap (λ (n : ℕ). take n c.self.inside.interps.items) c.self.invariant.1) c.self.invariant.0
