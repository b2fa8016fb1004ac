use Rattle.std.proofs.Common.{◌∙◌, ℕ, ap, take}
use Rattle.si_world.specs.Worlds.{WorldView}
use Rattle.si_world.proofs.Copying.{free_all, recorded_is}
use Rattle.si_world.proofs.world.World.into_recording.Goals as goal

pub take_reports-requires : goal.take_reports-requires
take_reports-requires c =
    let w : WorldView = record { past = c.self.inside.hub.past; interps = c.self.inside.interps.items } in
    free_all w c.self.invariant.0

pub taking-requires : goal.taking-requires
taking-requires c =
    let vs = c.self.inside.interps.items in
    recorded_is c.self.inside.hub.past vs c.in_ok-reports.reports.items (c.in_ok-reports.ensures ∙ ap (λ (n : ℕ). take n vs) c.self.invariant.1) c.self.invariant.0
