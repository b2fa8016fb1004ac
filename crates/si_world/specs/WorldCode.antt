-- How views of worlds are told apart, for the contracts of types that hold them: a device. What they are stands in
-- Worlds.antt.
use Rattle.std.specs.Prelude.{List}
use Rattle.std.specs.Coded.{Coded, code_by, coded×, coded_list}
use mathlib.Core.Path.{refl}
use Rattle.si_hub.specs.HubCode.{Past, past_code}
use Rattle.si_interp.specs.Meaning.{InterpView}
use Rattle.si_interp.specs.InterpCode.{view_code}
use Rattle.si_world.specs.Worlds.{WorldView}

abbrev pub world_code : Coded WorldView
world_code = code_by (Past × List InterpView) (coded× past_code (coded_list view_code)) (λ w. (w.past, w.interps)) (λ p. record { past = p.0; interps = p.1 }) (λ _. refl)
