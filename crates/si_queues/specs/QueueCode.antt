-- How queues are told apart, for the contracts of types that hold them: a device. What a queue is stands in
-- si_semantics/specs/Shared.antt.
use Rattle.std.specs.Prelude.{ℕ, List}
use Rattle.std.specs.Coded.{Coded, code_by, coded×, coded_ℕ, coded_list}
use mathlib.Core.Path.{refl}
use Rattle.si_semantics.specs.Parcels.{Tree}
use Rattle.si_semantics.specs.Shared.{Queue}
use Rattle.si_parcel.specs.TreeCode.{tree_code}

abbrev pub queue_code : Coded Queue
queue_code = code_by (ℕ × List Tree) (coded× coded_ℕ (coded_list tree_code)) (λ q. (q.maxsize, q.items)) (λ p. record { maxsize = p.0; items = p.1 }) (λ _. refl)
