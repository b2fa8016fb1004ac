-- How entries of a log, standings and views of an interpreter are told apart, for the contracts of types that hold them: a
-- device. What they are stands in Meaning.antt.
use Rattle.std.specs.Prelude.{ℕ, List, Bool, ◌≡◌, ◌⊎◌}
use Rattle.std.specs.Coded.{Coded, code_by, coded×, coded_ℕ, coded_bool, coded_list, coded⊎}
use base.Stored.{coded_unit}
use mathlib.Core.Logic.{inl, inr}
use mathlib.Core.Path.{refl}
use Rattle.si_semantics.specs.Actions.{Action, Answer}
use Rattle.si_hub.specs.HubCode.{action_code, answer_code}
use Rattle.si_interp.specs.Meaning.{Logged, Stand, Ready, At, Gone, Starved, InterpView}

abbrev pub logged_code : Coded Logged
logged_code = code_by (Action × (Answer × ℕ)) (coded× action_code (coded× answer_code coded_ℕ)) (λ x. (x.action, (x.answer, x.at))) (λ p. record { action = p.0; answer = p.1.0; at = p.1.1 }) (λ _. refl)

abbrev pub StandParts : Type 0
StandParts = Unit {0} ⊎ (Action ⊎ (Unit {0} ⊎ Unit {0}))

abbrev pub stand_parts : Stand → StandParts
stand_parts Ready = inl tt
stand_parts (At a) = inr (inl a)
stand_parts Gone = inr (inr (inl tt))
stand_parts Starved = inr (inr (inr tt))

abbrev pub stand_by_parts : StandParts → Stand
stand_by_parts (inl _) = Ready
stand_by_parts (inr (inl a)) = At a
stand_by_parts (inr (inr (inl _))) = Gone
stand_by_parts (inr (inr (inr _))) = Starved

pub stand_by_parts-stand_parts : (s : Stand) → stand_by_parts (stand_parts s) ≡ s
stand_by_parts-stand_parts Ready = refl
stand_by_parts-stand_parts (At a) = refl
stand_by_parts-stand_parts Gone = refl
stand_by_parts-stand_parts Starved = refl

abbrev pub stand_code : Coded Stand
stand_code = code_by StandParts (coded⊎ coded_unit (coded⊎ action_code (coded⊎ coded_unit coded_unit))) stand_parts stand_by_parts stand_by_parts-stand_parts

abbrev pub ViewParts : Type 0
ViewParts = ℕ × (List ℕ × (List Logged × (ℕ × (Stand × Bool))))

abbrev pub view_parts : InterpView → ViewParts
view_parts v = (v.id, (v.printed, (v.log, (v.locals, (v.stand, v.taken)))))

abbrev pub view_by_parts : ViewParts → InterpView
view_by_parts p = record { id = p.0; printed = p.1.0; log = p.1.1.0; locals = p.1.1.1.0; stand = p.1.1.1.1.0; taken = p.1.1.1.1.1 }

abbrev pub view_code : Coded InterpView
view_code = code_by ViewParts (coded× coded_ℕ (coded× (coded_list coded_ℕ) (coded× (coded_list logged_code) (coded× coded_ℕ (coded× stand_code coded_bool))))) view_parts view_by_parts (λ _. refl)
