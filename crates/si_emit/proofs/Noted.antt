-- A table that was told where the code of a statement begins is what it was.
use Rattle.std.proofs.Common.{◌≡◌, ℕ, ◌≤◌, List, length, subst}
use Rattle.si_slots.specs.Machine as machine
use Rattle.si_slots.specs.Contents.{Contents, Extends}
use Rattle.si_slots.specs.Views.{Gains}

-- what it gains then, it gains from before
pub noted_gains : {old noted new : Contents} {code : List machine.Instr} → noted ≡ old → Gains noted new code → Gains old new code
noted_gains {old} {noted} {new} {code} same gains = subst (λ t. Gains t new code) same gains

pub noted_extends : {old noted new : Contents} → noted ≡ old → Extends noted new → Extends old new
noted_extends {old} {noted} {new} same extends = subst (λ t. Extends t new) same extends

pub noted_after : {old noted : Contents} {at : ℕ} → noted ≡ old → length noted.lines ≤ at → length old.lines ≤ at
noted_after {old} {noted} {at} same after = subst (λ t. length t.lines ≤ at) same after
