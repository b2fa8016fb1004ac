-- A turn that moved nobody leaves its interpreter where it can't move, and all else as it was.
use Rattle.std.proofs.Common.{◌≡◌, ℕ, ◌+◌, ◌<◌, ◌≤◌, List, refl, ap, sym, ◌∙◌, subst, arith, inl, inr, true, false, slice_get, Some}
use Rattle.std.proofs.lemmas.Bool.Decides.{eqb_tells}
use Rattle.si_semantics.specs.Actions.{Action}
use Rattle.si_hub.specs.HubCode.{Past}
use Rattle.si_hub.specs.Hubs.{can_act}
use Rattle.si_interp.specs.Meaning.{InterpView, Ready, At, Gone, Starved}
use Rattle.si_world.specs.declared.mark.Mark.{Mark}
use Rattle.si_world.specs.declared.mark.Mark.TheVariants as marks
use Rattle.si_world.specs.Worlds.{WorldView, created}
use Rattle.si_world.specs.Marks.{CanMove, Moves, MovesOne, AtRest}
use Rattle.si_world.specs.Rounds.{is_move}
use Rattle.si_world.specs.inner.Serving.{IsIdleTurn}
use Rattle.si_world.proofs.Lists.{get-set_same, get-set_other}

-- how one stands that can't move
same_action : (a b : Action) (v : InterpView) → v.stand ≡ At a → v.stand ≡ At b → a ≡ b
same_action a b v e f = let k : At a ≡ At b = sym e ∙ f in cc

still_waits : (p : Past) (i : ℕ) (v : InterpView) (a : Action) → v.stand ≡ At a → can_act p i a ≡ false → CanMove p i v → ⊥
still_waits p i v a e f (inl h) = let k = h.0 in cc
still_waits p i v a e f (inr h) = let s = same_action a h.0 v e h.1 in let k : can_act p i a ≡ true = ap (can_act p i) s ∙ h.2 in cc

still_spent : (p : Past) (i : ℕ) (v : InterpView) → v.stand ≡ Ready → p.limits.turns ≤ v.locals → CanMove p i v → ⊥
still_spent p i v e f (inl h) = let k = h.1 in omega arith
still_spent p i v e f (inr h) = let k = h.1 in cc

still_gone : (p : Past) (i : ℕ) (v : InterpView) → v.stand ≡ Gone → CanMove p i v → ⊥
still_gone p i v e (inl h) = let k = h.0 in cc
still_gone p i v e (inr h) = let k = h.1 in cc

still_starved : (p : Past) (i : ℕ) (v : InterpView) → v.stand ≡ Starved → CanMove p i v → ⊥
still_starved p i v e (inl h) = let k = h.0 in cc
still_starved p i v e (inr h) = let k = h.1 in cc

-- what an idle move leaves
record Stays (p : Past) (i : ℕ) (q : Past) (w : InterpView) : Type 0 where
  pub past : q ≡ p
  pub still : CanMove p i w → ⊥

stays : (p q : Past) (i : ℕ) (v w : InterpView) (m : Mark) → Moves p i v m q w → is_move m ≡ false → Stays p i q w
stays p q i v w marks.Local h e = cc
stays p q i v w marks.Acted h e = cc
stays p q i v w marks.Waited h e = record { past = h.3; still = still_waits p i w h.0 (ap (λ (x : InterpView). x.stand) h.4 ∙ h.1) h.2 }
stays p q i v w marks.Spent h e = record { past = h.2; still = still_spent p i w (ap (λ (x : InterpView). x.stand) h.3 ∙ h.0) (let k = ap (λ (x : InterpView). x.locals) h.3 in let l = h.1 in omega arith) }
stays p q i v w marks.Nobody h e = elim h.0 [
  | inl g ↦ record { past = h.1; still = still_gone p i w (ap (λ (x : InterpView). x.stand) h.2 ∙ g) }
  | inr g ↦ record { past = h.1; still = still_starved p i w (ap (λ (x : InterpView). x.stand) h.2 ∙ g) }
]
stays p q i v w marks.Starved h e = record { past = h.1; still = still_starved p i w (ap (λ (x : InterpView). x.stand) h.2) }

-- the interpreters below i can't move, and the past is as it was
pub record Rests (old : WorldView) (i : ℕ) (new : WorldView) : Type 0 where
  pub past : new.past ≡ old.past
  pub still : (k : ℕ) (v : InterpView) → k < i → slice_get new.interps k ≡ Some v → CanMove new.past k v → ⊥

pub rests_none : (w : WorldView) → Rests w 0 w
rests_none w = record { past = refl; still = λ k v lt at m. omega arith }

still_one : (old mid new : WorldView) (i : ℕ) (m : Mark) → Rests old i mid → MovesOne mid i m new → is_move m ≡ false → Rests old (i + 1) new
still_one old mid new i m r o e =
    let s = stays mid.past new.past i o.before o.after m o.moves e in
    record {
      past = s.past ∙ r.past;
      still = λ k v lt at c.
          let c' : CanMove mid.past k v = subst (λ (p : Past). CanMove p k v) s.past c in
          let two = eqb_tells k i in
          elim two [
            | inl y ↦ (
                let here : Some o.after ≡ Some v = sym (get-set_same mid.interps i o.before o.after o.stood) ∙ ap (λ (us : List InterpView). slice_get us i) (sym o.others) ∙ ap (slice_get new.interps) (sym y.1) ∙ at in
                let b : o.after ≡ v = cc in
                s.still (subst (λ (x : InterpView). CanMove mid.past i x) (sym b) (subst (λ (n : ℕ). CanMove mid.past n v) y.1 c')))
            | inr y ↦ (
                let lower : k < i = (let n = y.1 in omega arith) in
                r.still k v lower (sym (get-set_other mid.interps i k o.after y.1) ∙ ap (λ (us : List InterpView). slice_get us k) (sym o.others) ∙ at) c')
          ];
    }

-- one idle turn more, of an interpreter that was created
pub rests_more : (old mid new : WorldView) (i : ℕ) → Rests old i mid → i < created mid.past → IsIdleTurn mid i new → Rests old (i + 1) new
rests_more old mid new i r lt t = still_one old mid new i t.mark r (t.turned.made lt) t.still

pub at_rest : (old new : WorldView) (i : ℕ) → Rests old i new → created new.past ≤ i → AtRest new
at_rest old new i r le = λ k v lt at m. r.still k v (omega arith) at m
