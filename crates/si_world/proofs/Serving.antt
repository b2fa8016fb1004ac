-- Turns one after the other, with those in a row that moved nobody.
use Rattle.std.proofs.Common.{◌≡◌, ℕ, ◌+◌, ◌≤◌, List, [], ◌∷◌, ◌++◌, length, length-append, Bool, true, false, refl, ap, sym, ◌∙◌, subst, arith, inl, inr, ◌-◌, ◌<◌, if◌then◌else◌}
use Rattle.std.proofs.lemmas.Bool.Decides.{leb_tells}
use Rattle.si_world.specs.declared.mark.Mark.{Mark}
use Rattle.si_world.specs.Worlds.{WorldView}
use Rattle.si_world.specs.Marks.{Turned, Ran}
use Rattle.si_world.specs.Rounds.{is_move, idle_then, IdleWithin, Serves}
use Rattle.si_world.specs.inner.Stretches.{last_idle}
use Rattle.si_world.specs.inner.Serving.{idle_after, Gives, stint_idle, round_idle}

Ran-append : (old : WorldView) (is : List ℕ) (ms : List Mark) (mid : WorldView) (js : List ℕ) (ns : List Mark) (new : WorldView) → Ran old is ms mid → Ran mid js ns new → Ran old (is ++ js) (ms ++ ns) new
Ran-append old [] [] mid js ns new r s = subst (λ (w : WorldView). Ran w js ns new) r s
Ran-append old (i ∷ is) (m ∷ ms) mid js ns new r s = (r.0, r.1, Ran-append r.0 is ms mid js ns new r.2 s)
Ran-append old [] (m ∷ ms) mid js ns new r s = absurd r
Ran-append old (i ∷ is) [] mid js ns new r s = absurd r

pub idle-append : (most idle : ℕ) (ms ns : List Mark) → IdleWithin most idle ms → IdleWithin most (idle_after idle ms) ns → IdleWithin most idle (ms ++ ns)
idle-append most idle [] ns h k = k
idle-append most idle (m ∷ ms) ns h k = (h.0, idle-append most (idle_then (is_move m) idle) ms ns h.1 k)

pub after-append : (idle : ℕ) (ms ns : List Mark) → idle_after idle (ms ++ ns) ≡ idle_after (idle_after idle ms) ns
after-append idle [] ns = refl
after-append idle (m ∷ ms) ns = after-append (idle_then (is_move m) idle) ms ns

pub gives_none : (idle : ℕ) (w : WorldView) → idle ≤ 128 → Gives idle w 0 w idle
gives_none idle w h = record { turns = []; marks = []; ran = refl; count = refl; idle_within = h; idle_end = omega arith }

-- more turns, where they are given for each number that may have come before
pub gives_more : (idle : ℕ) (old mid new : WorldView) (n k most last : ℕ) → Gives idle old n mid most → ((t : ℕ) → t ≤ most → Gives t mid k new last) → Gives idle old (n + k) new last
gives_more idle old mid new n k most last g h =
    let s = h (idle_after idle g.marks) g.idle_end in
    let e = after-append idle g.marks s.marks in
    record {
      turns = g.turns ++ s.turns;
      marks = g.marks ++ s.marks;
      ran = Ran-append old g.turns g.marks mid s.turns s.marks new g.ran s.ran;
      count = length-append g.turns s.turns ∙ ap (λ (x : ℕ). x + length s.turns) g.count ∙ ap (λ (x : ℕ). n + x) s.count;
      idle_within = idle-append 128 idle g.marks s.marks g.idle_within s.idle_within;
      idle_end = let b = s.idle_end in omega arith;
    }

pub gives_wider : (idle : ℕ) (old new : WorldView) (n most last : ℕ) → Gives idle old n new most → most ≤ last → Gives idle old n new last
gives_wider idle old new n most last g h =
    record { turns = g.turns; marks = g.marks; ran = g.ran; count = g.count; idle_within = g.idle_within; idle_end = let b = g.idle_end in omega arith }

-- one turn
gives_one : (idle : ℕ) (b : Bool) (i : ℕ) (m : Mark) (old new : WorldView) → idle ≤ 127 → is_move m ≡ b → Turned old i m new → Gives idle old 1 new (idle_then b idle)
gives_one idle true i m old new h e t = record {
  turns = i ∷ [];
  marks = m ∷ [];
  ran = (new, t, refl);
  count = refl;
  idle_within = (omega arith, rw e (omega arith));
  idle_end = rw e (omega arith);
}
gives_one idle false i m old new h e t = record {
  turns = i ∷ [];
  marks = m ∷ [];
  ran = (new, t, refl);
  count = refl;
  idle_within = (omega arith, rw e (omega arith));
  idle_end = rw e (omega arith);
}

-- so many turns in a row moved nobody before the next turn of a stint
abbrev pub stint_far : (moved : Bool) → (idle : ℕ) → ℕ
stint_far true idle = 0
stint_far false idle = idle

far_small : (moved : Bool) (idle : ℕ) → idle ≤ 127 → stint_far moved idle ≤ 127
far_small true idle h = omega arith
far_small false idle h = h

one_more : (idle t : ℕ) (moved : Bool) → t ≤ stint_far moved idle → idle_then false t ≤ stint_idle moved idle
one_more idle t true h = omega arith
one_more idle t false h = omega arith

-- a turn of a stint that moves
pub stint_moves : (idle : ℕ) (moved : Bool) (i : ℕ) (m : Mark) (old mid new : WorldView) (n : ℕ) → idle ≤ 127 → Gives idle old n mid (stint_far moved idle) → is_move m ≡ true → Turned mid i m new
    → Gives idle old (n + 1) new (stint_far true idle)
stint_moves idle moved i m old mid new n h g e t =
    gives_more idle old mid new n 1 (stint_far moved idle) 0 g (λ k le. gives_one k true i m mid new (let b = far_small moved idle h in omega arith) e t)

-- lines after a turn that moved
stint_lines : (idle : ℕ) (old mid new : WorldView) (n k most : ℕ) → Gives idle old n mid 0 → Gives 0 mid k new most → Gives idle old (n + k) new most
stint_lines idle old mid new n k most g s = gives_more idle old mid new n k 0 most g (λ t le. let e : 0 ≡ t = omega arith in subst (λ (x : ℕ). Gives x mid k new most) e s)

-- a stint goes on after lines, or ends with one that was refused memory
pub stint_goes_on : (idle : ℕ) (old mid new : WorldView) (n k : ℕ) (b : Bool) → b ≡ false → Gives idle old n mid 0 → Gives 0 mid k new (last_idle b) → Gives idle old (n + k) new 0
stint_goes_on idle old mid new n k b e g s = stint_lines idle old mid new n k 0 g (subst (λ (x : Bool). Gives 0 mid k new (last_idle x)) e s)

pub stint_starves : (idle : ℕ) (old mid new : WorldView) (n k : ℕ) (b : Bool) → b ≡ true → Gives idle old n mid 0 → Gives 0 mid k new (last_idle b) → Gives idle old (n + k) new 1
stint_starves idle old mid new n k b e g s = stint_lines idle old mid new n k 1 g (subst (λ (x : Bool). Gives 0 mid k new (last_idle x)) e s)

-- the last turn of a stint, which does not
pub stint_ends : (idle : ℕ) (moved : Bool) (i : ℕ) (m : Mark) (old mid new : WorldView) (n : ℕ) → idle ≤ 127 → Gives idle old n mid (stint_far moved idle) → is_move m ≡ false → Turned mid i m new
    → Gives idle old (n + 1) new (stint_idle moved idle)
stint_ends idle moved i m old mid new n h g e t =
    gives_more idle old mid new n 1 (stint_far moved idle) (stint_idle moved idle) g (λ k le. gives_wider k mid new 1 (idle_then false k) (stint_idle moved idle) (gives_one k false i m mid new (let b = far_small moved idle h in omega arith) e t) (one_more idle k moved le))

far_within : (moved : Bool) (idle : ℕ) → stint_far moved idle ≤ stint_idle moved idle
far_within true idle = omega arith
far_within false idle = omega arith

-- a stint whose turns are used up
pub stint_stops : (idle : ℕ) (moved : Bool) (old new : WorldView) (n : ℕ) → Gives idle old n new (stint_far moved idle) → Gives idle old n new (stint_idle moved idle)
stint_stops idle moved old new n g = gives_wider idle old new n (stint_far moved idle) (stint_idle moved idle) g (far_within moved idle)

-- one stint more of a round
round_within : (a b c : Bool) (i idle t : ℕ) → c ≡ (if a then true else b) → i ≤ 63 → idle ≤ 64 → t ≤ round_idle a i idle → (t ≤ 127) × (stint_idle b t ≤ round_idle c (i + 1) idle)
round_within true true c i idle t e h k l = (omega arith, rw e (omega arith))
round_within true false c i idle t e h k l = (omega arith, rw e (omega arith))
round_within false true c i idle t e h k l = (omega arith, rw e (omega arith))
round_within false false c i idle t e h k l = (omega arith, rw e (omega arith))

pub round_more : (idle i : ℕ) (a b c : Bool) (old mid new : WorldView) (n k : ℕ) → c ≡ (if a then true else b) → i ≤ 63 → idle ≤ 64
    → Gives idle old n mid (round_idle a i idle) → ((t : ℕ) → t ≤ 127 → Gives t mid k new (stint_idle b t)) → Gives idle old (n + k) new (round_idle c (i + 1) idle)
round_more idle i a b c old mid new n k e h l g s =
    gives_more idle old mid new n k (round_idle a i idle) (round_idle c (i + 1) idle) g
    (λ t le. let w = round_within a b c i idle t e h l le in gives_wider t mid new k (stint_idle b t) (round_idle c (i + 1) idle) (s t w.0) w.1)

few_stints : (a : Bool) (i idle : ℕ) → i ≤ 64 → round_idle a i idle ≤ round_idle a 64 idle
few_stints true i idle h = h
few_stints false i idle h = omega arith

pub round_ends : (idle i : ℕ) (a : Bool) (old new : WorldView) (n : ℕ) → i ≤ 64 → Gives idle old n new (round_idle a i idle) → Gives idle old n new (round_idle a 64 idle)
round_ends idle i a old new n h g = gives_wider idle old new n (round_idle a i idle) (round_idle a 64 idle) g (few_stints a i idle h)

pub serves : (old new : WorldView) (n most : ℕ) → Gives 0 old n new most → Serves old n new
serves old new n most g = record { turns = g.turns; marks = g.marks; ran = g.ran; count = g.count; idle = g.idle_within }

-- a round that moved, and any round
pub round_moved : (idle : ℕ) (a : Bool) (old new : WorldView) (n : ℕ) → a ≡ true → Gives idle old n new (round_idle a 64 idle) → Gives idle old n new 64
round_moved idle a old new n e g = subst (λ (b : Bool). Gives idle old n new (round_idle b 64 idle)) e g

ended_within : (a : Bool) (idle : ℕ) → idle ≤ 64 → round_idle a 64 idle ≤ 128
ended_within true idle h = omega arith
ended_within false idle h = omega arith

pub round_ended : (idle : ℕ) (a : Bool) (old new : WorldView) (n : ℕ) → idle ≤ 64 → Gives idle old n new (round_idle a 64 idle) → Gives idle old n new 128
round_ended idle a old new n h g = gives_wider idle old new n (round_idle a 64 idle) 128 g (ended_within a idle h)

-- a round so far, and a stint more, of which none moved
pub none_moved : (a b c : Bool) → c ≡ (if a then true else b) → c ≡ false → (a ≡ false) × (b ≡ false)
none_moved true b c e n = cc
none_moved false b c e n = (refl, sym e ∙ n)

pub some_given : (given more left : ℕ) → 0 < left → given ≤ left → (0 < left - given → 0 < more) → 0 < given + more
some_given given more left p w h = let two = leb_tells left given in elim two [
  | inl x ↦ (let k = x.1 in omega arith)
  | inr x ↦ (let k = x.1 in let m = h (omega arith) in omega arith)
]
