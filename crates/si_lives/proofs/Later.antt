-- Later states of a life.
use Rattle.std.proofs.Common.{ℕ, ◌≤◌, List, [], ◌∷◌, ◌++◌, Option, Some, None, refl, sym, ap, ◌∙◌, arith, append_assoc}
use Rattle.std.proofs.lemmas.List.{append-nil}
use Rattle.std.proofs.lemmas.List.Elements.{All-nil, All-cons, All-append}
use Rattle.si_semantics.specs.Value.{Text, Value}
use Rattle.si_semantics.specs.World.{World, Request, Answer, Done, Replied, Got, Failed, Wants, Ran, Gave, Threw, Asked}
use Rattle.si_semantics.specs.Operations.{exception}
use Rattle.si_semantics.specs.Replies.{reply}
use Rattle.si_semantics.specs.Meaning.{Piece, State, Raises, Returns, Breaks, Continues, Result, Gives, Leaves, Asks, Cut, Meaning, visit, then, printed, raised, asked, ran, after_turn, caught, active_in, finally, returned}
use Rattle.si_semantics.specs.Life.{Outcome, Returned, Told, outcome_of, after_end, ends_with, run_ended}
use Rattle.si_semantics.specs.Laws.{state_of}
use Rattle.si_semantics.proofs.Growing.{state_at}
use Rattle.si_lives.specs.Laws.{Later}

-- ---- steps

-- a piece is numbered so, or higher
abbrev numbered : ℕ → Piece → Type 0
numbered n p = n ≤ p.number

pub same : (s : State) → Later s s
same s = record { answers = ([], refl); visits = omega arith; pieces = ([], sym (append-nil s.pieces), All-nil _) }

pub trans : {s t u : State} → Later s t → Later t u → Later s u
trans {s} {t} {u} g h = record {
  answers = (g.answers.0 ++ h.answers.0, g.answers.1 ∙ ap (λ l. g.answers.0 ++ l) h.answers.1 ∙ sym (append_assoc g.answers.0 h.answers.0 u.answers));
  visits = omega (arith, g.visits, h.visits);
  pieces = (
    g.pieces.0 ++ h.pieces.0,
    h.pieces.1 ∙ ap (λ l. l ++ h.pieces.0) g.pieces.1 ∙ append_assoc s.pieces g.pieces.0 h.pieces.0,
    All-append (numbered s.visits) g.pieces.0 h.pieces.0 g.pieces.2 (λ k d below. let higher = h.pieces.2 k d below in omega (arith, g.visits, higher)),
  );
}

-- the world and the locals may change at any time
pub still : (s : State) (w : World) (slots : List (Option Value)) → Later s (record s { world = w; slots = slots })
still s w slots = record { answers = (same s).answers; visits = (same s).visits; pieces = (same s).pieces }

pub visited : (s : State) → Later s (visit s)
visited s = record { answers = (same s).answers; visits = omega arith; pieces = (same s).pieces }

pub taken : (s : State) (a : Answer) (rest : List Answer) (w : World) → Later (record s { answers = a ∷ rest }) (record s { answers = rest; world = w })
taken s a rest w = record { answers = (a ∷ [], refl); visits = (same s).visits; pieces = (same s).pieces }

pub printed_later : (out : Option Text) (s : State) → Later s (printed out s)
printed_later None s = same s
printed_later (Some t) s = record {
  answers = (same s).answers;
  visits = (same s).visits;
  pieces = (record { text = t; number = s.visits } ∷ [], refl, All-cons (numbered s.visits) (record { text = t; number = s.visits }) [] (omega arith) (All-nil _));
}

-- ---- requests

replied_later : (a : Answer) (rest : List Answer) (o : Replied) (s : State) → ((q : Request) (t : State) → Later (record t { answers = rest }) (state_at (asked rest q t)))
    → Later (record s { answers = a ∷ rest }) (state_at (elim o [ Got v w ↦ Gives v (record s { world = w; answers = rest }) | Failed k m w ↦ raised (exception k m w) (record s { answers = rest }) | Wants q w ↦ asked rest q (record s { world = w }) ]))
replied_later a rest (Got v w) s h = taken s a rest w
replied_later a rest (Failed k m w) s h = let x = exception k m w in taken s a rest x.1
replied_later a rest (Wants q w) s h = trans (taken s a rest w) (h q (record s { world = w }))

pub asked_later : (answers : List Answer) (q : Request) (s : State) → Later (record s { answers = answers }) (state_at (asked answers q s))
asked_later [] q s = same (record s { answers = [] })
asked_later (a ∷ rest) q s = replied_later a rest (reply q a s.world) s (λ q' t. asked_later rest q' t)

-- those after the first
abbrev pub after_first : List Answer → List Answer
after_first [] = []
after_first (a ∷ rest) = rest

replied_first : (rest : List Answer) (o : Replied) (s : State)
    → Later (record s { answers = rest }) (state_at (elim o [ Got v w ↦ Gives v (record s { world = w; answers = rest }) | Failed k m w ↦ raised (exception k m w) (record s { answers = rest }) | Wants q w ↦ asked rest q (record s { world = w }) ]))
replied_first rest (Got v w) s = still (record s { answers = rest }) w s.slots
replied_first rest (Failed k m w) s = let x = exception k m w in still (record s { answers = rest }) x.1 s.slots
replied_first rest (Wants q w) s = trans (still (record s { answers = rest }) w s.slots) (asked_later rest q (record s { world = w }))

-- the first answer is taken at once
pub asked_first : (answers : List Answer) (q : Request) (s : State) → Later (record s { answers = after_first answers }) (state_at (asked answers q s))
asked_first [] q s = same (record s { answers = [] })
asked_first (a ∷ rest) q s = replied_first rest (reply q a s.world) s

pub ran_later : (o : Ran) (s : State) → Later s (state_at (ran o s))
ran_later (Gave v out w) s = trans (still s w s.slots) (printed_later out (record s { world = w }))
ran_later (Threw k m w) s = let x = exception k m w in still s x.1 s.slots
ran_later (Asked q w) s = trans (still s w s.slots) (asked_later s.answers q (record s { world = w }))

-- ---- what follows a result

-- an evaluation leads to later states
abbrev pub Goes_on : {A : Type 0} → Meaning A → Type 0
Goes_on f = (s : State) → Later s (state_at (f s))

pub then_later : {A B : Type 0} (r : Result A) (f : A → Meaning B) → ((a : A) → Goes_on (f a)) → Later (state_at r) (state_at (then r f))
then_later (Gives a s) f h = h a s
then_later (Leaves p s) f h = same s
then_later (Asks q s) f h = same s
then_later (Cut s) f h = same s

pub after_turn_later : (r : Result (Unit {0})) (again : Meaning (Unit {0})) → Goes_on again → Later (state_at r) (state_at (after_turn r again))
after_turn_later (Gives u s) again h = h s
after_turn_later (Leaves Continues s) again h = h s
after_turn_later (Leaves Breaks s) again h = same s
after_turn_later (Leaves (Raises x) s) again h = same s
after_turn_later (Leaves (Returns v) s) again h = same s
after_turn_later (Asks q s) again h = same s
after_turn_later (Cut s) again h = same s

pub caught_later : (r : Result (Unit {0})) (handle : ℕ → Meaning (Unit {0})) (last : Meaning (Unit {0})) → ((x : ℕ) → Goes_on (handle x)) → Goes_on last → Later (state_at r) (state_at (caught r handle last))
caught_later (Gives u s) handle last h k = k s
caught_later (Leaves (Raises x) s) handle last h k = h x s
caught_later (Leaves (Returns v) s) handle last h k = same s
caught_later (Leaves Breaks s) handle last h k = same s
caught_later (Leaves Continues s) handle last h k = same s
caught_later (Asks q s) handle last h k = same s
caught_later (Cut s) handle last h k = same s

pub finally_later : (old : Option ℕ) (r : Result (Unit {0})) (last : Option ℕ → Meaning (Unit {0})) → ((x : Option ℕ) → Goes_on (last x)) → Later (state_at r) (state_at (finally old r last))
finally_later old (Gives u s) last h = h old s
finally_later old (Leaves p s) last h = trans (h (active_in p old) s) (then_later (last (active_in p old) s) (λ u s1. Leaves p s1) (λ u s1. same s1))
finally_later old (Asks q s) last h = same s
finally_later old (Cut s) last h = same s

pub returned_later : (old : List (Option Value)) (r : Result (Unit {0})) → Later (state_at r) (state_at (returned old r))
returned_later old (Gives u s) = still s s.world old
returned_later old (Leaves (Returns v) s) = still s s.world old
returned_later old (Leaves (Raises x) s) = still s s.world old
returned_later old (Leaves Breaks s) = still s s.world old
returned_later old (Leaves Continues s) = still s s.world old
returned_later old (Asks q s) = same s
returned_later old (Cut s) = same s

-- ---- the end of a run

-- the rest of a life leads to later states
abbrev pub Rest_goes_on : (State → Told) → Type 0
Rest_goes_on rest = (s : State) → Later s (state_of (rest s))

-- the first answer is taken at once
pub after_end_first : (answers : List Answer) (o : Outcome) (rest : State → Told) → Rest_goes_on rest → (s : State) → Later (record s { answers = after_first answers }) (state_of (after_end answers o rest s))
after_end_first [] o rest h s = same (record s { answers = [] })
after_end_first (Done ∷ left) o rest h s = h (record s { answers = left })
after_end_first (a ∷ left) o rest h s = same (record s { answers = left })

-- answers of which the first is taken or left
pub at_first : (answers : List Answer) (s : State) → Later (record s { answers = answers }) (record s { answers = after_first answers })
at_first [] s = same (record s { answers = [] })
at_first (a ∷ rest) s = taken s a rest s.world

pub ends_later : (o : Outcome) (rest : State → Told) → Rest_goes_on rest → (s : State) → Later s (state_of (ends_with o rest s))
ends_later o rest h s = trans (visited s) (trans (at_first s.answers (visit s)) (after_end_first s.answers o rest h (visit s)))

pub run_ended_later : (rest : State → Told) → Rest_goes_on rest → (r : Result (Unit {0})) → Later (state_at r) (state_of (run_ended rest r))
run_ended_later rest h (Gives u s) = ends_later Returned rest h s
run_ended_later rest h (Leaves p s) = ends_later (outcome_of p s.world) rest h s
run_ended_later rest h (Asks q s) = same s
run_ended_later rest h (Cut s) = same s
