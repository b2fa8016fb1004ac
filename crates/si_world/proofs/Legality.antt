-- A history of which each interpreter asks its calls is asked.
use Rattle.std.proofs.Common.{◌≡◌, ℕ, List, [], ◌∷◌, ◌++◌, map, append-nil, refl, ap, sym, ◌∙◌, subst, Bool, true, false}
use Rattle.std.specs.Prelude.{◌==◌}
use Rattle.std.specs.Bool.{⊤}
use Rattle.std.proofs.lemmas.List.{map-append}
use Rattle.std.proofs.lemmas.Bool.{eq-eqb}
use Rattle.si_semantics.specs.Actions.{Answer}
use Rattle.si_semantics.specs.History.{Call}
use Rattle.si_interp.specs.Meaning.{Logged, Asked}
use Rattle.si_world.specs.Legal.{Exchange, exchange, chosen, calls_of, answers_to, AsksSome, AskedIn, exchanges}
use Rattle.si_world.proofs.Lists.{calls-more}

-- each call of one interpreter is asked under the answers before it
abbrev pub AskedAlone : ℕ → List Answer → List Exchange → Type 0
AskedAlone i before [] = ⊤
AskedAlone i before (e ∷ es) = AsksSome i before e.action × AskedAlone i (before ++ e.answer ∷ []) es

pub alone_of_log : (i : ℕ) (before : List Answer) (log : List Logged) (p : List ℕ) → Asked i before log p → AskedAlone i before (exchanges log)
alone_of_log i before [] p h = tt
alone_of_log i before (l ∷ ls) p h = ((h.0.turns, h.0.asks), alone_of_log i (before ++ l.answer ∷ []) ls p h.1)

answers_with : (i : ℕ) (done : List Call) (c : Call) (b : Bool) → (c.by == i) ≡ b → answers_to i (done ++ c ∷ []) ≡ map (λ (e : Exchange). e.answer) (calls_of i done ++ chosen b (exchange c.action c.answer) [])
answers_with i done c b e = ap (λ (es : List Exchange). map (λ (x : Exchange). x.answer) es) (calls-more i done c ∙ ap (λ (d : Bool). calls_of i done ++ chosen d (exchange c.action c.answer) []) e)

rest_alone : (i : ℕ) (done : List Call) (c : Call) (cs : List Call) (b : Bool) → (c.by == i) ≡ b → AskedAlone i (answers_to i done) (chosen b (exchange c.action c.answer) (calls_of i cs))
    → AskedAlone i (answers_to i (done ++ c ∷ [])) (calls_of i cs)
rest_alone i done c cs true e h =
    let a : answers_to i (done ++ c ∷ []) ≡ answers_to i done ++ c.answer ∷ [] = answers_with i done c true e ∙ map-append (λ (x : Exchange). x.answer) (calls_of i done) (exchange c.action c.answer ∷ []) in
    subst (λ (rs : List Answer). AskedAlone i rs (calls_of i cs)) (sym a) h.1
rest_alone i done c cs false e h =
    let a : answers_to i (done ++ c ∷ []) ≡ answers_to i done = answers_with i done c false e ∙ ap (λ (es : List Exchange). map (λ (x : Exchange). x.answer) es) (append-nil (calls_of i done)) in
    subst (λ (rs : List Answer). AskedAlone i rs (calls_of i cs)) (sym a) h

head_asked : (done : List Call) (c : Call) (cs : List Call) (b : Bool) → (c.by == c.by) ≡ b → b ≡ true → AskedAlone c.by (answers_to c.by done) (chosen b (exchange c.action c.answer) (calls_of c.by cs))
    → AsksSome c.by (answers_to c.by done) c.action
head_asked done c cs true e t h = h.0
head_asked done c cs false e t h = cc

-- where the calls of each interpreter are asked by its life, the history is
pub asked_in : (done cs : List Call) → ((i : ℕ) → AskedAlone i (answers_to i done) (calls_of i cs)) → AskedIn done cs
asked_in done [] h = tt
asked_in done (c ∷ cs) h = (
  head_asked done c cs (c.by == c.by) refl (eq-eqb c.by c.by refl) (h c.by),
  asked_in (done ++ c ∷ []) cs (λ i. rest_alone i done c cs (c.by == i) refl (h i)),
)
