-- Independent neighbours of a legal history, in the other order: the lives of their callers ask them there too.
use Rattle.std.proofs.Common.{◌≡◌, ◌≢◌, ℕ, List, [], ◌∷◌, ◌++◌, map, Bool, true, false, refl, ap, sym, ◌∙◌, subst}
use Rattle.std.specs.Prelude.{◌==◌}
use Rattle.std.proofs.lemmas.Bool.{eqb-true}
use Rattle.std.proofs.lemmas.List.{map-append, append_assoc}
use Rattle.si_semantics.specs.Actions.{Answer}
use Rattle.si_semantics.specs.Shared.{first_state}
use Rattle.si_semantics.specs.History.{Call, state_after, Told}
use Rattle.si_world.specs.Legal.{Exchange, exchange, chosen, calls_of, answers_to, AsksSome, AskedIn}
use Rattle.si_world.proofs.Lists.{calls-more, calls-other}
use Rattle.si_exchange.specs.LegalHistories.{MayExchangeLegal}
use Rattle.si_exchange.proofs.Exchanging.{may_exchange}

-- ---- the calls of each interpreter, and what they were answered

abbrev answers_of : List Exchange → List Answer
answers_of es = map (λ (e : Exchange). e.answer) es

-- of two of which at most one is chosen, the order doesn't matter
chosen_swap : (b e : Bool) (x y : Exchange) (xs : List Exchange) → (b ≡ true → e ≡ true → ⊥) → chosen e y (chosen b x xs) ≡ chosen b x (chosen e y xs)
chosen_swap true true x y xs n = absurd (n refl refl)
chosen_swap true false x y xs n = refl
chosen_swap false true x y xs n = refl
chosen_swap false false x y xs n = refl

calls_swap : (i : ℕ) (before : List Call) (c d : Call) (after : List Call) → c.by ≢ d.by → calls_of i (before ++ d ∷ (c ∷ after)) ≡ calls_of i (before ++ c ∷ (d ∷ after))
calls_swap i [] c d after n =
    chosen_swap (c.by == i) (d.by == i) (exchange c.action c.answer) (exchange d.action d.answer) (calls_of i after) (λ e f. n (eqb-true c.by i e ∙ sym (eqb-true d.by i f)))
calls_swap i (x ∷ before) c d after n = ap (λ (es : List Exchange). chosen (x.by == i) (exchange x.action x.answer) es) (calls_swap i before c d after n)

-- the same call after two histories in which an interpreter was answered the same
answers_more : (i : ℕ) (done others : List Call) (c : Call) → answers_to i done ≡ answers_to i others → answers_to i (done ++ c ∷ []) ≡ answers_to i (others ++ c ∷ [])
answers_more i done others c e =
    let more : List Exchange = chosen (c.by == i) (exchange c.action c.answer) [] in
    ap (λ (es : List Exchange). answers_of es) (calls-more i done c)
    ∙ map-append (λ (x : Exchange). x.answer) (calls_of i done) more
    ∙ ap (λ (rs : List Answer). rs ++ answers_of more) e
    ∙ sym (map-append (λ (x : Exchange). x.answer) (calls_of i others) more)
    ∙ ap (λ (es : List Exchange). answers_of es) (sym (calls-more i others c))

-- two calls after a history, in either order
answers_swap : (i : ℕ) (done : List Call) (c d : Call) → c.by ≢ d.by → answers_to i ((done ++ c ∷ []) ++ d ∷ []) ≡ answers_to i ((done ++ d ∷ []) ++ c ∷ [])
answers_swap i done c d n =
    ap (λ (calls : List Call). answers_to i calls) (append_assoc done (c ∷ []) (d ∷ []))
    ∙ ap (λ (es : List Exchange). answers_of es) (sym (calls_swap i done c d [] n))
    ∙ ap (λ (calls : List Call). answers_to i calls) (sym (append_assoc done (d ∷ []) (c ∷ [])))

-- ---- what lives ask

-- calls are asked after every history in which each interpreter was answered the same
asked_same : (done others calls : List Call) → ((i : ℕ) → answers_to i done ≡ answers_to i others) → AskedIn done calls → AskedIn others calls
asked_same done others [] e h = tt
asked_same done others (c ∷ calls) e h = (
  subst (λ (rs : List Answer). AsksSome c.by rs c.action) (e c.by) h.0,
  asked_same (done ++ c ∷ []) (others ++ c ∷ []) calls (λ i. answers_more i done others c (e i)) h.1,
)

-- neither of the two is an answer to the caller of the other
asked_first : (done : List Call) (c d : Call) (after : List Call) → c.by ≢ d.by → AskedIn done (c ∷ (d ∷ after)) → AskedIn done (d ∷ (c ∷ after))
asked_first done c d after n h =
    let before_d : answers_to d.by (done ++ c ∷ []) ≡ answers_to d.by done = ap (λ (es : List Exchange). answers_of es) (calls-other d.by done c n) in
    let before_c : answers_to c.by (done ++ d ∷ []) ≡ answers_to c.by done = ap (λ (es : List Exchange). answers_of es) (calls-other c.by done d (λ e. n (sym e))) in (
      subst (λ (rs : List Answer). AsksSome d.by rs d.action) before_d h.1.0,
      (
        subst (λ (rs : List Answer). AsksSome c.by rs c.action) (sym before_c) h.0,
        asked_same ((done ++ c ∷ []) ++ d ∷ []) ((done ++ d ∷ []) ++ c ∷ []) after (λ i. answers_swap i done c d n) h.1.1,
      ),
    )

asked_later : (done before : List Call) (c d : Call) (after : List Call) → c.by ≢ d.by → AskedIn done (before ++ c ∷ (d ∷ after)) → AskedIn done (before ++ d ∷ (c ∷ after))
asked_later done [] c d after n h = asked_first done c d after n h
asked_later done (x ∷ before) c d after n h = (h.0, asked_later (done ++ x ∷ []) before c d after n h.1)

-- ---- the law

pub may_exchange_legal : MayExchangeLegal
may_exchange_legal p before after c d h e l =
    let w = p.limits.interpreters in
    let s = first_state p.script in
    let k = may_exchange w s before after c d h (subst (λ (calls : List Call). Told w s calls) e l.told) in
    let same = λ (i : ℕ). calls_swap i before c d after h.callers ∙ ap (λ (calls : List Call). calls_of i calls) (sym e) in
    record {
      legal = record { asked = asked_later [] before c d after h.callers (subst (λ (calls : List Call). AskedIn [] calls) e l.asked); told = k.told };
      state = k.state ∙ ap (λ (calls : List Call). state_after w s calls) (sym e);
      calls_of_each = same;
      answers_to_each = λ i. ap (λ (es : List Exchange). answers_of es) (same i);
    }
