-- An order of turns leads to its world.
use Rattle.std.proofs.Common.{◌≡◌, ◌≢◌, ℕ, zero, suc, ◌+◌, ◌-◌, ◌<◌, ◌≤◌, List, [], ◌∷◌, ◌++◌, length, length-append, map, set, replicate, refl, ap, sym, ◌∙◌, subst, arith, append_assoc, append-nil, Bool, true, false, slice_get, slice_index, Some, None, Option}
use Rattle.std.specs.Prelude.{nat_le, ◌==◌}
use Rattle.std.proofs.lemmas.List.{length-set}
use Rattle.std.proofs.lemmas.Bool.{eq-eqb, eqb-true}
use Rattle.std.proofs.lemmas.Option.{slice_get_within}
use Rattle.si_semantics.specs.Actions.{Action, Answer}
use Rattle.si_semantics.specs.Shared.{State, Replied, first_state}
use Rattle.si_semantics.specs.History.{Call, Told}
use Rattle.si_hub.specs.HubCode.{Past}
use Rattle.si_hub.specs.Hubs.{IsTold, reply_at, with_call, call}
use Rattle.si_interp.specs.Meaning.{Logged, InterpView, Ready, At, answers_of, course_stand, StoodAt, Stood}
use Rattle.si_interp.proofs.Logs.{course_first}
use Rattle.si_world.specs.Legal.{Exchange, exchange, chosen, calls_of, answers_to, exchanges}
use Rattle.si_world.specs.Worlds.{WorldView, created, IsMember, IsWorld}
use Rattle.si_world.specs.Core.{Core, core, core_turn, core_run, core_of}
use Rattle.si_world.proofs.Lists.{calls-own, calls-other}
use Rattle.si_world.proofs.Coring.{not_le, answers-exchanges}
use Rattle.si_world.proofs.Turning.{beyond}
use Rattle.si_replay.specs.Order.{lines_of, last_at, log_of, call_turns, turns_for, rest_turns, order_of}
use Rattle.si_replay.proofs.Histories.{past_at, created_if, told_at, caller_created}

-- the lines that each interpreter, numbered from i on, had run at its last call of these
abbrev pub locals_for : ℕ → List InterpView → List Call → List ℕ
locals_for i [] done = []
locals_for i (v ∷ vs) done = last_at v.log (length (calls_of i done)) ∷ locals_for (i + 1) vs done

-- the core after these calls
abbrev pub core_at : WorldView → List Call → Core
core_at w done = core (past_at w.past done) (locals_for 0 w.interps done)

-- a log whose calls are split is split
split_log : (es : List Exchange) (e : Exchange) (fs : List Exchange) (log : List Logged) → exchanges log ≡ es ++ e ∷ fs
    → (pre : List Logged) × (l : Logged) × (post : List Logged) × (log ≡ pre ++ l ∷ post) × (exchanges pre ≡ es) × (exchange l.action l.answer ≡ e)
split_log [] e fs [] h = cc
split_log [] e fs (l ∷ ls) h = let k : exchange l.action l.answer ≡ e = cc in ([], l, ls, refl, refl, k)
split_log (x ∷ es) e fs [] h = cc
split_log (x ∷ es) e fs (l ∷ ls) h =
    let t : exchanges ls ≡ es ++ e ∷ fs = cc in
    let k : exchange l.action l.answer ≡ x = cc in
    let r = split_log es e fs ls t in
    (l ∷ r.0, r.1, r.2, ap (λ (x : List Logged). l ∷ x) r.3, ap (λ (y : List Exchange). exchange l.action l.answer ∷ y) r.4 ∙ ap (λ (y : Exchange). y ∷ es) k, r.5)

last_of : ℕ → List Logged → ℕ
last_of low [] = low
last_of low (l ∷ ls) = last_of l.at ls

stood_at : (i : ℕ) (before : List Answer) (low high : ℕ) (pre : List Logged) (l : Logged) (post : List Logged) → Stood i before low (pre ++ l ∷ post) high
    → (last_of low pre ≤ l.at) × StoodAt i (before ++ answers_of pre) l.action l.at × Stood i ((before ++ answers_of pre) ++ l.answer ∷ []) l.at post high
unfolding last_of
stood_at i before low high [] l post h = (h.0, (let x = h.1 in rw (append-nil before) x), (let x = h.2 in rw (append-nil before) x))
stood_at i before low high (p ∷ pre) l post h =
    let r = stood_at i (before ++ p.answer ∷ []) p.at high pre l post h.2 in
    let a : (before ++ p.answer ∷ []) ++ answers_of pre ≡ before ++ (p.answer ∷ answers_of pre) = append_assoc before (p.answer ∷ []) (answers_of pre) in
    (r.0, subst (λ (rs : List Answer). StoodAt i rs l.action l.at) a r.1, subst (λ (rs : List Answer). Stood i (rs ++ l.answer ∷ []) l.at post high) a r.2)

stood_high : (i : ℕ) (before : List Answer) (low high : ℕ) (log : List Logged) → Stood i before low log high → low ≤ high
stood_high i before low high [] h = h
stood_high i before low high (l ∷ ls) h = let k = stood_high i (before ++ l.answer ∷ []) l.at high ls h.2 in let m = h.0 in omega arith

set_twice : (ls : List ℕ) (i a b : ℕ) → set (set ls i a) i b ≡ set ls i b
set_twice [] i a b = refl
set_twice (x ∷ ls) zero a b = refl
set_twice (x ∷ ls) (suc i) a b = ap (λ (ys : List ℕ). x ∷ ys) (set_twice ls i a b)

set_here : (ls : List ℕ) (i l : ℕ) → slice_index ls i ≡ l → set ls i l ≡ ls
set_here [] i l e = refl
set_here (x ∷ ls) zero l e = ap (λ (y : ℕ). y ∷ ls) (sym e)
set_here (x ∷ ls) (suc i) l e = ap (λ (ys : List ℕ). x ∷ ys) (set_here ls i l e)

index_set : (ls : List ℕ) (i l : ℕ) → i < length ls → slice_index (set ls i l) i ≡ l
index_set [] i l h = absurd (omega arith)
index_set (x ∷ ls) zero l h = refl
index_set (x ∷ ls) (suc i) l h = index_set ls i l (omega arith)

-- one local turn
local_turn : (p : Past) (ls : List ℕ) (i l : ℕ) → slice_index ls i ≡ l → i < created p → l < p.limits.turns → course_stand i (answers_to i p.journal) l ≡ Ready
    → (core_turn (core p ls) i).1 ≡ core p (set ls i (l + 1))
unfolding core_turn
local_turn p ls i l e c t r =
    let a : nat_le (created p) i ≡ false = not_le _ _ c in
    let b : course_stand i (answers_to i p.journal) (slice_index ls i) ≡ Ready = ap (λ (n : ℕ). course_stand i (answers_to i p.journal) n) e ∙ r in
    let d : nat_le p.limits.turns (slice_index ls i) ≡ false = not_le _ _ (let k = e in omega arith) in
    rw (a, b, d, e) refl

-- the turn of an action
act_turn : (p : Past) (ls : List ℕ) (i l : ℕ) (a : Action) (r : Answer) (t : State) → slice_index ls i ≡ l → i < created p → course_stand i (answers_to i p.journal) l ≡ At a
    → reply_at p i a ≡ Replied r t → (core_turn (core p ls) i).1 ≡ core (with_call (call i a r) p) ls
unfolding core_turn
act_turn p ls i l a r t e c s q =
    let x : nat_le (created p) i ≡ false = not_le _ _ c in
    let b : course_stand i (answers_to i p.journal) (slice_index ls i) ≡ At a = ap (λ (n : ℕ). course_stand i (answers_to i p.journal) n) e ∙ s in
    rw (x, b, q) refl

-- so many local turns of one interpreter
local_turns : (n : ℕ) (p : Past) (ls : List ℕ) (i l : ℕ) → i < length ls → slice_index ls i ≡ l → i < created p → l + n ≤ p.limits.turns
    → ((k : ℕ) → k < l + n → course_stand i (answers_to i p.journal) k ≡ Ready) → (core_run (core p ls) (replicate n i)).1 ≡ core p (set ls i (l + n))
local_turns zero p ls i l w e c t r = let k : slice_index ls i ≡ l + 0 = (let z = e in omega arith) in ap (core p) (sym (set_here ls i (l + 0) k))
local_turns (suc n) p ls i l w e c t r =
    let one = local_turn p ls i l e c (omega arith) (r l (omega arith)) in
    let len : length (set ls i (l + 1)) ≡ length ls = length-set ls i (l + 1) in
    let more = local_turns n p (set ls i (l + 1)) i (l + 1) (omega arith) (index_set ls i (l + 1) w) c (omega arith) (λ k lt. r k (omega arith)) in
    let sum : (l + 1) + n ≡ l + suc n = omega arith in
    ap (λ (d : Core). (core_run d (replicate n i)).1) one ∙ more ∙ ap (core p) (set_twice ls i (l + 1) ((l + 1) + n) ∙ ap (set ls i) sum)

run-append : (c : Core) (is js : List ℕ) → (core_run c (is ++ js)).1 ≡ (core_run (core_run c is).1 js).1
run-append c [] js = refl
run-append c (i ∷ is) js = run-append (core_turn c i).1 is js

-- the turns of one call
call_run : (p : Past) (ls : List ℕ) (i from to : ℕ) (a : Action) (r : Answer) (t : State) → i < length ls → slice_index ls i ≡ from → from ≤ to → i < created p → to ≤ p.limits.turns
    → StoodAt i (answers_to i p.journal) a to → reply_at p i a ≡ Replied r t
    → (core_run (core p ls) (replicate (to - from) i ++ i ∷ [])).1 ≡ core (with_call (call i a r) p) (set ls i to)
call_run p ls i from to a r t w e o c l s q =
    let n = to - from in
    let sum : from + (to - from) ≡ to = omega arith in
    let some = local_turns (to - from) p ls i from w e c (omega arith) (λ k lt. s.ready k (omega arith)) in
    let here : (core_run (core p ls) (replicate (to - from) i)).1 ≡ core p (set ls i to) = some ∙ ap (λ (x : ℕ). core p (set ls i x)) sum in
    run-append (core p ls) (replicate (to - from) i) (i ∷ []) ∙ ap (λ (d : Core). (core_run d (i ∷ [])).1) here
    ∙ act_turn p (set ls i to) i to a r t (index_set ls i to w) c s.here q

-- the lines made up to each interpreter's last call
locals_length : (i : ℕ) (vs : List InterpView) (done : List Call) → length (locals_for i vs done) ≡ length vs
locals_length i [] done = refl
locals_length i (v ∷ vs) done = ap suc (locals_length (i + 1) vs done)

locals_index : (i : ℕ) (vs : List InterpView) (done : List Call) (k : ℕ) (v : InterpView) → slice_get vs k ≡ Some v → slice_index (locals_for i vs done) k ≡ last_at v.log (length (calls_of (i + k) done))
locals_index i [] done k v e = cc
locals_index i (x ∷ vs) done zero v e =
    let s : x ≡ v = cc in let n : i ≡ i + 0 = omega arith in
    ap (λ (y : InterpView). last_at y.log (length (calls_of i done))) s ∙ ap (λ (m : ℕ). last_at v.log (length (calls_of m done))) n
locals_index i (x ∷ vs) done (suc k) v e =
    let n : (i + 1) + k ≡ i + suc k = omega arith in
    locals_index (i + 1) vs done k v e ∙ ap (λ (m : ℕ). last_at v.log (length (calls_of m done))) n

locals_other : (i : ℕ) (vs : List InterpView) (done : List Call) (c : Call) → c.by < i → locals_for i vs (done ++ c ∷ []) ≡ locals_for i vs done
locals_other i [] done c lt = refl
locals_other i (v ∷ vs) done c lt =
    let ne : c.by ≢ i = omega arith in
    let a = ap (λ (es : List Exchange). last_at v.log (length es)) (calls-other i done c ne) in
    let b = locals_other (i + 1) vs done c (omega arith) in
    ap (λ (x : ℕ). x ∷ locals_for (i + 1) vs (done ++ c ∷ [])) a ∙ ap (λ (xs : List ℕ). last_at v.log (length (calls_of i done)) ∷ xs) b

locals_more : (i : ℕ) (vs : List InterpView) (done : List Call) (c : Call) (k : ℕ) (v : InterpView) → slice_get vs k ≡ Some v → c.by ≡ i + k
    → locals_for i vs (done ++ c ∷ []) ≡ set (locals_for i vs done) k (last_at v.log (suc (length (calls_of c.by done))))
locals_more i [] done c k v e b = cc
locals_more i (x ∷ vs) done c zero v e b =
    let s : x ≡ v = cc in
    let n : c.by ≡ i = omega arith in
    let len : length (calls_of i (done ++ c ∷ [])) ≡ suc (length (calls_of c.by done)) =
    ap (λ (es : List Exchange). length es) (calls-own i done c n) ∙ length-append (calls_of i done) (exchange c.action c.answer ∷ []) ∙ (let z : length (calls_of i done) + 1 ≡ suc (length (calls_of i done)) = omega arith in z)
    ∙ ap (λ (m : ℕ). suc (length (calls_of m done))) (sym n) in
    ap (λ (y : InterpView). last_at y.log (length (calls_of i (done ++ c ∷ []))) ∷ locals_for (i + 1) vs (done ++ c ∷ [])) s
    ∙ ap (λ (m : ℕ). last_at v.log m ∷ locals_for (i + 1) vs (done ++ c ∷ [])) len
    ∙ ap (λ (xs : List ℕ). last_at v.log (suc (length (calls_of c.by done))) ∷ xs) (locals_other (i + 1) vs done c (omega arith))
locals_more i (x ∷ vs) done c (suc k) v e b =
    let ne : c.by ≢ i = omega arith in
    let a = ap (λ (es : List Exchange). last_at x.log (length es)) (calls-other i done c ne) in
    let n : c.by ≡ (i + 1) + k = omega arith in
    let t = locals_more (i + 1) vs done c k v e n in
    ap (λ (y : ℕ). y ∷ locals_for (i + 1) vs (done ++ c ∷ [])) a ∙ ap (λ (xs : List ℕ). last_at x.log (length (calls_of i done)) ∷ xs) t

chosen_more : (b : Bool) (x : Exchange) (xs ys : List Exchange) → chosen b x (xs ++ ys) ≡ chosen b x xs ++ ys
chosen_more true x xs ys = refl
chosen_more false x xs ys = refl

calls-append : (i : ℕ) (xs ys : List Call) → calls_of i (xs ++ ys) ≡ calls_of i xs ++ calls_of i ys
calls-append i [] ys = refl
calls-append i (x ∷ xs) ys = ap (λ (es : List Exchange). chosen (x.by == i) (exchange x.action x.answer) es) (calls-append i xs ys) ∙ chosen_more (x.by == i) (exchange x.action x.answer) (calls_of i xs) (calls_of i ys)

pub calls-split : (done : List Call) (c : Call) (cs : List Call) → calls_of c.by (done ++ c ∷ cs) ≡ calls_of c.by done ++ exchange c.action c.answer ∷ calls_of c.by cs
calls-split done c cs = calls-append c.by done (c ∷ cs) ∙ ap (λ (b : Bool). calls_of c.by done ++ chosen b (exchange c.action c.answer) (calls_of c.by cs)) (eq-eqb c.by c.by refl)

pub no_calls : (xs ys : List Exchange) (e : Exchange) → (let none : List Exchange = [] in xs ++ e ∷ ys ≡ none) → ⊥
no_calls [] ys e h = cc
no_calls (x ∷ xs) ys e h = cc

get_last : (p : Logged) (ps rest : List Logged) → lines_of (slice_get ((p ∷ ps) ++ rest) (length ps)) ≡ last_of p.at ps
unfolding last_of
get_last p [] rest = refl
get_last p (q ∷ ps) rest = get_last q ps rest

last_pre : (pre rest : List Logged) → last_at (pre ++ rest) (length pre) ≡ last_of 0 pre
unfolding last_of
last_pre [] rest = refl
last_pre (p ∷ ps) rest = get_last p ps rest

get_mid : (pre : List Logged) (l : Logged) (post : List Logged) → lines_of (slice_get (pre ++ l ∷ post) (length pre)) ≡ l.at
get_mid [] l post = refl
get_mid (p ∷ ps) l post = get_mid ps l post

length_ex : (log : List Logged) → length (exchanges log) ≡ length log
length_ex [] = refl
length_ex (l ∷ ls) = ap suc (length_ex ls)

stood_as : (i j : ℕ) (rs ss : List Answer) (a b : Action) (l m : ℕ) → j ≡ i → rs ≡ ss → a ≡ b → m ≡ l → StoodAt j rs a l → StoodAt i ss b m
stood_as i j rs ss a b l m e f g h s =
    subst (λ (x : ℕ). StoodAt x ss b m) e (subst (λ (x : List Answer). StoodAt j x b m) f (subst (λ (x : Action). StoodAt j rs x m) g (subst (λ (x : ℕ). StoodAt j rs a x) (sym h) s)))

-- what is known of one call: the lines at the call before it, and at it
record IsCall (w : WorldView) (done : List Call) (c : Call) (v : InterpView) : Type 0 where
  pub rises : last_at v.log (length (calls_of c.by done)) ≤ last_at v.log (suc (length (calls_of c.by done)))
  pub within : last_at v.log (suc (length (calls_of c.by done))) ≤ w.past.limits.turns
  pub stood : StoodAt c.by (answers_to c.by done) c.action (last_at v.log (suc (length (calls_of c.by done))))

call_is : (w : WorldView) (done : List Call) (c : Call) (cs : List Call) (v : InterpView) → done ++ c ∷ cs ≡ w.past.journal → IsMember w.past c.by v → IsCall w done c v
call_is w done c cs v e m =
    let i = c.by in
    let s = split_log (calls_of i done) (exchange c.action c.answer) (calls_of i cs) v.log (sym m.log ∙ ap (calls_of i) (sym e) ∙ calls-split done c cs) in
    let pre = s.0 in let l = s.1 in let post = s.2 in
    let stood : Stood v.id [] 0 (pre ++ l ∷ post) v.locals = subst (λ (x : List Logged). Stood v.id [] 0 x v.locals) s.3 m.shows.stood in
    let r = stood_at v.id [] 0 v.locals pre l post stood in
    let n : length (calls_of i done) ≡ length pre = ap (λ (es : List Exchange). length es) (sym s.4) ∙ length_ex pre in
    let from : last_at v.log (length (calls_of i done)) ≡ last_of 0 pre = ap (λ (x : List Logged). last_at x (length (calls_of i done))) s.3 ∙ ap (last_at (pre ++ l ∷ post)) n ∙ last_pre pre (l ∷ post) in
    let to : last_at v.log (suc (length (calls_of i done))) ≡ l.at = ap (λ (x : List Logged). last_at x (suc (length (calls_of i done)))) s.3 ∙ ap (λ (k : ℕ). lines_of (slice_get (pre ++ l ∷ post) k)) n ∙ get_mid pre l post in
    let rs : answers_of pre ≡ answers_to i done = sym (answers-exchanges pre) ∙ ap (λ (es : List Exchange). map (λ (x : Exchange). x.answer) es) s.4 in
    let act : l.action ≡ c.action = ap (λ (x : Exchange). x.action) s.5 in
    let top = stood_high v.id (answers_of pre ++ l.answer ∷ []) l.at v.locals post r.2 in
    record {
      rises = let a = r.0 in omega arith;
      within = let a = m.locals in omega arith;
      stood = stood_as c.by v.id (answers_of pre) (answers_to i done) l.action c.action l.at _ m.id rs act to r.1;
    }

zero_add_of : (n : ℕ) → 0 + n ≡ n
zero_add_of n = omega arith

one_call : (w : WorldView) → IsWorld w → (done : List Call) (c : Call) (cs : List Call) (o : Option InterpView) → done ++ c ∷ cs ≡ w.past.journal → slice_get w.interps c.by ≡ o
    → (core_run (core_at w done) (call_turns (log_of o) (length (calls_of c.by done)) c.by)).1 ≡ core_at w (done ++ c ∷ [])
one_call w h done c cs None e g =
    let none = h.others c.by (beyond w.interps c.by g) in
    absurd (no_calls (calls_of c.by done) (calls_of c.by cs) (exchange c.action c.answer) (sym (calls-split done c cs) ∙ ap (calls_of c.by) e ∙ none))
one_call w h done c cs (Some v) e g =
    let m = h.each c.by v g in
    let k = call_is w done c cs v e m in
    let ls = locals_for 0 w.interps done in
    let t = told_at w.past.limits.interpreters (first_state w.past.script) done c cs (subst (λ (j : List Call). Told w.past.limits.interpreters (first_state w.past.script) j) (sym e) h.told) in
    let lt : c.by < length ls = (let a = locals_length 0 w.interps done in let b = slice_get_within w.interps c.by v g in omega arith) in
    let at : slice_index ls c.by ≡ last_at v.log (length (calls_of c.by done)) = locals_index 0 w.interps done c.by v g ∙ ap (λ (n : ℕ). last_at v.log (length (calls_of n done))) (zero_add_of c.by) in
    call_run (past_at w.past done) ls c.by _ _ c.action c.answer _ lt at k.rises (created_if _ _ _ _ _ _ t) k.within k.stood t
    ∙ ap (core (past_at w.past (done ++ c ∷ []))) (sym (locals_more 0 w.interps done c c.by v g (sym (zero_add_of c.by))))

-- the turns for the journal lead the core through it
ordered : (w : WorldView) → IsWorld w → (done cs : List Call) → done ++ cs ≡ w.past.journal → (core_run (core_at w done) (turns_for w.interps done cs)).1 ≡ core_at w w.past.journal
ordered w h done [] e = ap (core_at w) (sym (append-nil done) ∙ e)
ordered w h done (c ∷ cs) e =
    let turns = call_turns (log_of (slice_get w.interps c.by)) (length (calls_of c.by done)) c.by in
    run-append (core_at w done) turns (turns_for w.interps (done ++ c ∷ []) cs)
    ∙ ap (λ (d : Core). (core_run d (turns_for w.interps (done ++ c ∷ []) cs)).1) (one_call w h done c cs (slice_get w.interps c.by) e refl)
    ∙ ordered w h (done ++ c ∷ []) cs (append_assoc done (c ∷ []) cs ∙ e)

lasts : List InterpView → List ℕ
lasts vs = map (λ v. last_at v.log (length v.log)) vs

locals_last : (i : ℕ) (vs : List InterpView) (js : List Call) → ((k : ℕ) (v : InterpView) → slice_get vs k ≡ Some v → calls_of (i + k) js ≡ exchanges v.log) → locals_for i vs js ≡ lasts vs
unfolding lasts
locals_last i [] js h = refl
locals_last i (v ∷ vs) js h =
    let n : i ≡ i + 0 = omega arith in
    let len : length (calls_of i js) ≡ length v.log = ap (λ (m : ℕ). length (calls_of m js)) n ∙ ap (λ (es : List Exchange). length es) (h 0 v refl) ∙ length_ex v.log in
    let more = locals_last (i + 1) vs js (λ k u e. let s : (i + 1) + k ≡ i + suc k = omega arith in ap (λ (m : ℕ). calls_of m js) s ∙ h (suc k) u e) in
    ap (λ (m : ℕ). last_at v.log m ∷ locals_for (i + 1) vs js) len ∙ ap (λ (xs : List ℕ). last_at v.log (length v.log) ∷ xs) more

index_mid : (pre : List ℕ) (x : ℕ) (ys : List ℕ) → slice_index (pre ++ x ∷ ys) (length pre) ≡ x
index_mid [] x ys = refl
index_mid (p ∷ pre) x ys = index_mid pre x ys

set_mid : (pre : List ℕ) (x y : ℕ) (ys : List ℕ) → set (pre ++ x ∷ ys) (length pre) y ≡ pre ++ y ∷ ys
set_mid [] x y ys = refl
set_mid (p ∷ pre) x y ys = ap (λ (zs : List ℕ). p ∷ zs) (set_mid pre x y ys)

-- what is known of the last stretch of an interpreter
record IsLast (p : Past) (i : ℕ) (v : InterpView) : Type 0 where
  pub rises : last_at v.log (length v.log) ≤ v.locals
  pub within : v.locals ≤ p.limits.turns
  pub ready : (k : ℕ) → k < v.locals → course_stand i (answers_to i p.journal) k ≡ Ready
  pub created : last_at v.log (length v.log) < v.locals → i < created p

-- the turns up to these lines, of which there may be none
turns_or_none : (n : ℕ) (p : Past) (ls : List ℕ) (i x to : ℕ) → i < length ls → slice_index ls i ≡ x → x + n ≡ to → to ≤ p.limits.turns
    → ((k : ℕ) → k < to → course_stand i (answers_to i p.journal) k ≡ Ready) → (0 < n → i < created p) → (core_run (core p ls) (replicate n i)).1 ≡ core p (set ls i to)
turns_or_none zero p ls i x to w e s t r c = let k : slice_index ls i ≡ to = (let z = e in omega arith) in ap (core p) (sym (set_here ls i to k))
turns_or_none (suc n) p ls i x to w e s t r c = local_turns (suc n) p ls i x w e (c (omega arith)) (omega arith) (λ k lt. r k (omega arith)) ∙ ap (λ (y : ℕ). core p (set ls i y)) s

rest_run : (p : Past) (pre : List ℕ) (i : ℕ) (vs : List InterpView) → length pre ≡ i → ((k : ℕ) (v : InterpView) → slice_get vs k ≡ Some v → IsLast p (i + k) v)
    → (core_run (core p (pre ++ lasts vs)) (rest_turns i vs)).1 ≡ core p (pre ++ map (λ v. v.locals) vs)
unfolding lasts
rest_run p pre i [] e h = refl
rest_run p pre i (v ∷ vs) e h =
    let z : i + 0 ≡ i = omega arith in
    let f : IsLast p i v = subst (λ (n : ℕ). IsLast p n v) z (h 0 v refl) in
    let x = last_at v.log (length v.log) in
    let ls = pre ++ x ∷ lasts vs in
    let lt : i < length ls = (let a = length-append pre (x ∷ lasts vs) in omega arith) in
    let at : slice_index ls i ≡ x = subst (λ (n : ℕ). slice_index ls n ≡ x) e (index_mid pre x (lasts vs)) in
    let sum : x + (v.locals - x) ≡ v.locals = (let a = f.rises in omega arith) in
    let tw = f.within in
    let here : (core_run (core p ls) (replicate (v.locals - x) i)).1 ≡ core p (set ls i v.locals) =
    turns_or_none (v.locals - x) p ls i x v.locals lt at sum f.within f.ready (λ some. f.created (omega arith)) in
    let moved : set ls i v.locals ≡ (pre ++ v.locals ∷ []) ++ lasts vs = subst (λ (n : ℕ). set ls n v.locals ≡ pre ++ v.locals ∷ lasts vs) e (set_mid pre x v.locals (lasts vs)) ∙ sym (append_assoc pre (v.locals ∷ []) (lasts vs)) in
    let len : length (pre ++ v.locals ∷ []) ≡ i + 1 = (let a = length-append pre (v.locals ∷ []) in omega arith) in
    let more = rest_run p (pre ++ v.locals ∷ []) (i + 1) vs len (λ k u g. let s : i + suc k ≡ (i + 1) + k = omega arith in subst (λ (n : ℕ). IsLast p n u) s (h (suc k) u g)) in
    run-append (core p ls) (replicate (v.locals - x) i) (rest_turns (i + 1) vs)
    ∙ ap (λ (d : Core). (core_run d (rest_turns (i + 1) vs)).1) (here ∙ ap (core p) moved)
    ∙ more ∙ ap (core p) (append_assoc pre (v.locals ∷ []) (map (λ (u : InterpView). u.locals) vs))

stood_last : (i : ℕ) (before : List Answer) (low high : ℕ) (log : List Logged) → Stood i before low log high → last_of low log ≤ high
unfolding last_of
stood_last i before low high [] h = h
stood_last i before low high (l ∷ ls) h = stood_last i (before ++ l.answer ∷ []) l.at high ls h.2

find_by : (i : ℕ) (c : Call) (js : List Call) (e : Exchange) (es : List Exchange) (b : Bool) → (c.by == i) ≡ b → chosen b (exchange c.action c.answer) (calls_of i js) ≡ e ∷ es
    → ((g : Exchange) (gs : List Exchange) → calls_of i js ≡ g ∷ gs → (done : List Call) × (d : Call) × (cs : List Call) × (js ≡ done ++ d ∷ cs) × (d.by ≡ i))
    → (done : List Call) × (d : Call) × (cs : List Call) × (c ∷ js ≡ done ++ d ∷ cs) × (d.by ≡ i)
find_by i c js e es true t h so = ([], c, js, refl, eqb-true c.by i t)
find_by i c js e es false t h so = let r = so e es h in (c ∷ r.0, r.1, r.2, ap (λ (xs : List Call). c ∷ xs) r.3, r.4)

-- a call of an interpreter that has one
find_call : (i : ℕ) (js : List Call) (e : Exchange) (es : List Exchange) → calls_of i js ≡ e ∷ es → (done : List Call) × (c : Call) × (cs : List Call) × (js ≡ done ++ c ∷ cs) × (c.by ≡ i)
find_call i [] e es h = cc
find_call i (c ∷ js) e es h = find_by i c js e es (c.by == i) refl h (find_call i js)

created_by : (w : WorldView) → IsWorld w → (i : ℕ) (v : InterpView) (log : List Logged) → v.log ≡ log → IsMember w.past i v
    → ((k : ℕ) → k < v.locals → course_stand i (answers_to i w.past.journal) k ≡ Ready) → last_at v.log (length v.log) < v.locals → i < created w.past
created_by w h i v [] e m ready lt =
    let none : answers_to i w.past.journal ≡ [] = ap (λ (es : List Exchange). map (λ (x : Exchange). x.answer) es) (m.log ∙ ap exchanges e) in
    let a : course_stand i [] 0 ≡ Ready = ap (λ (rs : List Answer). course_stand i rs 0) (sym none) ∙ ready 0 (omega arith) in
    let b = course_first i in
    cc
created_by w h i v (l ∷ ls) e m ready lt =
    let f = find_call i w.past.journal (exchange l.action l.answer) (exchanges ls) (m.log ∙ ap exchanges e) in
    let t = caller_created w.past f.0 f.1 f.2 (subst (λ (j : List Call). IsTold (past_at w.past j)) f.3 h.told) in
    let n = ap (λ (j : List Call). created (past_at w.past j)) f.3 in
    let b = f.4 in
    omega arith

live : (w : WorldView) → IsWorld w → (i : ℕ) (v : InterpView) → slice_get w.interps i ≡ Some v → IsLast w.past i v
live w h i v at =
    let m = h.each i v at in
    let rs : answers_of v.log ≡ answers_to i w.past.journal = sym (answers-exchanges v.log) ∙ ap (λ (es : List Exchange). map (λ (x : Exchange). x.answer) es) (sym m.log) in
    let last : last_at v.log (length v.log) ≡ last_of 0 v.log = ap (λ (x : List Logged). last_at x (length v.log)) (sym (append-nil v.log)) ∙ last_pre v.log [] in
    let s = stood_last v.id [] 0 v.locals v.log m.shows.stood in
    let ready : (k : ℕ) → k < v.locals → course_stand i (answers_to i w.past.journal) k ≡ Ready =
    λ k lt. ap (λ (n : ℕ). course_stand n (answers_to i w.past.journal) k) (sym m.id) ∙ ap (λ (x : List Answer). course_stand v.id x k) (sym rs) ∙ m.shows.ready k lt in
    record {
      rises = omega arith;
      within = m.locals;
      ready = ready;
      created = created_by w h i v v.log refl m ready;
    }

-- the list of turns of a world leads the core to it
pub order_leads : (w : WorldView) → IsWorld w → (core_run (core_at w []) (order_of w)).1 ≡ core_of w
order_leads w h =
    let e : locals_for 0 w.interps w.past.journal ≡ lasts w.interps = locals_last 0 w.interps w.past.journal (λ k v g. let n : 0 + k ≡ k = omega arith in ap (λ (m : ℕ). calls_of m w.past.journal) n ∙ (h.each k v g).log) in
    run-append (core_at w []) (turns_for w.interps [] w.past.journal) (rest_turns 0 w.interps)
    ∙ ap (λ (d : Core). (core_run d (rest_turns 0 w.interps)).1) (ordered w h [] w.past.journal refl ∙ ap (core w.past) e)
    ∙ rest_run w.past [] 0 w.interps refl (λ k v g. let n : k ≡ 0 + k = omega arith in subst (λ (m : ℕ). IsLast w.past m v) n (live w h k v g))
