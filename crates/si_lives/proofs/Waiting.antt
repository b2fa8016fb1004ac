-- Under more answers an evaluation and a life go alike, until they ask with no answer left; and then they go on.
use Rattle.std.proofs.Common.{◌≡◌, ℕ, zero, suc, ◌+◌, ◌≤◌, ◌<◌, List, [], ◌∷◌, ◌++◌, length, Bool, true, false, Option, Some, None, refl, sym, ap, subst, arith, length-append}
use Rattle.std.specs.Prelude.{nat_eq, slice_get, slice_set}
use Rattle.std.specs.Prelude as prelude
use Rattle.si_plain.specs.declared.kind.Kind.{Kind}
use Rattle.si_semantics.specs.Value.{Text, Value, Str, Function, Module, Address}
use Rattle.si_semantics.specs.Tree.{BooleanOperator, Expr, Exprs, Comparisons, Target, Targets, count_of_targets, Stmt, Stmts, Clauses, functions_of, functions_in, functions_in_clauses}
use Rattle.si_semantics.specs.Tree as tree
use Rattle.si_semantics.specs.Text.{module_name}
use Rattle.si_semantics.specs.Scope.{place_of, locals_of}
use Rattle.si_semantics.specs.World.{World, Request, Bind, Run, Closing, Answer, Taken, Done, Replied, Got, Failed, Wants, Ran, Gave, Threw, Asked, set_global, unset_global}
use Rattle.si_semantics.specs.World as world
use Rattle.si_semantics.specs.Operations.{exception, comparison_message, type_error, raised_by, raised_again, tuple_within, list_within, operate, operate_unary, is_true, compare, load_global, load_local, call_provided, call_by_name, not_callable, wrong_arguments, too_deep, catches, Iterator, iterator_of, Next, Item, Exhausted, Refuses, next_item}
use Rattle.si_semantics.specs.Replies.{reply}
use Rattle.si_semantics.specs.Subscription.{subscript}
use Rattle.si_semantics.specs.Containers.{dict_of, set_item, delete_item, augment, unpacked}
use Rattle.si_semantics.specs.Attributes.{Method, attribute, called, method_of, call_method}
use Rattle.si_semantics.specs.Meaning.{State, Raises, Returns, Breaks, Continues, Result, Gives, Leaves, Asks, Cut, Meaning, Scope, after, with_active, visit, then, printed, raised, asked, ran, slot_at, read, assign, unassign, calls, calls_method, calls_attribute, callee, choose, decides, compared, expr, exprs, operands, chain, done, spread, bind, bind_each, bind_all, after_turn, turn_of, loop, for_loop, over, returning, raising, caught, active_in, finally, named, stmt, stmts, clauses, returned, entered, fitting, run_body, call, max_calls}
use Rattle.si_semantics.specs.Life.{Outcome, Returned, Told, Stops, IsGone, IsCut, outcome_of, not_read, after_end, ends_with, run_ended, module_scope, run_of, takes, life, newborn, life_of}
use Rattle.si_semantics.specs.Laws.{state_of}
use Rattle.si_semantics.proofs.Growing.{state_at, handling, otherwise, lastly, suite_scope}
use Rattle.si_lives.specs.Laws.{Later, with_answers as more, Waits, AnswersWait}
use Rattle.si_lives.proofs.Later.{same, trans, still, visited, asked_first, after_first, ran_later, Goes_on, then_later, after_turn_later, caught_later, finally_later, returned_later, Rest_goes_on, at_first, after_end_first, ends_later, run_ended_later}

-- ---- going alike

-- the second result is the first with more answers left; or the first asks, with none left, and the second goes on from
-- there with the first of more answers taken
abbrev Same : {A : Type 0} → List Answer → Result A → Result A → Type 0
Same b (Gives a s) r = r ≡ Gives a (more b s)
Same b (Leaves p s) r = r ≡ Leaves p (more b s)
Same b (Asks q s) r = (s.answers ≡ []) × Later (record s { answers = after_first b }) (state_at r)
Same b (Cut s) r = r ≡ Cut (more b s)

-- so it is, and the first comes to a later state
abbrev Alike : {A : Type 0} → List Answer → State → Result A → Result A → Type 0
Alike b s r r' = Later s (state_at r) × Same b r r'

-- an evaluation that goes alike under more answers
abbrev Goes : {A : Type 0} → List Answer → Meaning A → Type 0
Goes b f = (s : State) → Alike b s (f s) (f (more b s))

-- from an earlier state
from : {A : Type 0} (b : List Answer) {s t : State} (r r' : Result A) → Later s t → Alike b t r r' → Alike b s r r'
from b r r' g h = (trans g h.0, h.1)

-- from the state before a visit
visits_to : {A : Type 0} (b : List Answer) (s : State) (r r' : Result A) → Alike b (visit s) r r' → Alike b s r r'
visits_to b s r r' h = from b r r' (visited s) h

then_same : {A B : Type 0} (b : List Answer) (r r' : Result A) (f : A → Meaning B) → Same b r r' → ((a : A) → Goes b (f a)) → Same b (then r f) (then r' f)
then_same b (Gives a s) r' f h k = let g = k a s in subst (λ x. Same b (f a s) (then x f)) (sym h) g.1
then_same b (Leaves p s) r' f h k = ap (λ x. then x f) h
then_same b (Asks q s) r' f h k = (h.0, trans h.1 (then_later r' f (λ a t. let g = k a t in g.0)))
then_same b (Cut s) r' f h k = ap (λ x. then x f) h

then_alike : {A B : Type 0} (b : List Answer) (s : State) (r r' : Result A) (f : A → Meaning B) → Alike b s r r' → ((a : A) → Goes b (f a)) → Alike b s (then r f) (then r' f)
then_alike b s r r' f h k = (trans h.0 (then_later r f (λ a t. let g = k a t in g.0)), then_same b r r' f h.1 k)

printed_same : (b : List Answer) (out : Option Text) (v : Value) (s : State) → Same b (Gives v (printed out s)) (Gives v (printed out (more b s)))
printed_same b None v s = refl
printed_same b (Some t) v s = refl

replied_same : (b rest : List Answer) (o : Replied) (s t : State)
    → ((q : Request) (w : World) → Same b (asked rest q (record s { world = w })) (asked (rest ++ b) q (record t { world = w })))
    → (t ≡ record s { answers = t.answers })
    → Same b (elim o [ Got v w ↦ Gives v (record s { world = w; answers = rest }) | Failed k a w ↦ raised (exception k a w) (record s { answers = rest }) | Wants q w ↦ asked rest q (record s { world = w }) ])
    (elim o [ Got v w ↦ Gives v (record t { world = w; answers = rest ++ b }) | Failed k a w ↦ raised (exception k a w) (record t { answers = rest ++ b }) | Wants q w ↦ asked (rest ++ b) q (record t { world = w }) ])
replied_same b rest (Got v w) s t h e = ap (λ u. Gives v (record u { world = w; answers = rest ++ b })) e
replied_same b rest (Failed k a w) s t h e = ap (λ u. raised (exception k a w) (record u { answers = rest ++ b })) e
replied_same b rest (Wants q w) s t h e = h q w

asked_same : (b answers : List Answer) (q : Request) (s : State) (l : List Answer) → Same b (asked answers q s) (asked (answers ++ b) q (record s { answers = l }))
asked_same b [] q s l = (refl, asked_first b q (record s { answers = l }))
asked_same b (a ∷ rest) q s l = replied_same b rest (reply q a s.world) s (record s { answers = l }) (λ q' w. asked_same b rest q' (record s { world = w }) l) refl

ran_same : (b : List Answer) (o : Ran) (s : State) → Same b (ran o s) (ran o (more b s))
ran_same b (Gave v out w) s = printed_same b out v (record s { world = w })
ran_same b (Threw k a w) s = refl
ran_same b (Asked q w) s = asked_same b s.answers q (record s { world = w }) (s.answers ++ b)

ran_alike : (b : List Answer) (o : Ran) → Goes b (ran o)
ran_alike b o s = (ran_later o s, ran_same b o s)

choose_alike : {A : Type 0} (b : List Answer) (s : State) (t : Bool) (r q r' q' : Result A) → Alike b s r r' → Alike b s q q' → Alike b s (choose t r q) (choose t r' q')
choose_alike b s true r q r' q' h k = h
choose_alike b s false r q r' q' h k = k

compared_alike : (b : List Answer) (cs : Comparisons) (t : Value) (rest : Meaning Value) → Goes b rest → Goes b (compared cs t rest)
compared_alike b tree.NoComparisons t rest h s = (same s, refl)
compared_alike b (tree.MoreComparisons o a cs) t rest h s =
    choose_alike b s (is_true t s.world) (rest s) (Gives t s) (rest (more b s)) (Gives t (more b s)) (h s) (same s, refl)

read_alike : (b : List Answer) (x : Text) (p : Option ℕ) → Goes b (read x p)
read_alike b x None s = ran_alike b (load_global x s.world) s
read_alike b x (Some k) s = ran_alike b (load_local x (slot_at k s.slots) s.world) s

assign_alike : (b : List Answer) (x : Text) (p : Option ℕ) (v : Value) → Goes b (assign x p v)
assign_alike b x None v s = (still s (set_global x v s.world) s.slots, refl)
assign_alike b x (Some k) v s = (still s s.world (slice_set s.slots k (Some v)), refl)

unassign_alike : (b : List Answer) (x : Text) (p : Option ℕ) → Goes b (unassign x p)
unassign_alike b x None s = (still s (unset_global x s.world) s.slots, refl)
unassign_alike b x (Some k) s = (still s s.world (slice_set s.slots k None), refl)

raised_alike : (b : List Answer) (x : ℕ × World) → Goes b (raised {A = Unit {0}} x)
raised_alike b x s = (still s x.1 s.slots, refl)

done_alike : (b : List Answer) (o : Ran) → Goes b (done o)
done_alike b o s = then_alike b s _ _ _ (ran_alike b o s) (λ v s1. (same s1, refl))

spread_alike : (b : List Answer) (o : prelude.Result (List Value) Kind) (f : List Value → Meaning (Unit {0})) → ((vs : List Value) → Goes b (f vs)) → Goes b (spread o f)
spread_alike b (prelude.Ok vs) f h s = h vs s
spread_alike b (prelude.Err k) f h s = raised_alike b (exception k (Some (Str (comparison_message k))) s.world) s

over_alike : (b : List Answer) (o : Option Iterator) (f : Iterator → Meaning (Unit {0})) → ((it : Iterator) → Goes b (f it)) → Goes b (over o f)
over_alike b None f h s = raised_alike b (type_error s.world) s
over_alike b (Some it) f h s = h it s

-- ---- going alike, in loops and in `try`

after_turn_same : (b : List Answer) (r r' : Result (Unit {0})) (again : Meaning (Unit {0})) → Same b r r' → Goes b again → Same b (after_turn r again) (after_turn r' again)
after_turn_same b (Gives u s) r' again h k = let g = k s in subst (λ x. Same b (again s) (after_turn x again)) (sym h) g.1
after_turn_same b (Leaves Continues s) r' again h k = let g = k s in subst (λ x. Same b (again s) (after_turn x again)) (sym h) g.1
after_turn_same b (Leaves Breaks s) r' again h k = ap (λ x. after_turn x again) h
after_turn_same b (Leaves (Raises x) s) r' again h k = ap (λ x. after_turn x again) h
after_turn_same b (Leaves (Returns v) s) r' again h k = ap (λ x. after_turn x again) h
after_turn_same b (Asks q s) r' again h k = (h.0, trans h.1 (after_turn_later r' again (λ t. let g = k t in g.0)))
after_turn_same b (Cut s) r' again h k = ap (λ x. after_turn x again) h

after_turn_alike : (b : List Answer) (s : State) (r r' : Result (Unit {0})) (again : Meaning (Unit {0})) → Alike b s r r' → Goes b again → Alike b s (after_turn r again) (after_turn r' again)
after_turn_alike b s r r' again h k = (trans h.0 (after_turn_later r again (λ t. let g = k t in g.0)), after_turn_same b r r' again h.1 k)

loop_alike : (b : List Answer) (n : ℕ) (test : Meaning Value) (body last : Meaning (Unit {0})) → Goes b test → Goes b body → Goes b last → Goes b (loop n test body last)
loop_alike b zero test body last h k l s = (same s, refl)
loop_alike b (suc n) test body last h k l s =
    then_alike b s _ _ _ (visits_to b s _ _ (h (visit s)))
    (λ t s1. choose_alike b s1 (is_true t s1.world) _ _ _ _ (after_turn_alike b s1 (body s1) (body (more b s1)) (loop n test body last) (k s1) (λ s2. loop_alike b n test body last h k l s2)) (l s1))

-- the turns of a `for`, by the next item
items_alike : (b : List Answer) (o : Next) (put : Value → Meaning (Unit {0})) (body last : Meaning (Unit {0})) (again : Iterator → Meaning (Unit {0})) → ((v : Value) → Goes b (put v)) → Goes b body → Goes b last → ((it : Iterator) → Goes b (again it)) → Goes b (turn_of o put body last again)
items_alike b (Item v it) put body last again h k l r s =
    then_alike b s _ _ _ (h v s) (λ u s1. after_turn_alike b s1 (body s1) (body (more b s1)) (again it) (k s1) (λ s2. r it s2))
items_alike b Exhausted put body last again h k l r s = l s
items_alike b (Refuses k message) put body last again h i l r s = raised_alike b (exception k (Some (Str message)) s.world) s

for_loop_alike : (b : List Answer) (n : ℕ) (put : Value → Meaning (Unit {0})) (body last : Meaning (Unit {0})) → ((v : Value) → Goes b (put v)) → Goes b body → Goes b last → (it : Iterator) → Goes b (for_loop n put body last it)
for_loop_alike b zero put body last h k l it s = (same s, refl)
for_loop_alike b (suc n) put body last h k l it s =
    visits_to b s _ _ (items_alike b (next_item it s.world) put body last (for_loop n put body last) h k l (λ j s1. for_loop_alike b n put body last h k l j s1) (visit s))

caught_same : (b : List Answer) (r r' : Result (Unit {0})) (handle : ℕ → Meaning (Unit {0})) (last : Meaning (Unit {0})) → Same b r r' → ((x : ℕ) → Goes b (handle x)) → Goes b last → Same b (caught r handle last) (caught r' handle last)
caught_same b (Gives u s) r' handle last h k l = let g = l s in subst (λ z. Same b (last s) (caught z handle last)) (sym h) g.1
caught_same b (Leaves (Raises x) s) r' handle last h k l = let g = k x s in subst (λ z. Same b (handle x s) (caught z handle last)) (sym h) g.1
caught_same b (Leaves (Returns v) s) r' handle last h k l = ap (λ z. caught z handle last) h
caught_same b (Leaves Breaks s) r' handle last h k l = ap (λ z. caught z handle last) h
caught_same b (Leaves Continues s) r' handle last h k l = ap (λ z. caught z handle last) h
caught_same b (Asks q s) r' handle last h k l = (h.0, trans h.1 (caught_later r' handle last (λ x t. let g = k x t in g.0) (λ t. let g = l t in g.0)))
caught_same b (Cut s) r' handle last h k l = ap (λ z. caught z handle last) h

caught_alike : (b : List Answer) (s : State) (r r' : Result (Unit {0})) (handle : ℕ → Meaning (Unit {0})) (last : Meaning (Unit {0})) → Alike b s r r' → ((x : ℕ) → Goes b (handle x)) → Goes b last → Alike b s (caught r handle last) (caught r' handle last)
caught_alike b s r r' handle last h k l =
    (trans h.0 (caught_later r handle last (λ x t. let g = k x t in g.0) (λ t. let g = l t in g.0)), caught_same b r r' handle last h.1 k l)

finally_same : (b : List Answer) (old : Option ℕ) (r r' : Result (Unit {0})) (last : Option ℕ → Meaning (Unit {0})) → Same b r r' → ((x : Option ℕ) → Goes b (last x)) → Same b (finally old r last) (finally old r' last)
finally_same b old (Gives u s) r' last h k = let g = k old s in subst (λ z. Same b (last old s) (finally old z last)) (sym h) g.1
finally_same b old (Leaves p s) r' last h k =
    let g = k (active_in p old) s in
    subst (λ z. Same b (then (last (active_in p old) s) (λ u s1. Leaves p s1)) (finally old z last)) (sym h)
    (then_same b (last (active_in p old) s) (last (active_in p old) (more b s)) (λ u s1. Leaves p s1) g.1 (λ u s1. (same s1, refl)))
finally_same b old (Asks q s) r' last h k = (h.0, trans h.1 (finally_later old r' last (λ x t. let g = k x t in g.0)))
finally_same b old (Cut s) r' last h k = ap (λ z. finally old z last) h

finally_alike : (b : List Answer) (s : State) (old : Option ℕ) (r r' : Result (Unit {0})) (last : Option ℕ → Meaning (Unit {0})) → Alike b s r r' → ((x : Option ℕ) → Goes b (last x)) → Alike b s (finally old r last) (finally old r' last)
finally_alike b s old r r' last h k = (trans h.0 (finally_later old r last (λ x t. let g = k x t in g.0)), finally_same b old r r' last h.1 k)

-- ---- going alike, of expressions

-- the calls of functions that were read go alike, whatever exception is active
abbrev Calls_go : List Answer → Scope → Type 0
Calls_go b e = (x : Option ℕ) (k : ℕ) (vs : List Value) → Goes b (e.call x k vs)

calls_alike : (b : List Answer) (e : Scope) → Calls_go b e → (g : Value) (vs : List Value) (names : List Text) → Goes b (calls e g vs names)
calls_alike b e h (Function f k) vs [] s = h e.active k vs s
calls_alike b e h g vs [] s = ran_alike b (call_provided g vs s.world) s
calls_alike b e h g vs (x ∷ names) s = ran_alike b (call_by_name g s.world) s

calls_method_alike : (b : List Answer) (e : Scope) → Calls_go b e → (m : Option Method) (g : Value) (vs : List Value) (names : List Text) → Goes b (calls_method e m g vs names)
calls_method_alike b e h None g vs names s = calls_alike b e h g vs names s
calls_method_alike b e h (Some m) g vs names s = ran_alike b (call_method m g vs names s.world) s

calls_attribute_alike : (b : List Answer) (e : Scope) → Calls_go b e → (x : Option Text) (g : Value) (vs : List Value) (names : List Text) → Goes b (calls_attribute e x g vs names)
calls_attribute_alike b e h None g vs names s = calls_alike b e h g vs names s
calls_attribute_alike b e h (Some x) g vs names s = calls_method_alike b e h (method_of g x s.world) g vs names s

callee_alike : (b : List Answer) (x : Option Text) (object : Meaning Value) → Goes b object → Goes b (callee x object)
callee_alike b None object h s = h s
callee_alike b (Some x) object h s = then_alike b _ _ _ _ (visits_to b s _ _ (h (visit s))) (λ v s1. ran_alike b (called v x s1.world) s1)

module _ (b : List Answer) (e : Scope) (calling : Calls_go b e) where
  mutual
    expr_alike : (a : Expr) → Goes b (expr e a)
    expr_alike (tree.Constant v) s = (visited s, refl)
    expr_alike (tree.Name x) s = visits_to b s _ _ (read_alike b x (place_of x e.locals) (visit s))
    expr_alike (tree.Unary o a) s = then_alike b _ _ _ _ (visits_to b s _ _ (expr_alike a (visit s))) (λ v s1. ran_alike b (operate_unary o v s1.world) s1)
    expr_alike (tree.Binary o a c) s =
        then_alike b _ _ _ _ (visits_to b s _ _ (expr_alike a (visit s))) (λ u s1. then_alike b _ _ _ _ (expr_alike c s1) (λ v s2. ran_alike b (operate o u v s2.world) s2))
    expr_alike (tree.Attribute a x) s = then_alike b _ _ _ _ (visits_to b s _ _ (expr_alike a (visit s))) (λ v s1. ran_alike b (attribute v x s1.world) s1)
    expr_alike (tree.Call f x args names) s =
        then_alike b _ _ _ _ (visits_to b s _ _ (callee_alike b x (expr e f) (λ s1. expr_alike f s1) (visit s)))
        (λ g s1. then_alike b _ _ _ _ (exprs_alike args s1) (λ vs s2. calls_attribute_alike b e calling x g vs names s2))
    expr_alike (tree.Subscript a c) s =
        then_alike b _ _ _ _ (visits_to b s _ _ (expr_alike a (visit s))) (λ u s1. then_alike b _ _ _ _ (expr_alike c s1) (λ v s2. ran_alike b (subscript u v s2.world) s2))
    expr_alike (tree.Tuple items) s = then_alike b _ _ _ _ (visits_to b s _ _ (exprs_alike items (visit s))) (λ vs s1. ran_alike b (tuple_within vs s1.world) s1)
    expr_alike (tree.ListDisplay items) s = then_alike b _ _ _ _ (visits_to b s _ _ (exprs_alike items (visit s))) (λ vs s1. ran_alike b (list_within vs s1.world) s1)
    expr_alike (tree.DictDisplay items) s = then_alike b _ _ _ _ (visits_to b s _ _ (exprs_alike items (visit s))) (λ vs s1. ran_alike b (dict_of vs s1.world) s1)
    expr_alike (tree.Boolean o a c) s = then_alike b _ _ _ _ (visits_to b s _ _ (expr_alike a (visit s))) (λ u s1. operands_alike o u c s1)
    expr_alike (tree.Compare a cs) s = then_alike b _ _ _ _ (visits_to b s _ _ (expr_alike a (visit s))) (λ u s1. chain_alike u cs s1)
    expr_alike (tree.Conditional a c d) s =
        then_alike b _ _ _ _ (visits_to b s _ _ (expr_alike a (visit s))) (λ t s1. choose_alike b _ (is_true t s1.world) _ _ _ _ (expr_alike c s1) (expr_alike d s1))

    exprs_alike : (args : Exprs) → Goes b (exprs e args)
    exprs_alike tree.NoExprs s = (same s, refl)
    exprs_alike (tree.MoreExprs a args) s =
        then_alike b _ _ _ _ (expr_alike a s) (λ v s1. then_alike b _ _ _ _ (exprs_alike args s1) (λ vs s2. (same s2, refl)))

    operands_alike : (o : BooleanOperator) (u : Value) (c : Exprs) → Goes b (operands e o u c)
    operands_alike o u tree.NoExprs s = (same s, refl)
    operands_alike o u (tree.MoreExprs a c) s =
        choose_alike b _ (decides o u s.world) _ _ _ _ (same s, refl) (then_alike b _ _ _ _ (expr_alike a s) (λ v s1. operands_alike o v c s1))

    chain_alike : (u : Value) (cs : Comparisons) → Goes b (chain e u cs)
    chain_alike u tree.NoComparisons s = (same s, refl)
    chain_alike u (tree.MoreComparisons o a cs) s =
        then_alike b _ _ _ _ (expr_alike a s)
        (λ v s1. then_alike b _ _ _ _ (ran_alike b (compare o u v s1.world) s1) (λ t s2. compared_alike b cs t (chain e v cs) (λ s3. chain_alike v cs s3) s2))

  mutual
    bind_alike : (t : Target) (v : Value) → Goes b (bind e t v)
    bind_alike (tree.Named x) v s = visits_to b s _ _ (assign_alike b x (place_of x e.locals) v (visit s))
    bind_alike (tree.Item a c) v s =
        then_alike b _ _ _ _ (visits_to b s _ _ (expr_alike a (visit s))) (λ u s1. then_alike b _ _ _ _ (expr_alike c s1) (λ i s2. done_alike b (set_item u i v s2.world) s2))
    bind_alike (tree.Unpack ts) v s = visits_to b s _ _ (spread_alike b (unpacked (count_of_targets ts) v s.world) (bind_each e ts) (λ vs s1. bind_each_alike ts vs s1) (visit s))

    bind_each_alike : (ts : Targets) (vs : List Value) → Goes b (bind_each e ts vs)
    bind_each_alike tree.NoTargets vs s = (same s, refl)
    bind_each_alike (tree.MoreTargets t ts) [] s = (same s, refl)
    bind_each_alike (tree.MoreTargets t ts) (v ∷ vs) s = then_alike b _ _ _ _ (bind_alike t v s) (λ u s1. bind_each_alike ts vs s1)

  bind_all_alike : (ts : Targets) (v : Value) → Goes b (bind_all e ts v)
  bind_all_alike tree.NoTargets v s = (same s, refl)
  bind_all_alike (tree.MoreTargets t ts) v s = then_alike b _ _ _ _ (bind_alike t v s) (λ u s1. bind_all_alike ts v s1)

  returning_alike : (a : Option Expr) → Goes b (returning e a)
  returning_alike None s = (same s, refl)
  returning_alike (Some a) s = then_alike b _ _ _ _ (expr_alike a s) (λ v s1. (same s1, refl))

  raising_alike : (a : Option Expr) → Goes b (raising e a)
  raising_alike None s = raised_alike b (raised_again e.active s.world) s
  raising_alike (Some a) s = then_alike b _ _ _ _ (expr_alike a s) (λ v s1. raised_alike b (raised_by v s1.world) s1)

-- ---- going alike, of statements

named_alike : (b : List Answer) (e : Scope) (y : Option Text) (x : ℕ) (suite : Meaning (Unit {0})) → Goes b suite → Goes b (named e y x suite)
named_alike b e None x suite h s = h s
named_alike b e (Some y) x suite h s =
    let p = place_of y e.locals in
    then_alike b _ _ _ _ (assign_alike b y p (Address x) s)
    (λ u s1. finally_alike b _ e.active (suite s1) (suite (more b s1)) (λ active s2. unassign y p s2) (h s1) (λ active s2. unassign_alike b y p s2))

mutual
  stmt_alike : (b : List Answer) (e : Scope) → Calls_go b e → (a : Stmt) → Goes b (stmt e a)
  stmt_alike b e h (tree.Evaluate a) s = then_alike b _ _ _ _ (visits_to b s _ _ (expr_alike b e h a (visit s))) (λ v s1. (same s1, refl))
  stmt_alike b e h (tree.Assign ts a) s = then_alike b _ _ _ _ (visits_to b s _ _ (expr_alike b e h a (visit s))) (λ v s1. bind_all_alike b e h ts v s1)
  stmt_alike b e h (tree.Augment x o a) s =
      let p = place_of x e.locals in
      then_alike b _ _ _ _ (visits_to b s _ _ (visits_to b (visit s) _ _ (read_alike b x p (visit (visit s)))))
      (λ u s1. then_alike b _ _ _ _ (expr_alike b e h a s1)
      (λ v s2. then_alike b _ _ _ _ (ran_alike b (augment o u v s2.world) s2) (λ z s3. assign_alike b x p z s3)))
  stmt_alike b e h (tree.AugmentItem a c o d) s =
      then_alike b _ _ _ _ (visits_to b s _ _ (visits_to b (visit s) _ _ (expr_alike b e h a (visit (visit s)))))
      (λ u s1. then_alike b _ _ _ _ (expr_alike b e h c s1)
      (λ i s2. then_alike b _ _ _ _ (ran_alike b (subscript u i s2.world) s2)
      (λ y s3. then_alike b _ _ _ _ (expr_alike b e h d s3)
      (λ z s4. then_alike b _ _ _ _ (ran_alike b (augment o y z s4.world) s4) (λ x s5. done_alike b (set_item u i x s5.world) s5)))))
  stmt_alike b e h (tree.Delete a c) s =
      then_alike b _ _ _ _ (visits_to b s _ _ (visits_to b (visit s) _ _ (expr_alike b e h a (visit (visit s)))))
      (λ u s1. then_alike b _ _ _ _ (expr_alike b e h c s1) (λ i s2. done_alike b (delete_item u i s2.world) s2))
  stmt_alike b e h tree.Pass s = (visited s, refl)
  stmt_alike b e h (tree.If a c d) s =
      then_alike b _ _ _ _ (visits_to b s _ _ (expr_alike b e h a (visit s)))
      (λ t s1. choose_alike b _ (is_true t s1.world) _ _ _ _ (stmts_alike b e h c s1) (stmts_alike b (after (functions_in c) e) h d s1))
  stmt_alike b e h (tree.While a c d) s =
      visits_to b s _ _
      (loop_alike b e.turns (expr e a) (stmts e c) (stmts (after (functions_in c) e) d)
      (λ s1. expr_alike b e h a s1) (λ s1. stmts_alike b e h c s1) (λ s1. stmts_alike b (after (functions_in c) e) h d s1) (visit s))
  stmt_alike b e h tree.Break s = (visited s, refl)
  stmt_alike b e h tree.Continue s = (visited s, refl)
  stmt_alike b e h (tree.Define f ps c) s = visits_to b s _ _ (assign_alike b f (place_of f e.locals) (Function f e.first) (visit s))
  stmt_alike b e h (tree.Return a) s = visits_to b s _ _ (returning_alike b e h a (visit s))
  stmt_alike b e h (tree.Global xs) s = (visited s, refl)
  stmt_alike b e h (tree.Import m) s = visits_to b s _ _ (assign_alike b (module_name m) (place_of (module_name m) e.locals) (Module m) (visit s))
  stmt_alike b e h (tree.Raise a) s = visits_to b s _ _ (raising_alike b e h a (visit s))
  stmt_alike b e h (tree.For t a c d) s =
      then_alike b _ _ _ _ (visits_to b s _ _ (expr_alike b e h a (visit s)))
      (λ v s1. over_alike b (iterator_of v s1.world) _
      (λ it s2. for_loop_alike b e.turns (λ u s3. bind e t u s3) (stmts e c) (stmts (after (functions_in c) e) d)
      (λ u s3. bind_alike b e h t u s3) (λ s3. stmts_alike b e h c s3) (λ s3. stmts_alike b (after (functions_in c) e) h d s3) it s2) s1)
  stmt_alike b e h (tree.Try c cs d) s =
      caught_alike b _ (stmts e c (visit s)) (stmts e c (visit (more b s))) (handling e c cs) (otherwise e c cs d) (visits_to b s _ _ (stmts_alike b e h c (visit s)))
      (λ x s1. clauses_alike b (after (functions_in c) (with_active (Some x) e)) h cs x s1) (λ s1. stmts_alike b (after (functions_in c ++ functions_in_clauses cs) e) h d s1)
  stmt_alike b e h (tree.Finally c cs d f) s =
      finally_alike b _ e.active
      (caught (stmts e c (visit s)) (handling e c cs) (otherwise e c cs d)) (caught (stmts e c (visit (more b s))) (handling e c cs) (otherwise e c cs d)) (lastly e c cs d f)
      (caught_alike b _ (stmts e c (visit s)) (stmts e c (visit (more b s))) (handling e c cs) (otherwise e c cs d) (visits_to b s _ _ (stmts_alike b e h c (visit s)))
      (λ x s1. clauses_alike b (after (functions_in c) (with_active (Some x) e)) h cs x s1) (λ s1. stmts_alike b (after (functions_in c ++ functions_in_clauses cs) e) h d s1))
      (λ active s1. stmts_alike b (after (functions_in c ++ (functions_in_clauses cs ++ functions_in d)) (with_active active e)) h f s1)

  stmts_alike : (b : List Answer) (e : Scope) → Calls_go b e → (c : Stmts) → Goes b (stmts e c)
  stmts_alike b e h tree.NoStmts s = (same s, refl)
  stmts_alike b e h (tree.MoreStmts a c) s = then_alike b _ _ _ _ (stmt_alike b e h a s) (λ u s1. stmts_alike b (after (functions_of a) e) h c s1)

  clauses_alike : (b : List Answer) (e : Scope) → Calls_go b e → (cs : Clauses) (x : ℕ) → Goes b (clauses e cs x)
  clauses_alike b e h tree.NoClauses x s = (same s, refl)
  clauses_alike b e h (tree.MoreClauses None y c cs) x s = visits_to b s _ _ (named_alike b e y x (stmts e c) (λ s1. stmts_alike b e h c s1) (visit s))
  clauses_alike b e h (tree.MoreClauses (Some a) y c cs) x s =
      then_alike b _ _ _ _ (visits_to b s _ _ (expr_alike b e h a (visit s)))
      (λ v s1. then_alike b _ _ _ _ (ran_alike b (catches v x s1.world) s1)
      (λ t s2. choose_alike b _ (is_true t s2.world) _ _ _ _ (named_alike b e y x (stmts e c) (λ s3. stmts_alike b e h c s3) s2) (clauses_alike b (after (functions_in c) e) h cs x s2)))

-- ---- going alike, of a call

returned_same : (b : List Answer) (old : List (Option Value)) (r r' : Result (Unit {0})) → Same b r r' → Same b (returned old r) (returned old r')
returned_same b old (Gives u s) r' h = ap (returned old) h
returned_same b old (Leaves (Returns v) s) r' h = ap (returned old) h
returned_same b old (Leaves (Raises x) s) r' h = ap (returned old) h
returned_same b old (Leaves Breaks s) r' h = ap (returned old) h
returned_same b old (Leaves Continues s) r' h = ap (returned old) h
returned_same b old (Asks q s) r' h = (h.0, trans h.1 (returned_later old r'))
returned_same b old (Cut s) r' h = ap (returned old) h

fitting_alike : (b : List Answer) (f : Option tree.Function) (vs : List Value) (go : tree.Function → Meaning Value) → ((g : tree.Function) → Goes b (go g)) → Goes b (fitting f vs go)
fitting_alike b None vs go h s = ran_alike b (not_callable s.world) s
fitting_alike b (Some f) vs go h s =
    choose_alike b _ (nat_eq (length vs) (length f.parameters)) _ _ _ _ (h f s) (ran_alike b (wrong_arguments s.world) s)

run_body_alike : (b : List Answer) (n : ℕ) (calling : Option ℕ → ℕ → List Value → Meaning Value) → ((x : Option ℕ) (k : ℕ) (vs : List Value) → Goes b (calling x k vs)) → (f : tree.Function) (active : Option ℕ) (vs : List Value) → Goes b (run_body n calling f active vs)
run_body_alike b n calling h f active vs s =
    let t = record s { slots = entered (length (locals_of f)) vs } in
    let e = suite_scope n calling f active in
    let g = stmts_alike b e h f.body t in
    (trans (still s s.world t.slots) (trans g.0 (returned_later s.slots (stmts e f.body t))), returned_same b s.slots (stmts e f.body t) (stmts e f.body (more b t)) g.1)

call_alike : (b : List Answer) (fs : List tree.Function) (n d : ℕ) (active : Option ℕ) (k : ℕ) (vs : List Value) → Goes b (call fs n d active k vs)
call_alike b fs n zero active k vs s =
    fitting_alike b (slice_get fs k) vs (λ f s1. ran (too_deep s1.world) s1) (λ f s1. ran_alike b (too_deep s1.world) s1) s
call_alike b fs n (suc d) active k vs s =
    fitting_alike b (slice_get fs k) vs (λ f s1. run_body n (call fs n d) f active vs s1)
    (λ f s1. run_body_alike b n (call fs n d) (λ z j us s2. call_alike b fs n d z j us s2) f active vs s1) s

run_alike : (b : List Answer) (fs : List tree.Function) (n : ℕ) (body : Stmts) → Goes b (run_of fs n body)
run_alike b fs n body s =
    let gs = fs ++ functions_in body in
    stmts_alike b (module_scope gs (length fs) n) (λ x k vs s1. call_alike b gs n max_calls x k vs s1) body s

-- ---- later, of a life

run_later : (fs : List tree.Function) (n : ℕ) (body : Stmts) → Goes_on (run_of fs n body)
run_later fs n body s = let g = run_alike [] fs n body s in g.0

takes_first : (n : ℕ) (fs : List tree.Function) (rest : List tree.Function → State → Told) → ((gs : List tree.Function) → Rest_goes_on (rest gs)) → (answers : List Answer) (s : State) → Later (record s { answers = after_first answers }) (state_of (takes n fs rest answers s))
takes_first n fs rest h [] s = same (record s { answers = [] })
takes_first n fs rest h (Taken (Bind bs) ∷ left) s =
    let w = record s.world { globals = world.bind_all bs s.world.globals } in
    trans (still (record s { answers = left }) w s.slots) (h fs (record s { answers = left; world = w }))
takes_first n fs rest h (Taken (Run None) ∷ left) s = ends_later not_read (rest fs) (h fs) (record s { answers = left })
takes_first n fs rest h (Taken (Run (Some t)) ∷ left) s =
    let s1 = record s { answers = left; slots = [] } in
    let gs = fs ++ functions_in t.body in
    trans (still (record s { answers = left }) s.world []) (trans (run_later fs n t.body s1) (run_ended_later (rest gs) (h gs) (run_of fs n t.body s1)))
takes_first n fs rest h (Taken Closing ∷ left) s = same (record s { answers = left })
takes_first n fs rest h (a ∷ left) s = same (record s { answers = left })

life_later : (n k : ℕ) (fs : List tree.Function) → Rest_goes_on (life n k fs)
life_later n zero fs s = same s
life_later n (suc k) fs s = trans (visited s) (trans (at_first s.answers (visit s)) (takes_first n fs (life n k) (λ gs. life_later n k gs) s.answers (visit s)))

-- ---- going alike, of a life

-- a life stops with no answer left, and the second goes on from there with the first of more answers taken; or the second
-- is gone or cut as the first, with more answers left
abbrev Lives : List Answer → Told → Told → Type 0
Lives b (Stops a s) r = (s.answers ≡ []) × Later (record s { answers = after_first b }) (state_of r)
Lives b (IsGone s) r = r ≡ IsGone (more b s)
Lives b (IsCut s) r = r ≡ IsCut (more b s)

-- no answers are added
no_more : {s t : State} → Later s t → length t.answers ≤ length s.answers
no_more {s} {t} g = let all = ap (λ l. length l) g.answers.1 in omega (arith, all, length-append g.answers.0 t.answers)

-- the rests of two lives, from states with fewer answers than jobs may be taken
abbrev Rests : List Answer → ℕ → (State → Told) → (State → Told) → Type 0
Rests b j rest rest' = (s : State) → length s.answers < j → Lives b (rest s) (rest' (more b s))

module _ (b : List Answer) (j : ℕ) (rest rest' : State → Told) (rests : Rests b j rest rest') (later : Rest_goes_on rest') where
  after_end_alike : (answers : List Answer) → length answers < j → (o : Outcome) (s : State) (l : List Answer) → Lives b (after_end answers o rest s) (after_end (answers ++ b) o rest' (record s { answers = l }))
  after_end_alike [] fewer o s l = (refl, after_end_first b o rest' later (record s { answers = l }))
  after_end_alike (Done ∷ left) fewer o s l = rests (record s { answers = left }) (omega (arith, fewer))
  after_end_alike (a ∷ left) fewer o s l = refl

  ends_alike : (o : Outcome) (s : State) → length s.answers < j → Lives b (ends_with o rest s) (ends_with o rest' (more b s))
  ends_alike o s fewer = after_end_alike s.answers fewer o (visit s) (s.answers ++ b)

  run_ended_alike : (s0 : State) → length s0.answers < j → (r r' : Result (Unit {0})) → Alike b s0 r r' → Lives b (run_ended rest r) (run_ended rest' r')
  run_ended_alike s0 fewer (Gives u s) r' h =
      let le = no_more h.0 in subst (λ x. Lives b (ends_with Returned rest s) (run_ended rest' x)) (sym h.1) (ends_alike Returned s (omega (arith, fewer, le)))
  run_ended_alike s0 fewer (Leaves p s) r' h =
      let o = outcome_of p s.world in
      let le = no_more h.0 in
      subst (λ x. Lives b (ends_with o rest s) (run_ended rest' x)) (sym h.1) (ends_alike o s (omega (arith, fewer, le)))
  run_ended_alike s0 fewer (Asks q s) r' h = let g = h.1 in (g.0, trans g.1 (run_ended_later rest' later r'))
  run_ended_alike s0 fewer (Cut s) r' h = ap (run_ended rest') h.1

module _ (b : List Answer) (fs : List tree.Function) (j : ℕ) (rest rest' : List tree.Function → State → Told) (rests : (gs : List tree.Function) → Rests b j (rest gs) (rest' gs)) (later : (gs : List tree.Function) → Rest_goes_on (rest' gs)) where
  takes_alike : (n : ℕ) (answers : List Answer) → length answers ≤ j → (s : State) (l : List Answer) → Lives b (takes n fs rest answers s) (takes n fs rest' (answers ++ b) (record s { answers = l }))
  takes_alike n [] fewer s l = (refl, takes_first n fs rest' later b (record s { answers = l }))
  takes_alike n (Taken (Bind bs) ∷ left) fewer s l =
      rests fs (record s { answers = left; world = record s.world { globals = world.bind_all bs s.world.globals } }) (omega (arith, fewer))
  takes_alike n (Taken (Run None) ∷ left) fewer s l = ends_alike b j (rest fs) (rest' fs) (rests fs) (later fs) not_read (record s { answers = left }) (omega (arith, fewer))
  takes_alike n (Taken (Run (Some t)) ∷ left) fewer s l =
      let s1 = record s { answers = left; slots = [] } in
      let gs = fs ++ functions_in t.body in
      run_ended_alike b j (rest gs) (rest' gs) (rests gs) (later gs) s1 (omega (arith, fewer)) (run_of fs n t.body s1) (run_of fs n t.body (more b s1)) (run_alike b fs n t.body s1)
  takes_alike n (Taken Closing ∷ left) fewer s l = refl
  takes_alike n (a ∷ left) fewer s l = refl

life_alike : (b : List Answer) (n j k : ℕ) → j ≤ k → (fs : List tree.Function) → Rests b j (life n j fs) (life n k fs)
life_alike b n zero k less fs s fewer = absurd (omega (arith, fewer))
life_alike b n (suc j) zero less fs s fewer = absurd (omega (arith, less))
life_alike b n (suc j) (suc k) less fs s fewer =
    takes_alike b fs j (life n j) (life n k) (λ gs. life_alike b n j k (omega (arith, less)) gs) (λ gs. life_later n k gs) n s.answers (omega (arith, fewer)) (visit s) (s.answers ++ b)

-- ---- the law

waits : (first : Answer) (rest : List Answer) (r r' : Told) → Lives (first ∷ rest) r r' → Waits first rest r r'
waits first rest (Stops a s) r' h = h
waits first rest (IsGone s) r' h = h
waits first rest (IsCut s) r' h = h

pub answers_wait : AnswersWait
answers_wait own n answers first rest =
    let b = first ∷ rest in
    waits first rest (life_of own n answers) (life_of own n (answers ++ b))
    (life_alike b n (length answers + 1) (length (answers ++ b) + 1) (omega (arith, length-append answers b)) [] (newborn own answers) (omega arith))
