-- With more turns and more answers an evaluation and a life go further, and go alike as far as they went.
use Rattle.std.proofs.Common.{◌≡◌, ℕ, zero, suc, ◌+◌, ◌≤◌, List, [], ◌∷◌, ◌++◌, length, Bool, true, false, Option, Some, None, refl, sym, ap, ◌∙◌, subst, arith, length-append}
use Rattle.std.specs.Prelude.{nat_eq, slice_get}
use Rattle.std.proofs.lemmas.List.{append-nil}
use Rattle.si_semantics.specs.Value.{Text, Value, Nothing, Truth, Int, Str, Bytes, Provided, Function, Range, Tuple, Class, Module, Queue, Interpreter, Exec, Address}
use Rattle.si_semantics.specs.Tree.{BinaryOperator, BooleanOperator, Expr, Exprs, Comparisons, Target, Targets, count_of_targets, Stmt, Stmts, Clauses, functions_of, functions_in, functions_in_clauses}
use Rattle.si_semantics.specs.Tree as tree
use Rattle.si_semantics.specs.Scope.{place_of, locals_of}
use Rattle.si_semantics.specs.World.{World, Request, Bind, Run, Closing, Answer, Taken, Done, Replied, Got, Failed, Wants, Ran, Gave, Threw, Asked}
use Rattle.si_semantics.specs.Operations.{exception, tuple_within, list_within, operate, operate_unary, is_true, compare, load_global, load_local, call_provided, call_by_name, not_callable, wrong_arguments, too_deep, raised_by, catches, Iterator, iterator_of, Next, Item, Exhausted, Refuses, next_item}
use Rattle.si_semantics.specs.Replies.{reply}
use Rattle.si_semantics.specs.World as world
use Rattle.si_semantics.specs.Subscription.{subscript}
use Rattle.si_semantics.specs.Containers.{dict_of, set_item, delete_item, augment, unpacked}
use Rattle.si_plain.specs.declared.kind.Kind.{Kind}
use Rattle.std.specs.Prelude as prelude
use Rattle.si_semantics.specs.Attributes.{Method, attribute, called, method_of, call_method}
use Rattle.si_semantics.specs.Text.{module_name}
use Rattle.si_semantics.specs.Meaning.{State, Raises, Returns, Breaks, Continues, Result, Gives, Leaves, Asks, Cut, Meaning, Scope, visit, then, printed, raised, asked, ran, slot_at, read, assign, unassign, calls, calls_method, calls_attribute, callee, choose, decides, compared, expr, exprs, operands, chain, done, spread, bind, bind_each, bind_all, after_turn, turn_of, loop, for_loop, over, returning, raising, caught, active_in, finally, named, stmt, stmts, clauses, returned, entered, fitting, run_body, call, max_calls}
use Rattle.si_semantics.specs.Life.{Outcome, Returned, Told, Stops, IsGone, IsCut, Action, outcome_of, not_read, after_end, ends_with, run_ended, run_of, takes, life, newborn, life_of, end_of}
use Rattle.si_semantics.specs.Laws.{Grows, state_of, OneLife, LivesGrow, GoneStays}
use Rattle.si_semantics.proofs.Growing.{same, trans, state_at, Adds, then_adds, both_add, asked_adds, ran_adds, choose_adds, compared_adds, assign_adds, unassign_adds, raised_adds, done_adds, calls_attribute_add, expr_adds, exprs_add, operands_add, chain_adds, bind_adds, bind_each_add, bind_all_add, after_turn_adds, loop_adds, for_loop_adds, over_adds, caught_adds, finally_adds, named_adds, handling, otherwise, lastly, stored, stored_adds, stmts_add, clauses_add, returned_adds, call_adds, Rest_adds, after_end_adds, run_ended_adds, takes_add, life_adds}

-- ---- going further

-- with more answers at the end
abbrev more : List Answer → State → State
more b s = record s { answers = s.answers ++ b }

-- the second result goes as the first did, as far as that came: it had no answer left, or was cut
abbrev Further : {A : Type 0} → List Answer → Result A → Result A → Type 0
Further b (Gives a s) r = r ≡ Gives a (more b s)
Further b (Leaves p s) r = r ≡ Leaves p (more b s)
Further b (Asks q s) r = Grows s (state_at r) × (b ≡ [] → r ≡ Asks q s)
Further b (Cut s) r = Grows s (state_at r)

then_further : {A B : Type 0} (b : List Answer) (r r' : Result A) (f f' : A → Meaning B) → Further b r r' → ((a : A) (s : State) → Further b (f a s) (f' a (more b s))) → ((a : A) → Adds (f' a)) → Further b (then r f) (then r' f')
then_further b (Gives a s) r' f f' h k g = subst (λ x. Further b (f a s) (then x f')) (sym h) (k a s)
then_further b (Leaves p s) r' f f' h k g = ap (λ x. then x f') h
then_further b (Asks q s) r' f f' h k g = (trans h.0 (then_adds r' f' g), λ e. ap (λ x. then x f') (h.1 e))
then_further b (Cut s) r' f f' h k g = trans h (then_adds r' f' g)

printed_further : (b : List Answer) (out : Option Text) (v : Value) (s : State) → Further b (Gives v (printed out s)) (Gives v (printed out (more b s)))
printed_further b None v s = refl
printed_further b (Some t) v s = refl

replied_further : (b rest : List Answer) (o : Replied) (s t : State) → ((q : Request) (w : World) → Further b (asked rest q (record s { world = w })) (asked (rest ++ b) q (record t { world = w })))
    → (t ≡ record s { answers = t.answers })
    → Further b (elim o [ Got v w ↦ Gives v (record s { world = w; answers = rest }) | Failed k a w ↦ raised (exception k a w) (record s { answers = rest }) | Wants q w ↦ asked rest q (record s { world = w }) ])
    (elim o [ Got v w ↦ Gives v (record t { world = w; answers = rest ++ b }) | Failed k a w ↦ raised (exception k a w) (record t { answers = rest ++ b }) | Wants q w ↦ asked (rest ++ b) q (record t { world = w }) ])
replied_further b rest (Got v w) s t h e = ap (λ u. Gives v (record u { world = w; answers = rest ++ b })) e
replied_further b rest (Failed k a w) s t h e = ap (λ u. raised (exception k a w) (record u { answers = rest ++ b })) e
replied_further b rest (Wants q w) s t h e = h q w

asked_further : (b answers : List Answer) (q : Request) (s : State) (l : List Answer) → Further b (asked answers q s) (asked (answers ++ b) q (record s { answers = l }))
asked_further b [] q s l = let g = asked_adds b q (record s { answers = l }) in (record { pieces = g.pieces; visits = g.visits }, λ e. ap (λ k. asked k q (record s { answers = l })) e)
asked_further b (a ∷ rest) q s l = replied_further b rest (reply q a s.world) s (record s { answers = l }) (λ q' w. asked_further b rest q' (record s { world = w }) l) refl

ran_further : (b : List Answer) (o : Ran) (s : State) → Further b (ran o s) (ran o (more b s))
ran_further b (Gave v out w) s = printed_further b out v (record s { world = w })
ran_further b (Threw k a w) s = refl
ran_further b (Asked q w) s = asked_further b s.answers q (record s { world = w }) (s.answers ++ b)

choose_further : {A : Type 0} (b : List Answer) (t : Bool) (r q r' q' : Result A) → Further b r r' → Further b q q' → Further b (choose t r q) (choose t r' q')
choose_further b true r q r' q' h k = h
choose_further b false r q r' q' h k = k

compared_further : (b : List Answer) (cs : Comparisons) (t : Value) (rest rest' : Meaning Value) → ((s : State) → Further b (rest s) (rest' (more b s))) → (s : State) → Further b (compared cs t rest s) (compared cs t rest' (more b s))
compared_further b tree.NoComparisons t rest rest' h s = refl
compared_further b (tree.MoreComparisons o a cs) t rest rest' h s = choose_further b (is_true t s.world) (rest s) (Gives t s) (rest' (more b s)) (Gives t (more b s)) (h s) refl

after_turn_further : (b : List Answer) (r r' : Result (Unit {0})) (again again' : Meaning (Unit {0})) → Further b r r' → ((s : State) → Further b (again s) (again' (more b s))) → Adds again' → Further b (after_turn r again) (after_turn r' again')
after_turn_further b (Gives u s) r' again again' h k g = subst (λ x. Further b (again s) (after_turn x again')) (sym h) (k s)
after_turn_further b (Leaves Continues s) r' again again' h k g = subst (λ x. Further b (again s) (after_turn x again')) (sym h) (k s)
after_turn_further b (Leaves Breaks s) r' again again' h k g = ap (λ x. after_turn x again') h
after_turn_further b (Leaves (Raises x) s) r' again again' h k g = ap (λ x. after_turn x again') h
after_turn_further b (Leaves (Returns v) s) r' again again' h k g = ap (λ x. after_turn x again') h
after_turn_further b (Asks q s) r' again again' h k g = (trans h.0 (after_turn_adds r' again' g), λ e. ap (λ x. after_turn x again') (h.1 e))
after_turn_further b (Cut s) r' again again' h k g = trans h (after_turn_adds r' again' g)

-- a loop, from what is known of its parts
module _ (b : List Answer) (test test' : Meaning Value) (body body' last last' : Meaning (Unit {0}))
    (tests : (s : State) → Further b (test s) (test' (more b s))) (bodies : (s : State) → Further b (body s) (body' (more b s))) (lasts : (s : State) → Further b (last s) (last' (more b s)))
    (test_adds : Adds test') (body_adds : Adds body') (last_adds : Adds last') where
  loop_further : (n m : ℕ) → n ≤ m → (s : State) → Further b (loop n test body last s) (loop m test' body' last' (more b s))
  loop_further zero m fewer s = let g = loop_adds m test' body' last' test_adds body_adds last_adds (more b s) in record { pieces = g.pieces; visits = g.visits }
  loop_further (suc n) zero fewer s = absurd (omega arith)
  loop_further (suc n) (suc m) fewer s =
      let adds = loop_adds m test' body' last' test_adds body_adds last_adds in
      then_further b _ _ _ _ (tests (visit s))
      (λ t s1. choose_further b (is_true t s1.world) _ _ _ _ (after_turn_further b (body s1) (body' (more b s1)) (loop n test body last) (loop m test' body' last') (bodies s1) (λ s2. loop_further n m (omega arith) s2) adds) (lasts s1))
      (λ t s1. choose_adds (is_true t s1.world) (after_turn (body' s1) (loop m test' body' last')) (last' s1) (trans (body_adds s1) (after_turn_adds (body' s1) (loop m test' body' last') adds)) (last_adds s1))

read_further : (b : List Answer) (x : Text) (p : Option ℕ) (s : State) → Further b (read x p s) (read x p (more b s))
read_further b x None s = ran_further b (load_global x s.world) s
read_further b x (Some k) s = ran_further b (load_local x (slot_at k s.slots) s.world) s

assign_further : (b : List Answer) (x : Text) (p : Option ℕ) (v : Value) (s : State) → Further b (assign x p v s) (assign x p v (more b s))
assign_further b x None v s = refl
assign_further b x (Some k) v s = refl

unassign_further : (b : List Answer) (x : Text) (p : Option ℕ) (s : State) → Further b (unassign x p s) (unassign x p (more b s))
unassign_further b x None s = refl
unassign_further b x (Some k) s = refl

done_further : (b : List Answer) (o : Ran) (s : State) → Further b (done o s) (done o (more b s))
done_further b o s = then_further b _ _ _ _ (ran_further b o s) (λ v s1. refl) (λ v s1. same s1)

spread_further : (b : List Answer) (o : prelude.Result (List Value) Kind) (f f' : List Value → Meaning (Unit {0})) → ((vs : List Value) (s : State) → Further b (f vs s) (f' vs (more b s))) → (s : State) → Further b (spread o f s) (spread o f' (more b s))
spread_further b (prelude.Ok vs) f f' h s = h vs s
spread_further b (prelude.Err k) f f' h s = refl

over_further : (b : List Answer) (o : Option Iterator) (f f' : Iterator → Meaning (Unit {0})) → ((it : Iterator) (s : State) → Further b (f it s) (f' it (more b s))) → (s : State) → Further b (over o f s) (over o f' (more b s))
over_further b None f f' h s = refl
over_further b (Some it) f f' h s = h it s

-- a `for`, from what is known of its parts
module _ (b : List Answer) (put put' : Value → Meaning (Unit {0})) (body body' last last' : Meaning (Unit {0}))
    (puts : (v : Value) (s : State) → Further b (put v s) (put' v (more b s))) (bodies : (s : State) → Further b (body s) (body' (more b s))) (lasts : (s : State) → Further b (last s) (last' (more b s)))
    (put_adds : (v : Value) → Adds (put' v)) (body_adds : Adds body') (last_adds : Adds last') where
  items_further : (o : Next) (n m : ℕ) → ((it : Iterator) (s : State) → Further b (for_loop n put body last it s) (for_loop m put' body' last' it (more b s))) → (s : State)
      → Further b (turn_of o put body last (for_loop n put body last) s) (turn_of o put' body' last' (for_loop m put' body' last') (more b s))
  items_further (Item v it) n m h s =
      let adds = for_loop_adds m put' body' last' put_adds body_adds last_adds it in
      then_further b _ _ _ _ (puts v s)
      (λ u s1. after_turn_further b (body s1) (body' (more b s1)) (for_loop n put body last it) (for_loop m put' body' last' it) (bodies s1) (λ s2. h it s2) adds)
      (λ u s1. trans (body_adds s1) (after_turn_adds (body' s1) (for_loop m put' body' last' it) adds))
  items_further Exhausted n m h s = lasts s
  items_further (Refuses k message) n m h s = refl

  for_loop_further : (n m : ℕ) → n ≤ m → (it : Iterator) (s : State) → Further b (for_loop n put body last it s) (for_loop m put' body' last' it (more b s))
  for_loop_further zero m fewer it s = let g = for_loop_adds m put' body' last' put_adds body_adds last_adds it (more b s) in record { pieces = g.pieces; visits = g.visits }
  for_loop_further (suc n) zero fewer it s = absurd (omega arith)
  for_loop_further (suc n) (suc m) fewer it s = items_further (next_item it s.world) n m (λ j s1. for_loop_further n m (omega arith) j s1) (visit s)

caught_further : (b : List Answer) (r r' : Result (Unit {0})) (handle handle' : ℕ → Meaning (Unit {0})) (last last' : Meaning (Unit {0})) → Further b r r' → ((x : ℕ) (s : State) → Further b (handle x s) (handle' x (more b s))) → ((s : State) → Further b (last s) (last' (more b s))) → ((x : ℕ) → Adds (handle' x)) → Adds last' → Further b (caught r handle last) (caught r' handle' last')
caught_further b (Gives u s) r' handle handle' last last' h k l g a = subst (λ z. Further b (last s) (caught z handle' last')) (sym h) (l s)
caught_further b (Leaves (Raises x) s) r' handle handle' last last' h k l g a = subst (λ z. Further b (handle x s) (caught z handle' last')) (sym h) (k x s)
caught_further b (Leaves (Returns v) s) r' handle handle' last last' h k l g a = ap (λ z. caught z handle' last') h
caught_further b (Leaves Breaks s) r' handle handle' last last' h k l g a = ap (λ z. caught z handle' last') h
caught_further b (Leaves Continues s) r' handle handle' last last' h k l g a = ap (λ z. caught z handle' last') h
caught_further b (Asks q s) r' handle handle' last last' h k l g a = (trans h.0 (caught_adds r' handle' last' g a), λ e. ap (λ z. caught z handle' last') (h.1 e))
caught_further b (Cut s) r' handle handle' last last' h k l g a = trans h (caught_adds r' handle' last' g a)

finally_further : (b : List Answer) (old : Option ℕ) (r r' : Result (Unit {0})) (last last' : Option ℕ → Meaning (Unit {0})) → Further b r r' → ((x : Option ℕ) (s : State) → Further b (last x s) (last' x (more b s))) → ((x : Option ℕ) → Adds (last' x)) → Further b (finally old r last) (finally old r' last')
finally_further b old (Gives u s) r' last last' h k g = subst (λ z. Further b (last old s) (finally old z last')) (sym h) (k old s)
finally_further b old (Leaves p s) r' last last' h k g =
    subst (λ z. Further b (then (last (active_in p old) s) (λ u s1. Leaves p s1)) (finally old z last')) (sym h)
    (then_further b _ _ _ _ (k (active_in p old) s) (λ u s1. refl) (λ u s1. same s1))
finally_further b old (Asks q s) r' last last' h k g = (trans h.0 (finally_adds old r' last' g), λ e. ap (λ z. finally old z last') (h.1 e))
finally_further b old (Cut s) r' last last' h k g = trans h (finally_adds old r' last' g)

-- scopes that differ in the most turns of a loop, and in what a call means, where that goes further too
module _ (b : List Answer) (locals : List Text) (n m : ℕ) (fewer : n ≤ m) (call1 call2 : Option ℕ → ℕ → List Value → Meaning Value)
    (calls_go : (z : Option ℕ) (k : ℕ) (vs : List Value) (s : State) → Further b (call1 z k vs s) (call2 z k vs (more b s))) (adds : (z : Option ℕ) (k : ℕ) (vs : List Value) → Adds (call2 z k vs)) where
  abbrev scope1 : Option ℕ → ℕ → Scope
  scope1 z i = record { locals = locals; first = i; active = z; turns = n; call = call1 }

  abbrev scope2 : Option ℕ → ℕ → Scope
  scope2 z i = record { locals = locals; first = i; active = z; turns = m; call = call2 }

  calls_further : (z : Option ℕ) (i : ℕ) (g : Value) (vs : List Value) (names : List Text) (s : State) → Further b (calls (scope1 z i) g vs names s) (calls (scope2 z i) g vs names (more b s))
  calls_further z i (Function f k) vs [] s = calls_go z k vs s
  calls_further z i Nothing vs [] s = ran_further b (call_provided Nothing vs s.world) s
  calls_further z i (Truth t) vs [] s = ran_further b (call_provided (Truth t) vs s.world) s
  calls_further z i (Int j) vs [] s = ran_further b (call_provided (Int j) vs s.world) s
  calls_further z i (Range a c d) vs [] s = ran_further b (call_provided (Range a c d) vs s.world) s
  calls_further z i (Tuple us) vs [] s = ran_further b (call_provided (Tuple us) vs s.world) s
  calls_further z i (Class k) vs [] s = ran_further b (call_provided (Class k) vs s.world) s
  calls_further z i (Module m) vs [] s = ran_further b (call_provided (Module m) vs s.world) s
  calls_further z i (Queue q m) vs [] s = ran_further b (call_provided (Queue q m) vs s.world) s
  calls_further z i (Interpreter j) vs [] s = ran_further b (call_provided (Interpreter j) vs s.world) s
  calls_further z i (Exec j) vs [] s = ran_further b (call_provided (Exec j) vs s.world) s
  calls_further z i (Address x) vs [] s = ran_further b (call_provided (Address x) vs s.world) s
  calls_further z i (Str t) vs [] s = ran_further b (call_provided (Str t) vs s.world) s
  calls_further z i (Bytes t) vs [] s = ran_further b (call_provided (Bytes t) vs s.world) s
  calls_further z i (Provided f) vs [] s = ran_further b (call_provided (Provided f) vs s.world) s
  calls_further z i g vs (x ∷ names) s = ran_further b (call_by_name g s.world) s

  calls_method_further : (z : Option ℕ) (i : ℕ) (m : Option Method) (g : Value) (vs : List Value) (names : List Text) (s : State) → Further b (calls_method (scope1 z i) m g vs names s) (calls_method (scope2 z i) m g vs names (more b s))
  calls_method_further z i None g vs names s = calls_further z i g vs names s
  calls_method_further z i (Some m) g vs names s = ran_further b (call_method m g vs names s.world) s

  calls_attribute_further : (z : Option ℕ) (i : ℕ) (x : Option Text) (g : Value) (vs : List Value) (names : List Text) (s : State) → Further b (calls_attribute (scope1 z i) x g vs names s) (calls_attribute (scope2 z i) x g vs names (more b s))
  calls_attribute_further z i None g vs names s = calls_further z i g vs names s
  calls_attribute_further z i (Some x) g vs names s = calls_method_further z i (method_of g x s.world) g vs names s

  callee_further : (x : Option Text) (object1 object2 : Meaning Value) → ((s : State) → Further b (object1 s) (object2 (more b s))) → (s : State) → Further b (callee x object1 s) (callee x object2 (more b s))
  callee_further None object1 object2 h s = h s
  callee_further (Some x) object1 object2 h s = then_further b _ _ _ _ (h (visit s)) (λ v s1. ran_further b (called v x s1.world) s1) (λ v s1. ran_adds (called v x s1.world) s1)

  mutual
    expr_further : (z : Option ℕ) (i : ℕ) (a : Expr) (s : State) → Further b (expr (scope1 z i) a s) (expr (scope2 z i) a (more b s))
    expr_further z i (tree.Constant v) s = refl
    expr_further z i (tree.Name x) s = read_further b x (place_of x locals) (visit s)
    expr_further z i (tree.Unary o a) s =
        then_further b _ _ _ _ (expr_further z i a (visit s)) (λ v s1. ran_further b (operate_unary o v s1.world) s1) (λ v s1. ran_adds (operate_unary o v s1.world) s1)
    expr_further z i (tree.Binary o a c) s =
        then_further b _ _ _ _ (expr_further z i a (visit s))
        (λ u s1. then_further b _ _ _ _ (expr_further z i c s1) (λ v s2. ran_further b (operate o u v s2.world) s2) (λ v s2. ran_adds (operate o u v s2.world) s2))
        (λ u s1. both_add s1 (expr (scope2 z i) c s1) _ (expr_adds (scope2 z i) adds c s1) (λ v s2. ran_adds (operate o u v s2.world) s2))
    expr_further z i (tree.Attribute a x) s =
        then_further b _ _ _ _ (expr_further z i a (visit s)) (λ v s1. ran_further b (attribute v x s1.world) s1) (λ v s1. ran_adds (attribute v x s1.world) s1)
    expr_further z i (tree.Call f x args names) s =
        then_further b _ _ _ _ (callee_further x (expr (scope1 z i) f) (expr (scope2 z i) f) (λ s1. expr_further z i f s1) (visit s))
        (λ g s1. then_further b _ _ _ _ (exprs_further z i args s1) (λ vs s2. calls_attribute_further z i x g vs names s2) (λ vs s2. calls_attribute_add (scope2 z i) adds x g vs names s2))
        (λ g s1. both_add s1 (exprs (scope2 z i) args s1) _ (exprs_add (scope2 z i) adds args s1) (λ vs s2. calls_attribute_add (scope2 z i) adds x g vs names s2))
    expr_further z i (tree.Subscript a c) s =
        then_further b _ _ _ _ (expr_further z i a (visit s))
        (λ u s1. then_further b _ _ _ _ (expr_further z i c s1) (λ v s2. ran_further b (subscript u v s2.world) s2) (λ v s2. ran_adds (subscript u v s2.world) s2))
        (λ u s1. both_add s1 (expr (scope2 z i) c s1) _ (expr_adds (scope2 z i) adds c s1) (λ v s2. ran_adds (subscript u v s2.world) s2))
    expr_further z i (tree.Tuple items) s =
        then_further b _ _ _ _ (exprs_further z i items (visit s)) (λ vs s1. ran_further b (tuple_within vs s1.world) s1) (λ vs s1. ran_adds (tuple_within vs s1.world) s1)
    expr_further z i (tree.ListDisplay items) s =
        then_further b _ _ _ _ (exprs_further z i items (visit s)) (λ vs s1. ran_further b (list_within vs s1.world) s1) (λ vs s1. ran_adds (list_within vs s1.world) s1)
    expr_further z i (tree.DictDisplay items) s =
        then_further b _ _ _ _ (exprs_further z i items (visit s)) (λ vs s1. ran_further b (dict_of vs s1.world) s1) (λ vs s1. ran_adds (dict_of vs s1.world) s1)
    expr_further z i (tree.Boolean o a c) s =
        then_further b _ _ _ _ (expr_further z i a (visit s)) (λ u s1. operands_further z i o u c s1) (λ u s1. operands_add (scope2 z i) adds o u c s1)
    expr_further z i (tree.Compare a cs) s = then_further b _ _ _ _ (expr_further z i a (visit s)) (λ u s1. chain_further z i u cs s1) (λ u s1. chain_adds (scope2 z i) adds u cs s1)
    expr_further z i (tree.Conditional a c d) s =
        then_further b _ _ _ _ (expr_further z i a (visit s))
        (λ t s1. choose_further b (is_true t s1.world) _ _ _ _ (expr_further z i c s1) (expr_further z i d s1))
        (λ t s1. choose_adds (is_true t s1.world) (expr (scope2 z i) c s1) (expr (scope2 z i) d s1) (expr_adds (scope2 z i) adds c s1) (expr_adds (scope2 z i) adds d s1))

    exprs_further : (z : Option ℕ) (i : ℕ) (args : Exprs) (s : State) → Further b (exprs (scope1 z i) args s) (exprs (scope2 z i) args (more b s))
    exprs_further z i tree.NoExprs s = refl
    exprs_further z i (tree.MoreExprs a args) s =
        then_further b _ _ _ _ (expr_further z i a s)
        (λ v s1. then_further b _ _ _ _ (exprs_further z i args s1) (λ vs s2. refl) (λ vs s2. same s2))
        (λ v s1. both_add s1 (exprs (scope2 z i) args s1) _ (exprs_add (scope2 z i) adds args s1) (λ vs s2. same s2))

    operands_further : (z : Option ℕ) (i : ℕ) (o : BooleanOperator) (u : Value) (c : Exprs) (s : State) → Further b (operands (scope1 z i) o u c s) (operands (scope2 z i) o u c (more b s))
    operands_further z i o u tree.NoExprs s = refl
    operands_further z i o u (tree.MoreExprs a c) s =
        choose_further b (decides o u s.world) _ _ _ _ refl
        (then_further b _ _ _ _ (expr_further z i a s) (λ v s1. operands_further z i o v c s1) (λ v s1. operands_add (scope2 z i) adds o v c s1))

    chain_further : (z : Option ℕ) (i : ℕ) (u : Value) (cs : Comparisons) (s : State) → Further b (chain (scope1 z i) u cs s) (chain (scope2 z i) u cs (more b s))
    chain_further z i u tree.NoComparisons s = refl
    chain_further z i u (tree.MoreComparisons o a cs) s =
        then_further b _ _ _ _ (expr_further z i a s)
        (λ v s1. then_further b _ _ _ _ (ran_further b (compare o u v s1.world) s1)
        (λ t s2. compared_further b cs t (chain (scope1 z i) v cs) (chain (scope2 z i) v cs) (λ s3. chain_further z i v cs s3) s2)
        (λ t s2. compared_adds cs t (chain (scope2 z i) v cs) (chain_adds (scope2 z i) adds v cs) s2))
        (λ v s1. both_add s1 (ran (compare o u v s1.world) s1) _ (ran_adds (compare o u v s1.world) s1) (λ t s2. compared_adds cs t (chain (scope2 z i) v cs) (chain_adds (scope2 z i) adds v cs) s2))

  mutual
    bind_further : (z : Option ℕ) (i : ℕ) (t : Target) (v : Value) (s : State) → Further b (bind (scope1 z i) t v s) (bind (scope2 z i) t v (more b s))
    bind_further z i (tree.Named x) v s = assign_further b x (place_of x locals) v (visit s)
    bind_further z i (tree.Item a c) v s =
        then_further b _ _ _ _ (expr_further z i a (visit s))
        (λ u s1. then_further b _ _ _ _ (expr_further z i c s1) (λ y s2. done_further b (set_item u y v s2.world) s2) (λ y s2. done_adds (set_item u y v s2.world) s2))
        (λ u s1. both_add s1 (expr (scope2 z i) c s1) _ (expr_adds (scope2 z i) adds c s1) (λ y s2. done_adds (set_item u y v s2.world) s2))
    bind_further z i (tree.Unpack ts) v s =
        spread_further b (unpacked (count_of_targets ts) v s.world) (bind_each (scope1 z i) ts) (bind_each (scope2 z i) ts) (λ vs s1. bind_each_further z i ts vs s1) (visit s)

    bind_each_further : (z : Option ℕ) (i : ℕ) (ts : Targets) (vs : List Value) (s : State) → Further b (bind_each (scope1 z i) ts vs s) (bind_each (scope2 z i) ts vs (more b s))
    bind_each_further z i tree.NoTargets vs s = refl
    bind_each_further z i (tree.MoreTargets t ts) [] s = refl
    bind_each_further z i (tree.MoreTargets t ts) (v ∷ vs) s =
        then_further b _ _ _ _ (bind_further z i t v s) (λ u s1. bind_each_further z i ts vs s1) (λ u s1. bind_each_add (scope2 z i) adds ts vs s1)

  bind_all_further : (z : Option ℕ) (i : ℕ) (ts : Targets) (v : Value) (s : State) → Further b (bind_all (scope1 z i) ts v s) (bind_all (scope2 z i) ts v (more b s))
  bind_all_further z i tree.NoTargets v s = refl
  bind_all_further z i (tree.MoreTargets t ts) v s =
      then_further b _ _ _ _ (bind_further z i t v s) (λ u s1. bind_all_further z i ts v s1) (λ u s1. bind_all_add (scope2 z i) adds ts v s1)

  returning_further : (z : Option ℕ) (i : ℕ) (a : Option Expr) (s : State) → Further b (returning (scope1 z i) a s) (returning (scope2 z i) a (more b s))
  returning_further z i None s = refl
  returning_further z i (Some a) s = then_further b _ _ _ _ (expr_further z i a s) (λ v s1. refl) (λ v s1. same s1)

  raising_further : (z : Option ℕ) (i : ℕ) (a : Option Expr) (s : State) → Further b (raising (scope1 z i) a s) (raising (scope2 z i) a (more b s))
  raising_further z i None s = refl
  raising_further z i (Some a) s = then_further b _ _ _ _ (expr_further z i a s) (λ v s1. refl) (λ v s1. raised_adds (raised_by v s1.world) s1)

  named_further : (z : Option ℕ) (i : ℕ) (y : Option Text) (x : ℕ) (suite suite' : Meaning (Unit {0})) → ((s : State) → Further b (suite s) (suite' (more b s))) → Adds suite' → (s : State) → Further b (named (scope1 z i) y x suite s) (named (scope2 z i) y x suite' (more b s))
  named_further z i None x suite suite' h g s = h s
  named_further z i (Some y) x suite suite' h g s =
      let p = place_of y locals in
      then_further b _ _ _ _ (assign_further b y p (Address x) s)
      (λ u s1. finally_further b z (suite s1) (suite' (more b s1)) (λ active s2. unassign y p s2) (λ active s2. unassign y p s2) (h s1)
      (λ active s2. unassign_further b y p s2) (λ active s2. unassign_adds y p s2))
      (λ u s1. trans (g s1) (finally_adds z (suite' s1) (λ active s2. unassign y p s2) (λ active s2. unassign_adds y p s2)))

  stored_further : (z : Option ℕ) (i : ℕ) (u x y : Value) (o : BinaryOperator) (c : Expr) (s : State) → Further b (stored (scope1 z i) u x y o c s) (stored (scope2 z i) u x y o c (more b s))
  stored_further z i u x y o c s =
      then_further b _ _ _ _ (expr_further z i c s)
      (λ v s1. then_further b _ _ _ _ (ran_further b (augment o y v s1.world) s1) (λ w s2. done_further b (set_item u x w s2.world) s2) (λ w s2. done_adds (set_item u x w s2.world) s2))
      (λ v s1. both_add s1 (ran (augment o y v s1.world) s1) _ (ran_adds (augment o y v s1.world) s1) (λ w s2. done_adds (set_item u x w s2.world) s2))

  -- what follows the test of a clause only adds
  tested_adds : (z : Option ℕ) (i : ℕ) (y : Option Text) (x : ℕ) (c : Stmts) (cs : Clauses) (t : Value) (s : State) → Grows s (state_at (choose (is_true t s.world) (named (scope2 z i) y x (stmts (scope2 z i) c) s) (clauses (scope2 z (i + length (functions_in c))) cs x s)))
  tested_adds z i y x c cs t s =
      choose_adds (is_true t s.world) (named (scope2 z i) y x (stmts (scope2 z i) c) s) (clauses (scope2 z (i + length (functions_in c))) cs x s)
      (named_adds (scope2 z i) y x (stmts (scope2 z i) c) (λ s1. stmts_add (scope2 z i) adds c s1) s) (clauses_add (scope2 z (i + length (functions_in c))) adds cs x s)

  mutual
    stmt_further : (z : Option ℕ) (i : ℕ) (a : Stmt) (s : State) → Further b (stmt (scope1 z i) a s) (stmt (scope2 z i) a (more b s))
    stmt_further z i (tree.Evaluate a) s = then_further b _ _ _ _ (expr_further z i a (visit s)) (λ v s1. refl) (λ v s1. same s1)
    stmt_further z i (tree.Assign ts a) s =
        then_further b _ _ _ _ (expr_further z i a (visit s)) (λ v s1. bind_all_further z i ts v s1) (λ v s1. bind_all_add (scope2 z i) adds ts v s1)
    stmt_further z i (tree.Augment x o a) s =
        let p = place_of x locals in
        then_further b _ _ _ _ (read_further b x p (visit (visit s)))
        (λ u s1. then_further b _ _ _ _ (expr_further z i a s1)
        (λ v s2. then_further b _ _ _ _ (ran_further b (augment o u v s2.world) s2) (λ y s3. assign_further b x p y s3) (λ y s3. assign_adds x p y s3))
        (λ v s2. both_add s2 (ran (augment o u v s2.world) s2) _ (ran_adds (augment o u v s2.world) s2) (λ y s3. assign_adds x p y s3)))
        (λ u s1. both_add s1 (expr (scope2 z i) a s1) _ (expr_adds (scope2 z i) adds a s1)
        (λ v s2. both_add s2 (ran (augment o u v s2.world) s2) _ (ran_adds (augment o u v s2.world) s2) (λ y s3. assign_adds x p y s3)))
    stmt_further z i (tree.AugmentItem a c o d) s =
        then_further b _ _ _ _ (expr_further z i a (visit (visit s)))
        (λ u s1. then_further b _ _ _ _ (expr_further z i c s1)
        (λ x s2. then_further b _ _ _ _ (ran_further b (subscript u x s2.world) s2) (λ y s3. stored_further z i u x y o d s3) (λ y s3. stored_adds (scope2 z i) adds u x y o d s3))
        (λ x s2. both_add s2 (ran (subscript u x s2.world) s2) _ (ran_adds (subscript u x s2.world) s2) (λ y s3. stored_adds (scope2 z i) adds u x y o d s3)))
        (λ u s1. both_add s1 (expr (scope2 z i) c s1) _ (expr_adds (scope2 z i) adds c s1)
        (λ x s2. both_add s2 (ran (subscript u x s2.world) s2) _ (ran_adds (subscript u x s2.world) s2) (λ y s3. stored_adds (scope2 z i) adds u x y o d s3)))
    stmt_further z i (tree.Delete a c) s =
        then_further b _ _ _ _ (expr_further z i a (visit (visit s)))
        (λ u s1. then_further b _ _ _ _ (expr_further z i c s1) (λ y s2. done_further b (delete_item u y s2.world) s2) (λ y s2. done_adds (delete_item u y s2.world) s2))
        (λ u s1. both_add s1 (expr (scope2 z i) c s1) _ (expr_adds (scope2 z i) adds c s1) (λ y s2. done_adds (delete_item u y s2.world) s2))
    stmt_further z i tree.Pass s = refl
    stmt_further z i (tree.If a c d) s =
        let j = i + length (functions_in c) in
        then_further b _ _ _ _ (expr_further z i a (visit s))
        (λ t s1. choose_further b (is_true t s1.world) _ _ _ _ (stmts_further z i c s1) (stmts_further z j d s1))
        (λ t s1. choose_adds (is_true t s1.world) (stmts (scope2 z i) c s1) (stmts (scope2 z j) d s1) (stmts_add (scope2 z i) adds c s1) (stmts_add (scope2 z j) adds d s1))
    stmt_further z i (tree.While a c d) s =
        let j = i + length (functions_in c) in
        loop_further b (expr (scope1 z i) a) (expr (scope2 z i) a) (stmts (scope1 z i) c) (stmts (scope2 z i) c) (stmts (scope1 z j) d) (stmts (scope2 z j) d)
        (λ s1. expr_further z i a s1) (λ s1. stmts_further z i c s1) (λ s1. stmts_further z j d s1)
        (λ s1. expr_adds (scope2 z i) adds a s1) (λ s1. stmts_add (scope2 z i) adds c s1) (λ s1. stmts_add (scope2 z j) adds d s1) n m fewer (visit s)
    stmt_further z i tree.Break s = refl
    stmt_further z i tree.Continue s = refl
    stmt_further z i (tree.Define f ps c) s = assign_further b f (place_of f locals) (Function f i) (visit s)
    stmt_further z i (tree.Return a) s = returning_further z i a (visit s)
    stmt_further z i (tree.Global xs) s = refl
    stmt_further z i (tree.Import m) s = assign_further b (module_name m) (place_of (module_name m) locals) (Module m) (visit s)
    stmt_further z i (tree.Raise a) s = raising_further z i a (visit s)
    stmt_further z i (tree.For t a c d) s =
        let j = i + length (functions_in c) in
        then_further b _ _ _ _ (expr_further z i a (visit s))
        (λ v s1. over_further b (iterator_of v s1.world) _ _
        (λ it s2. for_loop_further b (λ u s3. bind (scope1 z i) t u s3) (λ u s3. bind (scope2 z i) t u s3) (stmts (scope1 z i) c) (stmts (scope2 z i) c) (stmts (scope1 z j) d) (stmts (scope2 z j) d)
        (λ u s3. bind_further z i t u s3) (λ s3. stmts_further z i c s3) (λ s3. stmts_further z j d s3)
        (λ u s3. bind_adds (scope2 z i) adds t u s3) (λ s3. stmts_add (scope2 z i) adds c s3) (λ s3. stmts_add (scope2 z j) adds d s3) n m fewer it s2) s1)
        (λ v s1. over_adds (iterator_of v s1.world) _
        (λ it. for_loop_adds m (λ u s3. bind (scope2 z i) t u s3) (stmts (scope2 z i) c) (stmts (scope2 z j) d)
        (λ u s3. bind_adds (scope2 z i) adds t u s3) (λ s3. stmts_add (scope2 z i) adds c s3) (λ s3. stmts_add (scope2 z j) adds d s3) it) s1)
    stmt_further z i (tree.Try c cs d) s =
        let j = i + length (functions_in c) in
        let k = i + length (functions_in c ++ functions_in_clauses cs) in
        caught_further b (stmts (scope1 z i) c (visit s)) (stmts (scope2 z i) c (visit (more b s)))
        (handling (scope1 z i) c cs) (handling (scope2 z i) c cs) (otherwise (scope1 z i) c cs d) (otherwise (scope2 z i) c cs d)
        (stmts_further z i c (visit s)) (λ x s1. clauses_further (Some x) j cs x s1) (λ s1. stmts_further z k d s1)
        (λ x s1. clauses_add (scope2 (Some x) j) adds cs x s1) (λ s1. stmts_add (scope2 z k) adds d s1)
    stmt_further z i (tree.Finally c cs d f) s =
        let j = i + length (functions_in c) in
        let k = i + length (functions_in c ++ functions_in_clauses cs) in
        let l = i + length (functions_in c ++ (functions_in_clauses cs ++ functions_in d)) in
        finally_further b z
        (caught (stmts (scope1 z i) c (visit s)) (handling (scope1 z i) c cs) (otherwise (scope1 z i) c cs d))
        (caught (stmts (scope2 z i) c (visit (more b s))) (handling (scope2 z i) c cs) (otherwise (scope2 z i) c cs d))
        (lastly (scope1 z i) c cs d f) (lastly (scope2 z i) c cs d f)
        (caught_further b (stmts (scope1 z i) c (visit s)) (stmts (scope2 z i) c (visit (more b s)))
        (handling (scope1 z i) c cs) (handling (scope2 z i) c cs) (otherwise (scope1 z i) c cs d) (otherwise (scope2 z i) c cs d)
        (stmts_further z i c (visit s)) (λ x s1. clauses_further (Some x) j cs x s1) (λ s1. stmts_further z k d s1)
        (λ x s1. clauses_add (scope2 (Some x) j) adds cs x s1) (λ s1. stmts_add (scope2 z k) adds d s1))
        (λ x s1. stmts_further x l f s1) (λ x s1. stmts_add (scope2 x l) adds f s1)

    stmts_further : (z : Option ℕ) (i : ℕ) (c : Stmts) (s : State) → Further b (stmts (scope1 z i) c s) (stmts (scope2 z i) c (more b s))
    stmts_further z i tree.NoStmts s = refl
    stmts_further z i (tree.MoreStmts a c) s =
        let j = i + length (functions_of a) in
        then_further b _ _ _ _ (stmt_further z i a s) (λ u s1. stmts_further z j c s1) (λ u s1. stmts_add (scope2 z j) adds c s1)

    clauses_further : (z : Option ℕ) (i : ℕ) (cs : Clauses) (x : ℕ) (s : State) → Further b (clauses (scope1 z i) cs x s) (clauses (scope2 z i) cs x (more b s))
    clauses_further z i tree.NoClauses x s = refl
    clauses_further z i (tree.MoreClauses None y c cs) x s =
        named_further z i y x (stmts (scope1 z i) c) (stmts (scope2 z i) c) (λ s1. stmts_further z i c s1) (λ s1. stmts_add (scope2 z i) adds c s1) (visit s)
    clauses_further z i (tree.MoreClauses (Some a) y c cs) x s =
        let j = i + length (functions_in c) in
        then_further b _ _ _ _ (expr_further z i a (visit s))
        (λ v s1. then_further b _ _ _ _ (ran_further b (catches v x s1.world) s1)
        (λ t s2. choose_further b (is_true t s2.world) _ _ _ _
        (named_further z i y x (stmts (scope1 z i) c) (stmts (scope2 z i) c) (λ s3. stmts_further z i c s3) (λ s3. stmts_add (scope2 z i) adds c s3) s2) (clauses_further z j cs x s2))
        (λ t s2. tested_adds z i y x c cs t s2))
        (λ v s1. both_add s1 (ran (catches v x s1.world) s1) _ (ran_adds (catches v x s1.world) s1) (λ t s2. tested_adds z i y x c cs t s2))

-- ---- going further, of a call

returned_further : (b : List Answer) (old : List (Option Value)) (r r' : Result (Unit {0})) → Further b r r' → Further b (returned old r) (returned old r')
returned_further b old (Gives u s) r' h = ap (returned old) h
returned_further b old (Leaves (Returns v) s) r' h = ap (returned old) h
returned_further b old (Leaves (Raises x) s) r' h = ap (returned old) h
returned_further b old (Leaves Breaks s) r' h = ap (returned old) h
returned_further b old (Leaves Continues s) r' h = ap (returned old) h
returned_further b old (Asks q s) r' h = (trans h.0 (returned_adds old r'), λ e. ap (returned old) (h.1 e))
returned_further b old (Cut s) r' h = trans h (returned_adds old r')

fitting_further : (b : List Answer) (f : Option tree.Function) (vs : List Value) (go go' : tree.Function → Meaning Value) → ((g : tree.Function) (s : State) → Further b (go g s) (go' g (more b s))) → (s : State) → Further b (fitting f vs go s) (fitting f vs go' (more b s))
fitting_further b None vs go go' h s = ran_further b (not_callable s.world) s
fitting_further b (Some f) vs go go' h s =
    choose_further b (nat_eq (length vs) (length f.parameters)) _ _ _ _ (h f s) (ran_further b (wrong_arguments s.world) s)

module _ (b : List Answer) (fs : List tree.Function) (n m : ℕ) (fewer : n ≤ m) where
  call_further : (d : ℕ) (active : Option ℕ) (k : ℕ) (vs : List Value) (s : State) → Further b (call fs n d active k vs s) (call fs m d active k vs (more b s))
  call_further zero active k vs s =
      fitting_further b (slice_get fs k) vs (λ f s1. ran (too_deep s1.world) s1) (λ f s1. ran (too_deep s1.world) s1) (λ f s1. ran_further b (too_deep s1.world) s1) s
  call_further (suc d) active k vs s =
      fitting_further b (slice_get fs k) vs (λ f s1. run_body n (call fs n d) f active vs s1) (λ f s1. run_body m (call fs m d) f active vs s1)
      (λ f s1. returned_further b s1.slots _ _
      (stmts_further b (locals_of f) n m fewer (call fs n d) (call fs m d) (λ z j us s2. call_further d z j us s2) (λ z j us. call_adds fs m d z j us) active 0 f.body (record s1 { slots = entered (length (locals_of f)) vs })))
      s

run_further : (b : List Answer) (n m : ℕ) → n ≤ m → (fs : List tree.Function) (body : Stmts) (s : State) → Further b (run_of fs n body s) (run_of fs m body (more b s))
run_further b n m fewer fs body s =
    let gs = fs ++ functions_in body in
    stmts_further b [] n m fewer (call gs n max_calls) (call gs m max_calls)
    (λ z k vs s1. call_further b gs n m fewer max_calls z k vs s1) (λ z k vs. call_adds gs m max_calls z k vs) None (length fs) body s

-- ---- going further, of a life

-- the second life goes as the first did, as far as that came
abbrev Lives_further : List Answer → Told → Told → Type 0
Lives_further b (Stops a s) r = Grows s (state_of r) × (b ≡ [] → r ≡ Stops a s)
Lives_further b (IsGone s) r = r ≡ IsGone (more b s)
Lives_further b (IsCut s) r = Grows s (state_of r)

-- the rest of a second life goes as that of the first
abbrev Rests : List Answer → (State → Told) → (State → Told) → Type 0
Rests b rest rest' = (s : State) → Lives_further b (rest s) (rest' (more b s))

module _ (b : List Answer) (rest rest' : State → Told) (rests : Rests b rest rest') (adds : Rest_adds rest') where
  after_end_further : (answers : List Answer) (o : Outcome) (s : State) (l : List Answer) → Lives_further b (after_end answers o rest s) (after_end (answers ++ b) o rest' (record s { answers = l }))
  after_end_further [] o s l =
      let g = after_end_adds b o rest' adds (record s { answers = l }) in
      (record { pieces = g.pieces; visits = g.visits }, λ e. ap (λ k. after_end k o rest' (record s { answers = l })) e)
  after_end_further (Done ∷ left) o s l = rests (record s { answers = left })
  after_end_further (Taken j ∷ left) o s l = refl
  after_end_further (world.Limit ∷ left) o s l = refl
  after_end_further ((world.Created i) ∷ left) o s l = refl
  after_end_further ((world.QueueMade i) ∷ left) o s l = refl
  after_end_further ((world.Started i) ∷ left) o s l = refl
  after_end_further (world.Full ∷ left) o s l = refl
  after_end_further (world.Empty ∷ left) o s l = refl
  after_end_further ((world.Item v) ∷ left) o s l = refl
  after_end_further ((world.Count i) ∷ left) o s l = refl
  after_end_further ((world.Ids is) ∷ left) o s l = refl
  after_end_further (world.NotFound ∷ left) o s l = refl
  after_end_further (world.Running ∷ left) o s l = refl
  after_end_further (world.Current ∷ left) o s l = refl
  after_end_further (world.Main ∷ left) o s l = refl
  after_end_further ((world.Ended z) ∷ left) o s l = refl
  after_end_further ((world.Truth t) ∷ left) o s l = refl

  ends_further : (o : Outcome) (s : State) → Lives_further b (ends_with o rest s) (ends_with o rest' (more b s))
  ends_further o s = after_end_further s.answers o (visit s) (s.answers ++ b)

  run_ended_further : (r r' : Result (Unit {0})) → Further b r r' → Lives_further b (run_ended rest r) (run_ended rest' r')
  run_ended_further (Gives u s) r' h = subst (λ x. Lives_further b (ends_with Returned rest s) (run_ended rest' x)) (sym h) (ends_further Returned s)
  run_ended_further (Leaves p s) r' h = subst (λ x. Lives_further b (ends_with (outcome_of p s.world) rest s) (run_ended rest' x)) (sym h) (ends_further (outcome_of p s.world) s)
  run_ended_further (Asks q s) r' h = (trans h.0 (run_ended_adds rest' adds r'), λ e. ap (run_ended rest') (h.1 e))
  run_ended_further (Cut s) r' h = trans h (run_ended_adds rest' adds r')

module _ (b : List Answer) (fs : List tree.Function) (rest rest' : List tree.Function → State → Told) (rests : (gs : List tree.Function) → Rests b (rest gs) (rest' gs)) (adds : (gs : List tree.Function) → Rest_adds (rest' gs)) where
  takes_further : (n m : ℕ) → n ≤ m → (answers : List Answer) (s : State) (l : List Answer) → Lives_further b (takes n fs rest answers s) (takes m fs rest' (answers ++ b) (record s { answers = l }))
  takes_further n m fewer [] s l =
      let g = takes_add m fs rest' adds b (record s { answers = l }) in
      (record { pieces = g.pieces; visits = g.visits }, λ e. ap (λ k. takes m fs rest' k (record s { answers = l })) e)
  takes_further n m fewer (Taken (Bind bs) ∷ left) s l = rests fs (record s { answers = left; world = record s.world { globals = world.bind_all bs s.world.globals } })
  takes_further n m fewer (Taken (Run None) ∷ left) s l = ends_further b (rest fs) (rest' fs) (rests fs) (adds fs) not_read (record s { answers = left })
  takes_further n m fewer (Taken (Run (Some t)) ∷ left) s l =
      let s1 = record s { answers = left; slots = [] } in
      let gs = fs ++ functions_in t.body in
      run_ended_further b (rest gs) (rest' gs) (rests gs) (adds gs) (run_of fs n t.body s1) (run_of fs m t.body (more b s1)) (run_further b n m fewer fs t.body s1)
  takes_further n m fewer (Taken Closing ∷ left) s l = refl
  takes_further n m fewer (Done ∷ left) s l = refl
  takes_further n m fewer (world.Limit ∷ left) s l = refl
  takes_further n m fewer ((world.Created i) ∷ left) s l = refl
  takes_further n m fewer ((world.QueueMade i) ∷ left) s l = refl
  takes_further n m fewer ((world.Started i) ∷ left) s l = refl
  takes_further n m fewer (world.Full ∷ left) s l = refl
  takes_further n m fewer (world.Empty ∷ left) s l = refl
  takes_further n m fewer ((world.Item v) ∷ left) s l = refl
  takes_further n m fewer ((world.Count i) ∷ left) s l = refl
  takes_further n m fewer ((world.Ids is) ∷ left) s l = refl
  takes_further n m fewer (world.NotFound ∷ left) s l = refl
  takes_further n m fewer (world.Running ∷ left) s l = refl
  takes_further n m fewer (world.Current ∷ left) s l = refl
  takes_further n m fewer (world.Main ∷ left) s l = refl
  takes_further n m fewer ((world.Ended z) ∷ left) s l = refl
  takes_further n m fewer ((world.Truth t) ∷ left) s l = refl

life_further : (b : List Answer) (n m : ℕ) → n ≤ m → (j k : ℕ) → j ≤ k → (fs : List tree.Function) → Rests b (life n j fs) (life m k fs)
life_further b n m fewer zero k less fs s = let g = life_adds m k fs (more b s) in record { pieces = g.pieces; visits = g.visits }
life_further b n m fewer (suc j) zero less fs s = absurd (omega arith)
life_further b n m fewer (suc j) (suc k) less fs s =
    takes_further b fs (life n j) (life m k) (λ gs. life_further b n m fewer j k (omega arith) gs) (λ gs. life_adds m k gs) n m fewer s.answers (visit s) (s.answers ++ b)

-- ---- the laws

-- what going further says of a life that is told to its end
told : (r r' : Told) (e : Option Action × ℕ) → Lives_further [] r r' → end_of r ≡ Some e → r' ≡ r
told (Stops a s) r' e h f = h.1 refl
told (IsGone s) r' e h f = h ∙ ap (λ l. IsGone (record s { answers = l })) (append-nil s.answers)
told (IsCut s) r' e h f = cc

pub one_life : OneLife
one_life own n m answers e fewer f =
    let h = life_further [] n m fewer (length answers + 1) (length answers + 1) (omega arith) [] (newborn own answers) in
    ap (λ l. life m (length answers + 1) [] (newborn own l)) (sym (append-nil answers)) ∙ told (life_of own n answers) _ e h f

-- it only adds, whatever the life told
only_adds : (b : List Answer) (r r' : Told) → Lives_further b r r' → Grows (state_of r) (state_of r')
only_adds b (Stops a s) r' h = h.0
only_adds b (IsGone s) r' h = subst (λ x. Grows s (state_of x)) (sym h) (record { pieces = (same s).pieces; visits = (same s).visits })
only_adds b (IsCut s) r' h = h

-- a life under more answers goes further
under_more : (own n m : ℕ) (answers b : List Answer) → n ≤ m → Lives_further b (life_of own n answers) (life_of own m (answers ++ b))
under_more own n m answers b fewer =
    life_further b n m fewer (length answers + 1) (length (answers ++ b) + 1) (omega (arith, length-append answers b)) [] (newborn own answers)

pub lives_grow : LivesGrow
lives_grow own n m answers b fewer = only_adds b (life_of own n answers) (life_of own m (answers ++ b)) (under_more own n m answers b fewer)

pub gone_stays : GoneStays
gone_stays own n m answers b s fewer e = subst (λ r. Lives_further b r (life_of own m (answers ++ b))) e (under_more own n m answers b fewer)
