-- What an evaluation, a call and a life add: pieces and visits alone.
use Rattle.std.proofs.Common.{ℕ, zero, suc, List, [], ◌∷◌, ◌++◌, length, Bool, true, false, Option, Some, None, refl, sym, ap, ◌∙◌, arith, append_assoc}
use Rattle.std.specs.Prelude.{nat_eq, slice_get}
use Rattle.std.proofs.lemmas.List.{append-nil}
use Rattle.si_semantics.specs.Value.{Text, Value, Nothing, Truth, Int, Str, Bytes, Provided, Function, Range, Tuple, Class, Module, Queue, Interpreter, Exec, Address}
use Rattle.si_semantics.specs.Tree.{BinaryOperator, BooleanOperator, Expr, Exprs, Comparisons, Target, Targets, count_of_targets, Stmt, Stmts, Clauses, functions_of, functions_in, functions_in_clauses}
use Rattle.si_semantics.specs.Tree as tree
use Rattle.si_semantics.specs.Scope.{place_of, locals_of}
use Rattle.si_semantics.specs.World.{World, Request, Bind, Run, Closing, Answer, Taken, Done, Replied, Got, Failed, Wants, Ran, Gave, Threw, Asked}
use Rattle.si_semantics.specs.Operations.{exception, tuple_within, list_within, comparison_message, operate, operate_unary, is_true, compare, load_global, load_local, call_provided, call_by_name, not_callable, wrong_arguments, too_deep, type_error, raised_by, raised_again, catches, Iterator, iterator_of, Next, Item, Exhausted, Refuses, next_item}
use Rattle.si_semantics.specs.Replies.{reply}
use Rattle.si_semantics.specs.World as world
use Rattle.si_semantics.specs.Subscription.{subscript}
use Rattle.si_semantics.specs.Containers.{dict_of, set_item, delete_item, augment, unpacked}
use Rattle.si_plain.specs.declared.kind.Kind.{Kind}
use Rattle.std.specs.Prelude as prelude
use Rattle.si_semantics.specs.Attributes.{Method, attribute, called, method_of, call_method}
use Rattle.si_semantics.specs.Text.{module_name}
use Rattle.si_semantics.specs.Meaning.{State, Raises, Returns, Breaks, Continues, Result, Gives, Leaves, Asks, Cut, Meaning, Scope, after, with_active, visit, then, printed, raised, asked, ran, slot_at, read, assign, unassign, calls, calls_method, calls_attribute, callee, choose, decides, compared, expr, exprs, operands, chain, done, spread, bind, bind_each, bind_all, after_turn, turn_of, loop, for_loop, over, returning, raising, caught, active_in, finally, named, stmt, stmts, clauses, returned, entered, fitting, run_body, call, max_calls}
use Rattle.si_semantics.specs.Life.{Outcome, Returned, Told, outcome_of, not_read, after_end, ends_with, run_ended, module_scope, run_of, takes, life}
use Rattle.si_semantics.specs.Laws.{Grows, state_of}

-- ---- growing

pub same : (s : State) → Grows s s
same s = record { pieces = ([], sym (append-nil s.pieces)); visits = omega arith }

pub trans : {s t u : State} → Grows s t → Grows t u → Grows s u
trans {s} {t} {u} g h = record {
  pieces = (g.pieces.0 ++ h.pieces.0, h.pieces.1 ∙ ap (λ l. l ++ h.pieces.0) g.pieces.1 ∙ append_assoc s.pieces g.pieces.0 h.pieces.0);
  visits = omega (arith, g.visits, h.visits);
}

-- what a result comes to
abbrev pub state_at : {A : Type 0} → Result A → State
state_at (Gives a s) = s
state_at (Leaves p s) = s
state_at (Asks q s) = s
state_at (Cut s) = s

-- an evaluation that only adds
abbrev pub Adds : {A : Type 0} → Meaning A → Type 0
Adds f = (s : State) → Grows s (state_at (f s))

pub then_adds : {A B : Type 0} (r : Result A) (f : A → Meaning B) → ((a : A) → Adds (f a)) → Grows (state_at r) (state_at (then r f))
then_adds (Gives a s) f h = h a s
then_adds (Leaves p s) f h = same s
then_adds (Asks q s) f h = same s
then_adds (Cut s) f h = same s

-- from one state an evaluation, and then another
pub both_add : {A B : Type 0} (s : State) (r : Result A) (f : A → Meaning B) → Grows s (state_at r) → ((a : A) → Adds (f a)) → Grows s (state_at (then r f))
both_add s r f g h = trans g (then_adds r f h)

pub printed_adds : (out : Option Text) (s : State) → Grows s (printed out s)
printed_adds None s = same s
printed_adds (Some t) s = record { pieces = (record { text = t; number = s.visits } ∷ [], refl); visits = omega arith }

pub replied_adds : (more : List Answer) (o : Replied) (s : State) → ((q : Request) (t : State) → Grows t (state_at (asked more q t))) → Grows s (state_at (elim o [ Got v w ↦ Gives v (record s { world = w; answers = more }) | Failed k a w ↦ raised (exception k a w) (record s { answers = more }) | Wants q w ↦ asked more q (record s { world = w }) ]))
replied_adds more (Got v w) s h = record { pieces = (same s).pieces; visits = (same s).visits }
replied_adds more (Failed k a w) s h = record { pieces = (same s).pieces; visits = (same s).visits }
replied_adds more (Wants q w) s h = let g = h q (record s { world = w }) in record { pieces = g.pieces; visits = g.visits }

pub asked_adds : (answers : List Answer) (q : Request) (s : State) → Grows s (state_at (asked answers q s))
asked_adds [] q s = record { pieces = (same s).pieces; visits = (same s).visits }
asked_adds (a ∷ more) q s = replied_adds more (reply q a s.world) s (λ q' t. asked_adds more q' t)

pub ran_adds : (o : Ran) (s : State) → Grows s (state_at (ran o s))
ran_adds (Gave v out w) s = let g = printed_adds out (record s { world = w }) in record { pieces = g.pieces; visits = g.visits }
ran_adds (Threw k a w) s = record { pieces = (same s).pieces; visits = (same s).visits }
ran_adds (Asked q w) s = let g = asked_adds s.answers q (record s { world = w }) in record { pieces = g.pieces; visits = g.visits }

pub visit_adds : (s : State) → Grows s (visit s)
visit_adds s = record { pieces = (same s).pieces; visits = omega arith }

pub choose_adds : {A : Type 0} {s : State} (t : Bool) (r r' : Result A) → Grows s (state_at r) → Grows s (state_at r') → Grows s (state_at (choose t r r'))
choose_adds true r r' g h = g
choose_adds false r r' g h = h

pub compared_adds : (cs : Comparisons) (t : Value) (rest : Meaning Value) → Adds rest → Adds (compared cs t rest)
compared_adds tree.NoComparisons t rest h s = same s
compared_adds (tree.MoreComparisons o a cs) t rest h s = choose_adds (is_true t s.world) (rest s) (Gives t s) (h s) (same s)

pub read_adds : (x : Text) (p : Option ℕ) → Adds (read x p)
read_adds x None s = ran_adds (load_global x s.world) s
read_adds x (Some k) s = ran_adds (load_local x (slot_at k s.slots) s.world) s

pub assign_adds : (x : Text) (p : Option ℕ) (v : Value) → Adds (assign x p v)
assign_adds x None v s = record { pieces = (same s).pieces; visits = (same s).visits }
assign_adds x (Some k) v s = record { pieces = (same s).pieces; visits = (same s).visits }

pub unassign_adds : (x : Text) (p : Option ℕ) → Adds (unassign x p)
unassign_adds x None s = record { pieces = (same s).pieces; visits = (same s).visits }
unassign_adds x (Some k) s = record { pieces = (same s).pieces; visits = (same s).visits }

pub raised_adds : (x : ℕ × World) (s : State) → Grows s (state_at {A = Unit {0}} (raised x s))
raised_adds x s = record { pieces = (same s).pieces; visits = (same s).visits }

pub done_adds : (o : Ran) → Adds (done o)
done_adds o s = both_add s (ran o s) _ (ran_adds o s) (λ v s1. same s1)

pub spread_adds : (o : prelude.Result (List Value) Kind) (f : List Value → Meaning (Unit {0})) → ((vs : List Value) → Adds (f vs)) → Adds (spread o f)
spread_adds (prelude.Ok vs) f h s = h vs s
spread_adds (prelude.Err k) f h s = raised_adds (exception k (Some (Str (comparison_message k))) s.world) s

-- the calls of functions that were read only add, whatever exception is active
abbrev pub Calls_add : Scope → Type 0
Calls_add e = (x : Option ℕ) (k : ℕ) (vs : List Value) → Adds (e.call x k vs)

pub calls_add : (e : Scope) → Calls_add e → (g : Value) (vs : List Value) (names : List Text) → Adds (calls e g vs names)
calls_add e h (Function f k) vs [] s = h e.active k vs s
calls_add e h Nothing vs [] s = ran_adds (call_provided Nothing vs s.world) s
calls_add e h (Truth t) vs [] s = ran_adds (call_provided (Truth t) vs s.world) s
calls_add e h (Int i) vs [] s = ran_adds (call_provided (Int i) vs s.world) s
calls_add e h (Str t) vs [] s = ran_adds (call_provided (Str t) vs s.world) s
calls_add e h (Bytes t) vs [] s = ran_adds (call_provided (Bytes t) vs s.world) s
calls_add e h (Provided f) vs [] s = ran_adds (call_provided (Provided f) vs s.world) s
calls_add e h (Range a b c) vs [] s = ran_adds (call_provided (Range a b c) vs s.world) s
calls_add e h (Tuple us) vs [] s = ran_adds (call_provided (Tuple us) vs s.world) s
calls_add e h (Class k) vs [] s = ran_adds (call_provided (Class k) vs s.world) s
calls_add e h (Module m) vs [] s = ran_adds (call_provided (Module m) vs s.world) s
calls_add e h (Queue q m) vs [] s = ran_adds (call_provided (Queue q m) vs s.world) s
calls_add e h (Interpreter i) vs [] s = ran_adds (call_provided (Interpreter i) vs s.world) s
calls_add e h (Exec i) vs [] s = ran_adds (call_provided (Exec i) vs s.world) s
calls_add e h (Address x) vs [] s = ran_adds (call_provided (Address x) vs s.world) s
calls_add e h g vs (x ∷ names) s = ran_adds (call_by_name g s.world) s

pub calls_method_add : (e : Scope) → Calls_add e → (m : Option Method) (g : Value) (vs : List Value) (names : List Text) → Adds (calls_method e m g vs names)
calls_method_add e h None g vs names s = calls_add e h g vs names s
calls_method_add e h (Some m) g vs names s = ran_adds (call_method m g vs names s.world) s

pub calls_attribute_add : (e : Scope) → Calls_add e → (x : Option Text) (g : Value) (vs : List Value) (names : List Text) → Adds (calls_attribute e x g vs names)
calls_attribute_add e h None g vs names s = calls_add e h g vs names s
calls_attribute_add e h (Some x) g vs names s = calls_method_add e h (method_of g x s.world) g vs names s

pub callee_adds : (x : Option Text) (object : Meaning Value) → Adds object → Adds (callee x object)
callee_adds None object h s = h s
callee_adds (Some x) object h s = both_add s (object (visit s)) _ (trans (visit_adds s) (h (visit s))) (λ v s1. ran_adds (called v x s1.world) s1)

module _ (e : Scope) (calling : Calls_add e) where
  mutual
    pub expr_adds : (a : Expr) → Adds (expr e a)
    expr_adds (tree.Constant v) s = visit_adds s
    expr_adds (tree.Name x) s = trans (visit_adds s) (read_adds x (place_of x e.locals) (visit s))
    expr_adds (tree.Unary o a) s = both_add s (expr e a (visit s)) _ (trans (visit_adds s) (expr_adds a (visit s))) (λ v s1. ran_adds (operate_unary o v s1.world) s1)
    expr_adds (tree.Binary o a b) s =
        both_add s (expr e a (visit s)) _ (trans (visit_adds s) (expr_adds a (visit s))) (λ u s1. both_add s1 (expr e b s1) _ (expr_adds b s1) (λ v s2. ran_adds (operate o u v s2.world) s2))
    expr_adds (tree.Attribute a x) s = both_add s (expr e a (visit s)) _ (trans (visit_adds s) (expr_adds a (visit s))) (λ v s1. ran_adds (attribute v x s1.world) s1)
    expr_adds (tree.Call f x args names) s =
        both_add s (callee x (expr e f) (visit s)) _ (trans (visit_adds s) (callee_adds x (expr e f) (λ s1. expr_adds f s1) (visit s)))
        (λ g s1. both_add s1 (exprs e args s1) _ (exprs_add args s1) (λ vs s2. calls_attribute_add e calling x g vs names s2))
    expr_adds (tree.Subscript a b) s =
        both_add s (expr e a (visit s)) _ (trans (visit_adds s) (expr_adds a (visit s))) (λ u s1. both_add s1 (expr e b s1) _ (expr_adds b s1) (λ v s2. ran_adds (subscript u v s2.world) s2))
    expr_adds (tree.Tuple items) s =
        both_add s (exprs e items (visit s)) _ (trans (visit_adds s) (exprs_add items (visit s))) (λ vs s1. ran_adds (tuple_within vs s1.world) s1)
    expr_adds (tree.ListDisplay items) s =
        both_add s (exprs e items (visit s)) _ (trans (visit_adds s) (exprs_add items (visit s))) (λ vs s1. ran_adds (list_within vs s1.world) s1)
    expr_adds (tree.DictDisplay items) s =
        both_add s (exprs e items (visit s)) _ (trans (visit_adds s) (exprs_add items (visit s))) (λ vs s1. ran_adds (dict_of vs s1.world) s1)
    expr_adds (tree.Boolean o a more) s = both_add s (expr e a (visit s)) _ (trans (visit_adds s) (expr_adds a (visit s))) (λ u s1. operands_add o u more s1)
    expr_adds (tree.Compare a cs) s = both_add s (expr e a (visit s)) _ (trans (visit_adds s) (expr_adds a (visit s))) (λ u s1. chain_adds u cs s1)
    expr_adds (tree.Conditional a b c) s =
        both_add s (expr e a (visit s)) _ (trans (visit_adds s) (expr_adds a (visit s))) (λ t s1. choose_adds (is_true t s1.world) (expr e b s1) (expr e c s1) (expr_adds b s1) (expr_adds c s1))

    pub exprs_add : (args : Exprs) → Adds (exprs e args)
    exprs_add tree.NoExprs s = same s
    exprs_add (tree.MoreExprs a args) s =
        both_add s (expr e a s) _ (expr_adds a s) (λ v s1. both_add s1 (exprs e args s1) _ (exprs_add args s1) (λ vs s2. same s2))

    pub operands_add : (o : BooleanOperator) (u : Value) (more : Exprs) → Adds (operands e o u more)
    operands_add o u tree.NoExprs s = same s
    operands_add o u (tree.MoreExprs a more) s =
        choose_adds (decides o u s.world) (Gives u s) (then (expr e a s) (λ v s1. operands e o v more s1)) (same s) (both_add s (expr e a s) _ (expr_adds a s) (λ v s1. operands_add o v more s1))

    pub chain_adds : (u : Value) (cs : Comparisons) → Adds (chain e u cs)
    chain_adds u tree.NoComparisons s = same s
    chain_adds u (tree.MoreComparisons o a cs) s =
        both_add s (expr e a s) _ (expr_adds a s)
        (λ v s1. both_add s1 (ran (compare o u v s1.world) s1) _ (ran_adds (compare o u v s1.world) s1) (λ t s2. compared_adds cs t (chain e v cs) (λ s3. chain_adds v cs s3) s2))

  pub returning_adds : (a : Option Expr) → Adds (returning e a)
  returning_adds None s = same s
  returning_adds (Some a) s = both_add s (expr e a s) _ (expr_adds a s) (λ v s1. same s1)

  pub raising_adds : (a : Option Expr) → Adds (raising e a)
  raising_adds None s = raised_adds (raised_again e.active s.world) s
  raising_adds (Some a) s = both_add s (expr e a s) _ (expr_adds a s) (λ v s1. raised_adds (raised_by v s1.world) s1)

  mutual
    pub bind_adds : (t : Target) (v : Value) → Adds (bind e t v)
    bind_adds (tree.Named x) v s = trans (visit_adds s) (assign_adds x (place_of x e.locals) v (visit s))
    bind_adds (tree.Item a b) v s =
        both_add s (expr e a (visit s)) _ (trans (visit_adds s) (expr_adds a (visit s)))
        (λ u s1. both_add s1 (expr e b s1) _ (expr_adds b s1) (λ i s2. done_adds (set_item u i v s2.world) s2))
    bind_adds (tree.Unpack ts) v s = trans (visit_adds s) (spread_adds (unpacked (count_of_targets ts) v s.world) (bind_each e ts) (λ vs s1. bind_each_add ts vs s1) (visit s))

    pub bind_each_add : (ts : Targets) (vs : List Value) → Adds (bind_each e ts vs)
    bind_each_add tree.NoTargets vs s = same s
    bind_each_add (tree.MoreTargets t ts) [] s = same s
    bind_each_add (tree.MoreTargets t ts) (v ∷ vs) s = both_add s (bind e t v s) _ (bind_adds t v s) (λ u s1. bind_each_add ts vs s1)

  pub bind_all_add : (ts : Targets) (v : Value) → Adds (bind_all e ts v)
  bind_all_add tree.NoTargets v s = same s
  bind_all_add (tree.MoreTargets t ts) v s = both_add s (bind e t v s) _ (bind_adds t v s) (λ u s1. bind_all_add ts v s1)

pub after_turn_adds : (r : Result (Unit {0})) (again : Meaning (Unit {0})) → Adds again → Grows (state_at r) (state_at (after_turn r again))
after_turn_adds (Gives u s) again h = h s
after_turn_adds (Leaves Continues s) again h = h s
after_turn_adds (Leaves Breaks s) again h = same s
after_turn_adds (Leaves (Raises x) s) again h = same s
after_turn_adds (Leaves (Returns v) s) again h = same s
after_turn_adds (Asks q s) again h = same s
after_turn_adds (Cut s) again h = same s

pub loop_adds : (n : ℕ) (test : Meaning Value) (body last : Meaning (Unit {0})) → Adds test → Adds body → Adds last → Adds (loop n test body last)
loop_adds zero test body last h k l s = same s
loop_adds (suc n) test body last h k l s =
    both_add s (test (visit s)) _ (trans (visit_adds s) (h (visit s)))
    (λ t s1. choose_adds (is_true t s1.world) (after_turn (body s1) (loop n test body last)) (last s1) (trans (k s1) (after_turn_adds (body s1) (loop n test body last) (loop_adds n test body last h k l))) (l s1))

-- the turns of a `for`, by the next item
pub items_add : (o : Next) (put : Value → Meaning (Unit {0})) (body last : Meaning (Unit {0})) (again : Iterator → Meaning (Unit {0})) → ((v : Value) → Adds (put v)) → Adds body → Adds last → ((it : Iterator) → Adds (again it)) → Adds (turn_of o put body last again)
items_add (Item v more) put body last again h k l r s =
    both_add s (put v s) _ (h v s) (λ u s1. trans (k s1) (after_turn_adds (body s1) (again more) (r more)))
items_add Exhausted put body last again h k l r s = l s
items_add (Refuses k message) put body last again h i l r s = raised_adds (exception k (Some (Str message)) s.world) s

pub for_loop_adds : (n : ℕ) (put : Value → Meaning (Unit {0})) (body last : Meaning (Unit {0})) → ((v : Value) → Adds (put v)) → Adds body → Adds last → (it : Iterator) → Adds (for_loop n put body last it)
for_loop_adds zero put body last h k l it s = same s
for_loop_adds (suc n) put body last h k l it s =
    trans (visit_adds s) (items_add (next_item it s.world) put body last (for_loop n put body last) h k l (λ j. for_loop_adds n put body last h k l j) (visit s))

pub over_adds : (o : Option Iterator) (f : Iterator → Meaning (Unit {0})) → ((it : Iterator) → Adds (f it)) → Adds (over o f)
over_adds None f h s = raised_adds (type_error s.world) s
over_adds (Some it) f h s = h it s

pub caught_adds : (r : Result (Unit {0})) (handle : ℕ → Meaning (Unit {0})) (last : Meaning (Unit {0})) → ((x : ℕ) → Adds (handle x)) → Adds last → Grows (state_at r) (state_at (caught r handle last))
caught_adds (Gives u s) handle last h k = k s
caught_adds (Leaves (Raises x) s) handle last h k = h x s
caught_adds (Leaves (Returns v) s) handle last h k = same s
caught_adds (Leaves Breaks s) handle last h k = same s
caught_adds (Leaves Continues s) handle last h k = same s
caught_adds (Asks q s) handle last h k = same s
caught_adds (Cut s) handle last h k = same s

pub finally_adds : (old : Option ℕ) (r : Result (Unit {0})) (last : Option ℕ → Meaning (Unit {0})) → ((x : Option ℕ) → Adds (last x)) → Grows (state_at r) (state_at (finally old r last))
finally_adds old (Gives u s) last h = h old s
finally_adds old (Leaves p s) last h = both_add s (last (active_in p old) s) _ (h (active_in p old) s) (λ u s1. same s1)
finally_adds old (Asks q s) last h = same s
finally_adds old (Cut s) last h = same s

pub named_adds : (e : Scope) (y : Option Text) (x : ℕ) (suite : Meaning (Unit {0})) → Adds suite → Adds (named e y x suite)
named_adds e None x suite h s = h s
named_adds e (Some y) x suite h s =
    let p = place_of y e.locals in
    both_add s (assign y p (Address x) s) _ (assign_adds y p (Address x) s)
    (λ u s1. trans (h s1) (finally_adds e.active (suite s1) (λ active s2. unassign y p s2) (λ active s2. unassign_adds y p s2)))

-- the except clauses of a `try`, its else suite and its finally suite
abbrev pub handling : Scope → Stmts → Clauses → ℕ → Meaning (Unit {0})
handling e b cs x = clauses (after (functions_in b) (with_active (Some x) e)) cs x

abbrev pub otherwise : Scope → Stmts → Clauses → Stmts → Meaning (Unit {0})
otherwise e b cs c = stmts (after (functions_in b ++ functions_in_clauses cs) e) c

abbrev pub lastly : Scope → Stmts → Clauses → (c f : Stmts) → Option ℕ → Meaning (Unit {0})
lastly e b cs c f active = stmts (after (functions_in b ++ (functions_in_clauses cs ++ functions_in c)) (with_active active e)) f

-- the rest of an augmented assignment to an item whose value was read: the right side, the operation, and the item is set
abbrev pub stored : Scope → (object index value : Value) → BinaryOperator → Expr → Meaning (Unit {0})
stored e u i y o c s = then (expr e c s) (λ z s1. then (ran (augment o y z s1.world) s1) (λ x s2. done (set_item u i x s2.world) s2))

pub stored_adds : (e : Scope) → Calls_add e → (u i y : Value) (o : BinaryOperator) (c : Expr) → Adds (stored e u i y o c)
stored_adds e h u i y o c s =
    both_add s (expr e c s) _ (expr_adds e h c s)
    (λ z s1. both_add s1 (ran (augment o y z s1.world) s1) _ (ran_adds (augment o y z s1.world) s1) (λ x s2. done_adds (set_item u i x s2.world) s2))

mutual
  pub stmt_adds : (e : Scope) → Calls_add e → (a : Stmt) → Adds (stmt e a)
  stmt_adds e h (tree.Evaluate a) s = both_add s (expr e a (visit s)) _ (trans (visit_adds s) (expr_adds e h a (visit s))) (λ v s1. same s1)
  stmt_adds e h (tree.Assign ts a) s = both_add s (expr e a (visit s)) _ (trans (visit_adds s) (expr_adds e h a (visit s))) (λ v s1. bind_all_add e h ts v s1)
  stmt_adds e h (tree.Augment x o a) s =
      both_add s (read x (place_of x e.locals) (visit (visit s))) _
      (trans (trans (visit_adds s) (visit_adds (visit s))) (read_adds x (place_of x e.locals) (visit (visit s))))
      (λ u s1. both_add s1 (expr e a s1) _ (expr_adds e h a s1)
      (λ v s2. both_add s2 (ran (augment o u v s2.world) s2) _ (ran_adds (augment o u v s2.world) s2) (λ z s3. assign_adds x (place_of x e.locals) z s3)))
  stmt_adds e h (tree.AugmentItem a b o c) s =
      both_add s (expr e a (visit (visit s))) _ (trans (trans (visit_adds s) (visit_adds (visit s))) (expr_adds e h a (visit (visit s))))
      (λ u s1. both_add s1 (expr e b s1) _ (expr_adds e h b s1)
      (λ i s2. both_add s2 (ran (subscript u i s2.world) s2) _ (ran_adds (subscript u i s2.world) s2) (λ y s3. stored_adds e h u i y o c s3)))
  stmt_adds e h (tree.Delete a b) s =
      both_add s (expr e a (visit (visit s))) _ (trans (trans (visit_adds s) (visit_adds (visit s))) (expr_adds e h a (visit (visit s))))
      (λ u s1. both_add s1 (expr e b s1) _ (expr_adds e h b s1) (λ i s2. done_adds (delete_item u i s2.world) s2))
  stmt_adds e h tree.Pass s = visit_adds s
  stmt_adds e h (tree.If a b c) s =
      both_add s (expr e a (visit s)) _ (trans (visit_adds s) (expr_adds e h a (visit s)))
      (λ t s1. choose_adds (is_true t s1.world) (stmts e b s1) (stmts (after (functions_in b) e) c s1) (stmts_add e h b s1) (stmts_add (after (functions_in b) e) h c s1))
  stmt_adds e h (tree.While a b c) s =
      trans (visit_adds s)
      (loop_adds e.turns (expr e a) (stmts e b) (stmts (after (functions_in b) e) c)
      (λ s1. expr_adds e h a s1) (λ s1. stmts_add e h b s1) (λ s1. stmts_add (after (functions_in b) e) h c s1) (visit s))
  stmt_adds e h tree.Break s = visit_adds s
  stmt_adds e h tree.Continue s = visit_adds s
  stmt_adds e h (tree.Define f ps b) s = trans (visit_adds s) (assign_adds f (place_of f e.locals) (Function f e.first) (visit s))
  stmt_adds e h (tree.Return a) s = trans (visit_adds s) (returning_adds e h a (visit s))
  stmt_adds e h (tree.Global xs) s = visit_adds s
  stmt_adds e h (tree.Import m) s = trans (visit_adds s) (assign_adds (module_name m) (place_of (module_name m) e.locals) (Module m) (visit s))
  stmt_adds e h (tree.Raise a) s = trans (visit_adds s) (raising_adds e h a (visit s))
  stmt_adds e h (tree.For t a b c) s =
      both_add s (expr e a (visit s)) _ (trans (visit_adds s) (expr_adds e h a (visit s)))
      (λ v s1. over_adds (iterator_of v s1.world) _
      (λ it. for_loop_adds e.turns (λ u s2. bind e t u s2) (stmts e b) (stmts (after (functions_in b) e) c)
      (λ u s2. bind_adds e h t u s2) (λ s2. stmts_add e h b s2) (λ s2. stmts_add (after (functions_in b) e) h c s2) it) s1)
  stmt_adds e h (tree.Try b cs c) s =
      trans (trans (visit_adds s) (stmts_add e h b (visit s)))
      (caught_adds (stmts e b (visit s)) (handling e b cs) (otherwise e b cs c)
      (λ x s1. clauses_add (after (functions_in b) (with_active (Some x) e)) h cs x s1) (λ s1. stmts_add (after (functions_in b ++ functions_in_clauses cs) e) h c s1))
  stmt_adds e h (tree.Finally b cs c f) s =
      trans
      (trans (trans (visit_adds s) (stmts_add e h b (visit s)))
      (caught_adds (stmts e b (visit s)) (handling e b cs) (otherwise e b cs c)
      (λ x s1. clauses_add (after (functions_in b) (with_active (Some x) e)) h cs x s1) (λ s1. stmts_add (after (functions_in b ++ functions_in_clauses cs) e) h c s1)))
      (finally_adds e.active (caught (stmts e b (visit s)) (handling e b cs) (otherwise e b cs c)) (lastly e b cs c f)
      (λ active s1. stmts_add (after (functions_in b ++ (functions_in_clauses cs ++ functions_in c)) (with_active active e)) h f s1))

  pub stmts_add : (e : Scope) → Calls_add e → (b : Stmts) → Adds (stmts e b)
  stmts_add e h tree.NoStmts s = same s
  stmts_add e h (tree.MoreStmts a b) s = both_add s (stmt e a s) _ (stmt_adds e h a s) (λ u s1. stmts_add (after (functions_of a) e) h b s1)

  pub clauses_add : (e : Scope) → Calls_add e → (cs : Clauses) (x : ℕ) → Adds (clauses e cs x)
  clauses_add e h tree.NoClauses x s = same s
  clauses_add e h (tree.MoreClauses None y b cs) x s = trans (visit_adds s) (named_adds e y x (stmts e b) (λ s1. stmts_add e h b s1) (visit s))
  clauses_add e h (tree.MoreClauses (Some a) y b cs) x s =
      both_add s (expr e a (visit s)) _ (trans (visit_adds s) (expr_adds e h a (visit s)))
      (λ v s1. both_add s1 (ran (catches v x s1.world) s1) _ (ran_adds (catches v x s1.world) s1)
      (λ t s2. choose_adds (is_true t s2.world) (named e y x (stmts e b) s2) (clauses (after (functions_in b) e) cs x s2)
      (named_adds e y x (stmts e b) (λ s3. stmts_add e h b s3) s2) (clauses_add (after (functions_in b) e) h cs x s2)))

-- ---- growing, of a call

pub returned_adds : (old : List (Option Value)) (r : Result (Unit {0})) → Grows (state_at r) (state_at (returned old r))
returned_adds old (Gives u s) = record { pieces = (same s).pieces; visits = (same s).visits }
returned_adds old (Leaves (Returns v) s) = record { pieces = (same s).pieces; visits = (same s).visits }
returned_adds old (Leaves (Raises x) s) = record { pieces = (same s).pieces; visits = (same s).visits }
returned_adds old (Leaves Breaks s) = record { pieces = (same s).pieces; visits = (same s).visits }
returned_adds old (Leaves Continues s) = record { pieces = (same s).pieces; visits = (same s).visits }
returned_adds old (Asks q s) = same s
returned_adds old (Cut s) = same s

pub fitting_adds : (f : Option tree.Function) (vs : List Value) (go : tree.Function → Meaning Value) → ((g : tree.Function) → Adds (go g)) → Adds (fitting f vs go)
fitting_adds None vs go h s = ran_adds (not_callable s.world) s
fitting_adds (Some f) vs go h s =
    choose_adds (nat_eq (length vs) (length f.parameters)) (go f s) (ran (wrong_arguments s.world) s) (h f s) (ran_adds (wrong_arguments s.world) s)

-- what the suite of a function is given
abbrev pub suite_scope : ℕ → (Option ℕ → ℕ → List Value → Meaning Value) → tree.Function → Option ℕ → Scope
suite_scope n calling f active = record { locals = locals_of f; first = 0; active = active; turns = n; call = calling }

pub run_body_adds : (n : ℕ) (calling : Option ℕ → ℕ → List Value → Meaning Value) → ((x : Option ℕ) (k : ℕ) (vs : List Value) → Adds (calling x k vs)) → (f : tree.Function) (active : Option ℕ) (vs : List Value) → Adds (run_body n calling f active vs)
run_body_adds n calling h f active vs s =
    let t = record s { slots = entered (length (locals_of f)) vs } in
    let g = trans (stmts_add (suite_scope n calling f active) h f.body t) (returned_adds s.slots (stmts (suite_scope n calling f active) f.body t)) in
    record { pieces = g.pieces; visits = g.visits }

pub call_adds : (fs : List tree.Function) (n d : ℕ) (active : Option ℕ) (k : ℕ) (vs : List Value) → Adds (call fs n d active k vs)
call_adds fs n zero active k vs s = fitting_adds (slice_get fs k) vs (λ f s1. ran (too_deep s1.world) s1) (λ f s1. ran_adds (too_deep s1.world) s1) s
call_adds fs n (suc d) active k vs s =
    fitting_adds (slice_get fs k) vs (λ f s1. run_body n (call fs n d) f active vs s1) (λ f s1. run_body_adds n (call fs n d) (λ z j us. call_adds fs n d z j us) f active vs s1) s

pub run_adds : (fs : List tree.Function) (n : ℕ) (body : Stmts) → Adds (run_of fs n body)
run_adds fs n body s = stmts_add (module_scope (fs ++ functions_in body) (length fs) n) (λ x k vs. call_adds (fs ++ functions_in body) n max_calls x k vs) body s

-- ---- growing, of a life

-- the rest of a life only adds
abbrev pub Rest_adds : (State → Told) → Type 0
Rest_adds rest = (s : State) → Grows s (state_of (rest s))

pub after_end_adds : (answers : List Answer) (o : Outcome) (rest : State → Told) → Rest_adds rest → (s : State) → Grows s (state_of (after_end answers o rest s))
after_end_adds [] o rest h s = record { pieces = (same s).pieces; visits = (same s).visits }
after_end_adds (Done ∷ more) o rest h s = let g = h (record s { answers = more }) in record { pieces = g.pieces; visits = g.visits }
after_end_adds (Taken j ∷ more) o rest h s = record { pieces = (same s).pieces; visits = (same s).visits }
after_end_adds (world.Limit ∷ more) o rest h s = record { pieces = (same s).pieces; visits = (same s).visits }
after_end_adds ((world.Created i) ∷ more) o rest h s = record { pieces = (same s).pieces; visits = (same s).visits }
after_end_adds ((world.QueueMade i) ∷ more) o rest h s = record { pieces = (same s).pieces; visits = (same s).visits }
after_end_adds ((world.Started i) ∷ more) o rest h s = record { pieces = (same s).pieces; visits = (same s).visits }
after_end_adds (world.Full ∷ more) o rest h s = record { pieces = (same s).pieces; visits = (same s).visits }
after_end_adds (world.Empty ∷ more) o rest h s = record { pieces = (same s).pieces; visits = (same s).visits }
after_end_adds ((world.Item v) ∷ more) o rest h s = record { pieces = (same s).pieces; visits = (same s).visits }
after_end_adds ((world.Count i) ∷ more) o rest h s = record { pieces = (same s).pieces; visits = (same s).visits }
after_end_adds ((world.Ids is) ∷ more) o rest h s = record { pieces = (same s).pieces; visits = (same s).visits }
after_end_adds (world.NotFound ∷ more) o rest h s = record { pieces = (same s).pieces; visits = (same s).visits }
after_end_adds (world.Running ∷ more) o rest h s = record { pieces = (same s).pieces; visits = (same s).visits }
after_end_adds (world.Current ∷ more) o rest h s = record { pieces = (same s).pieces; visits = (same s).visits }
after_end_adds (world.Main ∷ more) o rest h s = record { pieces = (same s).pieces; visits = (same s).visits }
after_end_adds ((world.Ended z) ∷ more) o rest h s = record { pieces = (same s).pieces; visits = (same s).visits }
after_end_adds ((world.Truth t) ∷ more) o rest h s = record { pieces = (same s).pieces; visits = (same s).visits }

pub ends_add : (o : Outcome) (rest : State → Told) → Rest_adds rest → (s : State) → Grows s (state_of (ends_with o rest s))
ends_add o rest h s = trans (visit_adds s) (after_end_adds s.answers o rest h (visit s))

pub run_ended_adds : (rest : State → Told) → Rest_adds rest → (r : Result (Unit {0})) → Grows (state_at r) (state_of (run_ended rest r))
run_ended_adds rest h (Gives u s) = ends_add Returned rest h s
run_ended_adds rest h (Leaves p s) = ends_add (outcome_of p s.world) rest h s
run_ended_adds rest h (Asks q s) = same s
run_ended_adds rest h (Cut s) = same s

pub takes_add : (n : ℕ) (fs : List tree.Function) (rest : List tree.Function → State → Told) → ((gs : List tree.Function) → Rest_adds (rest gs)) → (answers : List Answer) (s : State) → Grows s (state_of (takes n fs rest answers s))
takes_add n fs rest h [] s = record { pieces = (same s).pieces; visits = (same s).visits }
takes_add n fs rest h (Taken (Bind bs) ∷ more) s =
    let g = h fs (record s { answers = more; world = record s.world { globals = world.bind_all bs s.world.globals } }) in record { pieces = g.pieces; visits = g.visits }
takes_add n fs rest h (Taken (Run None) ∷ more) s = let g = ends_add not_read (rest fs) (h fs) (record s { answers = more }) in record { pieces = g.pieces; visits = g.visits }
takes_add n fs rest h (Taken (Run (Some m)) ∷ more) s =
    let t = record s { answers = more; slots = [] } in
    let gs = fs ++ functions_in m.body in
    let g = trans (run_adds fs n m.body t) (run_ended_adds (rest gs) (h gs) (run_of fs n m.body t)) in
    record { pieces = g.pieces; visits = g.visits }
takes_add n fs rest h (Taken Closing ∷ more) s = record { pieces = (same s).pieces; visits = (same s).visits }
takes_add n fs rest h (Done ∷ more) s = record { pieces = (same s).pieces; visits = (same s).visits }
takes_add n fs rest h (world.Limit ∷ more) s = record { pieces = (same s).pieces; visits = (same s).visits }
takes_add n fs rest h ((world.Created i) ∷ more) s = record { pieces = (same s).pieces; visits = (same s).visits }
takes_add n fs rest h ((world.QueueMade i) ∷ more) s = record { pieces = (same s).pieces; visits = (same s).visits }
takes_add n fs rest h ((world.Started i) ∷ more) s = record { pieces = (same s).pieces; visits = (same s).visits }
takes_add n fs rest h (world.Full ∷ more) s = record { pieces = (same s).pieces; visits = (same s).visits }
takes_add n fs rest h (world.Empty ∷ more) s = record { pieces = (same s).pieces; visits = (same s).visits }
takes_add n fs rest h ((world.Item v) ∷ more) s = record { pieces = (same s).pieces; visits = (same s).visits }
takes_add n fs rest h ((world.Count i) ∷ more) s = record { pieces = (same s).pieces; visits = (same s).visits }
takes_add n fs rest h ((world.Ids is) ∷ more) s = record { pieces = (same s).pieces; visits = (same s).visits }
takes_add n fs rest h (world.NotFound ∷ more) s = record { pieces = (same s).pieces; visits = (same s).visits }
takes_add n fs rest h (world.Running ∷ more) s = record { pieces = (same s).pieces; visits = (same s).visits }
takes_add n fs rest h (world.Current ∷ more) s = record { pieces = (same s).pieces; visits = (same s).visits }
takes_add n fs rest h (world.Main ∷ more) s = record { pieces = (same s).pieces; visits = (same s).visits }
takes_add n fs rest h ((world.Ended z) ∷ more) s = record { pieces = (same s).pieces; visits = (same s).visits }
takes_add n fs rest h ((world.Truth t) ∷ more) s = record { pieces = (same s).pieces; visits = (same s).visits }

pub life_adds : (n k : ℕ) (fs : List tree.Function) → Rest_adds (life n k fs)
life_adds n zero fs s = same s
life_adds n (suc k) fs s = trans (visit_adds s) (takes_add n fs (life n k) (λ gs. life_adds n k gs) s.answers (visit s))
