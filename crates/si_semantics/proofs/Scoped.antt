-- A well scoped text is left by exceptions alone.
use Rattle.std.proofs.Common.{◌≡◌, ℕ, zero, suc, List, [], ◌∷◌, ◌++◌, length, Bool, true, false, ◌&&◌, Option, Some, None, refl, subst}
use Rattle.std.specs.Prelude.{nat_eq, slice_get}
use Rattle.si_semantics.specs.Value.{Text, Value, Nothing, Truth, Int, Str, Bytes, Provided, Function, Range, Tuple, Class, Module, Queue, Interpreter, Exec, Address}
use Rattle.si_semantics.specs.Tree.{BooleanOperator, Expr, Exprs, Comparisons, Target, Targets, count_of_targets, Stmt, Stmts, Clauses, functions_of, functions_in, functions_in_clauses}
use Rattle.si_semantics.specs.Tree as tree
use Rattle.si_semantics.specs.World.{Request, Answer, Replied, Got, Failed, Wants, Ran, Gave, Threw, Asked}
use Rattle.si_semantics.specs.Operations.{exception, tuple_within, list_within, operate, operate_unary, is_true, compare, load_global, load_local, call_provided, call_by_name, not_callable, wrong_arguments, too_deep, catches, Iterator, iterator_of, Next, Item, Exhausted, Refuses, next_item}
use Rattle.si_semantics.specs.Replies.{reply}
use Rattle.si_semantics.specs.Subscription.{subscript}
use Rattle.si_semantics.specs.Containers.{dict_of, set_item, delete_item, augment, unpacked}
use Rattle.si_plain.specs.declared.kind.Kind.{Kind}
use Rattle.std.specs.Prelude as prelude
use Rattle.si_semantics.specs.Attributes.{Method, attribute, called, method_of, call_method}
use Rattle.si_semantics.specs.Text.{module_name}
use Rattle.si_semantics.specs.Meaning.{State, Leave, Raises, Returns, Breaks, Continues, Result, Gives, Leaves, Asks, Cut, Meaning, Scope, after, visit, then, raised, asked, ran, slot_at, read, assign, calls, calls_method, calls_attribute, callee, choose, decides, compared, expr, exprs, operands, chain, done, spread, bind, bind_each, bind_all, after_turn, turn_of, loop, for_loop, over, returning, raising, caught, active_in, finally, unassign, named, with_active, clauses, stmt, stmts, returned, fitting, run_body, call, max_calls}
use Rattle.si_semantics.specs.Scope.{place_of, Within, InText, InFunction, in_loop, may_return, looping, finishing, stmt_scoped, stmts_scoped, clauses_scoped}
use Rattle.si_semantics.specs.Life.{module_scope}
use Rattle.si_semantics.specs.Laws.{LeftByExceptions}

-- a result is left by `break` and `continue` in a loop alone, and by `return` where it may stand
abbrev Keeps : {A : Type 0} → Within → Result A → Type 0
Keeps w (Gives a s) = Unit {0}
Keeps w (Leaves (Raises x) s) = Unit {0}
Keeps w (Leaves (Returns v) s) = may_return w ≡ true
Keeps w (Leaves Breaks s) = in_loop w ≡ true
Keeps w (Leaves Continues s) = in_loop w ≡ true
Keeps w (Asks q s) = Unit {0}
Keeps w (Cut s) = Unit {0}

then_keeps : {A B : Type 0} (w : Within) (r : Result A) (f : A → Meaning B) → Keeps w r → ((a : A) (s : State) → Keeps w (f a s)) → Keeps w (then r f)
then_keeps w (Gives a s) f h k = k a s
then_keeps w (Leaves (Raises x) s) f h k = tt
then_keeps w (Leaves (Returns v) s) f h k = h
then_keeps w (Leaves Breaks s) f h k = h
then_keeps w (Leaves Continues s) f h k = h
then_keeps w (Asks q s) f h k = tt
then_keeps w (Cut s) f h k = tt

choose_keeps : {A : Type 0} (w : Within) (t : Bool) (r q : Result A) → Keeps w r → Keeps w q → Keeps w (choose t r q)
choose_keeps w true r q h k = h
choose_keeps w false r q h k = k

replied_keeps : (w : Within) (rest : List Answer) (o : Replied) (s : State) → ((q : Request) (t : State) → Keeps w (asked rest q t))
    → Keeps w (elim o [ Got v x ↦ Gives v (record s { world = x; answers = rest }) | Failed k a x ↦ raised (exception k a x) (record s { answers = rest }) | Wants q x ↦ asked rest q (record s { world = x }) ])
replied_keeps w rest (Got v x) s h = tt
replied_keeps w rest (Failed k a x) s h = tt
replied_keeps w rest (Wants q x) s h = h q (record s { world = x })

asked_keeps : (w : Within) (answers : List Answer) (q : Request) (s : State) → Keeps w (asked answers q s)
asked_keeps w [] q s = tt
asked_keeps w (a ∷ rest) q s = replied_keeps w rest (reply q a s.world) s (λ p t. asked_keeps w rest p t)

ran_keeps : (w : Within) (o : Ran) (s : State) → Keeps w (ran o s)
ran_keeps w (Gave v out x) s = tt
ran_keeps w (Threw k a x) s = tt
ran_keeps w (Asked q x) s = asked_keeps w s.answers q (record s { world = x })

read_keeps : (w : Within) (x : Text) (p : Option ℕ) (s : State) → Keeps w (read x p s)
read_keeps w x None s = ran_keeps w (load_global x s.world) s
read_keeps w x (Some k) s = ran_keeps w (load_local x (slot_at k s.slots) s.world) s

assign_keeps : (w : Within) (x : Text) (p : Option ℕ) (v : Value) (s : State) → Keeps w (assign x p v s)
assign_keeps w x None v s = tt
assign_keeps w x (Some k) v s = tt

unassign_keeps : (w : Within) (x : Text) (p : Option ℕ) (s : State) → Keeps w (unassign x p s)
unassign_keeps w x None s = tt
unassign_keeps w x (Some k) s = tt

compared_keeps : (w : Within) (cs : Comparisons) (t : Value) (rest : Meaning Value) → ((s : State) → Keeps w (rest s)) → (s : State) → Keeps w (compared cs t rest s)
compared_keeps w tree.NoComparisons t rest h s = tt
compared_keeps w (tree.MoreComparisons o a cs) t rest h s = choose_keeps w (is_true t s.world) (rest s) (Gives t s) (h s) tt

-- ---- calls

-- a call is left by an exception alone, whatever its suite was left by
returned_keeps : (w : Within) (old : List (Option Value)) (r : Result (Unit {0})) → Keeps w (returned old r)
returned_keeps w old (Gives u s) = tt
returned_keeps w old (Leaves (Raises x) s) = tt
returned_keeps w old (Leaves (Returns v) s) = tt
returned_keeps w old (Leaves Breaks s) = tt
returned_keeps w old (Leaves Continues s) = tt
returned_keeps w old (Asks q s) = tt
returned_keeps w old (Cut s) = tt

fitting_keeps : (w : Within) (f : Option tree.Function) (vs : List Value) (go : tree.Function → Meaning Value) → ((g : tree.Function) (s : State) → Keeps w (go g s)) → (s : State) → Keeps w (fitting f vs go s)
fitting_keeps w None vs go h s = ran_keeps w (not_callable s.world) s
fitting_keeps w (Some f) vs go h s =
    choose_keeps w (nat_eq (length vs) (length f.parameters)) (go f s) (ran (wrong_arguments s.world) s) (h f s) (ran_keeps w (wrong_arguments s.world) s)

call_keeps : (w : Within) (fs : List tree.Function) (n d : ℕ) (active : Option ℕ) (k : ℕ) (vs : List Value) (s : State) → Keeps w (call fs n d active k vs s)
call_keeps w fs n zero active k vs s = fitting_keeps w (slice_get fs k) vs (λ f s1. ran (too_deep s1.world) s1) (λ f s1. ran_keeps w (too_deep s1.world) s1) s
call_keeps w fs n (suc d) active k vs s =
    fitting_keeps w (slice_get fs k) vs (λ f s1. run_body n (call fs n d) f active vs s1) (λ f s1. returned_keeps w s1.slots _) s

-- the calls of functions that were read are left by exceptions alone
abbrev Calls_keep : Scope → Type 0
Calls_keep e = (w : Within) (active : Option ℕ) (k : ℕ) (vs : List Value) (s : State) → Keeps w (e.call active k vs s)

calls_keep : (w : Within) (e : Scope) → Calls_keep e → (g : Value) (vs : List Value) (names : List Text) (s : State) → Keeps w (calls e g vs names s)
calls_keep w e h (Function f k) vs [] s = h w e.active k vs s
calls_keep w e h Nothing vs [] s = ran_keeps w (call_provided Nothing vs s.world) s
calls_keep w e h (Truth t) vs [] s = ran_keeps w (call_provided (Truth t) vs s.world) s
calls_keep w e h (Int i) vs [] s = ran_keeps w (call_provided (Int i) vs s.world) s
calls_keep w e h (Str t) vs [] s = ran_keeps w (call_provided (Str t) vs s.world) s
calls_keep w e h (Bytes t) vs [] s = ran_keeps w (call_provided (Bytes t) vs s.world) s
calls_keep w e h (Provided f) vs [] s = ran_keeps w (call_provided (Provided f) vs s.world) s
calls_keep w e h (Range a b c) vs [] s = ran_keeps w (call_provided (Range a b c) vs s.world) s
calls_keep w e h (Tuple us) vs [] s = ran_keeps w (call_provided (Tuple us) vs s.world) s
calls_keep w e h (Class k) vs [] s = ran_keeps w (call_provided (Class k) vs s.world) s
calls_keep w e h (Module m) vs [] s = ran_keeps w (call_provided (Module m) vs s.world) s
calls_keep w e h (Queue q m) vs [] s = ran_keeps w (call_provided (Queue q m) vs s.world) s
calls_keep w e h (Interpreter i) vs [] s = ran_keeps w (call_provided (Interpreter i) vs s.world) s
calls_keep w e h (Exec i) vs [] s = ran_keeps w (call_provided (Exec i) vs s.world) s
calls_keep w e h (Address x) vs [] s = ran_keeps w (call_provided (Address x) vs s.world) s
calls_keep w e h g vs (x ∷ names) s = ran_keeps w (call_by_name g s.world) s

calls_method_keep : (w : Within) (e : Scope) → Calls_keep e → (m : Option Method) (g : Value) (vs : List Value) (names : List Text) (s : State) → Keeps w (calls_method e m g vs names s)
calls_method_keep w e h None g vs names s = calls_keep w e h g vs names s
calls_method_keep w e h (Some m) g vs names s = ran_keeps w (call_method m g vs names s.world) s

calls_attribute_keep : (w : Within) (e : Scope) → Calls_keep e → (x : Option Text) (g : Value) (vs : List Value) (names : List Text) (s : State) → Keeps w (calls_attribute e x g vs names s)
calls_attribute_keep w e h None g vs names s = calls_keep w e h g vs names s
calls_attribute_keep w e h (Some x) g vs names s = calls_method_keep w e h (method_of g x s.world) g vs names s

callee_keeps : (w : Within) (x : Option Text) (object : Meaning Value) → ((s : State) → Keeps w (object s)) → (s : State) → Keeps w (callee x object s)
callee_keeps w None object h s = h s
callee_keeps w (Some x) object h s = then_keeps w (object (visit s)) _ (h (visit s)) (λ v s1. ran_keeps w (called v x s1.world) s1)

-- ---- expressions

module _ (w : Within) (e : Scope) (calling : Calls_keep e) where
  mutual
    expr_keeps : (a : Expr) (s : State) → Keeps w (expr e a s)
    expr_keeps (tree.Constant v) s = tt
    expr_keeps (tree.Name x) s = read_keeps w x (place_of x e.locals) (visit s)
    expr_keeps (tree.Unary o a) s = then_keeps w (expr e a (visit s)) _ (expr_keeps a (visit s)) (λ v s1. ran_keeps w (operate_unary o v s1.world) s1)
    expr_keeps (tree.Binary o a b) s =
        then_keeps w (expr e a (visit s)) _ (expr_keeps a (visit s)) (λ u s1. then_keeps w (expr e b s1) _ (expr_keeps b s1) (λ v s2. ran_keeps w (operate o u v s2.world) s2))
    expr_keeps (tree.Attribute a x) s = then_keeps w (expr e a (visit s)) _ (expr_keeps a (visit s)) (λ v s1. ran_keeps w (attribute v x s1.world) s1)
    expr_keeps (tree.Call f x args names) s =
        then_keeps w (callee x (expr e f) (visit s)) _ (callee_keeps w x (expr e f) (λ s1. expr_keeps f s1) (visit s))
        (λ g s1. then_keeps w (exprs e args s1) _ (exprs_keep args s1) (λ vs s2. calls_attribute_keep w e calling x g vs names s2))
    expr_keeps (tree.Subscript a b) s =
        then_keeps w (expr e a (visit s)) _ (expr_keeps a (visit s)) (λ u s1. then_keeps w (expr e b s1) _ (expr_keeps b s1) (λ v s2. ran_keeps w (subscript u v s2.world) s2))
    expr_keeps (tree.Tuple items) s = then_keeps w (exprs e items (visit s)) _ (exprs_keep items (visit s)) (λ vs s1. ran_keeps w (tuple_within vs s1.world) s1)
    expr_keeps (tree.ListDisplay items) s = then_keeps w (exprs e items (visit s)) _ (exprs_keep items (visit s)) (λ vs s1. ran_keeps w (list_within vs s1.world) s1)
    expr_keeps (tree.DictDisplay items) s = then_keeps w (exprs e items (visit s)) _ (exprs_keep items (visit s)) (λ vs s1. ran_keeps w (dict_of vs s1.world) s1)
    expr_keeps (tree.Boolean o a more) s = then_keeps w (expr e a (visit s)) _ (expr_keeps a (visit s)) (λ u s1. operands_keep o u more s1)
    expr_keeps (tree.Compare a cs) s = then_keeps w (expr e a (visit s)) _ (expr_keeps a (visit s)) (λ u s1. chain_keeps u cs s1)
    expr_keeps (tree.Conditional a b c) s =
        then_keeps w (expr e a (visit s)) _ (expr_keeps a (visit s)) (λ t s1. choose_keeps w (is_true t s1.world) (expr e b s1) (expr e c s1) (expr_keeps b s1) (expr_keeps c s1))

    exprs_keep : (args : Exprs) (s : State) → Keeps w (exprs e args s)
    exprs_keep tree.NoExprs s = tt
    exprs_keep (tree.MoreExprs a args) s = then_keeps w (expr e a s) _ (expr_keeps a s) (λ v s1. then_keeps w (exprs e args s1) _ (exprs_keep args s1) (λ vs s2. tt))

    operands_keep : (o : BooleanOperator) (u : Value) (more : Exprs) (s : State) → Keeps w (operands e o u more s)
    operands_keep o u tree.NoExprs s = tt
    operands_keep o u (tree.MoreExprs a more) s =
        choose_keeps w (decides o u s.world) (Gives u s) (then (expr e a s) (λ v s1. operands e o v more s1)) tt (then_keeps w (expr e a s) _ (expr_keeps a s) (λ v s1. operands_keep o v more s1))

    chain_keeps : (u : Value) (cs : Comparisons) (s : State) → Keeps w (chain e u cs s)
    chain_keeps u tree.NoComparisons s = tt
    chain_keeps u (tree.MoreComparisons o a cs) s =
        then_keeps w (expr e a s) _ (expr_keeps a s)
        (λ v s1. then_keeps w (ran (compare o u v s1.world) s1) _ (ran_keeps w (compare o u v s1.world) s1) (λ t s2. compared_keeps w cs t (chain e v cs) (λ s3. chain_keeps v cs s3) s2))

-- ---- targets

done_keeps : (w : Within) (o : Ran) (s : State) → Keeps w (done o s)
done_keeps w o s = then_keeps w (ran o s) _ (ran_keeps w o s) (λ v s1. tt)

spread_keeps : (w : Within) (o : prelude.Result (List Value) Kind) (f : List Value → Meaning (Unit {0})) → ((vs : List Value) (s : State) → Keeps w (f vs s)) → (s : State) → Keeps w (spread o f s)
spread_keeps w (prelude.Ok vs) f h s = h vs s
spread_keeps w (prelude.Err k) f h s = tt

module _ (w : Within) (e : Scope) (calling : Calls_keep e) where
  mutual
    bind_keeps : (t : Target) (v : Value) (s : State) → Keeps w (bind e t v s)
    bind_keeps (tree.Named x) v s = assign_keeps w x (place_of x e.locals) v (visit s)
    bind_keeps (tree.Item a b) v s =
        then_keeps w (expr e a (visit s)) _ (expr_keeps w e calling a (visit s))
        (λ u s1. then_keeps w (expr e b s1) _ (expr_keeps w e calling b s1) (λ i s2. done_keeps w (set_item u i v s2.world) s2))
    bind_keeps (tree.Unpack ts) v s = spread_keeps w (unpacked (count_of_targets ts) v s.world) (bind_each e ts) (λ vs s1. bind_each_keeps ts vs s1) (visit s)

    bind_each_keeps : (ts : Targets) (vs : List Value) (s : State) → Keeps w (bind_each e ts vs s)
    bind_each_keeps tree.NoTargets vs s = tt
    bind_each_keeps (tree.MoreTargets t ts) [] s = tt
    bind_each_keeps (tree.MoreTargets t ts) (v ∷ vs) s = then_keeps w (bind e t v s) _ (bind_keeps t v s) (λ u s1. bind_each_keeps ts vs s1)

  bind_all_keeps : (ts : Targets) (v : Value) (s : State) → Keeps w (bind_all e ts v s)
  bind_all_keeps tree.NoTargets v s = tt
  bind_all_keeps (tree.MoreTargets t ts) v s = then_keeps w (bind e t v s) _ (bind_keeps t v s) (λ u s1. bind_all_keeps ts v s1)

-- ---- statements

-- where `return` may stand in a loop's body it may stand in front of the loop
out_of_loop : (w : Within) → may_return (looping w) ≡ true → may_return w ≡ true
out_of_loop (InText l) h = h
out_of_loop (InFunction l r) h = h

-- a turn's body may be left by `break` and `continue`
turn_keeps : (w : Within) (r : Result (Unit {0})) (again : Meaning (Unit {0})) → Keeps (looping w) r → ((s : State) → Keeps w (again s)) → Keeps w (after_turn r again)
turn_keeps w (Gives u s) again h k = k s
turn_keeps w (Leaves Continues s) again h k = k s
turn_keeps w (Leaves Breaks s) again h k = tt
turn_keeps w (Leaves (Raises x) s) again h k = tt
turn_keeps w (Leaves (Returns v) s) again h k = out_of_loop w h
turn_keeps w (Asks q s) again h k = tt
turn_keeps w (Cut s) again h k = tt

loop_keeps : (w : Within) (test : Meaning Value) (body last : Meaning (Unit {0})) → ((s : State) → Keeps w (test s)) → ((s : State) → Keeps (looping w) (body s)) → ((s : State) → Keeps w (last s)) → (n : ℕ) (s : State) → Keeps w (loop n test body last s)
loop_keeps w test body last h k m zero s = tt
loop_keeps w test body last h k m (suc n) s =
    then_keeps w (test (visit s)) _ (h (visit s))
    (λ t s1. choose_keeps w (is_true t s1.world) (after_turn (body s1) (loop n test body last)) (last s1) (turn_keeps w (body s1) (loop n test body last) (k s1) (λ s2. loop_keeps w test body last h k m n s2)) (m s1))

-- the same over items: a turn with an item, or the else suite
item_keeps : (w : Within) (put : Value → Meaning (Unit {0})) (body last : Meaning (Unit {0})) (again : Iterator → Meaning (Unit {0})) → ((v : Value) (s : State) → Keeps w (put v s)) → ((s : State) → Keeps (looping w) (body s)) → ((s : State) → Keeps w (last s))
    → ((it : Iterator) (s : State) → Keeps w (again it s)) → (o : Next) (s : State)
    → Keeps w (turn_of o put body last again s)
item_keeps w put body last again h k m l (Item v it) s = then_keeps w (put v s) _ (h v s) (λ u s1. turn_keeps w (body s1) (again it) (k s1) (λ s2. l it s2))
item_keeps w put body last again h k m l Exhausted s = m s
item_keeps w put body last again h k m l (Refuses q message) s = tt

for_keeps : (w : Within) (put : Value → Meaning (Unit {0})) (body last : Meaning (Unit {0})) → ((v : Value) (s : State) → Keeps w (put v s)) → ((s : State) → Keeps (looping w) (body s)) → ((s : State) → Keeps w (last s))
    → (n : ℕ) (it : Iterator) (s : State) → Keeps w (for_loop n put body last it s)
for_keeps w put body last h k m zero it s = tt
for_keeps w put body last h k m (suc n) it s = item_keeps w put body last (for_loop n put body last) h k m (λ more s1. for_keeps w put body last h k m n more s1) (next_item it s.world) (visit s)

over_keeps : (w : Within) (o : Option Iterator) (f : Iterator → Meaning (Unit {0})) → ((it : Iterator) (s : State) → Keeps w (f it s)) → (s : State) → Keeps w (over o f s)
over_keeps w None f h s = tt
over_keeps w (Some it) f h s = h it s

-- ---- exceptions

raising_keeps : (w : Within) (e : Scope) → Calls_keep e → (a : Option Expr) (s : State) → Keeps w (raising e a s)
raising_keeps w e h None s = tt
raising_keeps w e h (Some a) s = then_keeps w (expr e a s) _ (expr_keeps w e h a s) (λ v s1. tt)

caught_keeps : (w : Within) (r : Result (Unit {0})) (handle : ℕ → Meaning (Unit {0})) (last : Meaning (Unit {0})) → Keeps w r → ((x : ℕ) (s : State) → Keeps w (handle x s)) → ((s : State) → Keeps w (last s)) → Keeps w (caught r handle last)
caught_keeps w (Gives u s) handle last h k m = m s
caught_keeps w (Leaves (Raises x) s) handle last h k m = k x s
caught_keeps w (Leaves (Returns v) s) handle last h k m = h
caught_keeps w (Leaves Breaks s) handle last h k m = h
caught_keeps w (Leaves Continues s) handle last h k m = h
caught_keeps w (Asks q s) handle last h k m = tt
caught_keeps w (Cut s) handle last h k m = tt

-- a finally suite is left by an exception alone
out_of_end : {A : Type 0} (w : Within) (r : Result A) → Keeps (finishing w) r → Keeps w r
out_of_end w (Gives a s) h = tt
out_of_end w (Leaves (Raises x) s) h = tt
out_of_end (InText l) (Leaves (Returns v) s) h = cc
out_of_end (InFunction l r) (Leaves (Returns v) s) h = cc
out_of_end (InText l) (Leaves Breaks s) h = cc
out_of_end (InFunction l r) (Leaves Breaks s) h = cc
out_of_end (InText l) (Leaves Continues s) h = cc
out_of_end (InFunction l r) (Leaves Continues s) h = cc
out_of_end w (Asks q s) h = tt
out_of_end w (Cut s) h = tt

finally_keeps : (w : Within) (old : Option ℕ) (r : Result (Unit {0})) (last : Option ℕ → Meaning (Unit {0})) → Keeps w r → ((x : Option ℕ) (s : State) → Keeps w (last x s)) → Keeps w (finally old r last)
finally_keeps w old (Gives u s) last h k = k old s
finally_keeps w old (Leaves p s) last h k = then_keeps w (last (active_in p old) s) _ (k (active_in p old) s) (λ u s1. by p h s1)
  where
    by : (q : Leave) → Keeps {A = Unit {0}} w (Leaves q s) → (s1 : State) → Keeps {A = Unit {0}} w (Leaves q s1)
    by (Raises x) g s1 = tt
    by (Returns v) g s1 = g
    by Breaks g s1 = g
    by Continues g s1 = g
finally_keeps w old (Asks q s) last h k = tt
finally_keeps w old (Cut s) last h k = tt

named_keeps : (w : Within) (e : Scope) (y : Option Text) (x : ℕ) (suite : Meaning (Unit {0})) → ((s : State) → Keeps w (suite s)) → (s : State) → Keeps w (named e y x suite s)
named_keeps w e None x suite h s = h s
named_keeps w e (Some y) x suite h s =
    then_keeps w (assign y (place_of y e.locals) (Address x) s) _ (assign_keeps w y (place_of y e.locals) (Address x) s)
    (λ u s1. finally_keeps w e.active (suite s1) _ (h s1) (λ active s2. unassign_keeps w y (place_of y e.locals) s2))

returning_keeps : (w : Within) (e : Scope) → Calls_keep e → (a : Option Expr) (s : State) → may_return w ≡ true → Keeps w (returning e a s)
returning_keeps w e h None s g = g
returning_keeps w e h (Some a) s g = then_keeps w (expr e a s) _ (expr_keeps w e h a s) (λ v s1. g)

both_true : (a b : Bool) → (a && b) ≡ true → (a ≡ true) × (b ≡ true)
both_true true true h = (refl, refl)
both_true true false h = cc
both_true false b h = cc

mutual
  stmt_keeps : (w : Within) (e : Scope) → Calls_keep e → (a : Stmt) (s : State) → stmt_scoped w a ≡ true → Keeps w (stmt e a s)
  stmt_keeps w e k (tree.Evaluate a) s h = then_keeps w (expr e a (visit s)) _ (expr_keeps w e k a (visit s)) (λ v s1. tt)
  stmt_keeps w e k (tree.Assign ts a) s h = then_keeps w (expr e a (visit s)) _ (expr_keeps w e k a (visit s)) (λ v s1. bind_all_keeps w e k ts v s1)
  stmt_keeps w e k (tree.Augment x o a) s h =
      then_keeps w (read x (place_of x e.locals) (visit (visit s))) _ (read_keeps w x (place_of x e.locals) (visit (visit s)))
      (λ u s1. then_keeps w (expr e a s1) _ (expr_keeps w e k a s1)
      (λ v s2. then_keeps w (ran (augment o u v s2.world) s2) _ (ran_keeps w (augment o u v s2.world) s2) (λ z s3. assign_keeps w x (place_of x e.locals) z s3)))
  stmt_keeps w e k (tree.AugmentItem a b o c) s h =
      then_keeps w (expr e a (visit (visit s))) _ (expr_keeps w e k a (visit (visit s)))
      (λ u s1. then_keeps w (expr e b s1) _ (expr_keeps w e k b s1)
      (λ i s2. then_keeps w (ran (subscript u i s2.world) s2) _ (ran_keeps w (subscript u i s2.world) s2)
      (λ y s3. then_keeps w (expr e c s3) _ (expr_keeps w e k c s3)
      (λ z s4. then_keeps w (ran (augment o y z s4.world) s4) _ (ran_keeps w (augment o y z s4.world) s4) (λ x s5. done_keeps w (set_item u i x s5.world) s5)))))
  stmt_keeps w e k (tree.Delete a b) s h =
      then_keeps w (expr e a (visit (visit s))) _ (expr_keeps w e k a (visit (visit s)))
      (λ u s1. then_keeps w (expr e b s1) _ (expr_keeps w e k b s1) (λ i s2. done_keeps w (delete_item u i s2.world) s2))
  stmt_keeps w e k tree.Pass s h = tt
  stmt_keeps w e k (tree.If a b c) s h =
      let g = both_true (stmts_scoped w b) (stmts_scoped w c) h in
      then_keeps w (expr e a (visit s)) _ (expr_keeps w e k a (visit s))
      (λ t s1. choose_keeps w (is_true t s1.world) (stmts e b s1) (stmts (after (functions_in b) e) c s1) (stmts_keep w e k b s1 g.0) (stmts_keep w (after (functions_in b) e) k c s1 g.1))
  stmt_keeps w e k (tree.While a b c) s h =
      let g = both_true (stmts_scoped (looping w) b) (stmts_scoped w c) h in
      loop_keeps w (expr e a) (stmts e b) (stmts (after (functions_in b) e) c)
      (λ s1. expr_keeps w e k a s1) (λ s1. stmts_keep (looping w) e k b s1 g.0) (λ s1. stmts_keep w (after (functions_in b) e) k c s1 g.1) e.turns (visit s)
  stmt_keeps w e k (tree.For t a b c) s h =
      let g = both_true (stmts_scoped (looping w) b) (stmts_scoped w c) h in
      then_keeps w (expr e a (visit s)) _ (expr_keeps w e k a (visit s))
      (λ v s1. over_keeps w (iterator_of v s1.world) _
      (λ it s2. for_keeps w (λ u s3. bind e t u s3) (stmts e b) (stmts (after (functions_in b) e) c) (λ u s3. bind_keeps w e k t u s3)
      (λ s3. stmts_keep (looping w) e k b s3 g.0) (λ s3. stmts_keep w (after (functions_in b) e) k c s3 g.1) e.turns it s2) s1)
  stmt_keeps w e k tree.Break s h = h
  stmt_keeps w e k tree.Continue s h = h
  stmt_keeps w e k (tree.Define f ps b) s h = assign_keeps w f (place_of f e.locals) (Function f e.first) (visit s)
  stmt_keeps w e k (tree.Return a) s h = returning_keeps w e k a (visit s) h
  stmt_keeps w e k (tree.Global xs) s h = tt
  stmt_keeps w e k (tree.Import m) s h = assign_keeps w (module_name m) (place_of (module_name m) e.locals) (Module m) (visit s)
  stmt_keeps w e k (tree.Raise a) s h = raising_keeps w e k a (visit s)
  stmt_keeps w e k (tree.Try b cs c) s h =
      let g = both_true (stmts_scoped w b && clauses_scoped w cs) (stmts_scoped w c) h in
      let f = both_true (stmts_scoped w b) (clauses_scoped w cs) g.0 in
      caught_keeps w (stmts e b (visit s)) _ _ (stmts_keep w e k b (visit s) f.0)
      (λ x s1. clauses_keep w (after (functions_in b) (with_active (Some x) e)) k cs x s1 f.1) (λ s1. stmts_keep w (after (functions_in b ++ functions_in_clauses cs) e) k c s1 g.1)
  stmt_keeps w e k (tree.Finally b cs c d) s h =
      let i = both_true ((stmts_scoped w b && clauses_scoped w cs) && stmts_scoped w c) (stmts_scoped (finishing w) d) h in
      let g = both_true (stmts_scoped w b && clauses_scoped w cs) (stmts_scoped w c) i.0 in
      let f = both_true (stmts_scoped w b) (clauses_scoped w cs) g.0 in
      let end = after (functions_in b ++ (functions_in_clauses cs ++ functions_in c)) in
      finally_keeps w e.active _ (λ active. stmts (end (with_active active e)) d)
      (caught_keeps w (stmts e b (visit s)) _ _ (stmts_keep w e k b (visit s) f.0)
      (λ x s1. clauses_keep w (after (functions_in b) (with_active (Some x) e)) k cs x s1 f.1) (λ s1. stmts_keep w (after (functions_in b ++ functions_in_clauses cs) e) k c s1 g.1))
      (λ active s1. out_of_end w (stmts (end (with_active active e)) d s1) (stmts_keep (finishing w) (end (with_active active e)) k d s1 i.1))

  clauses_keep : (w : Within) (e : Scope) → Calls_keep e → (cs : Clauses) (x : ℕ) (s : State) → clauses_scoped w cs ≡ true → Keeps w (clauses e cs x s)
  clauses_keep w e k tree.NoClauses x s h = tt
  clauses_keep w e k (tree.MoreClauses None y b cs) x s h =
      let g = both_true (stmts_scoped w b) (clauses_scoped w cs) h in
      named_keeps w e y x (stmts e b) (λ s1. stmts_keep w e k b s1 g.0) (visit s)
  clauses_keep w e k (tree.MoreClauses (Some a) y b cs) x s h =
      let g = both_true (stmts_scoped w b) (clauses_scoped w cs) h in
      then_keeps w (expr e a (visit s)) _ (expr_keeps w e k a (visit s))
      (λ v s1. then_keeps w (ran (catches v x s1.world) s1) _ (ran_keeps w (catches v x s1.world) s1)
      (λ t s2. choose_keeps w (is_true t s2.world) (named e y x (stmts e b) s2) (clauses (after (functions_in b) e) cs x s2)
      (named_keeps w e y x (stmts e b) (λ s3. stmts_keep w e k b s3 g.0) s2) (clauses_keep w (after (functions_in b) e) k cs x s2 g.1)))

  stmts_keep : (w : Within) (e : Scope) → Calls_keep e → (b : Stmts) (s : State) → stmts_scoped w b ≡ true → Keeps w (stmts e b s)
  stmts_keep w e k tree.NoStmts s h = tt
  stmts_keep w e k (tree.MoreStmts a b) s h =
      let g = both_true (stmt_scoped w a) (stmts_scoped w b) h in
      then_keeps w (stmt e a s) _ (stmt_keeps w e k a s g.0) (λ u s1. stmts_keep w (after (functions_of a) e) k b s1 g.1)

-- ---- a run

raises : (p : Leave) (t : State) → Keeps {A = Unit {0}} (InText false) (Leaves p t) → (x : ℕ) × (p ≡ Raises x)
raises (Raises x) t h = (x, refl)
raises (Returns v) t h = cc
raises Breaks t h = cc
raises Continues t h = cc

pub left_by_exceptions : LeftByExceptions
left_by_exceptions fs n body s t p h is =
    let gs = fs ++ functions_in body in
    raises p t (subst (Keeps (InText false)) is (stmts_keep (InText false) (module_scope gs (length fs) n) (λ w active k vs s1. call_keeps w gs n max_calls active k vs s1) body s h))
