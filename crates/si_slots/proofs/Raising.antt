-- Expressions, targets and calls are left by exceptions alone.
use Rattle.std.proofs.Common.{ℕ, zero, suc, List, [], ◌∷◌, length, Bool, true, false, Option, Some, None}
use Rattle.std.specs.Prelude.{nat_eq, slice_get}
use Rattle.std.specs.Prelude as prelude
use Rattle.si_plain.specs.declared.kind.Kind.{Kind}
use Rattle.si_semantics.specs.Value.{Text, Value, Nothing, Truth, Int, Str, Bytes, Provided, Function, Range, Tuple, Class, Module, Queue, Interpreter, Exec, Address}
use Rattle.si_semantics.specs.Tree.{BooleanOperator, Expr, Exprs, Comparisons, Target, Targets, count_of_targets}
use Rattle.si_semantics.specs.Tree as tree
use Rattle.si_semantics.specs.World.{Request, Answer, Replied, Got, Failed, Wants, Ran, Gave, Threw, Asked}
use Rattle.si_semantics.specs.Operations.{exception, tuple_within, list_within, operate, operate_unary, is_true, compare, load_global, load_local, call_provided, call_by_name, not_callable, wrong_arguments, too_deep}
use Rattle.si_semantics.specs.Replies.{reply}
use Rattle.si_semantics.specs.Subscription.{subscript}
use Rattle.si_semantics.specs.Containers.{dict_of, set_item, unpacked}
use Rattle.si_semantics.specs.Attributes.{Method, attribute, called, method_of, call_method}
use Rattle.si_semantics.specs.Meaning.{State, Raises, Returns, Breaks, Continues, Result, Gives, Leaves, Asks, Cut, Meaning, Scope, visit, then, raised, asked, ran, slot_at, read, calls, calls_method, calls_attribute, callee, choose, decides, compared, expr, exprs, operands, chain, assign, done, spread, bind, bind_each, returned, fitting, run_body, call}
use Rattle.si_semantics.specs.Scope.{place_of}
use Rattle.si_slots.proofs.Blocks.{OnlyRaises}

then_keeps : {A B : Type 0} (r : Result A) (f : A → Meaning B) → OnlyRaises r → ((a : A) (s : State) → OnlyRaises (f a s)) → OnlyRaises (then r f)
then_keeps (Gives a s) f h k = k a s
then_keeps (Leaves (Raises x) s) f h k = tt
then_keeps (Leaves (Returns v) s) f h k = absurd h
then_keeps (Leaves Breaks s) f h k = absurd h
then_keeps (Leaves Continues s) f h k = absurd h
then_keeps (Asks q s) f h k = tt
then_keeps (Cut s) f h k = tt

choose_keeps : {A : Type 0} (t : Bool) (r q : Result A) → OnlyRaises r → OnlyRaises q → OnlyRaises (choose t r q)
choose_keeps true r q h k = h
choose_keeps false r q h k = k

replied_keeps : (rest : List Answer) (o : Replied) (s : State) → ((q : Request) (t : State) → OnlyRaises (asked rest q t))
    → OnlyRaises (elim o [ Got v x ↦ Gives v (record s { world = x; answers = rest }) | Failed k a x ↦ raised (exception k a x) (record s { answers = rest }) | Wants q x ↦ asked rest q (record s { world = x }) ])
replied_keeps rest (Got v x) s h = tt
replied_keeps rest (Failed k a x) s h = tt
replied_keeps rest (Wants q x) s h = h q (record s { world = x })

asked_keeps : (answers : List Answer) (q : Request) (s : State) → OnlyRaises (asked answers q s)
asked_keeps [] q s = tt
asked_keeps (a ∷ rest) q s = replied_keeps rest (reply q a s.world) s (λ p t. asked_keeps rest p t)

ran_keeps : (o : Ran) (s : State) → OnlyRaises (ran o s)
ran_keeps (Gave v out x) s = tt
ran_keeps (Threw k a x) s = tt
ran_keeps (Asked q x) s = asked_keeps s.answers q (record s { world = x })

read_keeps : (x : Text) (p : Option ℕ) (s : State) → OnlyRaises (read x p s)
read_keeps x None s = ran_keeps (load_global x s.world) s
read_keeps x (Some k) s = ran_keeps (load_local x (slot_at k s.slots) s.world) s

compared_keeps : (cs : Comparisons) (t : Value) (rest : Meaning Value) → ((s : State) → OnlyRaises (rest s)) → (s : State) → OnlyRaises (compared cs t rest s)
compared_keeps tree.NoComparisons t rest h s = tt
compared_keeps (tree.MoreComparisons o a cs) t rest h s = choose_keeps (is_true t s.world) (rest s) (Gives t s) (h s) tt

-- ---- calls

-- a call is left by an exception alone, whatever its suite was left by
returned_keeps : (old : List (Option Value)) (r : Result (Unit {0})) → OnlyRaises (returned old r)
returned_keeps old (Gives u s) = tt
returned_keeps old (Leaves (Raises x) s) = tt
returned_keeps old (Leaves (Returns v) s) = tt
returned_keeps old (Leaves Breaks s) = tt
returned_keeps old (Leaves Continues s) = tt
returned_keeps old (Asks q s) = tt
returned_keeps old (Cut s) = tt

fitting_keeps : (f : Option tree.Function) (vs : List Value) (go : tree.Function → Meaning Value) → ((g : tree.Function) (s : State) → OnlyRaises (go g s)) → (s : State) → OnlyRaises (fitting f vs go s)
fitting_keeps None vs go h s = ran_keeps (not_callable s.world) s
fitting_keeps (Some f) vs go h s =
    choose_keeps (nat_eq (length vs) (length f.parameters)) (go f s) (ran (wrong_arguments s.world) s) (h f s) (ran_keeps (wrong_arguments s.world) s)

pub call_keeps : (fs : List tree.Function) (n d : ℕ) (active : Option ℕ) (k : ℕ) (vs : List Value) (s : State) → OnlyRaises (call fs n d active k vs s)
call_keeps fs n zero active k vs s = fitting_keeps (slice_get fs k) vs (λ f s1. ran (too_deep s1.world) s1) (λ f s1. ran_keeps (too_deep s1.world) s1) s
call_keeps fs n (suc d) active k vs s =
    fitting_keeps (slice_get fs k) vs (λ f s1. run_body n (call fs n d) f active vs s1) (λ f s1. returned_keeps s1.slots _) s

-- the calls of functions that were read are left by exceptions alone
abbrev pub Calls_keep : Scope → Type 0
Calls_keep e = (active : Option ℕ) (k : ℕ) (vs : List Value) (s : State) → OnlyRaises (e.call active k vs s)

calls_keep : (e : Scope) → Calls_keep e → (g : Value) (vs : List Value) (names : List Text) (s : State) → OnlyRaises (calls e g vs names s)
calls_keep e h (Function f k) vs [] s = h e.active k vs s
calls_keep e h Nothing vs [] s = ran_keeps (call_provided Nothing vs s.world) s
calls_keep e h (Truth t) vs [] s = ran_keeps (call_provided (Truth t) vs s.world) s
calls_keep e h (Int i) vs [] s = ran_keeps (call_provided (Int i) vs s.world) s
calls_keep e h (Str t) vs [] s = ran_keeps (call_provided (Str t) vs s.world) s
calls_keep e h (Bytes t) vs [] s = ran_keeps (call_provided (Bytes t) vs s.world) s
calls_keep e h (Provided f) vs [] s = ran_keeps (call_provided (Provided f) vs s.world) s
calls_keep e h (Range a b c) vs [] s = ran_keeps (call_provided (Range a b c) vs s.world) s
calls_keep e h (Tuple us) vs [] s = ran_keeps (call_provided (Tuple us) vs s.world) s
calls_keep e h (Class k) vs [] s = ran_keeps (call_provided (Class k) vs s.world) s
calls_keep e h (Module m) vs [] s = ran_keeps (call_provided (Module m) vs s.world) s
calls_keep e h (Queue q m) vs [] s = ran_keeps (call_provided (Queue q m) vs s.world) s
calls_keep e h (Interpreter i) vs [] s = ran_keeps (call_provided (Interpreter i) vs s.world) s
calls_keep e h (Exec i) vs [] s = ran_keeps (call_provided (Exec i) vs s.world) s
calls_keep e h (Address x) vs [] s = ran_keeps (call_provided (Address x) vs s.world) s
calls_keep e h g vs (x ∷ names) s = ran_keeps (call_by_name g s.world) s

calls_method_keep : (e : Scope) → Calls_keep e → (m : Option Method) (g : Value) (vs : List Value) (names : List Text) (s : State) → OnlyRaises (calls_method e m g vs names s)
calls_method_keep e h None g vs names s = calls_keep e h g vs names s
calls_method_keep e h (Some m) g vs names s = ran_keeps (call_method m g vs names s.world) s

calls_attribute_keep : (e : Scope) → Calls_keep e → (x : Option Text) (g : Value) (vs : List Value) (names : List Text) (s : State) → OnlyRaises (calls_attribute e x g vs names s)
calls_attribute_keep e h None g vs names s = calls_keep e h g vs names s
calls_attribute_keep e h (Some x) g vs names s = calls_method_keep e h (method_of g x s.world) g vs names s

callee_keeps : (x : Option Text) (object : Meaning Value) → ((s : State) → OnlyRaises (object s)) → (s : State) → OnlyRaises (callee x object s)
callee_keeps None object h s = h s
callee_keeps (Some x) object h s = then_keeps (object (visit s)) _ (h (visit s)) (λ v s1. ran_keeps (called v x s1.world) s1)

-- ---- expressions

module _ (e : Scope) (calling : Calls_keep e) where
  mutual
    pub expr_keeps : (a : Expr) (s : State) → OnlyRaises (expr e a s)
    expr_keeps (tree.Constant v) s = tt
    expr_keeps (tree.Name x) s = read_keeps x (place_of x e.locals) (visit s)
    expr_keeps (tree.Unary o a) s = then_keeps (expr e a (visit s)) _ (expr_keeps a (visit s)) (λ v s1. ran_keeps (operate_unary o v s1.world) s1)
    expr_keeps (tree.Binary o a b) s =
        then_keeps (expr e a (visit s)) _ (expr_keeps a (visit s)) (λ u s1. then_keeps (expr e b s1) _ (expr_keeps b s1) (λ v s2. ran_keeps (operate o u v s2.world) s2))
    expr_keeps (tree.Attribute a x) s = then_keeps (expr e a (visit s)) _ (expr_keeps a (visit s)) (λ v s1. ran_keeps (attribute v x s1.world) s1)
    expr_keeps (tree.Call f x args names) s =
        then_keeps (callee x (expr e f) (visit s)) _ (callee_keeps x (expr e f) (λ s1. expr_keeps f s1) (visit s))
        (λ g s1. then_keeps (exprs e args s1) _ (exprs_keep args s1) (λ vs s2. calls_attribute_keep e calling x g vs names s2))
    expr_keeps (tree.Subscript a b) s =
        then_keeps (expr e a (visit s)) _ (expr_keeps a (visit s)) (λ u s1. then_keeps (expr e b s1) _ (expr_keeps b s1) (λ v s2. ran_keeps (subscript u v s2.world) s2))
    expr_keeps (tree.Tuple items) s = then_keeps (exprs e items (visit s)) _ (exprs_keep items (visit s)) (λ vs s1. ran_keeps (tuple_within vs s1.world) s1)
    expr_keeps (tree.ListDisplay items) s = then_keeps (exprs e items (visit s)) _ (exprs_keep items (visit s)) (λ vs s1. ran_keeps (list_within vs s1.world) s1)
    expr_keeps (tree.DictDisplay items) s = then_keeps (exprs e items (visit s)) _ (exprs_keep items (visit s)) (λ vs s1. ran_keeps (dict_of vs s1.world) s1)
    expr_keeps (tree.Boolean o a more) s = then_keeps (expr e a (visit s)) _ (expr_keeps a (visit s)) (λ u s1. operands_keep o u more s1)
    expr_keeps (tree.Compare a cs) s = then_keeps (expr e a (visit s)) _ (expr_keeps a (visit s)) (λ u s1. chain_keeps u cs s1)
    expr_keeps (tree.Conditional a b c) s =
        then_keeps (expr e a (visit s)) _ (expr_keeps a (visit s)) (λ t s1. choose_keeps (is_true t s1.world) (expr e b s1) (expr e c s1) (expr_keeps b s1) (expr_keeps c s1))

    exprs_keep : (args : Exprs) (s : State) → OnlyRaises (exprs e args s)
    exprs_keep tree.NoExprs s = tt
    exprs_keep (tree.MoreExprs a args) s = then_keeps (expr e a s) _ (expr_keeps a s) (λ v s1. then_keeps (exprs e args s1) _ (exprs_keep args s1) (λ vs s2. tt))

    operands_keep : (o : BooleanOperator) (u : Value) (more : Exprs) (s : State) → OnlyRaises (operands e o u more s)
    operands_keep o u tree.NoExprs s = tt
    operands_keep o u (tree.MoreExprs a more) s =
        choose_keeps (decides o u s.world) (Gives u s) (then (expr e a s) (λ v s1. operands e o v more s1)) tt (then_keeps (expr e a s) _ (expr_keeps a s) (λ v s1. operands_keep o v more s1))

    chain_keeps : (u : Value) (cs : Comparisons) (s : State) → OnlyRaises (chain e u cs s)
    chain_keeps u tree.NoComparisons s = tt
    chain_keeps u (tree.MoreComparisons o a cs) s =
        then_keeps (expr e a s) _ (expr_keeps a s)
        (λ v s1. then_keeps (ran (compare o u v s1.world) s1) _ (ran_keeps (compare o u v s1.world) s1) (λ t s2. compared_keeps cs t (chain e v cs) (λ s3. chain_keeps v cs s3) s2))

  -- ---- targets

  done_keeps : (o : Ran) (s : State) → OnlyRaises (done o s)
  done_keeps o s = then_keeps (ran o s) _ (ran_keeps o s) (λ v s1. tt)

  assign_keeps : (x : Text) (o : Option ℕ) (v : Value) (s : State) → OnlyRaises (assign x o v s)
  assign_keeps x None v s = tt
  assign_keeps x (Some k) v s = tt

  spread_keeps : (o : prelude.Result (List Value) Kind) (f : List Value → Meaning (Unit {0})) → ((vs : List Value) (s : State) → OnlyRaises (f vs s)) → (s : State) → OnlyRaises (spread o f s)
  spread_keeps (prelude.Ok vs) f h s = h vs s
  spread_keeps (prelude.Err k) f h s = tt

  mutual
    pub bind_keeps : (a : Target) (v : Value) (s : State) → OnlyRaises (bind e a v s)
    bind_keeps (tree.Named x) v s = assign_keeps x (place_of x e.locals) v (visit s)
    bind_keeps (tree.Item a b) v s =
        then_keeps (expr e a (visit s)) _ (expr_keeps a (visit s)) (λ u s1. then_keeps (expr e b s1) _ (expr_keeps b s1) (λ i s2. done_keeps (set_item u i v s2.world) s2))
    bind_keeps (tree.Unpack row) v s = spread_keeps (unpacked (count_of_targets row) v s.world) (λ vs s1. bind_each e row vs s1) (λ vs s1. each_keeps row vs s1) (visit s)

    each_keeps : (row : Targets) (vs : List Value) (s : State) → OnlyRaises (bind_each e row vs s)
    each_keeps tree.NoTargets vs s = tt
    each_keeps (tree.MoreTargets a row) [] s = tt
    each_keeps (tree.MoreTargets a row) (v ∷ vs) s = then_keeps (bind e a v s) _ (bind_keeps a v s) (λ u s1. each_keeps row vs s1)
