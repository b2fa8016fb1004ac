-- What a tree means (Python Language Reference 3.14, 6 to 8): no program counter, no frame, no stack.
use Rattle.std.specs.Prelude.{ℕ, zero, suc, ◌+◌, List, [], ◌∷◌, ◌++◌, ◌-◌, length, Bool, true, false, not, Option, Some, None, nat_eq, slice_get, slice_set}
use Rattle.si_semantics.specs.Value.{Text, Value, Nothing, Str, Function, Module, Address}
use Rattle.si_semantics.specs.Tree.{BooleanOperator, Expr, Exprs, Comparisons, Stmt, Target, Targets, count_of_targets, Stmts, Clauses, functions_of, functions_in, functions_in_clauses}
use Rattle.si_semantics.specs.Tree as tree
use Rattle.si_semantics.specs.Scope.{place_of, locals_of}
use Rattle.si_semantics.specs.World.{World, Request, Answer, Got, Failed, Wants, Ran, Gave, Threw, Asked, set_global, unset_global}
use Rattle.si_semantics.specs.Operations.{exception, tuple_within, list_within, comparison_message, operate, operate_unary, is_true, compare, load_global, load_local, call_provided, call_by_name, not_callable, wrong_arguments, too_deep, type_error, raised_by, raised_again, catches, Iterator, iterator_of, Next, Item, Exhausted, Refuses, next_item}
use Rattle.si_semantics.specs.Replies.{reply}
use Rattle.si_semantics.specs.Subscription.{subscript}
use Rattle.si_semantics.specs.Containers.{dict_of, set_item, delete_item, augment, unpacked}
use Rattle.std.specs.Prelude as prelude
use Rattle.si_plain.specs.declared.kind.Kind.{Kind}
use Rattle.si_semantics.specs.Attributes.{Method, attribute, called, method_of, call_method}
use Rattle.si_semantics.specs.Text.{module_name}

-- a printed text, and its number: the visits begun before it
pub record Piece : Type 0 where
  pub text : Text
  pub number : ℕ

-- the world, the answers still to be taken, the running function's locals (a module's text has none), the visits begun
-- and the pieces printed
pub record State : Type 0 where
  pub world : World
  pub answers : List Answer
  pub slots : List (Option Value)
  pub visits : ℕ
  pub pieces : List Piece

-- how a suite is left other than at its end (Language Reference, 4.3): by an exception, told by its address, and so on
pub data Leave : Type 0 where
  Raises : ℕ → Leave
  Returns : Value → Leave
  Breaks : Leave
  Continues : Leave

-- a value; leaving; a request with no answer left; a loop that wants one turn too many
pub data Result (A : Type 0) : Type 0 where
  Gives : A → State → Result A
  Leaves : Leave → State → Result A
  Asks : Request → State → Result A
  Cut : State → Result A

-- what a tree means: what comes of each state
abbrev pub Meaning : Type 0 → Type 0
Meaning A = State → Result A

-- what a suite's evaluation is given: the names that are local, the number of the next function that it defines, the
-- innermost active exception (Language Reference, 7.8), the most turns of a loop, and what a call of the function of a
-- number means, with that exception active
pub record Scope : Type 0 where
  pub locals : List Text
  pub first : ℕ
  pub active : Option ℕ
  pub turns : ℕ
  pub call : Option ℕ → ℕ → List Value → Meaning Value

-- the same after so many functions
abbrev pub after : List tree.Function → Scope → Scope
after fs e = record e { first = e.first + length fs }

-- the same with this exception active, or none
abbrev pub with_active : Option ℕ → Scope → Scope
with_active x e = record e { active = x }

-- the evaluation of a statement, an expression or a target begins, or a turn of a loop, or the test of an except clause
abbrev pub visit : State → State
visit s = record s { visits = s.visits + 1 }

-- one evaluation and, with its value, another
abbrev pub then : {A B : Type 0} → Result A → (A → Meaning B) → Result B
then (Gives a s) f = f a s
then (Leaves p s) f = Leaves p s
then (Asks r s) f = Asks r s
then (Cut s) f = Cut s

-- a text is printed, or none
abbrev pub printed : Option Text → State → State
printed None s = s
printed (Some t) s = record s { pieces = s.pieces ++ record { text = t; number = s.visits } ∷ [] }

-- an exception is raised
abbrev pub raised : {A : Type 0} → ℕ × World → Meaning A
raised x s = Leaves (Raises x.0) (record s { world = x.1 })

-- a request, under the answers that are left
abbrev pub asked : List Answer → Request → Meaning Value
asked [] r s = Asks r (record s { answers = [] })
asked (a ∷ more) r s =
    elim (reply r a s.world) [
      | Got v w ↦ Gives v (record s { world = w; answers = more })
      | Failed k o w ↦ raised (exception k o w) (record s { answers = more })
      | Wants q w ↦ asked more q (record s { world = w })
    ]

-- an operation on the world
abbrev pub ran : Ran → Meaning Value
ran (Gave v out w) s = Gives v (printed out (record s { world = w }))
ran (Threw k o w) s = raised (exception k o w) s
ran (Asked r w) s = asked s.answers r (record s { world = w })

-- the value of a local's slot
abbrev pub slot_at : ℕ → List (Option Value) → Option Value
slot_at k slots = elim (slice_get slots k) [ None ↦ None | Some v ↦ v ]

-- a name is read, by its place among the local ones, or it is global (Language Reference, 4.2.2)
abbrev pub read : Text → Option ℕ → Meaning Value
read x None s = ran (load_global x s.world) s
read x (Some k) s = ran (load_local x (slot_at k s.slots) s.world) s

-- a name is bound to a value (Language Reference, 4.2.1 and 7.2)
abbrev pub assign : Text → Option ℕ → Value → Meaning (Unit {0})
assign x None v s = Gives tt (record s { world = set_global x v s.world })
assign x (Some k) v s = Gives tt (record s { slots = slice_set s.slots k (Some v) })

-- a name is unbound, where it is bound (Language Reference, 8.4.1)
abbrev pub unassign : Text → Option ℕ → Meaning (Unit {0})
unassign x None s = Gives tt (record s { world = unset_global x s.world })
unassign x (Some k) s = Gives tt (record s { slots = slice_set s.slots k None })

-- a call of a value with its arguments, some of them perhaps by name (Language Reference, 6.3.3)
abbrev pub calls : Scope → Value → List Value → List Text → Meaning Value
calls e (Function f k) vs [] s = e.call e.active k vs s
calls e g vs [] s = ran (call_provided g vs s.world) s
calls e g vs (x ∷ names) s = ran (call_by_name g s.world) s

-- a call of a method, if it is one
abbrev pub calls_method : Scope → Option Method → Value → List Value → List Text → Meaning Value
calls_method e None g vs names s = calls e g vs names s
calls_method e (Some m) g vs names s = ran (call_method m g vs names s.world) s

-- the same of a callee, or of what an attribute of it is
abbrev pub calls_attribute : Scope → Option Text → Value → List Value → List Text → Meaning Value
calls_attribute e None g vs names s = calls e g vs names s
calls_attribute e (Some x) g vs names s = calls_method e (method_of g x s.world) g vs names s

-- what is called: a callee, or where an attribute of it is called the object that has a method of that name, or the value
-- of the attribute (Language Reference, 6.3.3)
abbrev pub callee : Option Text → Meaning Value → Meaning Value
callee None object s = object s
callee (Some x) object s = then (object (visit s)) (λ v s1. ran (called v x s1.world) s1)

-- one of two, by a test
abbrev pub choose : {A : Type 0} → Bool → A → A → A
choose true a b = a
choose false a b = b

-- `and` ends with the first operand that is not true, `or` with the first that is (Language Reference, 6.11)
abbrev pub decides : BooleanOperator → Value → World → Bool
decides tree.And v w = not (is_true v w)
decides tree.Or v w = is_true v w

-- a comparison of a chain gave t: it ends with the last one, and with one that is not true (Language Reference, 6.10)
abbrev pub compared : Comparisons → Value → Meaning Value → Meaning Value
compared tree.NoComparisons t rest s = Gives t s
compared (tree.MoreComparisons o a cs) t rest s = choose (is_true t s.world) (rest s) (Gives t s)

abbrev mutual
  -- an expression, its operands from left to right (Language Reference, 6.16); of a call the callee first (6.3.3), of an
  -- attribute the object (6.3.1), of a
  -- subscription the object (6.3.2), of a conditional expression the test (6.13)
  pub expr : Scope → Expr → Meaning Value
  expr e (tree.Constant v) s = Gives v (visit s)
  expr e (tree.Name x) s = read x (place_of x e.locals) (visit s)
  expr e (tree.Unary o a) s = then (expr e a (visit s)) (λ v s1. ran (operate_unary o v s1.world) s1)
  expr e (tree.Binary o a b) s = then (expr e a (visit s)) (λ u s1. then (expr e b s1) (λ v s2. ran (operate o u v s2.world) s2))
  expr e (tree.Attribute a x) s = then (expr e a (visit s)) (λ v s1. ran (attribute v x s1.world) s1)
  expr e (tree.Call f x args names) s = then (callee x (expr e f) (visit s)) (λ g s1. then (exprs e args s1) (λ vs s2. calls_attribute e x g vs names s2))
  expr e (tree.Subscript a b) s = then (expr e a (visit s)) (λ u s1. then (expr e b s1) (λ v s2. ran (subscript u v s2.world) s2))
  expr e (tree.Tuple items) s = then (exprs e items (visit s)) (λ vs s1. ran (tuple_within vs s1.world) s1)
  expr e (tree.ListDisplay items) s = then (exprs e items (visit s)) (λ vs s1. ran (list_within vs s1.world) s1)
  expr e (tree.DictDisplay items) s = then (exprs e items (visit s)) (λ vs s1. ran (dict_of vs s1.world) s1)
  expr e (tree.Boolean o a more) s = then (expr e a (visit s)) (λ u s1. operands e o u more s1)
  expr e (tree.Compare a cs) s = then (expr e a (visit s)) (λ u s1. chain e u cs s1)
  expr e (tree.Conditional a b c) s = then (expr e a (visit s)) (λ t s1. choose (is_true t s1.world) (expr e b s1) (expr e c s1))

  -- expressions in a row
  pub exprs : Scope → Exprs → Meaning (List Value)
  exprs e tree.NoExprs s = Gives [] s
  exprs e (tree.MoreExprs a args) s = then (expr e a s) (λ v s1. then (exprs e args s1) (λ vs s2. Gives (v ∷ vs) s2))

  -- what `and` or `or` makes of an operand and those after it: each is evaluated unless one before it decides
  pub operands : Scope → BooleanOperator → Value → Exprs → Meaning Value
  operands e o u tree.NoExprs s = Gives u s
  operands e o u (tree.MoreExprs a more) s = choose (decides o u s.world) (Gives u s) (then (expr e a s) (λ v s1. operands e o v more s1))

  -- a chain of comparisons after an operand
  pub chain : Scope → Value → Comparisons → Meaning Value
  chain e u tree.NoComparisons s = Gives u s
  chain e u (tree.MoreComparisons o a cs) s =
      then (expr e a s) (λ v s1. then (ran (compare o u v s1.world) s1) (λ t s2. compared cs t (chain e v cs) s2))

-- an operation that has no value
abbrev pub done : Ran → Meaning (Unit {0})
done r s = then (ran r s) (λ v s1. Gives tt s1)

-- what was unpacked goes on to the targets, or an exception is raised (the messages are this project's own)
abbrev pub spread : prelude.Result (List Value) Kind → (List Value → Meaning (Unit {0})) → Meaning (Unit {0})
spread (prelude.Ok vs) f s = f vs s
spread (prelude.Err k) f s = raised (exception k (Some (Str (comparison_message k))) s.world) s

abbrev mutual
  -- a target is bound to a value: a name; of a subscription first the object and then the index is evaluated, and that item is
  -- set; and targets in a row are bound to the items of the value, of which there are as many (Language Reference, 7.2)
  pub bind : Scope → Target → Value → Meaning (Unit {0})
  bind e (tree.Named x) v s = assign x (place_of x e.locals) v (visit s)
  bind e (tree.Item a b) v s = then (expr e a (visit s)) (λ u s1. then (expr e b s1) (λ i s2. done (set_item u i v s2.world) s2))
  bind e (tree.Unpack ts) v s = spread (unpacked (count_of_targets ts) v s.world) (λ vs s1. bind_each e ts vs s1) (visit s)

  -- targets are bound to values from the left
  pub bind_each : Scope → Targets → List Value → Meaning (Unit {0})
  bind_each e (tree.MoreTargets t ts) (v ∷ vs) s = then (bind e t v s) (λ u s1. bind_each e ts vs s1)
  bind_each e _ _ s = Gives tt s

-- each of the targets is bound to the one value, from the left (Language Reference, 7.2)
abbrev pub bind_all : Scope → Targets → Value → Meaning (Unit {0})
bind_all e tree.NoTargets v s = Gives tt s
bind_all e (tree.MoreTargets t ts) v s = then (bind e t v s) (λ u s1. bind_all e ts v s1)

-- after the body of a turn there is another turn, unless the body was left by `break`, which ends the loop without its
-- else suite (Language Reference, 7.9 and 7.10), or by `return` or an exception
abbrev pub after_turn : Result (Unit {0}) → Meaning (Unit {0}) → Result (Unit {0})
after_turn (Gives u s) again = again s
after_turn (Leaves Continues s) again = again s
after_turn (Leaves Breaks s) again = Gives tt s
after_turn (Leaves (Raises x) s) again = Leaves (Raises x) s
after_turn (Leaves (Returns v) s) again = Leaves (Returns v) s
after_turn (Asks r s) again = Asks r s
after_turn (Cut s) again = Cut s

-- a loop of a test, a body and an else suite, of at most n turns (Language Reference, 8.2); the test that ends it is a
-- turn too
abbrev pub loop : ℕ → Meaning Value → Meaning (Unit {0}) → Meaning (Unit {0}) → Meaning (Unit {0})
loop zero test body last s = Cut s
loop (suc n) test body last s = then (test (visit s)) (λ t s1. choose (is_true t s1.world) (after_turn (body s1) (loop n test body last)) (last s1))

-- a turn of a `for`: with an item, which is put where it belongs; at the end of the items the else suite; or an exception
-- (Language Reference, 8.3)
abbrev pub turn_of : Next → (Value → Meaning (Unit {0})) → Meaning (Unit {0}) → Meaning (Unit {0}) → (Iterator → Meaning (Unit {0})) → Meaning (Unit {0})
turn_of (Item v more) put body last again s = then (put v s) (λ u s1. after_turn (body s1) (again more))
turn_of Exhausted put body last again s = last s
turn_of (Refuses k message) put body last again s = raised (exception k (Some (Str message)) s.world) s

-- a loop over items, of at most n turns; to ask for an item is a turn, also where there is none (Language Reference,
-- 8.3)
abbrev pub for_loop : ℕ → (Value → Meaning (Unit {0})) → Meaning (Unit {0}) → Meaning (Unit {0}) → Iterator → Meaning (Unit {0})
for_loop zero put body last it s = Cut s
for_loop (suc n) put body last it s = turn_of (next_item it s.world) put body last (for_loop n put body last) (visit s)

-- what can be gone over, else an exception (Language Reference, 8.3)
abbrev pub over : Option Iterator → (Iterator → Meaning (Unit {0})) → Meaning (Unit {0})
over None f s = raised (type_error s.world) s
over (Some it) f s = f it s

-- `return` with the value of its expression, or with None (Language Reference, 7.6)
abbrev pub returning : Scope → Option Expr → Meaning (Unit {0})
returning e None s = Leaves (Returns Nothing) s
returning e (Some a) s = then (expr e a s) (λ v s1. Leaves (Returns v) s1)

-- `raise` with the value of its expression, or the active exception again (Language Reference, 7.8)
abbrev pub raising : Scope → Option Expr → Meaning (Unit {0})
raising e None s = raised (raised_again e.active s.world) s
raising e (Some a) s = then (expr e a s) (λ v s1. raised (raised_by v s1.world) s1)

-- an exception goes to the except clauses, and what comes to its end to the else suite (Language Reference, 8.4)
abbrev pub caught : Result (Unit {0}) → (ℕ → Meaning (Unit {0})) → Meaning (Unit {0}) → Result (Unit {0})
caught (Gives u s) handle last = last s
caught (Leaves (Raises x) s) handle last = handle x s
caught (Leaves (Returns v) s) handle last = Leaves (Returns v) s
caught (Leaves Breaks s) handle last = Leaves Breaks s
caught (Leaves Continues s) handle last = Leaves Continues s
caught (Asks r s) handle last = Asks r s
caught (Cut s) handle last = Cut s

-- the exception that enters a finally suite is active in it
abbrev pub active_in : Leave → Option ℕ → Option ℕ
active_in (Raises x) old = Some x
active_in (Returns v) old = old
active_in Breaks old = old
active_in Continues old = old

-- a finally suite, which is given the active exception; at its end what was left is left (Language Reference, 8.4.4)
abbrev pub finally : Option ℕ → Result (Unit {0}) → (Option ℕ → Meaning (Unit {0})) → Result (Unit {0})
finally old (Gives u s) last = last old s
finally old (Leaves p s) last = then (last (active_in p old) s) (λ u s1. Leaves p s1)
finally old (Asks r s) last = Asks r s
finally old (Cut s) last = Cut s

-- the suite of an except clause, with a name for the exception; the name is unbound in whatever way the suite is left
-- (Language Reference, 8.4.1)
abbrev pub named : Scope → Option Text → ℕ → Meaning (Unit {0}) → Meaning (Unit {0})
named e None x suite s = suite s
named e (Some y) x suite s =
    then (assign y (place_of y e.locals) (Address x) s) (λ u s1. finally e.active (suite s1) (λ active s2. unassign y (place_of y e.locals) s2))

abbrev mutual
  -- a statement (Language Reference, 7 and 8): of an assignment the right side first, then its targets; of an augmented
  -- one the target, its value, the right side, the operation, and then the target is bound, and a subscription's object and index
  -- are evaluated once (7.2.1); `del` deletes an item, whose target counts a visit (7.5); `def` binds its name
  -- to the function (8.7), `global` does nothing (7.12), an import binds the module's name to the module (7.11)
  pub stmt : Scope → Stmt → Meaning (Unit {0})
  stmt e (tree.Evaluate a) s = then (expr e a (visit s)) (λ v s1. Gives tt s1)
  stmt e (tree.Assign ts a) s = then (expr e a (visit s)) (λ v s1. bind_all e ts v s1)
  stmt e (tree.Augment x o a) s =
      then (read x (place_of x e.locals) (visit (visit s)))
      (λ u s1. then (expr e a s1) (λ v s2. then (ran (augment o u v s2.world) s2) (λ z s3. assign x (place_of x e.locals) z s3)))
  stmt e (tree.AugmentItem a b o c) s =
      then (expr e a (visit (visit s)))
      (λ u s1. then (expr e b s1)
      (λ i s2. then (ran (subscript u i s2.world) s2)
      (λ y s3. then (expr e c s3) (λ z s4. then (ran (augment o y z s4.world) s4) (λ x s5. done (set_item u i x s5.world) s5)))))
  stmt e (tree.Delete a b) s = then (expr e a (visit (visit s))) (λ u s1. then (expr e b s1) (λ i s2. done (delete_item u i s2.world) s2))
  stmt e tree.Pass s = Gives tt (visit s)
  stmt e (tree.If a b c) s = then (expr e a (visit s)) (λ t s1. choose (is_true t s1.world) (stmts e b s1) (stmts (after (functions_in b) e) c s1))
  stmt e (tree.While a b c) s = loop e.turns (expr e a) (stmts e b) (stmts (after (functions_in b) e) c) (visit s)
  stmt e (tree.For t a b c) s =
      then (expr e a (visit s)) (λ v s1. over (iterator_of v s1.world) (for_loop e.turns (λ u s2. bind e t u s2) (stmts e b) (stmts (after (functions_in b) e) c)) s1)
  stmt e tree.Break s = Leaves Breaks (visit s)
  stmt e tree.Continue s = Leaves Continues (visit s)
  stmt e (tree.Define f ps b) s = assign f (place_of f e.locals) (Function f e.first) (visit s)
  stmt e (tree.Return a) s = returning e a (visit s)
  stmt e (tree.Global xs) s = Gives tt (visit s)
  stmt e (tree.Import m) s = assign (module_name m) (place_of (module_name m) e.locals) (Module m) (visit s)
  stmt e (tree.Raise a) s = raising e a (visit s)
  stmt e (tree.Try b cs c) s =
      caught (stmts e b (visit s)) (λ x. clauses (after (functions_in b) (with_active (Some x) e)) cs x) (stmts (after (functions_in b ++ functions_in_clauses cs) e) c)
  stmt e (tree.Finally b cs c f) s =
      finally e.active
      (caught (stmts e b (visit s)) (λ x. clauses (after (functions_in b) (with_active (Some x) e)) cs x) (stmts (after (functions_in b ++ functions_in_clauses cs) e) c))
      (λ active. stmts (after (functions_in b ++ (functions_in_clauses cs ++ functions_in c)) (with_active active e)) f)

  -- statements in a row
  pub stmts : Scope → Stmts → Meaning (Unit {0})
  stmts e tree.NoStmts s = Gives tt s
  stmts e (tree.MoreStmts a b) s = then (stmt e a s) (λ u s1. stmts (after (functions_of a) e) b s1)

  -- the except clauses for an exception: the suite of the first that matches, those after it are not looked at; a bare
  -- one matches each (Language Reference, 8.4.1)
  pub clauses : Scope → Clauses → ℕ → Meaning (Unit {0})
  clauses e tree.NoClauses x s = Leaves (Raises x) s
  clauses e (tree.MoreClauses None y b cs) x s = named e y x (stmts e b) (visit s)
  clauses e (tree.MoreClauses (Some a) y b cs) x s =
      then (expr e a (visit s))
      (λ v s1. then (ran (catches v x s1.world) s1) (λ t s2. choose (is_true t s2.world) (named e y x (stmts e b) s2) (clauses (after (functions_in b) e) cs x s2)))

-- ---- calls

-- back in the caller, with its locals; a function that comes to its end returns None (Language Reference, 6.3.3 and
-- 7.6); `break` and `continue` stand in loops, and leave no function
abbrev pub returned : List (Option Value) → Result (Unit {0}) → Result Value
returned old (Gives u s) = Gives Nothing (record s { slots = old })
returned old (Leaves (Returns v) s) = Gives v (record s { slots = old })
returned old (Leaves (Raises x) s) = Leaves (Raises x) (record s { slots = old })
returned old (Leaves Breaks s) = Gives Nothing (record s { slots = old })
returned old (Leaves Continues s) = Gives Nothing (record s { slots = old })
returned old (Asks r s) = Asks r s
returned old (Cut s) = Cut s

-- so many locals that are not bound
abbrev pub unbound : ℕ → List (Option Value)
unbound zero = []
unbound (suc n) = None ∷ unbound n

-- locals that are bound to these values
abbrev pub passed : List Value → List (Option Value)
passed [] = []
passed (v ∷ vs) = Some v ∷ passed vs

-- the locals of a function as it begins, so many: its parameters have the arguments (Language Reference, 8.7)
abbrev pub entered : ℕ → List Value → List (Option Value)
entered locals vs = passed vs ++ unbound (locals - length vs)

-- a call of a function that was read, with as many arguments as it has parameters
abbrev pub fitting : Option tree.Function → List Value → (tree.Function → Meaning Value) → Meaning Value
fitting None vs go s = ran (not_callable s.world) s
fitting (Some f) vs go s = choose (nat_eq (length vs) (length f.parameters)) (go f s) (ran (wrong_arguments s.world) s)

-- the suite of a function runs, with its own locals; what is active where it is called is active in it (Language
-- Reference, 7.8)
abbrev pub run_body : ℕ → (Option ℕ → ℕ → List Value → Meaning Value) → tree.Function → Option ℕ → List Value → Meaning Value
run_body n calling f active vs s =
    returned s.slots (stmts (record { locals = locals_of f; first = 0; active = active; turns = n; call = calling }) f.body (record s { slots = entered (length (locals_of f)) vs }))

-- what a call means of the function of a number among these, where calls are at most so many within each other
abbrev pub call : List tree.Function → (turns depth : ℕ) → Option ℕ → ℕ → List Value → Meaning Value
call fs n zero active k vs s = fitting (slice_get fs k) vs (λ f s1. ran (too_deep s1.world) s1) s
call fs n (suc d) active k vs s = fitting (slice_get fs k) vs (λ f s1. run_body n (call fs n d) f active vs s1) s

-- the most calls within each other (this project's own)
abbrev pub max_calls : ℕ
max_calls = 200
