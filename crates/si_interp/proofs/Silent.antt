-- Lines after which no other line comes print nothing.
use Rattle.std.proofs.Common.{◌≡◌, ◌∙◌, ℕ, ◌+◌, ◌++◌, List, [], ◌∷◌, Option, Some, None, Bool, true, false, slice_get, take, refl, ap, sym, append-nil, encode_utf8_all}
use Rattle.std.proofs.lemmas.List.{append_cancel_left}
use Rattle.std.specs.Prelude.{nat_eq, length, drop, Result, Ok, Err}
use Rattle.si_plain.specs.declared.kind.Kind.{Kind}
use Rattle.si_semantics.specs.Tree.{Add}
use Rattle.si_semantics.specs.Containers.{augment, delete_item, dict_of, set_item, unpacked}
use Rattle.si_semantics.specs.Tuples.{is_too_large}
use Rattle.si_semantics.specs.Value as value
use Rattle.si_semantics.specs.Value.{Text, Value}
use Rattle.si_semantics.specs.World.{World, Ran, Gave, Threw, Asked}
use Rattle.si_semantics.specs.Operations as operations
use Rattle.si_semantics.specs.Subscription.{subscript}
use Rattle.si_semantics.specs.Attributes as attributes
use Rattle.si_semantics.specs.Attributes.{Method, attribute, called, method_of, call_method}
use Rattle.si_semantics.specs.Operations.{Iterator, Next, Item, Exhausted, Refuses, is_true}
use Rattle.si_semantics.specs.Meaning.{Leave, choose, decides, slot_at}
use Rattle.si_slots.specs.Machine.{Source, Local, Global, Temporary, Kept, Literal, Target, ToTemporary, ToLocal, ToJump, ToNowhere, Instr, Owned, Block, Place, At, Calling, Taking, Ending, Closed, Line, Entry, Stamped, Course, next, on, stamped, act, aimed, below, bound, calls, calls_by, calls_method, defined, ends_finally, enters, fetched, gives_item, goes, having, lands, on_callee, raises, reads, starts_for, stuck, unpacks, yields, subscripts}
use Rattle.si_slots.specs.Machine as machine
use Rattle.si_slots.specs.Code.{compiled}
use Rattle.si_slots.specs.Shows.{standing_of, texts}
use Rattle.si_semantics.specs.World as world
use Rattle.si_semantics.specs.Life.{joined}
use Rattle.si_steps.specs.declared.state.State.{State}
use Rattle.si_steps.specs.Machines.{HasPrinted, printed_of}
use Rattle.si_steps.specs.Moments.{IsAtLine}

-- a line after which no other line comes prints nothing
abbrev pub Silent : Line → Type 0
Silent l = (IsAtLine l.place → ⊥) → l.out ≡ None

chosen_line : (b : Bool) (pc qc : ℕ) (ts : List Value) (slots : List (Option Value)) (bs : List Block) → IsAtLine (choose b (At pc ts slots bs) (At qc ts slots bs))
chosen_line true pc qc ts slots bs = tt
chosen_line false pc qc ts slots bs = tt

-- a line comes after a value has gone to its target
lands_line : (g : Target) (v : Value) (w : World) (pc : ℕ) (ts : List Value) (slots : List (Option Value)) (bs : List Block) → IsAtLine (lands g v w pc ts slots bs)
lands_line (ToTemporary t) v w pc ts slots bs = tt
lands_line (ToLocal k) v w pc ts slots bs = tt
lands_line (ToJump true a) v w pc ts slots bs = chosen_line (is_true v w) (aimed a pc) pc ts slots bs
lands_line (ToJump false a) v w pc ts slots bs = chosen_line (is_true v w) pc (aimed a pc) ts slots bs
lands_line ToNowhere v w pc ts slots bs = tt

-- ---- the parts of lines

silent_goes : (p : Place) (w : World) → Silent (goes p w)
silent_goes p w = λ n. refl

silent_raises : (x : ℕ × World) (slots : List (Option Value)) (bs : List Block) → Silent (raises x slots bs)
silent_raises x slots bs = λ n. refl

silent_yields : (r : Ran) (g : Target) (pc : ℕ) (ts : List Value) (slots : List (Option Value)) (bs : List Block) → Silent (yields r g pc ts slots bs)
silent_yields (Gave v out w) g pc ts slots bs = λ n. absurd (n (lands_line g v w pc ts slots bs))
silent_yields (Threw k v w) g pc ts slots bs = λ n. refl
silent_yields (Asked r w) g pc ts slots bs = λ n. refl

silent_subscripts : (r : Ran) (u : Value) (g : Target) (pc : ℕ) (ts : List Value) (slots : List (Option Value)) (bs : List Block) → Silent (subscripts r u g pc ts slots bs)
silent_subscripts (Gave v out w) u g pc ts slots bs = silent_yields (subscript u v w) g pc ts slots bs
silent_subscripts (Threw k v w) u g pc ts slots bs = silent_yields (Threw k v w) g pc ts slots bs
silent_subscripts (Asked r w) u g pc ts slots bs = silent_yields (Asked r w) g pc ts slots bs

silent_having : (v : Option Value) (w : World) (go : Value → Line) → ((u : Value) → Silent (go u)) → Silent (having v w go)
silent_having None w go h = λ n. refl
silent_having (Some v) w go h = h v

silent_bound : (x : Text) (v : Option Value) (slots : List (Option Value)) (bs : List Block) (w : World) (go : Value → Line) → ((u : Value) → Silent (go u)) → Silent (bound x v slots bs w go)
silent_bound x None slots bs w go h = silent_yields (operations.load_local x None w) ToNowhere 0 [] slots bs
silent_bound x (Some v) slots bs w go h = h v

silent_defined : (x : Text) (v : Option Value) (slots : List (Option Value)) (bs : List Block) (w : World) (go : Value → Line) → ((u : Value) → Silent (go u)) → Silent (defined x v slots bs w go)
silent_defined x None slots bs w go h = silent_yields (operations.found x None w) ToNowhere 0 [] slots bs
silent_defined x (Some v) slots bs w go h = h v

silent_reads : (a : Source) (ts : List Value) (slots : List (Option Value)) (bs : List Block) (w : World) (go : Value → Line) → ((u : Value) → Silent (go u)) → Silent (reads a ts slots bs w go)
silent_reads (Local x k) ts slots bs w go h = silent_bound x (slot_at k slots) slots bs w go h
silent_reads (Global x) ts slots bs w go h = silent_defined x (operations.or_else (w.globals x) (operations.built_in x)) slots bs w go h
silent_reads (Temporary t) ts slots bs w go h = silent_having (slice_get ts t) w go h
silent_reads (Kept t) ts slots bs w go h = silent_having (slice_get ts t) w go h
silent_reads (Literal v) ts slots bs w go h = h v

silent_choose : (b : Bool) (l k : Line) → Silent l → Silent k → Silent (choose b l k)
silent_choose true l k p q = p
silent_choose false l k p q = q

silent_callee : (vs : List Value) (n : ℕ) (go : Value → List Value → Line) (w : World) → ((f : Value) (us : List Value) → Silent (go f us)) → Silent (on_callee vs n go (stuck w))
silent_callee [] n go w h = λ n. refl
silent_callee (f ∷ vs) n go w h = silent_choose (nat_eq (length vs) n) (go f vs) (stuck w) (h f vs) (λ n. refl)

silent_enters : (f : Option Entry) (room : Bool) (vs : List Value) (g : Target) (next : ℕ) (ts : List Value) (slots : List (Option Value)) (bs : List Block) (w : World) → Silent (enters f room vs g next ts slots bs w)
silent_enters None room vs g next ts slots bs w = silent_yields (operations.not_callable w) g next ts slots bs
silent_enters (Some f) room vs g next ts slots bs w =
    silent_choose (nat_eq (length vs) f.parameters) _ _
    (silent_choose room _ _ (λ n. refl) (silent_yields (operations.too_deep w) g next ts slots bs))
    (silent_yields (operations.wrong_arguments w) g next ts slots bs)

silent_calls : (es : List Entry) (u : Value) (vs : List Value) (g : Target) (next : ℕ) (ts : List Value) (slots : List (Option Value)) (bs : List Block) (w : World) → Silent (calls es u vs g next ts slots bs w)
silent_calls es (value.Function f k) vs g next ts slots bs w = silent_enters (slice_get es k) _ vs g next ts slots bs w
silent_calls es value.Nothing vs g next ts slots bs w = silent_yields (operations.call_provided value.Nothing vs w) g next ts slots bs
silent_calls es (value.Truth b) vs g next ts slots bs w = silent_yields (operations.call_provided (value.Truth b) vs w) g next ts slots bs
silent_calls es (value.Int n) vs g next ts slots bs w = silent_yields (operations.call_provided (value.Int n) vs w) g next ts slots bs
silent_calls es (value.Str t) vs g next ts slots bs w = silent_yields (operations.call_provided (value.Str t) vs w) g next ts slots bs
silent_calls es (value.Bytes t) vs g next ts slots bs w = silent_yields (operations.call_provided (value.Bytes t) vs w) g next ts slots bs
silent_calls es (value.Provided b) vs g next ts slots bs w = silent_yields (operations.call_provided (value.Provided b) vs w) g next ts slots bs
silent_calls es (value.Range a b c) vs g next ts slots bs w = silent_yields (operations.call_provided (value.Range a b c) vs w) g next ts slots bs
silent_calls es (value.Tuple us) vs g next ts slots bs w = silent_yields (operations.call_provided (value.Tuple us) vs w) g next ts slots bs
silent_calls es (value.Class k) vs g next ts slots bs w = silent_yields (operations.call_provided (value.Class k) vs w) g next ts slots bs
silent_calls es (value.Module m) vs g next ts slots bs w = silent_yields (operations.call_provided (value.Module m) vs w) g next ts slots bs
silent_calls es (value.Queue q m) vs g next ts slots bs w = silent_yields (operations.call_provided (value.Queue q m) vs w) g next ts slots bs
silent_calls es (value.Interpreter i) vs g next ts slots bs w = silent_yields (operations.call_provided (value.Interpreter i) vs w) g next ts slots bs
silent_calls es (value.Exec i) vs g next ts slots bs w = silent_yields (operations.call_provided (value.Exec i) vs w) g next ts slots bs
silent_calls es (value.Address x) vs g next ts slots bs w = silent_yields (operations.call_provided (value.Address x) vs w) g next ts slots bs

silent_calls_by : (es : List Entry) (u : Value) (vs : List Value) (names : List Text) (g : Target) (next : ℕ) (ts : List Value) (slots : List (Option Value)) (bs : List Block) (w : World) → Silent (calls_by es u vs names g next ts slots bs w)
silent_calls_by es u vs [] g next ts slots bs w = silent_calls es u vs g next ts slots bs w
silent_calls_by es u vs (x ∷ names) g next ts slots bs w = silent_yields (operations.call_by_name u w) g next ts slots bs

silent_method : (es : List Entry) (m : Option Method) (u : Value) (vs : List Value) (names : List Text) (g : Target) (next : ℕ) (ts : List Value) (slots : List (Option Value)) (bs : List Block) (w : World) → Silent (calls_method es m u vs names g next ts slots bs w)
silent_method es None u vs names g next ts slots bs w = silent_calls_by es u vs names g next ts slots bs w
silent_method es (Some m) u vs names g next ts slots bs w = silent_yields (call_method m u vs names w) g next ts slots bs

silent_starts : (it : Option Iterator) (start after : ℕ) (ts : List Value) (slots : List (Option Value)) (bs : List Block) (w : World) → Silent (starts_for it start after ts slots bs w)
silent_starts None start after ts slots bs w = λ n. refl
silent_starts (Some it) start after ts slots bs w = λ n. refl

silent_item : (n : Next) (g : Target) (next body start after : ℕ) (ts : List Value) (slots : List (Option Value)) (bs : List Block) (w : World) → Silent (gives_item n g next body start after ts slots bs w)
silent_item (Item v more) g next body start after ts slots bs w = λ n. refl
silent_item Exhausted g next body start after ts slots bs w = λ n. refl
silent_item (Refuses k message) g next body start after ts slots bs w = λ n. refl

silent_finally : (p : Option Leave) (next : ℕ) (ts : List Value) (slots : List (Option Value)) (bs : List Block) (w : World) → Silent (ends_finally p next ts slots bs w)
silent_finally None next ts slots bs w = λ n. refl
silent_finally (Some p) next ts slots bs w = λ n. refl

silent_unpacks : (r : Result (List Value) Kind) (at next : ℕ) (ts : List Value) (slots : List (Option Value)) (bs : List Block) (w : World) → Silent (unpacks r at next ts slots bs w)
silent_unpacks (Ok vs) at next ts slots bs w = λ n. refl
silent_unpacks (Err k) at next ts slots bs w = λ n. refl

-- ---- the line of each instruction

silent_act : (es : List Entry) (i : Instr) (next : ℕ) (ts : List Value) (slots : List (Option Value)) (bs : List Block) (w : World) → Silent (act es i next ts slots bs w)
silent_act es (machine.Copy g a) next ts slots bs w = silent_reads a ts slots bs w _ (λ v. λ n. refl)
silent_act es (machine.LoadGlobal g x) next ts slots bs w = silent_yields (operations.load_global x w) g next ts slots bs
silent_act es (machine.StoreGlobal x a) next ts slots bs w = silent_reads a ts slots bs w _ (λ v. λ n. refl)
silent_act es (machine.Unary u g a) next ts slots bs w = silent_reads a ts slots bs w _ (λ v. silent_yields (operations.operate_unary u v w) g next (below a ts) slots bs)
silent_act es (machine.Binary u g a b) next ts slots bs w = silent_reads a ts slots bs w _ (λ v. silent_reads b ts slots bs w _ (λ z. silent_yields (operations.operate u v z w) g next (below a (below b ts)) slots bs))
silent_act es (machine.AddInPlace g a b) next ts slots bs w = silent_reads a ts slots bs w _ (λ v. silent_reads b ts slots bs w _ (λ z. silent_yields (augment Add v z w) g next (below a (below b ts)) slots bs))
silent_act es (machine.Compare u g a b) next ts slots bs w = silent_reads a ts slots bs w _ (λ v. silent_reads b ts slots bs w _ (λ z. silent_yields (operations.compare u v z w) g next (below a (below b ts)) slots bs))
silent_act es (machine.Subscript g a b) next ts slots bs w = silent_reads a ts slots bs w _ (λ v. silent_reads b ts slots bs w _ (λ z. silent_yields (subscript v z w) g next (below a (below b ts)) slots bs))
silent_act es (machine.SubscriptSum g a b n) next ts slots bs w =
    silent_reads a ts slots bs w _ (λ v. silent_reads b ts slots bs w _ (λ z. silent_subscripts (operations.operate Add z (value.Int n) w) v g next (below a (below b ts)) slots bs))
silent_act es (machine.StoreItem a b c) next ts slots bs w =
    silent_reads a ts slots bs w _ (λ x. silent_reads b ts slots bs w _ (λ v. silent_reads c ts slots bs w _ (λ z. silent_yields (set_item v z x w) ToNowhere next (below a (below b (below c ts))) slots bs)))
silent_act es (machine.DeleteItem a b) next ts slots bs w = silent_reads a ts slots bs w _ (λ v. silent_reads b ts slots bs w _ (λ z. silent_yields (delete_item v z w) ToNowhere next (below a (below b ts)) slots bs))
silent_act es (machine.EndChain t n) next ts slots bs w = silent_having (slice_get ts (t + 1)) w _ (λ v. silent_having (slice_get ts (t + 2)) w _ (λ z. silent_choose (is_true z w) _ _ (λ n. refl) (λ n. refl)))
silent_act es (machine.JumpOrTake u t n) next ts slots bs w = silent_having (slice_get ts t) w _ (λ v. silent_choose (decides u v w) _ _ (λ n. refl) (λ n. refl))
silent_act es (machine.Jump n) next ts slots bs w = λ n. refl
silent_act es (machine.EnterLoop test end) next ts slots bs w = λ n. refl
silent_act es (machine.StartFor item end a) next ts slots bs w = silent_reads a ts slots bs w _ (λ v. silent_starts (operations.iterator_of v w) (next + item) (next + end) (below a ts) slots bs w)
silent_act es (machine.NextItem g back) next ts slots [] w = λ n. refl
silent_act es (machine.NextItem g back) next ts slots (machine.Loop start after ∷ bs) w = λ n. refl
silent_act es (machine.NextItem g back) next ts slots (machine.Each start after it ∷ bs) w = silent_item (operations.next_item it w) g next _ start after ts slots bs w
silent_act es (machine.NextItem g back) next ts slots (machine.Catch clauses ∷ bs) w = λ n. refl
silent_act es (machine.NextItem g back) next ts slots (machine.Final suite ∷ bs) w = λ n. refl
silent_act es (machine.NextItem g back) next ts slots (machine.Pending p ∷ bs) w = λ n. refl
silent_act es (machine.NextItem g back) next ts slots (machine.Handling x ∷ bs) w = λ n. refl
silent_act es (machine.NextItem g back) next ts slots (machine.Frame after h us old ∷ bs) w = λ n. refl
silent_act es (machine.EnterTry n) next ts slots bs w = λ n. refl
silent_act es (machine.EnterFinally n) next ts slots bs w = λ n. refl
silent_act es machine.LeaveBlock next ts slots [] w = λ n. refl
silent_act es machine.LeaveBlock next ts slots (machine.Loop start after ∷ bs) w = λ n. refl
silent_act es machine.LeaveBlock next ts slots (machine.Each start after it ∷ bs) w = λ n. refl
silent_act es machine.LeaveBlock next ts slots (machine.Catch clauses ∷ bs) w = λ n. refl
silent_act es machine.LeaveBlock next ts slots (machine.Final suite ∷ bs) w = λ n. refl
silent_act es machine.LeaveBlock next ts slots (machine.Pending p ∷ bs) w = λ n. refl
silent_act es machine.LeaveBlock next ts slots (machine.Handling x ∷ bs) w = λ n. refl
silent_act es machine.LeaveBlock next ts slots (machine.Frame after h us old ∷ bs) w = λ n. refl
silent_act es machine.StartFinally next ts slots [] w = λ n. refl
silent_act es machine.StartFinally next ts slots (machine.Loop start after ∷ bs) w = λ n. refl
silent_act es machine.StartFinally next ts slots (machine.Each start after it ∷ bs) w = λ n. refl
silent_act es machine.StartFinally next ts slots (machine.Catch clauses ∷ bs) w = λ n. refl
silent_act es machine.StartFinally next ts slots (machine.Final suite ∷ bs) w = λ n. refl
silent_act es machine.StartFinally next ts slots (machine.Pending p ∷ bs) w = λ n. refl
silent_act es machine.StartFinally next ts slots (machine.Handling x ∷ bs) w = λ n. refl
silent_act es machine.StartFinally next ts slots (machine.Frame after h us old ∷ bs) w = λ n. refl
silent_act es machine.EndFinally next ts slots [] w = λ n. refl
silent_act es machine.EndFinally next ts slots (machine.Loop start after ∷ bs) w = λ n. refl
silent_act es machine.EndFinally next ts slots (machine.Each start after it ∷ bs) w = λ n. refl
silent_act es machine.EndFinally next ts slots (machine.Catch clauses ∷ bs) w = λ n. refl
silent_act es machine.EndFinally next ts slots (machine.Final suite ∷ bs) w = λ n. refl
silent_act es machine.EndFinally next ts slots (machine.Pending p ∷ bs) w = silent_finally p next ts slots bs w
silent_act es machine.EndFinally next ts slots (machine.Handling x ∷ bs) w = λ n. refl
silent_act es machine.EndFinally next ts slots (machine.Frame after h us old ∷ bs) w = λ n. refl
silent_act es (machine.TestClause g a) next ts slots [] w = λ n. refl
silent_act es (machine.TestClause g a) next ts slots (machine.Loop start after ∷ bs) w = λ n. refl
silent_act es (machine.TestClause g a) next ts slots (machine.Each start after it ∷ bs) w = λ n. refl
silent_act es (machine.TestClause g a) next ts slots (machine.Catch clauses ∷ bs) w = λ n. refl
silent_act es (machine.TestClause g a) next ts slots (machine.Final suite ∷ bs) w = λ n. refl
silent_act es (machine.TestClause g a) next ts slots (machine.Pending p ∷ bs) w = λ n. refl
silent_act es (machine.TestClause g a) next ts slots (machine.Handling x ∷ bs) w = silent_reads a ts slots (machine.Handling x ∷ bs) w _ (λ v. silent_yields (operations.catches v x w) g next (below a ts) slots (machine.Handling x ∷ bs))
silent_act es (machine.TestClause g a) next ts slots (machine.Frame after h us old ∷ bs) w = λ n. refl
silent_act es (machine.CopyException g) next ts slots [] w = λ n. refl
silent_act es (machine.CopyException g) next ts slots (machine.Loop start after ∷ bs) w = λ n. refl
silent_act es (machine.CopyException g) next ts slots (machine.Each start after it ∷ bs) w = λ n. refl
silent_act es (machine.CopyException g) next ts slots (machine.Catch clauses ∷ bs) w = λ n. refl
silent_act es (machine.CopyException g) next ts slots (machine.Final suite ∷ bs) w = λ n. refl
silent_act es (machine.CopyException g) next ts slots (machine.Pending p ∷ bs) w = λ n. refl
silent_act es (machine.CopyException g) next ts slots (machine.Handling x ∷ bs) w = λ n. refl
silent_act es (machine.CopyException g) next ts slots (machine.Frame after h us old ∷ bs) w = λ n. refl
silent_act es (machine.UnbindGlobal x) next ts slots bs w = λ n. refl
silent_act es (machine.UnbindLocal k) next ts slots bs w = λ n. refl
silent_act es (machine.Raise a) next ts slots bs w = silent_reads a ts slots bs w _ (λ v. λ n. refl)
silent_act es machine.RaiseAgain next ts slots bs w = λ n. refl
silent_act es machine.Break next ts slots bs w = λ n. refl
silent_act es machine.Continue next ts slots bs w = λ n. refl
silent_act es (machine.Call g t n) next ts slots bs w = silent_callee (drop t ts) n _ w (λ f vs. silent_calls es f vs g next (take t ts) slots bs w)
silent_act es (machine.CallByName g t n) next ts slots bs w = silent_callee (drop t ts) n _ w (λ f vs. silent_yields (operations.call_by_name f w) g next (take t ts) slots bs)
silent_act es (machine.Attribute g a x) next ts slots bs w = silent_reads a ts slots bs w _ (λ v. silent_yields (attribute v x w) g next (below a ts) slots bs)
silent_act es (machine.Find t x) next ts slots bs w = silent_having (slice_get ts t) w _ (λ v. silent_yields (called v x w) (ToTemporary t) next (take t ts) slots bs)
silent_act es (machine.CallMethod g t n x names) next ts slots bs w =
    silent_callee (drop t ts) n _ w (λ f vs. silent_method es (method_of f x w) f vs names g next (take t ts) slots bs w)
silent_act es (machine.Append a b) next ts slots bs w =
    silent_reads a ts slots bs w _
    (λ v. silent_choose (machine.is_list v w) _ _ (silent_reads b ts slots bs w _ (λ z. silent_yields (call_method attributes.Append v (z ∷ []) [] w) ToNowhere (next + 4) (below a (below b ts)) slots bs)) (λ n. refl))
silent_act es (machine.Gather g t n) next ts slots bs w = silent_choose (nat_eq (length ts) (t + n)) _ _ (silent_yields (operations.tuple_within (drop t ts) w) g next (take t ts) slots bs) (λ n. refl)
silent_act es (machine.GatherList g t n) next ts slots bs w = silent_choose (nat_eq (length ts) (t + n)) _ _ (silent_yields (operations.list_within (drop t ts) w) g next (take t ts) slots bs) (λ n. refl)
silent_act es (machine.GatherDict g t n) next ts slots bs w = silent_choose (nat_eq (length ts) (t + n)) _ _ (silent_yields (dict_of (drop t ts) w) g next (take t ts) slots bs) (λ n. refl)
silent_act es (machine.Unpack a t n) next ts slots bs w = silent_reads a ts slots bs w _ (λ v. silent_unpacks (unpacked n v w) t next (below a ts) slots bs w)
silent_act es (machine.Reverse t n) next ts slots bs w =
    silent_choose (nat_eq (length ts) (t + n)) _ _
    (silent_choose (is_too_large (value.tuple_of (drop t ts))) _ _ (silent_yields (operations.too_long w) ToNowhere next (take t ts) slots bs) (λ n. refl))
    (λ n. refl)
silent_act es (machine.Return a) next ts slots bs w = silent_reads a ts slots bs w _ (λ v. λ n. refl)
silent_act es machine.Finish next ts slots bs w = λ n. refl

pub silent_fetched : (es : List Entry) (i : Option Owned) (pc : ℕ) (ts : List Value) (slots : List (Option Value)) (bs : List Block) (w : World) → Silent (fetched es i pc ts slots bs w)
silent_fetched es None pc ts slots bs w = λ n. refl
silent_fetched es (Some i) pc ts slots bs w = silent_choose (nat_eq (length slots) i.locals) _ _ (silent_act es i.instr (pc + 1) ts slots bs w) (λ n. refl)

-- ---- courses

silent_on : (p : Place) (answers : List world.Answer) (c : Course) → standing_of p ≡ None → (IsAtLine (on compiled p answers c).place → ⊥) → (on compiled p answers c).printed ≡ c.printed
silent_on (At pc ts slots bs) answers c e n =
    ap (λ (o : Option Text). stamped o (c.lines + 1) c.printed) (silent_fetched c.table.entries (slice_get c.table.lines pc) pc ts slots bs c.world n)
silent_on (Calling r g pc ts slots bs) answers c e n = cc
silent_on Taking answers c e n = cc
silent_on (Ending o) answers c e n = cc
silent_on Closed answers c e n = cc

-- a line of a course after which no other comes has printed nothing
pub silent_next : (c : Course) → standing_of c.place ≡ None → (IsAtLine (next compiled c).place → ⊥) → (next compiled c).printed ≡ c.printed
silent_next c e n = silent_on c.place c.answers c e n

-- where a course has printed no more, its machine hasn't
pub nothing_more : (c d : Course) (old new : State) → HasPrinted c d old new → d.printed ≡ c.printed → printed_of new ≡ printed_of old
nothing_more c d old new h e =
    let none : h.0 ≡ [] = append_cancel_left c.printed h.0 [] (sym h.1 ∙ e ∙ sym (append-nil c.printed)) in
    h.2 ∙ ap (λ (ts : List Stamped). printed_of old ++ encode_utf8_all (joined (texts ts))) none ∙ append-nil (printed_of old)
