-- Where an answer leads a course and its machine.
use Rattle.std.proofs.Common.{◌≡◌, ◌∙◌, ℕ, zero, suc, ◌++◌, ◌&&◌, Bool, true, false, nat_lt, List, [], ◌∷◌, Option, Some, None, ap, ap₂, refl, sym, subst, ◌+◌, encode_utf8_all}
use Rattle.std.specs.Prelude.{slice_get, Result, Ok, Err, OnOk, IfOk, chars}
use Rattle.std.proofs.Common.{lit<}
use Rattle.std.specs.Str.{IsAscii}
use Rattle.std.proofs.lemmas.Bool.{ltb-true}
use Rattle.std.proofs.lemmas.Str.{encode_ascii, chars-IsAscii}
use Rattle.si_semantics.specs.Value.{Text, Value}
use Rattle.si_semantics.specs.Parcels.{Tree}
use Rattle.si_semantics.specs.Shareable.{value_of_parcel}
use Rattle.si_semantics.specs.Tree as tree
use Rattle.si_semantics.specs.World as world
use Rattle.si_semantics.specs.World.{World, Globals}
use Rattle.si_semantics.specs.Life as language
use Rattle.si_semantics.specs.Life.{not_read}
use Rattle.si_semantics.specs.Actions.{Action, Take, End, fits}
use Rattle.si_semantics.specs.Replies.{reply}
use Rattle.si_methods.specs.Given as given
use Rattle.si_slots.specs.Machine.{Target, Block, Place, At, Calling, Taking, Ending, Closed, Stamped, stamped, Table, Compiler, Course, answered, took, ended, fetched, on, next, course}
use Rattle.si_slots.specs.Code.{compiled}
use Rattle.si_slots.specs.Contents.{Contents, Extends, no_code}
use Rattle.si_slots.specs.Laws.{with_answer}
use Rattle.si_slots.specs.Running.{NeverCloses, RunsFor, run_at, with_answers}
use Rattle.si_slots.specs.Views.{table_of}
use Rattle.si_slots.proofs.Opened.{stays_open}
use Rattle.si_steps.specs.declared.state.State.{State as Machine}
use Rattle.si_steps.specs.declared.step.Step.{Step as Line}
use Rattle.si_steps.specs.declared.step.Step.TheVariants as line
use Rattle.si_steps.specs.Machines.{Stands, Waits, Awaits, IsRunning, IsAtRequest, Answers, bound_to, printed_of}
use Rattle.si_steps.specs.Moments.{IsActionAt}
use Rattle.si_steps.proofs.Along.{at_request}
use Rattle.si_parcel.specs.Shared.{action_of, answer_of, outcome_of}
use Rattle.si_parcel.specs.declared.action.Action.{Action as SharedAction}
use Rattle.si_parcel.specs.declared.action.Action.TheVariants as action
use Rattle.si_parcel.specs.declared.answer.Answer.{Answer}
use Rattle.si_parcel.specs.declared.answer.Answer.TheVariants as answer
use Rattle.si_parcel.specs.declared.job.Job.{Job}
use Rattle.si_parcel.specs.declared.outcome.Outcome.{Outcome}
use Rattle.si_reading.specs.Texts.{tree_of_text}
use Rattle.si_reading.specs.inner.Trees.{tree_in}
use Rattle.si_interp.specs.declared.arriving.Next.{Next}
use Rattle.si_interp.specs.Life.{answer_in, bound, is_ascii, values_of}
use Rattle.si_interp.specs.Meaning.{stand_of}
use Rattle.si_interp.specs.Meaning as meaning
use Rattle.si_interp.specs.inner.Keeps.{IsUnderWay, IsWaiting, IsAwaiting, StandsBy, Leads, KnowsSome, IsEnded, HasAsked, Led, with_values}
use Rattle.si_interp.proofs.Standing.{place_take, place_end, request_there, asked_at, handed_by, is_done, same_given}
use Rattle.si_interp.proofs.Logs.{next_printed}
use Rattle.si_interp.proofs.Silent.{nothing_more}

-- ---- where a course stands

-- the one answer there is comes next
next_is : (c : Course) (a : world.Answer) (p : Place) → c.place ≡ p → c.answers ≡ [] → next compiled (with_answer a c) ≡ on compiled p (a ∷ []) (with_answer a c)
next_is c a p e used =
    ap (λ (q : Place). on compiled q (c.answers ++ a ∷ []) (with_answer a c)) e
    ∙ ap (λ (l : List world.Answer). on compiled p (l ++ a ∷ []) (with_answer a c)) used

-- ---- answers that fit

pub not_given : (r : Answer) → ((j : Job) → r ≡ answer.Given j → ⊥) → fits (answer_of r) Take ≡ true → ⊥
not_given (answer.Given j) h e = h j refl
not_given answer.Limit h e = cc
not_given (answer.Created i) h e = cc
not_given (answer.QueueMade q) h e = cc
not_given (answer.Started r) h e = cc
not_given answer.Done h e = cc
not_given answer.Full h e = cc
not_given answer.Empty h e = cc
not_given (answer.Item p) h e = cc
not_given (answer.Count n) h e = cc
not_given answer.NotFound h e = cc
not_given answer.Running h e = cc
not_given answer.Current h e = cc
not_given answer.Main h e = cc
not_given (answer.Ended o) h e = cc
not_given (answer.Truth b) h e = cc
not_given (answer.Ids l) h e = cc

-- ---- the end of a run is answered

done_taken : (c : Course) (o : language.Outcome) (a : Action) (m : Machine) → c.place ≡ Ending o → IsWaiting c a m → IsWaiting (next compiled (with_answer world.Done c)) Take m
done_taken c o a m e w =
    let there : Course = on compiled (Ending o) (world.Done ∷ []) (with_answer world.Done c) in
    let stands : IsWaiting there Take m = record { at = refl; answers = refl; waits = w.waits; table = w.table } in
    subst (λ (d : Course). IsWaiting d Take m) (sym (next_is c world.Done (Ending o) e w.answers)) stands

-- the end of a run is answered, which leads back to Take
pub end_leads : (c : Course) (a : SharedAction) (o : Outcome) (r : Answer) (m : Machine) → a ≡ action.End o → StandsBy c (action_of a) m → fits (answer_of r) (action_of a) ≡ true
    → IsWaiting (next compiled (with_answer (answer_in (answer_of r)) c)) Take m
end_leads c a o r m e h f =
    let w : IsWaiting c (End (outcome_of o)) m = subst (λ (b : SharedAction). StandsBy c (action_of b) m) e h in
    let done : answer_in (answer_of r) ≡ world.Done = is_done (answer_of r) (outcome_of o) (subst (λ (b : SharedAction). fits (answer_of r) (action_of b) ≡ true) e f) in
    subst (λ (x : world.Answer). IsWaiting (next compiled (with_answer x c)) Take m) (sym done) (done_taken c (outcome_of o) (End (outcome_of o)) m (place_end c.place (outcome_of o) w.at) w)

-- ---- a request is answered

-- a course with one answer to come
one_to_come : (c : Course) (a : world.Answer) → c.answers ≡ [] → with_answers (a ∷ []) c ≡ with_answer a c
one_to_come c a used = ap (λ (l : List world.Answer). with_answers (l ++ a ∷ []) c) (sym used)

-- an answer prints nothing
request_quiet : (c : Course) (a : world.Answer) (m : Machine) → IsAwaiting c m → (next compiled (with_answers (a ∷ []) c)).printed ≡ c.printed
request_quiet c a m w =
    let there = request_there c.place (at_request c m w.stands w.waiting) in
    ap (λ (d : Course). (next compiled d).printed) (one_to_come c a w.stands.answers) ∙ next_printed a (language.Calls there.0) c w.stands.answers there.1

replied_table : (o : world.Replied) (g : Target) (pc : ℕ) (ts : List Value) (slots : List (Option Value)) (bs : List Block) (c : Course) → (answered o g pc ts slots bs c).table ≡ c.table
replied_table (world.Got v w) g pc ts slots bs c = refl
replied_table (world.Failed k o w) g pc ts slots bs c = refl
replied_table (world.Wants r w) g pc ts slots bs c = refl

-- nor does it add code
request_table : (p : Place) (a : world.Answer) (c : Course) → IsAtRequest p → (on compiled p (a ∷ []) (with_answers (a ∷ []) c)).table ≡ c.table
request_table (At pc ts slots bs) a c h = absurd h
request_table (Calling r g pc ts slots bs) a c h = replied_table (reply r a c.world) g pc ts slots bs (with_answers [] c)
request_table Taking a c h = absurd h
request_table (Ending o) a c h = absurd h
request_table Closed a c h = absurd h

-- it prints nothing
pub replied_silent : (c : Course) (a : world.Answer) (m n : Machine) (r : Line) → IsAwaiting c m → Answers c a m n r → printed_of n ≡ printed_of m
replied_silent c a m n line.Local w did = nothing_more (with_answers (a ∷ []) c) (next compiled (with_answers (a ∷ []) c)) m n did.printed (request_quiet c a m w)
replied_silent c a m n line.Ended w did = did.printed
replied_silent c a m n line.Wants w did = nothing_more (with_answers (a ∷ []) c) (next compiled (with_answers (a ∷ []) c)) m n did.printed (request_quiet c a m w)
replied_silent c a m n line.Starved w did = did.printed

-- where the machine has come
pub replied_led : (c : Course) (a : world.Answer) (m n : Machine) (r : Line) → IsAwaiting c m → Answers c a m n r → Led (next compiled (with_answer a c)) n r
replied_led c a m n r w did = subst (λ (d : Course). Led (next compiled d) n r) (one_to_come c a w.stands.answers) (led_at r did)
  where
    led_at : (k : Line) → Answers c a m n k → Led (next compiled (with_answers (a ∷ []) c)) n k
    led_at line.Local d = record { stands = d.stands; running = d.running }
    led_at line.Ended d = record { ended = d.ended; table = ap table_of d.table ∙ w.stands.table ∙ sym (request_table c.place a c (at_request c m w.stands w.waiting)) }
    led_at line.Wants d = record { awaits = record { stands = d.stands; waiting = d.waiting }; action = d.action }
    led_at line.Starved d = tt

-- where its run has ended, it waits to tell that
pub ended_waits : (c : Course) (m : Machine) (o : Outcome) → IsEnded c m → c.place ≡ Ending (outcome_of o) → IsWaiting c (End (outcome_of o)) m
ended_waits c m o h place = record { at = ap stand_of place; answers = h.ended.answers; waits = record { idle = h.ended.idle; world = h.ended.world }; table = h.table }

-- where it asks again, it stands by at that
pub asks_by : (c : Course) (m n : Machine) (b : SharedAction) → HasAsked c m → n ≡ record m { action = None } → IsActionAt c.place (action_of b) → StandsBy c (action_of b) n
asks_by c m n b h e asked = handed_by c (action_of b) m n h.awaits.stands h.awaits.waiting e (asked_at c.place (action_of b) asked)

pub same_printed : (m n : Machine) → n ≡ record m { action = None } → printed_of n ≡ printed_of m
same_printed m n e = ap printed_of e

-- where an answer leads that is the same
pub leads_same :
    {E : Type 0} (c : Course) (a : SharedAction) (r : Answer) (m : Machine) (result : Result Next E) → (a ≡ action.Take → ⊥) → fits (answer_of r) (action_of a) ≡ true
    → IfOk result (λ n. Leads (next compiled (with_answer (given.answer_in (answer_of r)) c)) m n) → IfOk result (λ n. Leads (next compiled (with_answer (answer_in (answer_of r)) c)) m n)
leads_same c a r m result n f h = subst (λ (x : world.Answer). IfOk result (λ t. Leads (next compiled (with_answer x c)) m t)) (same_given r a n f) h

-- ---- jobs

pub bind_leads : (c : Course) (bs : List (Text × Tree)) (m n : Machine) → IsWaiting c Take m → Waits (with_values (values_of bs) c.world) n → table_of n.table ≡ table_of m.table
    → IsWaiting (next compiled (with_answer (world.Taken (world.Bind (values_of bs))) c)) Take n
bind_leads c bs m n w b t =
    let a : world.Answer = world.Taken (world.Bind (values_of bs)) in
    let e = place_take c.place w.at in
    let there : Course = on compiled Taking (a ∷ []) (with_answer a c) in
    let stands : IsWaiting there Take n = record { at = refl; answers = refl; waits = b; table = t ∙ w.table } in
    subst (λ (d : Course). IsWaiting d Take n) (sym (next_is c a Taking e w.answers)) stands

pub closing_leads : (c : Course) (m : Machine) → IsWaiting c Take m → (next compiled (with_answer (world.Taken world.Closing) c)).place ≡ Closed
closing_leads c m w =
    let a : world.Answer = world.Taken world.Closing in
    ap (λ (d : Course). d.place) (next_is c a Taking (place_take c.place w.at) w.answers)

pub unread_leads : (c : Course) (t : Option tree.Module) (o : Outcome) (m : Machine) → IsWaiting c Take m → t ≡ None → outcome_of o ≡ not_read
    → IsWaiting (next compiled (with_answer (world.Taken (world.Run t)) c)) (End (outcome_of o)) m
unread_leads c t o m w none is =
    let a : world.Answer = world.Taken (world.Run None) in
    let there : Course = on compiled Taking (a ∷ []) (with_answer a c) in
    let stands : IsWaiting there (End (outcome_of o)) m = record { at = ap (λ (x : language.Outcome). meaning.At (End x)) (sym is); answers = refl; waits = w.waits; table = w.table } in
    let here : IsWaiting (next compiled (with_answer a c)) (End (outcome_of o)) m =
    subst (λ (d : Course). IsWaiting d (End (outcome_of o)) m) (sym (next_is c a Taking (place_take c.place w.at) w.answers)) stands in
    subst (λ (x : Option tree.Module). IsWaiting (next compiled (with_answer (world.Taken (world.Run x)) c)) (End (outcome_of o)) m) (sym none) here

-- ---- a run begins

-- a course with other counts
abbrev counted : ℕ → List Stamped → Course → Course
counted l ts c = record c { lines = l; printed = ts }

-- a course goes alike, whatever its counts
replied_counted : (o : world.Replied) (g : Target) (pc : ℕ) (vs : List Value) (slots : List (Option Value)) (bs : List Block) (l : ℕ) (ts : List Stamped) (c : Course)
    → answered o g pc vs slots bs (counted l ts c) ≡ counted l ts (answered o g pc vs slots bs c)
replied_counted (world.Got v w) g pc vs slots bs l ts c = refl
replied_counted (world.Failed k o w) g pc vs slots bs l ts c = refl
replied_counted (world.Wants r w) g pc vs slots bs l ts c = refl

took_counted : (compile : Compiler) (a : world.Answer) (l : ℕ) (ts : List Stamped) (c : Course) → took compile a (counted l ts c) ≡ counted l ts (took compile a c)
took_counted compile (world.Taken (world.Bind bs)) l ts c = refl
took_counted compile (world.Taken (world.Run None)) l ts c = refl
took_counted compile (world.Taken (world.Run (Some m))) l ts c = refl
took_counted compile (world.Taken world.Closing) l ts c = refl
took_counted compile world.Done l ts c = refl
took_counted compile world.Limit l ts c = refl
took_counted compile (world.Created i) l ts c = refl
took_counted compile (world.QueueMade i) l ts c = refl
took_counted compile (world.Started i) l ts c = refl
took_counted compile world.Full l ts c = refl
took_counted compile world.Empty l ts c = refl
took_counted compile (world.Item v) l ts c = refl
took_counted compile (world.Count i) l ts c = refl
took_counted compile (world.Ids is) l ts c = refl
took_counted compile world.NotFound l ts c = refl
took_counted compile world.Running l ts c = refl
took_counted compile world.Current l ts c = refl
took_counted compile world.Main l ts c = refl
took_counted compile (world.Ended z) l ts c = refl
took_counted compile (world.Truth b) l ts c = refl

ended_counted : (a : world.Answer) (l : ℕ) (ts : List Stamped) (c : Course) → ended a (counted l ts c) ≡ counted l ts (ended a c)
ended_counted world.Done l ts c = refl
ended_counted (world.Taken j) l ts c = refl
ended_counted world.Limit l ts c = refl
ended_counted (world.Created i) l ts c = refl
ended_counted (world.QueueMade i) l ts c = refl
ended_counted (world.Started i) l ts c = refl
ended_counted world.Full l ts c = refl
ended_counted world.Empty l ts c = refl
ended_counted (world.Item v) l ts c = refl
ended_counted (world.Count i) l ts c = refl
ended_counted (world.Ids is) l ts c = refl
ended_counted world.NotFound l ts c = refl
ended_counted world.Running l ts c = refl
ended_counted world.Current l ts c = refl
ended_counted world.Main l ts c = refl
ended_counted (world.Ended z) l ts c = refl
ended_counted (world.Truth b) l ts c = refl

on_counted : (compile : Compiler) (p : Place) (answers : List world.Answer) (l : ℕ) (ts : List Stamped) (c : Course) → (k : ℕ) × (us : List Stamped) × (on compile p answers (counted l ts c) ≡ counted k us (on compile p answers c))
on_counted compile (At pc vs slots bs) answers l ts c =
    let one = fetched c.table.entries (slice_get c.table.lines pc) pc vs slots bs c.world in
    (l + 1, stamped one.out (l + 1) ts, refl)
on_counted compile (Calling r g pc vs slots bs) [] l ts c = (l, ts, refl)
on_counted compile (Calling r g pc vs slots bs) (a ∷ more) l ts c = (l, ts, replied_counted (reply r a c.world) g pc vs slots bs l ts (with_answers more c))
on_counted compile Taking [] l ts c = (l, ts, refl)
on_counted compile Taking (a ∷ more) l ts c = (l, ts, took_counted compile a l ts (with_answers more c))
on_counted compile (Ending o) [] l ts c = (l, ts, refl)
on_counted compile (Ending o) (a ∷ more) l ts c = (l, ts, ended_counted a l ts (with_answers more c))
on_counted compile Closed answers l ts c = (l, ts, refl)

course_counted : (compile : Compiler) (n l : ℕ) (ts : List Stamped) (c : Course) → (course compile n (counted l ts c)).place ≡ (course compile n c).place
course_counted compile zero l ts c = refl
course_counted compile (suc n) l ts c =
    let k = on_counted compile c.place c.answers l ts c in
    ap (λ (d : Course). (course compile n d).place) k.2 ∙ course_counted compile n k.0 k.1 (next compile c)

runs_counted : (compile : Compiler) (n l : ℕ) (ts : List Stamped) (c : Course) → RunsFor compile n (counted l ts c) → RunsFor compile n c
runs_counted compile zero l ts c h = tt
runs_counted compile (suc n) l ts c h =
    let k = on_counted compile c.place c.answers l ts c in
    (h.0, runs_counted compile n k.0 k.1 (next compile c) (subst (RunsFor compile n) k.2 h.1))

stands_counted : (l : ℕ) (ts : List Stamped) (c : Course) (m : Machine) → Stands c m → Stands (counted l ts c) m
stands_counted l ts c m h = record {
  table = h.table;
  turn = h.turn;
  place = h.place;
  answers = h.answers;
  never = λ compile answers n runs e. h.never compile answers n (runs_counted compile n l ts (with_answers answers c) runs) (sym (course_counted compile n l ts (with_answers answers c)) ∙ e);
  short = h.short;
}

-- the run of a text that was compiled
pub run_leads : (c : Course) (t : tree.Module) (entry : Table × ℕ) (m n : Machine) → IsWaiting c Take m → entry ≡ compiled c.table t → Stands (run_at entry c.world) n → IsRunning n
    → IsUnderWay (next compiled (with_answer (world.Taken (world.Run (Some t))) c)) n
run_leads c t entry m n w is stands runs =
    let a : world.Answer = world.Taken (world.Run (Some t)) in
    let P : Table × ℕ → Type 0 = λ x. Stands (run_at x c.world) n in
    let there : Course = on compiled Taking (a ∷ []) (with_answer a c) in
    let here : IsUnderWay there n = record { stands = stands_counted c.lines c.printed (run_at (compiled c.table t) c.world) n (subst P is stands); running = runs } in
    subst (λ (d : Course). IsUnderWay d n) (sym (next_is c a Taking (place_take c.place w.at) w.answers)) here

pub never_closes : (c : Course) (t : tree.Module) (entry : Table × ℕ) → KnowsSome c → entry ≡ compiled c.table t → NeverCloses (run_at entry c.world)
never_closes c t entry k is =
    let P : Table × ℕ → Type 0 = λ x. NeverCloses (run_at x c.world) in
    subst P (sym is) (stays_open c.table k.0 t c.world k.1)

-- the entry of a text that was added to the table that a machine lent
pub entry_is : (c : Course) (t : tree.Module) (entry : Table × ℕ) (before : Contents) (m : Machine) → IsWaiting c Take m → before ≡ m.table → entry ≡ compiled (table_of before) t → entry ≡ compiled c.table t
entry_is c t entry before m w lent is = is ∙ ap (λ (x : Contents). compiled (table_of x) t) lent ∙ ap (λ (x : Table). compiled x t) w.table

pub awaits_lent : (w : World) (m n : Machine) (before now : Contents) → Waits w m → n ≡ record m { table = no_code } → before ≡ m.table → Extends before now → Awaits w now n
awaits_lent w m n before now h e lent grown =
    let none : Machine = record m { table = no_code } in
    let here : Awaits w now none = record { lent = m.table; waits = h; grown = subst (λ (x : Contents). Extends x now) lent grown } in
    subst (λ (x : Machine). Awaits w now x) (sym e) here

-- the tree of a text, by its bytes
pub tree_is : (t : Text) (bytes : List ℕ) (o : Option tree.Module) → bytes ≡ encode_utf8_all t → tree_in bytes ≡ o → tree_of_text t ≡ o
unfolding tree_of_text
tree_is t bytes o e h = ap tree_in (sym e) ∙ h

-- ---- names

both : (a b : Bool) → (a && b) ≡ true → (a ≡ true) × (b ≡ true)
both true b e = (refl, e)
both false b e = absurd cc

-- a text of ASCII is its own bytes
ascii : (x : Text) → is_ascii x ≡ true → encode_utf8_all x ≡ x
ascii [] e = refl
ascii (c ∷ cs) e =
    let h = both (nat_lt c 128) (is_ascii cs) e in
    ap₂ (λ (a b : List ℕ). a ++ b) (encode_ascii c (ltb-true c 128 h.0)) (ascii cs h.1)

bound_at : (b : Bool) (x : Text) (v : Option Value) (w : World) (m : Machine) → b ≡ true → Waits (bound_to x v w) m → Waits (with_values (bound b x v []) w) m
bound_at true x (Some v) w m e h = h
bound_at true x None w m e h = h
bound_at false x v w m e h = cc

unbound_at : (b : Bool) (x : Text) (v : Option Value) (w : World) (m : Machine) → b ≡ false → Waits w m → Waits (with_values (bound b x v []) w) m
unbound_at true x v w m e h = cc
unbound_at false x (Some v) w m e h = h
unbound_at false x None w m e h = h

pub one_bound : (x bytes : Text) (p : Tree) (w : World) (m : Machine) → bytes ≡ encode_utf8_all x → is_ascii x ≡ true → Waits (bound_to bytes (value_of_parcel p) w) m
    → Waits (with_values (values_of ((x, p) ∷ [])) w) m
one_bound x bytes p w m is e h = bound_at (is_ascii x) x (value_of_parcel p) w m e (subst (λ (y : Text). Waits (bound_to y (value_of_parcel p) w) m) (is ∙ ascii x e) h)

pub one_unbound : (x : Text) (p : Tree) (w : World) (m : Machine) → is_ascii x ≡ false → Waits w m → Waits (with_values (values_of ((x, p) ∷ [])) w) m
one_unbound x p w m e h = unbound_at (is_ascii x) x (value_of_parcel p) w m e h

bound-append : (b : Bool) (x : Text) (v : Option Value) (xs ys : List (Text × Value)) → bound b x v (xs ++ ys) ≡ bound b x v xs ++ ys
bound-append true x (Some v) xs ys = refl
bound-append true x None xs ys = refl
bound-append false x (Some v) xs ys = refl
bound-append false x None xs ys = refl

values-append : (xs ys : List (Text × Tree)) → values_of (xs ++ ys) ≡ values_of xs ++ values_of ys
values-append [] ys = refl
values-append (b ∷ xs) ys =
    ap (λ (vs : List (Text × Value)). bound (is_ascii b.0) b.0 (value_of_parcel b.1) vs) (values-append xs ys)
    ∙ bound-append (is_ascii b.0) b.0 (value_of_parcel b.1) (values_of xs) (values_of ys)

bind_all-append : (xs ys : List (Text × Value)) (g : Globals) → world.bind_all (xs ++ ys) g ≡ world.bind_all ys (world.bind_all xs g)
bind_all-append [] ys g = refl
bind_all-append (b ∷ xs) ys g = bind_all-append xs ys (world.bind b.0 b.1 g)

-- names after names
pub more_bound : (xs : List (Text × Tree)) (y : Text × Tree) (w : World) → with_values (values_of (xs ++ y ∷ [])) w ≡ with_values (values_of (y ∷ [])) (with_values (values_of xs) w)
more_bound xs y w =
    ap (λ (vs : List (Text × Value)). with_values vs w) (values-append xs (y ∷ []))
    ∙ ap (λ (g : Globals). let v : World = record w { globals = g } in v) (bind_all-append (values_of xs) (values_of (y ∷ [])) w.globals)

is_ascii_bytes : (x : Text) → is_ascii x ≡ true → IsAscii x
is_ascii_bytes [] e i = lit< tt
is_ascii_bytes (c ∷ cs) e zero = ltb-true c 128 (both (nat_lt c 128) (is_ascii cs) e).0
is_ascii_bytes (c ∷ cs) e (suc i) = is_ascii_bytes cs (both (nat_lt c 128) (is_ascii cs) e).1 i

-- the characters that bytes of ASCII spell
pub spelled : (x : Text) → is_ascii x ≡ true → chars x ≡ x
spelled x e = chars-IsAscii x (is_ascii_bytes x e)

-- what two facts of a result say together
pub both_ok : {T E P Q R : Type 0} (r : Result T E) → (P → Q → R) → OnOk r P → OnOk r Q → OnOk r R
both_ok (Ok x) f p q = f p q
both_ok (Err e) f p q = tt
