-- An interpreter's log, along its course.
use Rattle.std.proofs.Common.{◌≡◌, ℕ, ◌+◌, ◌<◌, ◌≤◌, List, [], ◌∷◌, ◌++◌, Option, Some, None, refl, ap, sym, ◌∙◌, subst, arith, append_assoc, append-nil, add-one, below_more}
use Rattle.std.specs.Prelude.{map, slice_get}
use Rattle.std.proofs.lemmas.List.{map-append}
use Rattle.si_semantics.specs.Value.{Text, Value}
use Rattle.si_semantics.specs.Tree.{Function, functions_in}
use Rattle.si_semantics.specs.World as world
use Rattle.si_semantics.specs.World.{Replied, Got, Failed, Wants}
use Rattle.si_semantics.specs.Replies.{reply}
use Rattle.si_semantics.specs.Life as language
use Rattle.si_semantics.specs.Life.{joined}
use Rattle.si_semantics.specs.Actions.{Action, Take, Answer}
use Rattle.si_slots.specs.Machine.{Target, Block, Place, At, Calling, Taking, Ending, Closed, Stamped, stamped, Line, Course, on, next, answered, took, ended, start, fetched, after}
use Rattle.si_slots.specs.Code.{compiled}
use Rattle.si_slots.specs.Correct.{Knows}
use Rattle.si_slots.specs.Shows.{standing_of, texts}
use Rattle.si_slots.specs.Laws.{with_answer}
use Rattle.si_slots.specs.Interpreter.{IsAfter}
use Rattle.si_slots.proofs.Tables.{knows_more}
use Rattle.si_slots.proofs.Interpreter.{after_shows, answer_keeps, line_keeps, new_is_after}
use Rattle.si_interp.specs.Life.{answer_in, asked}
use Rattle.si_interp.specs.Course.{settled, go}
use Rattle.si_interp.specs.Meaning.{Logged, Stand, Ready, At as Standing, Starved, stand_at, stand_of, course_text, course_stand, BeginsWith, AsksAt, Asked, StoodAt, Stood, answers_of, IsBeginning, IsOnTime, ShowsMeaning}
use Rattle.si_interp.specs.inner.Track.{inputs, Track}
use Rattle.si_interp.proofs.Going.{ready_none, go-more, go-answer, ready-answer, settled-none}
use Rattle.si_interp.proofs.Living.{shows_beginning, shows_on_time, shows_whole, shows_asks}

abbrev pub logged : Action → Answer → ℕ → Logged
logged a r l = record { action = a; answer = r; at = l }

pub answers-more : (log : List Logged) (e : Logged) → answers_of (log ++ e ∷ []) ≡ answers_of log ++ e.answer ∷ []
answers-more log e = map-append (λ (x : Logged). x.answer) log (e ∷ [])

inputs-more : (log : List Logged) (e : Logged) → inputs (log ++ e ∷ []) ≡ inputs log ++ answer_in e.answer ∷ []
inputs-more log e = ap (map answer_in) (answers-more log e) ∙ map-append answer_in (answers_of log) (e.answer ∷ [])

-- ---- logs

AsksAt-grown : (id : ℕ) (rs : List Answer) (a : Action) (p q : Text) → BeginsWith q p → AsksAt id rs a p → AsksAt id rs a q
AsksAt-grown id rs a p q g h = record { turns = h.turns; asks = h.asks; begins = (h.begins.0 ++ g.0, sym (append_assoc _ h.begins.0 g.0) ∙ ap (λ (x : Text). x ++ g.0) h.begins.1 ∙ g.1) }

Asked-grown : (id : ℕ) (before : List Answer) (log : List Logged) (p q : Text) → BeginsWith q p → Asked id before log p → Asked id before log q
Asked-grown id before [] p q g h = tt
Asked-grown id before (x ∷ log) p q g h = (AsksAt-grown id before x.action p q g h.0, Asked-grown id (before ++ x.answer ∷ []) log p q g h.1)

Asked-more : (id : ℕ) (before : List Answer) (log : List Logged) (e : Logged) (p : Text) → Asked id before log p → AsksAt id (before ++ answers_of log) e.action p → Asked id before (log ++ e ∷ []) p
Asked-more id before [] e p h a = ((let x = rw append-nil at a in x), tt)
Asked-more id before (x ∷ log) e p h a = (h.0, Asked-more id (before ++ x.answer ∷ []) log e p h.1 (rw (append_assoc {A = Answer} before (x.answer ∷ []) (answers_of log)) a))

Stood-more : (id : ℕ) (before : List Answer) (low high : ℕ) (log : List Logged) (e : Logged) → Stood id before low log high → high ≤ e.at → StoodAt id (before ++ answers_of log) e.action e.at → Stood id before low (log ++ e ∷ []) e.at
Stood-more id before low high [] e h k a = (omega arith, (let x = rw append-nil at a in x), omega arith)
Stood-more id before low high (x ∷ log) e h k a = (h.0, h.1, Stood-more id (before ++ x.answer ∷ []) x.at high log e h.2 k (rw (append_assoc {A = Answer} before (x.answer ∷ []) (answers_of log)) a))

Stood-high : (id : ℕ) (before : List Answer) (low high higher : ℕ) (log : List Logged) → Stood id before low log high → high ≤ higher → Stood id before low log higher
Stood-high id before low high higher [] h k = omega arith
Stood-high id before low high higher (x ∷ log) h k = (h.0, h.1, Stood-high id (before ++ x.answer ∷ []) x.at high higher log h.2 k)

-- ---- one line

joined-append : (xs ys : List Text) → joined (xs ++ ys) ≡ joined xs ++ joined ys
joined-append [] ys = refl
joined-append (x ∷ xs) ys = ap (λ (t : Text). x ++ t) (joined-append xs ys) ∙ sym (append_assoc x (joined xs) (joined ys))

stamped_begins : (out : Option Text) (n : ℕ) (ts : List Stamped) → BeginsWith (joined (texts (stamped out n ts))) (joined (texts ts))
stamped_begins None n ts = ([], append-nil _)
stamped_begins (Some t) n ts =
    let last : List Stamped = record { text = t; line = n } ∷ [] in
    (joined (texts last), sym (joined-append (texts ts) (texts last)) ∙ ap joined (sym (map-append (λ (x : Stamped). x.text) ts last)))

-- a line counts, leaves the table as it is, and takes nothing back that was printed
record IsLine (c d : Course) : Type 0 where
  lines : d.lines ≡ c.lines + 1
  table : d.table ≡ c.table
  more : BeginsWith (joined (texts d.printed)) (joined (texts c.printed))

after_line : (l : Line) (c : Course) → IsLine c (after l c)
after_line l c = record { lines = refl; table = refl; more = stamped_begins l.out (c.lines + 1) c.printed }

line_is : (p : Place) (answers : List world.Answer) (c : Course) → standing_of p ≡ None → IsLine c (on compiled p answers c)
line_is (At pc ts slots bs) answers c e = after_line (fetched c.table.entries (slice_get c.table.lines pc) pc ts slots bs c.world) c
line_is (Calling r g pc ts slots bs) answers c e = cc
line_is Taking answers c e = cc
line_is (Ending o) answers c e = cc
line_is Closed answers c e = cc

pub line_table : (c : Course) → standing_of c.place ≡ None → (next compiled c).table ≡ c.table
line_table c e = (line_is c.place c.answers c e).table

-- ---- one answer

-- an answer is no line, prints nothing, and adds functions with the code of its text
record IsAnswered (c d : Course) : Type 0 where
  lines : d.lines ≡ c.lines
  printed : d.printed ≡ c.printed
  knows : (fs : List Function) → Knows c.table fs → (gs : List Function) × Knows d.table gs

none_read : (c d : Course) → d.lines ≡ c.lines → d.printed ≡ c.printed → d.table ≡ c.table → IsAnswered c d
none_read c d l p t = record { lines = l; printed = p; knows = λ fs k. (fs, subst (λ t. Knows t fs) (sym t) k) }

took_is : (a : world.Answer) (c d : Course) → d.lines ≡ c.lines → d.printed ≡ c.printed → d.table ≡ c.table → IsAnswered c (took compiled a d)
took_is (world.Taken (world.Bind bs)) c d l p t = none_read c _ l p t
took_is (world.Taken (world.Run None)) c d l p t = none_read c _ l p t
took_is (world.Taken (world.Run (Some m))) c d l p t =
    record { lines = l; printed = p; knows = λ fs k. (fs ++ functions_in m.body, knows_more d.table fs m (subst (λ t. Knows t fs) (sym t) k)) }
took_is (world.Taken world.Closing) c d l p t = none_read c _ l p t
took_is world.Done c d l p t = none_read c _ l p t
took_is world.Limit c d l p t = none_read c _ l p t
took_is (world.Created i) c d l p t = none_read c _ l p t
took_is (world.QueueMade i) c d l p t = none_read c _ l p t
took_is (world.Started i) c d l p t = none_read c _ l p t
took_is world.Full c d l p t = none_read c _ l p t
took_is world.Empty c d l p t = none_read c _ l p t
took_is (world.Item v) c d l p t = none_read c _ l p t
took_is (world.Count i) c d l p t = none_read c _ l p t
took_is (world.Ids is) c d l p t = none_read c _ l p t
took_is world.NotFound c d l p t = none_read c _ l p t
took_is world.Running c d l p t = none_read c _ l p t
took_is world.Current c d l p t = none_read c _ l p t
took_is world.Main c d l p t = none_read c _ l p t
took_is (world.Ended z) c d l p t = none_read c _ l p t
took_is (world.Truth b) c d l p t = none_read c _ l p t

ended_is : (a : world.Answer) (c d : Course) → d.lines ≡ c.lines → d.printed ≡ c.printed → d.table ≡ c.table → IsAnswered c (ended a d)
ended_is world.Done c d l p t = none_read c _ l p t
ended_is (world.Taken j) c d l p t = none_read c _ l p t
ended_is world.Limit c d l p t = none_read c _ l p t
ended_is (world.Created i) c d l p t = none_read c _ l p t
ended_is (world.QueueMade i) c d l p t = none_read c _ l p t
ended_is (world.Started i) c d l p t = none_read c _ l p t
ended_is world.Full c d l p t = none_read c _ l p t
ended_is world.Empty c d l p t = none_read c _ l p t
ended_is (world.Item v) c d l p t = none_read c _ l p t
ended_is (world.Count i) c d l p t = none_read c _ l p t
ended_is (world.Ids is) c d l p t = none_read c _ l p t
ended_is world.NotFound c d l p t = none_read c _ l p t
ended_is world.Running c d l p t = none_read c _ l p t
ended_is world.Current c d l p t = none_read c _ l p t
ended_is world.Main c d l p t = none_read c _ l p t
ended_is (world.Ended z) c d l p t = none_read c _ l p t
ended_is (world.Truth b) c d l p t = none_read c _ l p t

replied_is : (o : Replied) (g : Target) (pc : ℕ) (ts : List Value) (slots : List (Option Value)) (bs : List Block) (c d : Course) → d.lines ≡ c.lines → d.printed ≡ c.printed → d.table ≡ c.table
    → IsAnswered c (answered o g pc ts slots bs d)
replied_is (Got v w) g pc ts slots bs c d l p t = none_read c _ l p t
replied_is (Failed k o w) g pc ts slots bs c d l p t = none_read c _ l p t
replied_is (Wants r w) g pc ts slots bs c d l p t = none_read c _ l p t

answered_is : (p : Place) (a : world.Answer) (b : language.Action) (c : Course) → standing_of p ≡ Some (Some b) → IsAnswered c (on compiled p (a ∷ []) (with_answer a c))
answered_is (At pc ts slots bs) a b c e = cc
answered_is (Calling r g pc ts slots bs) a b c e = replied_is (reply r a c.world) g pc ts slots bs c (record c { answers = [] }) refl refl refl
answered_is Taking a b c e = took_is a c (record c { answers = [] }) refl refl refl
answered_is (Ending o) a b c e = ended_is a c (record c { answers = [] }) refl refl refl
answered_is Closed a b c e = cc

-- the same of what comes next
next_answered : (a : world.Answer) (b : language.Action) (c : Course) → c.answers ≡ [] → standing_of c.place ≡ Some (Some b) → IsAnswered c (next compiled (with_answer a c))
next_answered a b c used e =
    subst (λ (l : List world.Answer). IsAnswered c (on compiled c.place (l ++ a ∷ []) (with_answer a c))) (sym used) (answered_is c.place a b c e)

pub next_printed : (a : world.Answer) (b : language.Action) (c : Course) → c.answers ≡ [] → standing_of c.place ≡ Some (Some b) → (next compiled (with_answer a c)).printed ≡ c.printed
next_printed a b c used e = (next_answered a b c used e).printed

-- ---- the course's text and standing

course_at : (id : ℕ) (rs : List Answer) (l : ℕ) (c : Course) → go l (start id (map answer_in rs)) ≡ c → course_stand id rs l ≡ stand_of c.place
unfolding course_stand
course_at id rs l c e = ap (λ (d : Course). stand_of d.place) e

text_at : (id : ℕ) (rs : List Answer) (l : ℕ) (c : Course) → go l (start id (map answer_in rs)) ≡ c → course_text id rs l ≡ joined (texts c.printed)
unfolding course_text
text_at id rs l c e = ap (λ (d : Course). joined (texts d.printed)) e

none_before : (id : ℕ) (rs : List Answer) (l : ℕ) → ((k : ℕ) → k < l → course_stand id rs k ≡ Ready) → (k : ℕ) → k < l → standing_of (go k (start id (map answer_in rs))).place ≡ None
unfolding course_stand
none_before id rs l h k lt = ready_none _ (h k lt)

ready_before : (id : ℕ) (rs : List Answer) (l : ℕ) → ((k : ℕ) → k < l → standing_of (go k (start id (map answer_in rs))).place ≡ None) → (k : ℕ) → k < l → course_stand id rs k ≡ Ready
unfolding course_stand
ready_before id rs l h k lt = ap stand_at (h k lt)

-- one answer more changes nothing before the action that it answers
pub course_more : (id l : ℕ) (rs : List Answer) (r : Answer) → ((k : ℕ) → k < l → course_stand id rs k ≡ Ready) → (k : ℕ) → k < l → course_stand id (rs ++ r ∷ []) k ≡ Ready
course_more id l rs r h =
    ready_before id (rs ++ r ∷ []) l
    (subst (λ (inputs : List world.Answer). (k : ℕ) → k < l → standing_of (go k (start id inputs)).place ≡ None) (sym (map-append answer_in rs (r ∷ []))) (ready-answer id l (map answer_in rs) (answer_in r) (none_before id rs l h)))

-- ---- the track

pub track_first : (id : ℕ) → Track id [] 0 (start id [])
track_first id = record { after = new_is_after id; ran = refl; lines = refl; asked = tt; stood = omega arith; ready = λ k lt. absurd (omega arith); functions = []; knows = tt }

-- one line more
pub track_line : (id : ℕ) (log : List Logged) (l : ℕ) (c : Course) → standing_of c.place ≡ None → Track id log l c → Track id log (l + 1) (next compiled c)
track_line id log l c e t =
    let d = next compiled c in
    let one : IsLine c d = line_is c.place c.answers c e in
    let further = line_keeps id (inputs log) c t.after in
    record {
      after = further;
      ran = rw add-one (go-more l (start id (inputs log)) ∙ ap (λ (x : Course). settled (next compiled x)) t.ran ∙ settled-none d further.used);
      lines = omega (arith, one.lines, t.lines);
      asked = Asked-grown id [] log _ _ one.more t.asked;
      stood = Stood-high id [] 0 l (l + 1) log t.stood (omega arith);
      ready = below_more _ l t.ready (course_at id (answers_of log) l c t.ran ∙ ap stand_at e);
      functions = t.functions;
      knows = subst (λ x. Knows x t.functions) (sym one.table) t.knows;
    }

-- one answer more
pub track_answer : (id : ℕ) (log : List Logged) (l : ℕ) (c : Course) (b : language.Action) (r : Answer) → standing_of c.place ≡ Some (Some b) → Track id log l c
    → Track id (log ++ logged (asked b) r l ∷ []) l (next compiled (with_answer (answer_in r) c))
track_answer id log l c b r e t =
    let x = logged (asked b) r l in
    let a = answer_in r in
    let rs = answers_of log in
    let d = next compiled (with_answer a c) in
    let one : IsAnswered c d = next_answered a b c t.after.used e in
    let more = answers-more log x in
    let inputs_more = inputs-more log x in
    let none = none_before id rs l t.ready in
    let text : joined (texts c.printed) ≡ joined (texts d.printed) = ap (λ ts. joined (texts ts)) (sym one.printed) in
    let asks = shows_asks id rs c (after_shows id (inputs log) c t.after) b e in
    let known = one.knows t.functions t.knows in
    record {
      after = subst (λ k. IsAfter id k d) (sym inputs_more) (answer_keeps id (inputs log) c a b e t.after);
      ran = ap (λ k. go l (start id k)) inputs_more ∙ go-answer id l (inputs log) a b c none t.ran t.after.used e;
      lines = one.lines ∙ t.lines;
      asked = subst (Asked id [] (log ++ x ∷ [])) text (Asked-more id [] log x _ t.asked asks);
      stood = Stood-more id [] 0 l log x t.stood (omega arith) (record { here = course_at id rs l c t.ran ∙ ap stand_at e; ready = t.ready });
      ready = subst (λ (k : List Answer). (j : ℕ) → j < l → course_stand id k j ≡ Ready) (sym more) (course_more id l rs r t.ready);
      functions = known.0;
      knows = known.1;
    }

-- what is on its track shows its meaning
pub shows : (id : ℕ) (log : List Logged) (l : ℕ) (c : Course) → Track id log l c → ShowsMeaning id log (joined (texts c.printed)) l (stand_of c.place)
shows id log l c t =
    let rs = answers_of log in
    let h = after_shows id (inputs log) c t.after in
    record {
      begins = subst (λ n. IsBeginning id rs (joined (texts c.printed)) n) t.lines (shows_beginning id rs c h);
      asked = t.asked;
      stood = t.stood;
      ready = t.ready;
      follows = λ ne. record {
        text = sym (text_at id rs l c t.ran);
        stand = sym (course_at id rs l c t.ran);
        on_time = subst (λ n. IsOnTime id rs (joined (texts c.printed)) n (stand_of c.place)) t.lines (shows_on_time id rs c h);
      };
      whole = shows_whole id rs c h;
    }

-- so does what stands still there for good
pub starves : (id : ℕ) (log : List Logged) (p : Text) (l : ℕ) (s : Stand) → ShowsMeaning id log p l s → ShowsMeaning id log p l Starved
starves id log p l s h = record { begins = h.begins; asked = h.asked; stood = h.stood; ready = h.ready; follows = λ ne. absurd (ne refl); whole = tt }

-- with no answer and no line it stands at Take
pub course_first : (id : ℕ) → course_stand id [] 0 ≡ Standing Take
unfolding course_stand
course_first id = refl
