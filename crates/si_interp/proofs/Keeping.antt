-- How an interpreter keeps what it keeps true.
use Rattle.std.proofs.Common.{◌≡◌, ◌∙◌, ℕ, ◌+◌, ◌<◌, ◌++◌, Bool, true, false, List, [], ◌∷◌, Option, Some, None, ap, ap₂, refl, sym, subst, append_assoc, string_bytes, encode_utf8_all}
use Rattle.std.proofs.lemmas.Str.{chars-nil, chars_from_encodes, encodes-append, IsUtf8-string_bytes}
use Rattle.std.proofs.lemmas.List.{map-append}
use Rattle.si_plain.specs.Characters.{characters_of}
use Rattle.si_semantics.specs.Value.{Text}
use Rattle.si_semantics.specs.World.{first_world}
use Rattle.si_semantics.specs.Life.{joined}
use Rattle.si_semantics.specs.Actions as shared
use Rattle.si_slots.specs.Machine.{Place, At, Calling, Taking, Ending, Closed, Stamped, Course, next, start}
use Rattle.si_slots.specs.Code.{compiled}
use Rattle.si_slots.specs.Contents.{no_code}
use Rattle.si_slots.specs.Laws.{with_answer}
use Rattle.si_slots.specs.Shows.{standing_of, texts}
use Rattle.si_slots.specs.Views.{table_of}
use Rattle.si_steps.specs.declared.state.State.{State as Machine}
use Rattle.si_steps.specs.declared.step.Step.{Step as Line}
use Rattle.si_steps.specs.declared.step.Step.TheVariants as line
use Rattle.si_steps.specs.Machines.{Waits, HasPrinted, Steps, WentOn, CameToEnd, CameToRequest, printed_of}
use Rattle.si_steps.specs.Moments.{IsAtLine, IsActionAt}
use Rattle.si_steps.specs.Moments as moments
use Rattle.si_steps.proofs.Along.{at_line}
use Rattle.si_parcel.specs.Shared.{action_of, outcome_of}
use Rattle.si_parcel.specs.declared.outcome.Outcome.{Outcome}
use Rattle.si_parcel.specs.declared.action.Action.{Action}
use Rattle.si_parcel.specs.declared.action.Action.TheVariants as action
use Rattle.si_interp.specs.declared.arriving.Next.{Next}
use Rattle.si_interp.specs.declared.arriving.Next.TheVariants as next
use Rattle.si_interp.specs.declared.interp.State.{State}
use Rattle.si_interp.specs.declared.interp.State.TheVariants as states
use Rattle.si_interp.specs.Life.{answer_in}
use Rattle.si_interp.specs.Meaning.{Logged, Stand, Ready, Gone, Starved, stand_of, ShowsMeaning, InterpView}
use Rattle.si_interp.specs.Meaning as meaning
use Rattle.si_interp.specs.View.{Answers, FitsStand, starved_view, view_of}
use Rattle.si_interp.specs.inner.Track.{Track}
use Rattle.si_interp.specs.inner.Keeps.{moment_of, Prints, IsUnderWay, IsWaiting, StandsBy, KnowsSome, Leads, IsKept, Arrived, Comes, ComesSo, Leaves, stand_in, taken_in, IsGoing, IsAsking, Goes, Keeps}
use Rattle.si_interp.proofs.Silent.{nothing_more, silent_next}
use Rattle.si_interp.proofs.Standing.{action_there, action_no_line, asked_at, handed_by, no_answers, same_action, stands_at}
use Rattle.si_interp.proofs.Logs.{logged, line_table, next_printed, shows, starves, track_answer, track_first, track_line}

-- ---- places

-- where a line comes there is an instruction
at_instruction : (p : Place) → IsAtLine p → standing_of p ≡ None
at_instruction (At pc ts slots bs) h = refl
at_instruction (Calling r g pc ts slots bs) h = absurd h
at_instruction Taking h = absurd h
at_instruction (Ending o) h = absurd h
at_instruction Closed h = absurd h

pub stands_ready : (c : Course) (m : Machine) → IsUnderWay c m → standing_of c.place ≡ None
stands_ready c m u = at_instruction c.place (at_line c m u.stands u.running)

-- ---- texts

text_is : (c : Course) (m : Machine) → Prints c m → characters_of (printed_of m) ≡ joined (texts c.printed)
text_is c m h = sym (chars_from_encodes _ (string_bytes m.printed) (IsUtf8-string_bytes m.printed) (sym h))

joined-append : (xs ys : List Text) → joined (xs ++ ys) ≡ joined xs ++ joined ys
joined-append [] ys = refl
joined-append (x ∷ xs) ys = ap (λ (t : Text). x ++ t) (joined-append xs ys) ∙ sym (append_assoc x (joined xs) (joined ys))

texts-append : (ts us : List Stamped) → joined (texts (ts ++ us)) ≡ joined (texts ts) ++ joined (texts us)
texts-append ts us = ap joined (map-append (λ (x : Stamped). x.text) ts us) ∙ joined-append (texts ts) (texts us)

prints_more : (c d : Course) (s t : Machine) → Prints c s → HasPrinted c d s t → Prints d t
prints_more c d s t e h =
    h.2 ∙ ap (λ (l : List ℕ). l ++ encode_utf8_all (joined (texts h.0))) e
    ∙ sym (encodes-append (joined (texts c.printed)) (joined (texts h.0)))
    ∙ ap encode_utf8_all (sym (texts-append c.printed h.0) ∙ ap (λ (ts : List Stamped). joined (texts ts)) (sym h.1))

prints_same : (c d : Course) (s t : Machine) → Prints c s → printed_of t ≡ printed_of s → d.printed ≡ c.printed → Prints d t
prints_same c d s t e p q = p ∙ e ∙ ap (λ (ts : List Stamped). encode_utf8_all (joined (texts ts))) (sym q)

-- ---- arriving

at_moment : (id : ℕ) (log : List Logged) (l : ℕ) (c : Course) → Track id log l c → c ≡ moment_of id log l
unfolding moment_of
at_moment id log l c t = sym t.ran

shows_there : (id : ℕ) (log : List Logged) (l : ℕ) (c : Course) (m : Machine) (s : Stand) → Track id log l c → Prints c m → stand_of c.place ≡ s → ShowsMeaning id log (characters_of (printed_of m)) l s
shows_there id log l c m s t p e =
    subst (λ (x : Text). ShowsMeaning id log x l s) (sym (text_is c m p))
    (subst (λ (x : Stand). ShowsMeaning id log (joined (texts c.printed)) l x) e (shows id log l c t))

moved : (id : ℕ) (log : List Logged) (l : ℕ) (c : Course) (m : Machine) (s : State) (kept offered : Option Action) (room : ℕ) → Track id log l c → Goes id log l c m s kept offered room
    → Goes id log l (moment_of id log l) m s kept offered room
moved id log l c m s kept offered room t g = subst (λ (d : Course). Goes id log l d m s kept offered room) (at_moment id log l c t) g

keeps_action :
    (id : ℕ) (log : List Logged) (l : ℕ) (c : Course) (m : Machine) (a : Action) (s : State) (kept offered : Option Action) (room : ℕ)
    → Track id log l c → Prints c m → StandsBy c (action_of a) m → IsKept a s kept offered room → Keeps id m log l room s kept offered
keeps_action id log l c m a s kept offered room t p w k =
    let here : Keeps id m log l room states.AtAction (Some a) (Some a) =
    record {
      shows = shows_there id log l c m (meaning.At (action_of a)) t p (stands_at c (action_of a) m w);
      goes = moved id log l c m states.AtAction (Some a) (Some a) room t (record { track = t; prints = p; standing = w; offer = refl; has_room = k.has_room });
    } in
    let by_offered : Keeps id m log l room states.AtAction (Some a) offered = subst (λ (x : Option Action). Keeps id m log l room states.AtAction (Some a) x) (sym k.offered_is) here in
    let by_kept : Keeps id m log l room states.AtAction kept offered = subst (λ (x : Option Action). Keeps id m log l room states.AtAction x offered) (sym k.kept_is) by_offered in
    subst (λ (x : State). Keeps id m log l room x kept offered) (sym k.state) by_kept

keeps_running :
    (id : ℕ) (log : List Logged) (l : ℕ) (c : Course) (m : Machine) (kept offered : Option Action) (room : ℕ)
    → Track id log l c → Prints c m → IsUnderWay c m → Keeps id m log l room states.Ready kept offered
keeps_running id log l c m kept offered room t p u =
    record {
      shows = shows_there id log l c m Ready t p (ap meaning.stand_at (stands_ready c m u));
      goes = moved id log l c m states.Ready kept offered room t (record { track = t; prints = p; under = u });
    }

keeps_gone :
    (id : ℕ) (log : List Logged) (l : ℕ) (c : Course) (m : Machine) (kept offered : Option Action) (room : ℕ)
    → Track id log l c → Prints c m → c.place ≡ Closed → Keeps id m log l room states.Gone kept offered
keeps_gone id log l c m kept offered room t p e = record { shows = shows_there id log l c m Gone t p (ap stand_of e); goes = tt }

pub keeps_arrived :
    (id : ℕ) (log : List Logged) (l : ℕ) (c : Course) (m : Machine) (n : Next) (s : State) (kept offered : Option Action) (room : ℕ)
    → Track id log l c → Prints c m → Leads c m n → Arrived n s kept offered room → Keeps id m log l room s kept offered
keeps_arrived id log l c m next.Runs s kept offered room t p g e =
    subst (λ (x : State). Keeps id m log l room x kept offered) (sym e) (keeps_running id log l c m kept offered room t p g)
keeps_arrived id log l c m next.Takes s kept offered room t p g k = keeps_action id log l c m action.Take s kept offered room t p g k
keeps_arrived id log l c m (next.Asks a) s kept offered room t p g k = keeps_action id log l c m a s kept offered room t p g k
keeps_arrived id log l c m (next.Ends o) s kept offered room t p g k = keeps_action id log l c m (action.End o) s kept offered room t p g k
keeps_arrived id log l c m next.Gone s kept offered room t p g e =
    subst (λ (x : State). Keeps id m log l room x kept offered) (sym e) (keeps_gone id log l c m kept offered room t p g)

-- ---- new

first_prints : (id : ℕ) (m : Machine) → printed_of m ≡ [] → Prints (start id []) m
first_prints id m e = e

pub keeps_new :
    (id : ℕ) (m : Machine) (log : List Logged) (room : ℕ) → log ≡ [] → Waits (first_world id) m → m.table ≡ no_code → printed_of m ≡ [] → 0 < room
    → Keeps id m log 0 room states.AtAction (Some action.Take) (Some action.Take)
keeps_new id m log room none waits table printed r =
    let w : IsWaiting (start id []) shared.Take m = record { at = refl; answers = refl; waits = waits; table = ap table_of table } in
    subst (λ (x : List Logged). Keeps id m x 0 room states.AtAction (Some action.Take) (Some action.Take)) (sym none)
    (keeps_action id [] 0 (start id []) m action.Take states.AtAction (Some action.Take) (Some action.Take) room (track_first id) (first_prints id m printed) w
    (record { state = refl; kept_is = refl; offered_is = refl; has_room = r }))

-- ---- standing still for good

-- what has printed no more, and stands still for good
pub keeps_starved :
    (id : ℕ) (m n : Machine) (log log' : List Logged) (l room : ℕ) (s : Stand) (kept offered : Option Action)
    → ShowsMeaning id log (characters_of (printed_of m)) l s → printed_of n ≡ printed_of m → log' ≡ log → Keeps id n log' l room states.Starved kept offered
keeps_starved id m n log log' l room s kept offered h p e =
    let here : ShowsMeaning id log (characters_of (printed_of n)) l Starved =
    subst (λ (x : List ℕ). ShowsMeaning id log (characters_of x) l Starved) (sym p) (starves id log _ l s h) in
    record { shows = subst (λ (x : List Logged). ShowsMeaning id x (characters_of (printed_of n)) l Starved) (sym e) here; goes = tt }

-- ---- a line

-- what is ready has a line to run
pub going : (id : ℕ) (m : Machine) (log : List Logged) (l room : ℕ) (s : State) (kept offered : Option Action) → Keeps id m log l room s kept offered → s ≡ states.Ready → IsGoing id log l (moment_of id log l) m
going id m log l room s kept offered k e = subst (λ (x : State). Goes id log l (moment_of id log l) m x kept offered room) e k.goes

-- what has a line to run keeps that true
pub keeps_going : (id : ℕ) (log : List Logged) (l room : ℕ) (m : Machine) (kept offered : Option Action) → IsGoing id log l (moment_of id log l) m → Keeps id m log l room states.Ready kept offered
keeps_going id log l room m kept offered g = keeps_running id log l (moment_of id log l) m kept offered room g.track g.prints g.under

-- one line more, and the run goes on
pub keeps_line :
    (id : ℕ) (log : List Logged) (l room : ℕ) (m n : Machine) (kept offered : Option Action)
    → IsGoing id log l (moment_of id log l) m → WentOn (moment_of id log l) m n → Keeps id n log (l + 1) room states.Ready kept offered
keeps_line id log l room m n kept offered g did =
    let c = moment_of id log l in
    keeps_running id log (l + 1) (next compiled c) n kept offered room (track_line id log l c (stands_ready c m g.under) g.track)
    (prints_more c (next compiled c) m n g.prints did.printed) (record { stands = did.stands; running = did.running })

-- a line that goes nowhere else
pub comes : (c : Course) (m n : Machine) (r : Line) → (r ≡ line.Local → ⊥) → (r ≡ line.Starved → ⊥) → Steps c m n r → Comes (next compiled c) n r
comes c m n line.Local a b did = absurd (a refl)
comes c m n line.Ended a b did = did.ended
comes c m n line.Wants a b did = did.action
comes c m n line.Starved a b did = absurd (b refl)

-- where a run has ended, that is kept
pub ends_so :
    (c : Course) (o : Outcome) (s : State) (kept offered : Option Action) (room : ℕ) → c.place ≡ Ending (outcome_of o) → IsKept (action.End o) s kept offered room → ComesSo c s kept offered room
ends_so c o s kept offered room e k = record { action = action.End o; at = ap stand_of e; arrived = k }

-- where a request is asked, its action is kept
pub asks_so : (c : Course) (a : Action) (s : State) (kept offered : Option Action) (room : ℕ) → IsActionAt c.place (action_of a) → IsKept a s kept offered room → ComesSo c s kept offered room
asks_so c a s kept offered room h k = record { action = a; at = asked_at c.place (action_of a) h; arrived = k }

-- such a line prints nothing
pub came_silent : (c : Course) (m n k : Machine) (r : Line) → standing_of c.place ≡ None → (r ≡ line.Local → ⊥) → Steps c m n r → Leaves r n k → printed_of k ≡ printed_of m
came_silent c m n k line.Local e a did left = absurd (a refl)
came_silent c m n k line.Ended e a did left = ap printed_of left ∙ did.printed
came_silent c m n k line.Wants e a did left =
    let quiet = silent_next c e (action_no_line (next compiled c).place n.action did.action) in
    ap printed_of left ∙ nothing_more c (next compiled c) m n did.printed quiet
came_silent c m n k line.Starved e a did left = ap printed_of left ∙ did.printed

-- one line more, with which the run has ended
keeps_end :
    (id : ℕ) (log : List Logged) (l room : ℕ) (m n : Machine) (s : State) (kept offered : Option Action)
    → IsGoing id log l (moment_of id log l) m → CameToEnd (moment_of id log l) m n → ComesSo (next compiled (moment_of id log l)) s kept offered room → Keeps id n log (l + 1) room s kept offered
keeps_end id log l room m n s kept offered g did came =
    let c = moment_of id log l in
    let d = next compiled c in
    let ready = stands_ready c m g.under in
    let ends = moments.outcome_of n.outcome d.world in
    let w : IsWaiting d (shared.End ends) n =
    record {
      at = ap stand_of did.ended.place;
      answers = did.ended.answers;
      waits = record { idle = did.idle; world = did.ended.world };
      table = ap table_of did.table ∙ g.under.stands.table ∙ sym (line_table c ready);
    } in
    let same : shared.End ends ≡ action_of came.action = same_action (shared.End ends) (action_of came.action) (sym (ap stand_of did.ended.place) ∙ came.at) in
    keeps_action id log (l + 1) d n came.action s kept offered room (track_line id log l c ready g.track)
    (prints_same c d m n g.prints did.printed did.silent) (subst (λ (a : shared.Action). StandsBy d a n) same w) came.arrived

-- one line more, with which a request is asked
keeps_request :
    (id : ℕ) (log : List Logged) (l room : ℕ) (m n k : Machine) (s : State) (kept offered : Option Action)
    → IsGoing id log l (moment_of id log l) m → CameToRequest (moment_of id log l) m n → k ≡ record n { action = None } → ComesSo (next compiled (moment_of id log l)) s kept offered room
    → Keeps id k log (l + 1) room s kept offered
keeps_request id log l room m n k s kept offered g did left came =
    let c = moment_of id log l in
    let d = next compiled c in
    let prints : Prints d k = ap printed_of left ∙ prints_more c d m n g.prints did.printed in
    keeps_action id log (l + 1) d k came.action s kept offered room (track_line id log l c (stands_ready c m g.under) g.track) prints
    (handed_by d (action_of came.action) n k did.stands did.waiting left came.at) came.arrived

-- one line more, with which it has come to stand at an action
pub keeps_came :
    (id : ℕ) (log log' : List Logged) (l room : ℕ) (m n k : Machine) (r : Line) (s : State) (kept offered : Option Action)
    → IsGoing id log l (moment_of id log l) m → (r ≡ line.Local → ⊥) → (r ≡ line.Starved → ⊥) → Steps (moment_of id log l) m n r → Leaves r n k → log' ≡ log
    → ComesSo (next compiled (moment_of id log l)) s kept offered room → Keeps id k log' (l + 1) room s kept offered
keeps_came id log log' l room m n k r s kept offered g a b did left e came =
    subst (λ (x : List Logged). Keeps id k x (l + 1) room s kept offered) (sym e) (came_at r a b did left)
  where
    came_at : (q : Line) → (q ≡ line.Local → ⊥) → (q ≡ line.Starved → ⊥) → Steps (moment_of id log l) m n q → Leaves q n k → Keeps id k log (l + 1) room s kept offered
    came_at line.Local f h d t = absurd (f refl)
    came_at line.Ended f h d t = subst (λ (x : Machine). Keeps id x log (l + 1) room s kept offered) (sym t) (keeps_end id log l room m n s kept offered g d came)
    came_at line.Wants f h d t = keeps_request id log l room m n k s kept offered g d t came
    came_at line.Starved f h d t = absurd (h refl)

-- where memory was refused to stand there, it stands still for good where it was
pub keeps_refused :
    (id : ℕ) (log log' : List Logged) (l room : ℕ) (m n k : Machine) (r : Line) (kept offered : Option Action)
    → IsGoing id log l (moment_of id log l) m → (r ≡ line.Local → ⊥) → Steps (moment_of id log l) m n r → Leaves r n k → log' ≡ log → Keeps id k log' l room states.Starved kept offered
keeps_refused id log log' l room m n k r kept offered g a did left e =
    let c = moment_of id log l in
    let ready = stands_ready c m g.under in
    keeps_starved id m k log log' l room Ready kept offered (shows_there id log l c m Ready g.track g.prints (ap meaning.stand_at ready)) (came_silent c m n k r ready a did left) e

-- ---- an answer

-- an interpreter whose action was handed out stands at one
pub record IsHanded (id : ℕ) (m : Machine) (log : List Logged) (l room : ℕ) (s : State) (kept offered : Option Action) : Type 0 where
  pub action : Action
  pub state : s ≡ states.AtAction
  pub kept_is : kept ≡ Some action
  pub asking : IsAsking id log l (moment_of id log l) m action offered room

handed_at : (id : ℕ) (m : Machine) (log : List Logged) (l room : ℕ) (s : State) (kept offered : Option Action) → Goes id log l (moment_of id log l) m s kept offered room → taken_in s offered ≡ true
    → IsHanded id m log l room s kept offered
handed_at id m log l room states.Ready kept offered g e = cc
handed_at id m log l room states.AtAction (Some a) offered g e = record { action = a; state = refl; kept_is = refl; asking = g }
handed_at id m log l room states.AtAction None offered g e = absurd g
handed_at id m log l room states.Gone kept offered g e = cc
handed_at id m log l room states.Starved kept offered g e = cc

pub handed : (id : ℕ) (m : Machine) (log : List Logged) (l room : ℕ) (s : State) (kept offered : Option Action) → Keeps id m log l room s kept offered → taken_in s offered ≡ true
    → IsHanded id m log l room s kept offered
handed id m log l room s kept offered k e = handed_at id m log l room s kept offered k.goes e

-- by the action that was kept
pub asking :
    (id : ℕ) (m : Machine) (log : List Logged) (l room : ℕ) (s : State) (kept offered : Option Action) (a : Action) → Keeps id m log l room s kept offered → taken_in s offered ≡ true → kept ≡ Some a
    → IsAsking id log l (moment_of id log l) m a offered room
asking id m log l room s kept offered a k e f =
    let h = handed id m log l room s kept offered k e in
    let there : Some h.action ≡ Some a = sym h.kept_is ∙ f in
    let same : h.action ≡ a = cc in
    subst (λ (b : Action). IsAsking id log l (moment_of id log l) m b offered room) same h.asking

pub knows_some : (id : ℕ) (log : List Logged) (l : ℕ) (c : Course) → Track id log l c → KnowsSome c
knows_some id log l c t = (t.functions, t.knows)

-- the track after an answer
answered_track : (id : ℕ) (log log' : List Logged) (l : ℕ) (c : Course) (a : shared.Action) (r : shared.Answer) → Track id log l c → stand_of c.place ≡ meaning.At a → log' ≡ log ++ logged a r l ∷ []
    → Track id log' l (next compiled (with_answer (answer_in r) c))
answered_track id log log' l c a r t at e =
    let x = action_there c.place a at in
    let d = next compiled (with_answer (answer_in r) c) in
    let here : Track id (log ++ logged a r l ∷ []) l d =
    subst (λ (b : shared.Action). Track id (log ++ logged b r l ∷ []) l d) x.same (track_answer id log l c x.action r x.at t) in
    subst (λ (k : List Logged). Track id k l d) (sym e) here

answered_prints : (c : Course) (a : shared.Action) (r : shared.Answer) (m n : Machine) → StandsBy c a m → Prints c m → printed_of n ≡ printed_of m → Prints (next compiled (with_answer (answer_in r) c)) n
answered_prints c a r m n w p e =
    let x = action_there c.place a (stands_at c a m w) in
    prints_same c (next compiled (with_answer (answer_in r) c)) m n p e (next_printed (answer_in r) x.action c (no_answers c a m w) x.at)

pub keeps_answer :
    (id : ℕ) (log log' : List Logged) (l room room' : ℕ) (m n : Machine) (a : Action) (offered : Option Action) (r : shared.Answer) (to : Next) (s : State) (kept' offered' : Option Action)
    → IsAsking id log l (moment_of id log l) m a offered room → log' ≡ log ++ logged (action_of a) r l ∷ [] → printed_of n ≡ printed_of m
    → Leads (next compiled (with_answer (answer_in r) (moment_of id log l))) n to → Arrived to s kept' offered' room' → Keeps id n log' l room' s kept' offered'
keeps_answer id log log' l room room' m n a offered r to s kept' offered' g e p leads arrived =
    let c = moment_of id log l in
    keeps_arrived id log' l (next compiled (with_answer (answer_in r) c)) n to s kept' offered' room'
    (answered_track id log log' l c (action_of a) r g.track (stands_at c (action_of a) m g.standing) e) (answered_prints c (action_of a) r m n g.standing g.prints p) leads arrived

-- the same where memory was refused after the answer, or to come to it
pub keeps_lost :
    (id : ℕ) (log log' : List Logged) (l room room' : ℕ) (m n : Machine) (a : Action) (offered : Option Action) (r : shared.Answer) (kept' offered' : Option Action)
    → IsAsking id log l (moment_of id log l) m a offered room → log' ≡ log ++ logged (action_of a) r l ∷ [] → printed_of n ≡ printed_of m → Keeps id n log' l room' states.Starved kept' offered'
keeps_lost id log log' l room room' m n a offered r kept' offered' g e p =
    let c = moment_of id log l in
    let d = next compiled (with_answer (answer_in r) c) in
    let t = answered_track id log log' l c (action_of a) r g.track (stands_at c (action_of a) m g.standing) e in
    let q = answered_prints c (action_of a) r m n g.standing g.prints p in
    record { shows = starves id log' _ l _ (shows_there id log' l d n (stand_of d.place) t q refl); goes = tt }

kept_not_taken : (a : Action) (s : State) (kept offered : Option Action) (room : ℕ) → IsKept a s kept offered room → taken_in s offered ≡ false
kept_not_taken a s kept offered room k = ap (λ (x : State). taken_in x offered) k.state ∙ ap (taken_in states.AtAction) k.offered_is

-- nothing is handed out of an action that has just been kept
pub not_taken : (to : Next) (s : State) (kept offered : Option Action) (room : ℕ) → Arrived to s kept offered room → taken_in s offered ≡ false
not_taken next.Runs s kept offered room e = ap (λ (x : State). taken_in x offered) e
not_taken next.Takes s kept offered room k = kept_not_taken action.Take s kept offered room k
not_taken (next.Asks a) s kept offered room k = kept_not_taken a s kept offered room k
not_taken (next.Ends o) s kept offered room k = kept_not_taken (action.End o) s kept offered room k
not_taken next.Gone s kept offered room e = ap (λ (x : State). taken_in x offered) e

-- nor where a line has led to it
pub came_not_taken : (c : Course) (s : State) (kept offered : Option Action) (room : ℕ) → ComesSo c s kept offered room → taken_in s offered ≡ false
came_not_taken c s kept offered room h = kept_not_taken h.action s kept offered room h.arrived

-- and it stands at that
pub came_stands : (c : Course) (s : State) (kept offered : Option Action) (room : ℕ) → ComesSo c s kept offered room → (a : shared.Action) × (stand_in s kept ≡ meaning.At a)
came_stands c s kept offered room h = (action_of h.action, ap (λ (x : State). stand_in x kept) h.arrived.state ∙ ap (stand_in states.AtAction) h.arrived.kept_is)

-- what an answer leaves
pub answers_view :
    (id l : ℕ) (p q : Text) (log log' : List Logged) (s : State) (kept : Option Action) (taken taken' : Bool) (now : InterpView) (a : Action) (r : shared.Answer) (stand : Stand)
    → view_of id p log l (stand_in s kept) taken ≡ now → s ≡ states.AtAction → kept ≡ Some a → log' ≡ log ++ logged (action_of a) r l ∷ [] → q ≡ p → taken' ≡ false
    → Answers now r (view_of id q log' l stand taken')
answers_view id l p q log log' s kept taken taken' now a r stand e f k g t u =
    let stands : stand_in s kept ≡ meaning.At (action_of a) = ap (λ (x : State). stand_in x kept) f ∙ ap (stand_in states.AtAction) k in
    subst (λ (v : InterpView). Answers v r (view_of id q log' l stand taken')) e (record {
      log = λ b h. g ∙ ap (λ (x : shared.Action). log ++ logged x r l ∷ []) (same_action (action_of a) b (sym stands ∙ h));
      id = refl;
      printed = t;
      locals = refl;
      taken = u;
    })

-- the answer fits the action that is kept
pub fits_kept : (s : State) (kept : Option Action) (a : Action) (r : shared.Answer) (now : Stand) → stand_in s kept ≡ now → s ≡ states.AtAction → kept ≡ Some a → FitsStand r now → shared.fits r (action_of a) ≡ true
fits_kept s kept a r now e f k h =
    let stands : now ≡ meaning.At (action_of a) = sym e ∙ ap (λ (x : State). stand_in x kept) f ∙ ap (stand_in states.AtAction) k in
    subst (FitsStand r) stands h

-- what is left where memory was refused
pub refused_view :
    (id l : ℕ) (log log' : List Logged) (p q : Text) (s : Stand) (taken : Bool) (now : InterpView)
    → view_of id p log l s taken ≡ now → q ≡ p → log' ≡ log → view_of id q log' l Starved false ≡ starved_view now
refused_view id l log log' p q s taken now e f g = ap₂ (λ (x : Text) (y : List Logged). view_of id x y l Starved false) f g ∙ ap starved_view e

-- a new interpreter's view
pub new_view : (id : ℕ) (p : Text) (log : List Logged) (s : Stand) → p ≡ [] → log ≡ [] → view_of id p log 0 s false ≡ view_of id [] [] 0 s false
new_view id p log s e f = ap₂ (λ (x : Text) (y : List Logged). view_of id x y 0 s false) e f

pub no_text : (m : Machine) → printed_of m ≡ [] → characters_of (printed_of m) ≡ []
no_text m e = ap characters_of e ∙ chars-nil
