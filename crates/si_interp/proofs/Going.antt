-- How a course goes on by its lines, and under one answer more.
use Rattle.std.proofs.Common.{◌≡◌, ℕ, zero, suc, ◌<◌, List, [], ◌∷◌, ◌++◌, Option, Some, None, refl, ap, sym, ◌∙◌, arith, ⊎_elim}
use Rattle.si_semantics.specs.World.{Answer}
use Rattle.si_semantics.specs.Life as language
use Rattle.si_semantics.specs.Replies.{reply}
use Rattle.si_slots.specs.Machine.{Place, At, Calling, Taking, Ending, Closed, Course, on, next, start}
use Rattle.si_slots.specs.Code.{compiled}
use Rattle.si_slots.specs.Shows.{standing_of}
use Rattle.si_slots.specs.Laws.{with_answer}
use Rattle.si_slots.proofs.Courses.{on_with}
use Rattle.si_slots.proofs.Life.{answered_keeps, took_keeps, ended_keeps}
use Rattle.si_interp.specs.Course.{settle, settled, go}
use Rattle.si_interp.specs.Meaning.{Ready, stand_at}

-- what is ready has a line to run
pub ready_none : (s : Option (Option language.Action)) → stand_at s ≡ Ready → s ≡ None
ready_none None e = refl
ready_none (Some None) e = cc
ready_none (Some (Some a)) e = cc

-- one line more
pub go-more : (l : ℕ) (c : Course) → go (suc l) c ≡ settled (next compiled (go l c))
go-more zero c = refl
go-more (suc l) c = go-more l (next compiled (settled c))

-- where there is a line to run, no answer is taken
settle-ready : (s : Option (Option language.Action)) (answers : List Answer) (c : Course) → s ≡ None → settle s answers c ≡ c
settle-ready s [] c e = refl
settle-ready None (a ∷ more) c e = refl
settle-ready (Some x) (a ∷ more) c e = cc

pub settled-ready : (c : Course) → standing_of c.place ≡ None → settled c ≡ c
settled-ready c e = settle-ready (standing_of c.place) c.answers c e

-- nor where it is gone
settle-gone : (s : Option (Option language.Action)) (answers : List Answer) (c : Course) → s ≡ Some None → settle s answers c ≡ c
settle-gone s [] c e = refl
settle-gone None (a ∷ more) c e = refl
settle-gone (Some None) (a ∷ more) c e = refl
settle-gone (Some (Some b)) (a ∷ more) c e = cc

-- where there is none, none is taken
pub settled-none : (c : Course) → c.answers ≡ [] → settled c ≡ c
settled-none c e = ap (λ (l : List Answer). settle (standing_of c.place) l c) e

-- at an action the first answer is taken
one_taken : (p : Place) (x : language.Action) (a : Answer) (more : List Answer) (c : Course) → standing_of p ≡ Some (Some x) → (on compiled p (a ∷ more) c).answers ≡ more
one_taken (At pc ts slots bs) x a more c e = cc
one_taken (Calling r g pc ts slots bs) x a more c e = answered_keeps (reply r a c.world) g pc ts slots bs (record c { answers = more })
one_taken Taking x a more c e = took_keeps a (record c { answers = more })
one_taken (Ending o) x a more c e = ended_keeps a (record c { answers = more })
one_taken Closed x a more c e = cc

-- an answer that comes after those that are there changes nothing of what is taken before it
not_none : (b : Answer) (more l : List Answer) → l ≡ b ∷ more → l ≡ [] → ⊥
not_none b more l e f = cc

next-with : (a b : Answer) (more : List Answer) (c : Course) → c.answers ≡ b ∷ more → next compiled (with_answer a c) ≡ with_answer a (next compiled c)
next-with a b more c e = ⊎_elim (λ h. h) (λ h. absurd (not_none b more c.answers e h.1)) (on_with compiled a c.place c.answers c refl refl)

settle-append : (a : Answer) (s : Option (Option language.Action)) (answers : List Answer) (c : Course) → standing_of c.place ≡ s → c.answers ≡ answers
    → settle s (answers ++ a ∷ []) (with_answer a c) ≡ settled (with_answer a (settle s answers c))
settle-append a s [] c e f =
    ap (λ (t : Option (Option language.Action)). settle t (a ∷ []) (with_answer a c)) (sym e)
    ∙ ap (λ (l : List Answer). settle (standing_of c.place) (l ++ a ∷ []) (with_answer a c)) (sym f)
settle-append a None (b ∷ more) c e f = sym (settled-ready (with_answer a c) e)
settle-append a (Some None) (b ∷ more) c e f = sym (settle-gone (standing_of c.place) (c.answers ++ a ∷ []) (with_answer a c) e)
settle-append a (Some (Some x)) (b ∷ more) c e f =
    let d = next compiled c in
    let left : d.answers ≡ more = ap (λ (l : List Answer). (on compiled c.place l c).answers) f ∙ one_taken c.place x b more c e in
    ap (λ (g : Course). settle (standing_of g.place) (more ++ a ∷ []) g) (next-with a b more c f)
    ∙ settle-append a (standing_of d.place) more d refl left

settled-append : (a : Answer) (c : Course) → settled (with_answer a c) ≡ settled (with_answer a (settled c))
settled-append a c = settle-append a (standing_of c.place) c.answers c refl refl

-- a line takes no answer
line-with : (a : Answer) (p : Place) (l k : List Answer) (c : Course) → standing_of p ≡ None → on compiled p l (with_answer a c) ≡ with_answer a (on compiled p k c)
line-with a (At pc ts slots bs) l k c e = refl
line-with a (Calling r g pc ts slots bs) l k c e = cc
line-with a Taking l k c e = cc
line-with a (Ending o) l k c e = cc
line-with a Closed l k c e = cc

-- an answer that comes later changes nothing before the action that it answers
pub go-append : (l : ℕ) (c : Course) (a : Answer) → ((k : ℕ) → k < l → standing_of (go k c).place ≡ None) → go l (with_answer a c) ≡ settled (with_answer a (go l c))
go-append zero c a h = settled-append a c
go-append (suc l) c a h =
    let d = settled c in
    let ready : standing_of d.place ≡ None = h 0 (omega arith) in
    let e : settled (with_answer a c) ≡ with_answer a d = settled-append a c ∙ settled-ready (with_answer a d) ready in
    let n : next compiled (settled (with_answer a c)) ≡ with_answer a (next compiled d) =
    ap (next compiled) e ∙ line-with a d.place (d.answers ++ a ∷ []) d.answers d ready in
    ap (go l) n ∙ go-append l (next compiled d) a (λ k lt. h (suc k) (omega arith))

-- where it is ready at fewer lines, and at an action after them with no answer left, one answer more leads on from there
pub go-answer : (own l : ℕ) (answers : List Answer) (a : Answer) (b : language.Action) (c : Course) → ((k : ℕ) → k < l → standing_of (go k (start own answers)).place ≡ None)
    → go l (start own answers) ≡ c → c.answers ≡ [] → standing_of c.place ≡ Some (Some b) → go l (start own (answers ++ a ∷ [])) ≡ next compiled (with_answer a c)
go-answer own l answers a b c h e used at =
    go-append l (start own answers) a h
    ∙ ap (λ (d : Course). settled (with_answer a d)) e
    ∙ ap (λ (s : Option (Option language.Action)). settle s (c.answers ++ a ∷ []) (with_answer a c)) at
    ∙ ap (λ (k : List Answer). settle (Some (Some b)) (k ++ a ∷ []) (with_answer a c)) used

-- and at fewer lines it is ready still
pub ready-answer : (own l : ℕ) (answers : List Answer) (a : Answer) → ((k : ℕ) → k < l → standing_of (go k (start own answers)).place ≡ None)
    → (k : ℕ) → k < l → standing_of (go k (start own (answers ++ a ∷ []))).place ≡ None
ready-answer own l answers a h k lt =
    let d = go k (start own answers) in
    let e : go k (start own (answers ++ a ∷ [])) ≡ with_answer a d =
    go-append k (start own answers) a (λ j below. h j (omega arith)) ∙ settled-ready (with_answer a d) (h k lt) in
    ap (λ (g : Course). standing_of g.place) e ∙ h k lt
