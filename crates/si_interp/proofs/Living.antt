-- What a course that shows its meaning shows of a life.
use Rattle.std.proofs.Common.{◌≡◌, ◌≢◌, ℕ, ◌+◌, ◌*◌, ◌<◌, ◌≤◌, List, [], ◌∷◌, ◌++◌, length, take, drop, Option, Some, None, refl, ap, sym, ◌∙◌, arith, append_assoc, append-nil, length-append}
use Rattle.std.specs.Prelude.{map, slice_get}
use Rattle.std.proofs.lemmas.List.{map-append, take-map, take-append-drop, length-take, length-map}
use Rattle.std.proofs.lemmas.Option.{slice_get_within}
use Rattle.si_semantics.specs.Value.{Text}
use Rattle.si_semantics.specs.World as world
use Rattle.si_semantics.specs.Meaning.{Piece}
use Rattle.si_semantics.specs.Life as language
use Rattle.si_semantics.specs.Life.{Told, Stops, IsGone, IsCut, life_of, pieces_of, texts_of, end_of}
use Rattle.si_semantics.specs.Laws.{state_of}
use Rattle.si_semantics.specs.Actions.{Answer}
use Rattle.si_semantics.proofs.Further.{lives_grow}
use Rattle.si_slots.specs.Machine.{Course}
use Rattle.si_slots.specs.Shows as slots
use Rattle.si_slots.specs.Shows.{standing_of, texts}
use Rattle.si_interp.specs.Life.{Asks, Cut, life, life_told, answer_in, asked}
use Rattle.si_interp.specs.Meaning.{stand_at, stand_of, joined, BeginsWith, StandsAs, IsBeginning, IsOnTime, IsWhole, AsksAt}

-- ---- lists

joined-append : (xs ys : List Text) → language.joined (xs ++ ys) ≡ language.joined xs ++ language.joined ys
joined-append [] ys = refl
joined-append (x ∷ xs) ys = ap (λ (t : Text). x ++ t) (joined-append xs ys) ∙ sym (append_assoc x (language.joined xs) (language.joined ys))

slice_get-seam : {A : Type 0} → (xs : List A) (y : A) (ys : List A) → slice_get (xs ++ y ∷ ys) (length xs) ≡ Some y
slice_get-seam [] y ys = refl
slice_get-seam (x ∷ xs) y ys = slice_get-seam xs y ys

-- of two beginnings of one list the shorter is one of the longer
both_begin : {A : Type 0} → (xs ys a b : List A) → xs ++ a ≡ ys ++ b → length ys ≤ length xs → (r : List A) × (ys ++ r ≡ xs)
both_begin xs [] a b e l = (xs, refl)
both_begin [] (y ∷ ys) a b e l = absurd (omega arith)
both_begin (x ∷ xs) (y ∷ ys) a b e l =
    let heads : y ≡ x = cc in
    let tails : xs ++ a ≡ ys ++ b = cc in
    let r = both_begin xs ys a b tails (omega arith) in
    (r.0, ap (λ (t : List _). y ∷ t) r.1 ∙ ap (λ (z : _). z ∷ xs) heads)

-- ---- lives

abbrev told : (id n : ℕ) → List Answer → Told
told id n answers = life_of id n (map answer_in answers)

told_pieces : (t : Told) → (life_told t).pieces ≡ pieces_of t
told_pieces (Stops a s) = refl
told_pieces (IsGone s) = refl
told_pieces (IsCut s) = refl

told_state : (t : Told) → (state_of t).pieces ≡ (life_told t).pieces
told_state (Stops a s) = refl
told_state (IsGone s) = refl
told_state (IsCut s) = refl

told_texts : (t : Told) → texts_of t ≡ map (λ (p : Piece). p.text) (life_told t).pieces
told_texts t = ap (map (λ (p : Piece). p.text)) (sym (told_pieces t))

-- more turns only add to what a life prints
more_turns : (id n m : ℕ) (answers : List Answer) → n ≤ m → (more : List Piece) × ((life_told (told id n answers)).pieces ++ more ≡ (life_told (told id m answers)).pieces)
more_turns id n m answers le =
    let g = (lives_grow id n m (map answer_in answers) [] le).pieces in
    let there : (state_of (life_of id m (map answer_in answers ++ []))).pieces ≡ (life_told (told id m answers)).pieces =
    ap (λ (l : List world.Answer). (state_of (life_of id m l)).pieces) (append-nil (map answer_in answers)) ∙ told_state (told id m answers) in
    (g.0, ap (λ (ps : List Piece). ps ++ g.0) (sym (told_state (told id n answers))) ∙ sym g.1 ∙ there)

-- where a life ends, and a standing at that end
same_pair : (x y : Option language.Action × ℕ) → Some x ≡ Some y → x ≡ y
same_pair x y e = cc

same_end : (x y : Option language.Action × ℕ) → Some x ≡ Some y → x.0 ≡ y.0
same_end x y e = ap (λ (q : Option language.Action × ℕ). q.0) (same_pair x y e)

stands_as : (t : Told) (a : Option language.Action) (v : ℕ) → end_of t ≡ Some (a, v) → StandsAs (life_told t).fate (stand_at (Some a))
stands_as (Stops b s) a v e = let same : a ≡ Some b = sym (same_end (Some b, s.visits) (a, v) e) in ap (λ (x : Option language.Action). stand_at (Some x)) same
stands_as (IsGone s) a v e = let same : a ≡ None = sym (same_end (None, s.visits) (a, v) e) in ap (λ (x : Option language.Action). stand_at (Some x)) same
stands_as (IsCut s) a v e = cc

asks_as : (t : Told) (b : language.Action) (v : ℕ) → end_of t ≡ Some (Some b, v) → (life_told t).fate ≡ Asks (asked b)
asks_as (Stops a s) b v e = let ends : Some a ≡ Some b = same_end (Some a, s.visits) (Some b, v) e in let same : a ≡ b = cc in ap (λ (x : language.Action). Asks (asked x)) same
asks_as (IsGone s) b v e = let f : Some b ≡ None = sym (same_end (None, s.visits) (Some b, v) e) in cc
asks_as (IsCut s) b v e = cc

-- ---- what is shown

module _ (id : ℕ) (answers : List Answer) (c : Course) (h : slots.Shows (λ n. told id n answers) c) where
  abbrev text : Text
  text = language.joined (texts c.printed)

  -- what is printed is a beginning of the texts of a life
  front : (n m : ℕ) → texts c.printed ≡ take m (texts_of (told id n answers)) → (rest : List Text) × (texts c.printed ++ rest ≡ map (λ (p : Piece). p.text) (life_told (told id n answers)).pieces)
  front n m e =
      let all = texts_of (told id n answers) in
      (drop m all, ap (λ (l : List Text). l ++ drop m all) e ∙ take-append-drop m all ∙ told_texts (told id n answers))

  pub shows_beginning : IsBeginning id answers text c.lines
  unfolding life
  shows_beginning =
      let n = h.begins.0 in
      let m = h.begins.1 in
      let ps = (life_told (told id n answers)).pieces in
      record {
        turns = n;
        pieces = take m ps;
        rest = drop m ps;
        whole = take-append-drop m ps;
        text = ap language.joined (h.begins.3 ∙ ap (take m) (told_texts (told id n answers)) ∙ take-map (λ (p : Piece). p.text) m ps);
        few = omega (arith, length-take m ps, h.begins.2);
      }

  due : (n : ℕ) (before : List Piece) (q : Piece) (after : List Piece) → (life_told (told id n answers)).pieces ≡ before ++ q ∷ after → q.number * 16 ≤ c.lines
      → BeginsWith text (joined (before ++ q ∷ []))
  due n before q after e l =
      let k = h.begins.0 in
      let there : slice_get (pieces_of (told id n answers)) (length before) ≡ Some q =
      ap (λ (ps : List Piece). slice_get ps (length before)) (sym (told_pieces (told id n answers)) ∙ e) ∙ slice_get-seam before q after in
      let is : slice_get (texts c.printed) (length before) ≡ Some q.text = h.due n (length before) q there (omega arith) in
      let within : length before < length (texts c.printed) = slice_get_within (texts c.printed) (length before) q.text is in
      let mine = front k h.begins.1 h.begins.3 in
      let up = more_turns id k (n + k) answers (omega arith) in
      let down = more_turns id n (n + k) answers (omega arith) in
      let t : List Piece → List Text = λ ps. map (λ (p : Piece). p.text) ps in
      let early : (before ++ q ∷ []) ++ (after ++ down.0) ≡ (life_told (told id n answers)).pieces ++ down.0 =
      sym (append_assoc (before ++ q ∷ []) after down.0) ∙ ap (λ (ps : List Piece). ps ++ down.0) (append_assoc before (q ∷ []) after ∙ sym e) in
      let left : texts c.printed ++ (mine.0 ++ t up.0) ≡ t (before ++ q ∷ []) ++ t (after ++ down.0) =
      sym (append_assoc (texts c.printed) mine.0 (t up.0))
      ∙ ap (λ (l : List Text). l ++ t up.0) mine.1
      ∙ sym (map-append (λ (p : Piece). p.text) (life_told (told id k answers)).pieces up.0)
      ∙ ap t (up.1 ∙ sym down.1 ∙ sym early)
      ∙ map-append (λ (p : Piece). p.text) (before ++ q ∷ []) (after ++ down.0) in
      let few : length (t (before ++ q ∷ [])) ≤ length (texts c.printed) =
      omega (arith, length-map (before ++ q ∷ []) (λ (p : Piece). p.text), length-append before (q ∷ []), within) in
      let r = both_begin (texts c.printed) (t (before ++ q ∷ [])) (mine.0 ++ t up.0) (t (after ++ down.0)) left few in
      (language.joined r.0, sym (joined-append (t (before ++ q ∷ [])) r.0) ∙ ap language.joined r.1)

  pub shows_on_time : IsOnTime id answers text c.lines (stand_of c.place)
  unfolding life
  shows_on_time = record { due = due; over = λ n. over_told (told id n answers) (h.done n) }
    where
      over_told : (t : Told) → ((a : Option language.Action) (v : ℕ) → end_of t ≡ Some (a, v) → 16 * v ≤ c.lines → (standing_of c.place ≡ Some a) × (texts c.printed ≡ texts_of t))
          → (life_told t).fate ≢ Cut → (life_told t).visits * 16 ≤ c.lines → (text ≡ joined (life_told t).pieces) × StandsAs (life_told t).fate (stand_of c.place)
      over_told (Stops a s) f ne l = let g = f (Some a) s.visits refl (omega arith) in (ap language.joined g.1, ap stand_at g.0)
      over_told (IsGone s) f ne l = let g = f None s.visits refl (omega arith) in (ap language.joined g.1, ap stand_at g.0)
      over_told (IsCut s) f ne l = absurd (ne refl)

  whole_text : (t : Told) → texts c.printed ≡ texts_of t → text ≡ joined (life_told t).pieces
  whole_text t e = ap language.joined (e ∙ told_texts t)

  pub shows_whole : IsWhole id answers text (stand_of c.place)
  unfolding life
  shows_whole = whole_at (standing_of c.place) refl
    where
      whole_at : (s : Option (Option language.Action)) → standing_of c.place ≡ s → IsWhole id answers text (stand_at s)
      whole_at None e = tt
      whole_at (Some None) e = let g = h.stands None e in (g.0, stands_as (told id g.0 answers) None g.1 g.2, whole_text (told id g.0 answers) g.3)
      whole_at (Some (Some b)) e = let g = h.stands (Some b) e in (g.0, stands_as (told id g.0 answers) (Some b) g.1 g.2, whole_text (told id g.0 answers) g.3)

  pub shows_asks : (b : language.Action) → standing_of c.place ≡ Some (Some b) → AsksAt id answers (asked b) text
  unfolding life
  shows_asks b e =
      let g = h.stands (Some b) e in
      record {
        turns = g.0;
        asks = asks_as (told id g.0 answers) b g.1 g.2;
        begins = ([], append-nil _ ∙ sym (whole_text (told id g.0 answers) g.3));
      }
