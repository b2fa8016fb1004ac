-- How rows grow, and what stands in them.
use Rattle.std.proofs.Common.{◌≡◌, ℕ, ◌+◌, ◌≤◌, List, [], ◌++◌, take, drop, length, ap, refl, sym, ◌∙◌, arith, append_assoc, append-nil, length-append, length-drop}
use Rattle.std.proofs.lemmas.List.{take_all, take_at, drop_at, take-append-le, drop-append-le}
use Rattle.si_arena.specs.declared.value.Ref.{Ref}
use Rattle.si_arena.specs.declared.value.Ref.TheVariants as value
use Rattle.si_arena.specs.declared.value.Width.{Width}
use Rattle.si_arena.specs.declared.value.Width.TheVariants as width
use Rattle.si_arena.specs.Texts.{Rows, text_of, TextLies, Grows, IsAdded, StandsLast, row_of, with_row, slice_in}

-- ---- what lies, goes on lying and is the same

slice-grows : (xs more : List ℕ) (n i : ℕ) → i + n ≤ length xs → take n (drop i (xs ++ more)) ≡ take n (drop i xs)
slice-grows xs more n i h =
    ap (take n) (drop-append-le i xs more (omega arith)) ∙ take-append-le n (drop i xs) more (omega (arith, length-drop i xs))

pub text-grows : (old new : Rows) (r : Ref) → Grows old new → TextLies old r → text_of new r ≡ text_of old r
text-grows old new value.Unbound g h = refl
text-grows old new value.None g h = refl
text-grows old new (value.Truth at b) g h = refl
text-grows old new (value.Int i) g h = refl
text-grows old new (value.Short s) g h = refl
text-grows old new (value.Narrow n i) g h = ap (λ xs. take n (drop i xs)) g.narrow.1 ∙ slice-grows old.narrow g.narrow.0 n i h
text-grows old new (value.Wide n i) g h = ap (λ xs. take n (drop i xs)) g.wide.1 ∙ slice-grows old.wide g.wide.0 n i h
text-grows old new (value.ShortBytes s) g h = refl
text-grows old new (value.Bytes n i) g h = refl
text-grows old new (value.BuiltIn at b) g h = refl
text-grows old new (value.Function n m) g h = refl
text-grows old new (value.Range p) g h = refl
text-grows old new (value.Tuple p) g h = refl
text-grows old new (value.Kind at k) g h = refl
text-grows old new (value.Module at mo) g h = refl
text-grows old new (value.Queue qu qm) g h = refl
text-grows old new (value.Interpreter it) g h = refl
text-grows old new (value.Exec it) g h = refl
text-grows old new (value.Object x) g h = refl

pub text_lies-grows : (old new : Rows) (r : Ref) → Grows old new → TextLies old r → TextLies new r
text_lies-grows old new value.Unbound g h = h
text_lies-grows old new value.None g h = h
text_lies-grows old new (value.Truth at b) g h = h
text_lies-grows old new (value.Int i) g h = h
text_lies-grows old new (value.Short s) g h = h
text_lies-grows old new (value.Narrow n i) g h = omega (arith, h, ap length g.narrow.1, length-append old.narrow g.narrow.0)
text_lies-grows old new (value.Wide n i) g h = omega (arith, h, ap length g.wide.1, length-append old.wide g.wide.0)
text_lies-grows old new (value.ShortBytes s) g h = h
text_lies-grows old new (value.Bytes n i) g h = h
text_lies-grows old new (value.BuiltIn at b) g h = h
text_lies-grows old new (value.Function n m) g h = h
text_lies-grows old new (value.Range p) g h = h
text_lies-grows old new (value.Tuple p) g h = h
text_lies-grows old new (value.Kind at k) g h = h
text_lies-grows old new (value.Module at mo) g h = h
text_lies-grows old new (value.Queue qu qm) g h = h
text_lies-grows old new (value.Interpreter it) g h = h
text_lies-grows old new (value.Exec it) g h = h
text_lies-grows old new (value.Object x) g h = h

pub grows_none : (rows : Rows) → Grows rows rows
grows_none rows = record { narrow = ([], sym (append-nil rows.narrow)); wide = ([], sym (append-nil rows.wide)) }

-- ---- one row goes on

pub grows_row : (w : Width) (old new : Rows) (more : List ℕ) → new ≡ with_row w (row_of w old ++ more) old → Grows old new
grows_row width.Narrow old new more e = record { narrow = (more, ap (λ (r : Rows). r.narrow) e); wide = ([], ap (λ (r : Rows). r.wide) e ∙ sym (append-nil old.wide)) }
grows_row width.Wide old new more e = record { narrow = ([], ap (λ (r : Rows). r.narrow) e ∙ sym (append-nil old.narrow)); wide = (more, ap (λ (r : Rows). r.wide) e) }

-- what was added is taken back
pub cut_back : (w : Width) (old new : Rows) (more : List ℕ) (end : ℕ) → new ≡ with_row w (row_of w old ++ more) old → end ≡ length (row_of w old) → with_row w (take end (row_of w new)) new ≡ old
cut_back width.Narrow old new more end e h = ap (λ (r : Rows). record r { narrow = take end r.narrow }) e ∙ ap (λ xs. record old { narrow = xs }) (take_at old.narrow more end (sym h))
cut_back width.Wide old new more end e h = ap (λ (r : Rows). record r { wide = take end r.wide }) e ∙ ap (λ xs. record old { wide = xs }) (take_at old.wide more end (sym h))

row_is : (w : Width) (row : List ℕ) (rows : Rows) → row_of w (with_row w row rows) ≡ row
row_is width.Narrow row rows = refl
row_is width.Wide row rows = refl

with_row-twice : (w : Width) (a b : List ℕ) (rows : Rows) → with_row w b (with_row w a rows) ≡ with_row w b rows
with_row-twice width.Narrow a b rows = refl
with_row-twice width.Wide a b rows = refl

with_row-same : (w : Width) (rows : Rows) → with_row w (row_of w rows) rows ≡ rows
with_row-same width.Narrow rows = refl
with_row-same width.Wide rows = refl

-- one piece and then another
pub row_more : (w : Width) (old mid new : Rows) (a b : List ℕ) → mid ≡ with_row w (row_of w old ++ a) old → new ≡ with_row w (row_of w mid ++ b) mid → new ≡ with_row w (row_of w old ++ (a ++ b)) old
row_more w old mid new a b e f =
    f ∙ ap (λ (r : Rows). with_row w (row_of w r ++ b) r) e
    ∙ with_row-twice w (row_of w old ++ a) (row_of w (with_row w (row_of w old ++ a) old) ++ b) old
    ∙ ap (λ xs. with_row w (xs ++ b) old) (row_is w (row_of w old ++ a) old)
    ∙ ap (λ xs. with_row w xs old) (append_assoc (row_of w old) a b)

row_now : (w : Width) (old new : Rows) (row : List ℕ) → new ≡ with_row w row old → row_of w new ≡ row
row_now w old new row e = ap (row_of w) e ∙ row_is w row old

-- ---- a text at the end of a row

pub pushed_stands : (w : Width) (t : List ℕ) (old new : Rows) (start : ℕ) → new ≡ with_row w (row_of w old ++ t) old → start ≡ length (row_of w old) → StandsLast w t old new start
pushed_stands w t old new start e h =
    let r : row_of w new ≡ row_of w old ++ t = row_now w old new (row_of w old ++ t) e in record {
      row = (t, e);
      within = omega (arith, h, ap length r, length-append (row_of w old) t);
      is = ap (drop start) r ∙ drop_at (row_of w old) t start (sym h);
    }

pub there_stands : (w : Width) (t : List ℕ) (rows : Rows) (start : ℕ) → start ≤ length (row_of w rows) → drop start (row_of w rows) ≡ t → StandsLast w t rows rows start
there_stands w t rows start h e = record {
  row = ([], sym (ap (λ xs. with_row w xs rows) (append-nil (row_of w rows)) ∙ with_row-same w rows));
  within = h;
  is = e;
}

pub stands_more : (w : Width) (t u : List ℕ) (old mid new : Rows) (start : ℕ) → StandsLast w t old mid start → new ≡ with_row w (row_of w mid ++ u) mid → StandsLast w (t ++ u) old new start
stands_more w t u old mid new start s e =
    let r : row_of w new ≡ row_of w mid ++ u = row_now w mid new (row_of w mid ++ u) e in record {
      row = (s.row.0 ++ u, row_more w old mid new s.row.0 u s.row.1 e);
      within = omega (arith, s.within, ap length r, length-append (row_of w mid) u);
      is = ap (drop start) r ∙ drop-append-le start (row_of w mid) u s.within ∙ ap (λ xs. xs ++ u) s.is;
    }

pub stands_added : (w : Width) (t : List ℕ) (old new : Rows) (start count : ℕ) → StandsLast w t old new start → count ≡ length t → IsAdded t old new (slice_in w count start)
stands_added width.Narrow t old new start count s h = record {
  is = ap (take count) s.is ∙ take_all count t (omega (arith, h));
  text = tt;
  lies = omega (arith, h, s.within, ap length s.is, length-drop start new.narrow);
  grown = grows_row width.Narrow old new s.row.0 s.row.1;
}
stands_added width.Wide t old new start count s h = record {
  is = ap (take count) s.is ∙ take_all count t (omega (arith, h));
  text = tt;
  lies = omega (arith, h, s.within, ap length s.is, length-drop start new.wide);
  grown = grows_row width.Wide old new s.row.0 s.row.1;
}

-- the end of a row, from where a text starts that ends there
pub last_slice : (row : List ℕ) (count start : ℕ) → start + count ≡ length row → (start ≤ length row) × (drop start row ≡ take count (drop start row))
last_slice row count start h = (omega arith, sym (take_all count (drop start row) (omega (arith, length-drop start row))))

-- a text that is another's equal
pub same_added : {old new : Rows} {r : Ref} (t u : List ℕ) → t ≡ u → IsAdded t old new r → IsAdded u old new r
same_added t u e a = record { is = a.is ∙ e; text = a.text; lies = a.lies; grown = a.grown }
