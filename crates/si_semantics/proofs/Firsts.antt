-- A list with a first item.
use Rattle.std.proofs.Common.{◌≡◌, ◌<◌, List, [], ◌∷◌, length, arith, ap, sym, slice_index_or}

pub opened : {A : Type 0} (xs : List A) (x : A) → 0 < length xs → x ≡ slice_index_or xs 0 x → (rest : List A) × (xs ≡ x ∷ rest)
opened [] x l e = absurd (omega arith)
opened (y ∷ ys) x l e = (ys, ap (λ v. v ∷ ys) (sym e))
