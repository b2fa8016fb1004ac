-- Which strs and bytes are parcels.
use Rattle.std.proofs.Common.{ℕ, ◌<◌, ◌≤◌, List, length, Err, refl, arith, lit≤}
use Rattle.si_semantics.specs.Value as pure
use Rattle.si_semantics.specs.Parcels.{Leaf, Str, Bytes, IsParcel}
use Rattle.si_share.specs.Copies.{CopiesOut}
use Rattle.si_share.specs.declared.fault.ShareFault.TheVariants.{TooLarge, NoMemory}

str_fits : (s : List ℕ) → length s ≤ 1048576 → IsParcel (Leaf (Str s))
str_fits s h = record { size = lit≤ tt; levels = lit≤ tt; longest = h }

pub str_refused : (s : List ℕ) → length s ≤ 1048576 → CopiesOut (pure.Str s) (Err NoMemory)
str_refused s h = (Leaf (Str s), refl, str_fits s h, tt)

pub str_too_large : (s : List ℕ) → 1048576 < length s → CopiesOut (pure.Str s) (Err TooLarge)
str_too_large s h = (Leaf (Str s), refl, λ p. omega (arith, h, p.longest))

bytes_fit : (bs : List ℕ) → length bs ≤ 1048576 → IsParcel (Leaf (Bytes bs))
bytes_fit bs h = record { size = lit≤ tt; levels = lit≤ tt; longest = h }

pub bytes_refused : (bs : List ℕ) → length bs ≤ 1048576 → CopiesOut (pure.Bytes bs) (Err NoMemory)
bytes_refused bs h = (Leaf (Bytes bs), refl, bytes_fit bs h, tt)

pub bytes_too_large : (bs : List ℕ) → 1048576 < length bs → CopiesOut (pure.Bytes bs) (Err TooLarge)
bytes_too_large bs h = (Leaf (Bytes bs), refl, λ p. omega (arith, h, p.longest))
