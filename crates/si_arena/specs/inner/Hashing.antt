-- What a dict's keys are hashed to.
use Rattle.std.specs.Prelude.{◌≡◌, ℕ, ◌+◌, ◌*◌, ◌/◌, ◌%◌, List, [], ◌∷◌, Option, Some, None, length, nat_eq, if◌then◌else◌, IsTrue}
use Rattle.std.specs.Cmp.{signed_Decides, unsigned_Decides}
use Rattle.std.proofs.Common.{ap, sym, true≢false}
use Rattle.std.specs.Int.{w64, from_le_bytes}
use Rattle.std.specs.Hash as fed
use Rattle.std.specs.Hash.FoldHasher as folding
use Rattle.si_arena.specs.declared.atom.Atom.{Atom}
use Rattle.si_arena.specs.declared.atom.Atom.TheVariants as atom
use Rattle.si_arena.specs.Short.{short_text}
use Rattle.si_arena.specs.contracts.atom.AtomPartialEq.TheImpl as atoms
use Rattle.si_arena.specs.inner.Padding.{bytes_same, number_of}
use Rattle.si_arena.specs.declared.hasher.KeyHasher.{KeyHasher}

-- what an atom writes
abbrev pub atom_writes : Atom → fed.HashWrites
atom_writes (atom.Int n) = fed.i64 n
atom_writes (atom.Short s) = fed.u128 (number_of s.characters)
atom_writes (atom.Word i) = fed.usize i

-- equal keys make the same writes
pub writes_same : (a b : Atom) → IsTrue ((atoms.eq-value).it a b) → atom_writes a ≡ atom_writes b
writes_same (atom.Int m) (atom.Int n) h = ap fed.i64 ((signed_Decides m n).0 h)
writes_same (atom.Int m) (atom.Short t) h = absurd (true≢false (sym h))
writes_same (atom.Int m) (atom.Word j) h = absurd (true≢false (sym h))
writes_same (atom.Short s) (atom.Int n) h = absurd (true≢false (sym h))
writes_same (atom.Short s) (atom.Short t) h = ap (λ cs. fed.u128 (number_of cs)) (bytes_same (short_text s) (short_text t) s.zeros t.zeros h)
writes_same (atom.Short s) (atom.Word j) h = absurd (true≢false (sym h))
writes_same (atom.Word i) (atom.Int n) h = absurd (true≢false (sym h))
writes_same (atom.Word i) (atom.Short t) h = absurd (true≢false (sym h))
writes_same (atom.Word i) (atom.Word j) h = ap fed.usize ((unsigned_Decides i j).0 h)

-- the hasher before anything is written
abbrev pub IsInitial : KeyHasher → Type 0
IsInitial h = h ≡ record { folded = folding.initial; in_run = None }

-- the hasher after these bytes are written: eight are an integer
abbrev pub write : KeyHasher → List ℕ → KeyHasher
write h bs =
    if nat_eq (length bs) 8 then record { folded = folding.write h.folded (fed.le_bytes 8 (from_le_bytes w64 bs / 64)); in_run = Some (from_le_bytes w64 bs % 64) }
    else record { folded = folding.write h.folded bs; in_run = None }

-- the hash of an integer in a run: its group, among the 16 from the one on that its run is mixed to, in the low 24 bits, and its tag above these
abbrev pub place : ℕ → ℕ → ℕ
place mixed at = ((mixed / 0x100_0000_0000) % 64 * 4 + at % 4) * 0x100_0000 + (mixed % 0x100_0000 + at / 4) % 0x100_0000

abbrev pub finish_of : ℕ → Option ℕ → ℕ
finish_of mixed (Some at) = place mixed at
finish_of mixed None = mixed

-- what `finish` returns
abbrev pub finish : KeyHasher → ℕ
finish h = finish_of (folding.finish h.folded) h.in_run
