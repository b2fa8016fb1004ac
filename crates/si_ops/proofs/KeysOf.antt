-- Keys of dicts.
use Rattle.std.proofs.Common.{◌≡◌, Bool, true, false, Option, Some, None, refl, sym, ◌∙◌}
use Rattle.std.specs.Prelude.{is_some}
use Rattle.si_semantics.specs.Value as pure
use Rattle.si_semantics.specs.Value.{value_of_key}
use Rattle.si_semantics.specs.Dicts.{key_of}
use Rattle.si_arena.specs.Memory.{key_meant, IsKey}

-- a key is the value that it was
pub key_back : (v : pure.Value) → IsKey v → value_of_key (key_meant v) ≡ v
key_back (pure.Int i) h = refl
key_back (pure.Str s) h = refl
key_back pure.Nothing h = cc
key_back (pure.Truth b) h = cc
key_back (pure.Bytes bs) h = cc
key_back (pure.Provided b) h = cc
key_back (pure.Function f k) h = cc
key_back (pure.Range a b c) h = cc
key_back (pure.Tuple vs) h = cc
key_back (pure.Class k) h = cc
key_back (pure.Module m) h = cc
key_back (pure.Queue q m) h = cc
key_back (pure.Interpreter i) h = cc
key_back (pure.Exec i) h = cc
key_back (pure.Address x) h = cc

-- a value that can be a key, and one that can't
pub key_there : (v : pure.Value) (b : Bool) → b ≡ is_some (key_of v) → b ≡ true → IsKey v
key_there v b e h = by v (sym h ∙ e)
  where
    by : (v : pure.Value) → true ≡ is_some (key_of v) → IsKey v
    by (pure.Int i) q = refl
    by (pure.Str s) q = refl
    by pure.Nothing q = cc
    by (pure.Truth b) q = cc
    by (pure.Bytes bs) q = cc
    by (pure.Provided b) q = cc
    by (pure.Function f k) q = cc
    by (pure.Range a b c) q = cc
    by (pure.Tuple vs) q = cc
    by (pure.Class k) q = cc
    by (pure.Module m) q = cc
    by (pure.Queue q m) r = cc
    by (pure.Interpreter i) q = cc
    by (pure.Exec i) q = cc
    by (pure.Address x) q = cc

pub no_key_there : (v : pure.Value) (b : Bool) → b ≡ is_some (key_of v) → b ≡ false → key_of v ≡ None
no_key_there v b e h = by (key_of v) (sym h ∙ e)
  where
    by : (o : Option pure.Key) → false ≡ is_some o → o ≡ None
    by None q = refl
    by (Some k) q = cc
