-- Parts of sequences (Python Language Reference 3.14, 6.10.2; Standard Library, "Built-in Types": common sequence
-- operations).
use Rattle.std.specs.Prelude.{[], ◌∷◌, Bool, true, false, ◌&&◌, ◌||◌, nat_eq}
use Rattle.si_semantics.specs.Value.{Text}

-- a text begins with another
abbrev pub begins_with : (whole part : Text) → Bool
begins_with s [] = true
begins_with [] (d ∷ ds) = false
begins_with (c ∷ cs) (d ∷ ds) = nat_eq c d && begins_with cs ds

-- a text is a part of another: that begins with it, from its first character on or from a later one; so the empty text is
-- a part of each
abbrev pub is_part : (whole part : Text) → Bool
is_part [] t = begins_with [] t
is_part (c ∷ cs) t = begins_with (c ∷ cs) t || is_part cs t
