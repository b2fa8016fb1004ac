-- The words of this crate are ASCII: their bytes are their characters.
use Rattle.std.proofs.Common.{◌≡◌, List, ℕ, Bool, refl, sym, ap, ◌∙◌}
use Rattle.std.specs.Prelude.{codes}
use Rattle.std.specs.Str.{chars}
use Rattle.si_plain.specs.Characters.{characters_of}
use Rattle.si_semantics.specs.Text.{same_text}

pub id_word : characters_of (codes "id") ≡ codes "id"
unfolding chars
id_word = refl

pub maxsize_word : characters_of (codes "maxsize") ≡ codes "maxsize"
unfolding chars
maxsize_word = refl

pub exec_word : characters_of (codes "exec") ≡ codes "exec"
unfolding chars
exec_word = refl

pub obj_word : characters_of (codes "obj") ≡ codes "obj"
unfolding chars
obj_word = refl

pub target_word : characters_of (codes "target") ≡ codes "target"
unfolding chars
target_word = refl

pub args_word : characters_of (codes "args") ≡ codes "args"
unfolding chars
args_word = refl

pub interpreter_word : characters_of (codes "interpreter ") ≡ codes "interpreter "
unfolding chars
interpreter_word = refl

pub not_found_word : characters_of (codes " not found") ≡ codes " not found"
unfolding chars
not_found_word = refl

pub running_word : characters_of (codes " is running") ≡ codes " is running"
unfolding chars
running_word = refl

pub colon_word : characters_of (codes ": ") ≡ codes ": "
unfolding chars
colon_word = refl

-- whether a name is this word, which is ASCII
pub spelled : (x word : List ℕ) (r b : Bool) → r ≡ same_text x (characters_of word) → characters_of word ≡ word → r ≡ b → same_text x word ≡ b
spelled x word r b e ascii f = ap (same_text x) (sym ascii) ∙ sym e ∙ f
