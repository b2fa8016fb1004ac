-- The items that are given one by one, and what is left of them after the arena has gone on: laws that the crates above
-- cite.
use Rattle.std.proofs.Common.{◌≡◌, arith, ℤ, length, drop, Option, refl, sym, ap, subst, ◌∙◌}
use Rattle.si_semantics.specs.Operations as operations
use Rattle.si_arena.specs.declared.value.Ref.{Ref}
use Rattle.si_arena.specs.declared.value.Ref.TheVariants as value
use Rattle.si_arena.specs.Memory.{Memory, Lies, Extends}
use Rattle.si_arena.specs.Texts.{text_of, TextLies}
use Rattle.si_arena.proofs.Rows.{text-grows}
use Rattle.si_arena.proofs.Lying.{value-lasts, lies-extends}
use Rattle.si_arena.proofs.Growing.{bytes_text_lies}
use Rattle.si_arena.specs.Bytes.{bytes_of, text_of_bytes}
use Rattle.si_ops.specs.Operands.{members_of}
use Rattle.si_ops.specs.declared.items.Items.{Items}
use Rattle.si_ops.specs.declared.items.Items.TheVariants.{Numbers, Characters, Octets, Members, Listed, Keys, NoMore}
use Rattle.si_ops.specs.Items.{items_of, ItemsLie, GivesItem}

-- three integers, each by another that is equal
pub numbers_given : (m : Memory) (self : Items) (a b c x y z : ℤ) (r : Option (Ref × Items)) → self ≡ Numbers a b c → x ≡ a → y ≡ b → z ≡ c → GivesItem m (Numbers x y z) r → GivesItem m self r
numbers_given m self a b c x y z r is e f g h =
    let P : Items → Type 0 = λ i. GivesItem m i r in
    let same : Numbers x y z ≡ Numbers a b c = ap (λ i. Numbers i y z) e ∙ ap (λ i. Numbers a i z) f ∙ ap (λ i. Numbers a b i) g in
    subst P (same ∙ sym is) h

-- ---- laws for the crates above

lies_text : (m : Memory) (r : Ref) → Lies m r → TextLies m.texts r
lies_text m value.Unbound h = tt
lies_text m value.None h = tt
lies_text m (value.Truth at b) h = tt
lies_text m (value.Int n) h = tt
lies_text m (value.Short s) h = tt
lies_text m (value.Narrow n i) h = h
lies_text m (value.Wide n i) h = h
lies_text m (value.ShortBytes s) h = tt
lies_text m (value.Bytes n i) h = tt
lies_text m (value.BuiltIn at b) h = tt
lies_text m (value.Function n x) h = tt
lies_text m (value.Range p) h = tt
lies_text m (value.Tuple p) h = tt
lies_text m (value.Kind at k) h = tt
lies_text m (value.Module at mo) h = tt
lies_text m (value.Queue qu qm) h = tt
lies_text m (value.Interpreter it) h = tt
lies_text m (value.Exec it) h = tt
lies_text m (value.Object x) h = tt

text_kept : {old new : Memory} (r : Ref) → Extends old new → Lies old r → text_of new.texts r ≡ text_of old.texts r
text_kept {old = old} {new = new} r e h = text-grows old.texts new.texts r e.lasts.texts (lies_text old r h)

bytes_kept : {old new : Memory} (r : Ref) → Extends old new → Lies old r → bytes_of new.texts r ≡ bytes_of old.texts r
bytes_kept {old = old} {new = new} r e h = text-grows old.texts new.texts (text_of_bytes r) e.lasts.texts (bytes_text_lies old r h)

-- items that lie in an arena give the same after it has gone on
pub items-lasts : {old new : Memory} (items : Items) → Extends old new → ItemsLie old items → items_of new items ≡ items_of old items
items-lasts (Numbers at stop step) e h = refl
items-lasts (Characters text given count) e h = ap (λ s. operations.Characters (drop given s)) (text_kept text e h.0)
items-lasts (Octets bytes given) e h = ap (λ s. operations.Octets (drop given s)) (bytes_kept bytes e h)
items-lasts (Members tuple given) e h = ap (λ v. operations.Items (drop given (members_of v))) (value-lasts tuple e.lasts h)
items-lasts (Listed address at) e h = refl
items-lasts (Keys address at count) e h = refl
items-lasts NoMore e h = refl

-- and they lie in it
pub items_lie-extends : {old new : Memory} (items : Items) → Extends old new → ItemsLie old items → ItemsLie new items
items_lie-extends (Numbers at stop step) e h = tt
items_lie-extends (Characters text given count) e h = (lies-extends text e h.0, h.1 ∙ ap length (sym (text_kept text e h.0)))
items_lie-extends (Octets bytes given) e h = lies-extends bytes e h
items_lie-extends (Members tuple given) e h = lies-extends tuple e h
items_lie-extends (Listed address at) e h = let more = e.objects in omega (arith, h, more)
items_lie-extends (Keys address at count) e h = let more = e.objects in omega (arith, h, more)
items_lie-extends NoMore e h = tt
