-- What `raise` raises of an object.
use Rattle.std.proofs.Common.{◌≡◌, ℕ, ◌<◌, List, length, Bool, true, false, Option, Some, slice_get, refl, sym, ap, ◌∙◌}
use Rattle.si_plain.specs.declared.kind.Kind.{Kind}
use Rattle.si_semantics.specs.Value as pure
use Rattle.si_semantics.specs.World.{World}
use Rattle.si_semantics.specs.Operations.{raised_by, raised_object, type_error}
use Rattle.si_arena.specs.declared.value.Ref.{Ref}
use Rattle.si_arena.specs.declared.value.Ref.TheVariants as ref
use Rattle.si_arena.specs.Memory.{Memory}
use Rattle.si_arena.proofs.Lying.{extends_same}
use Rattle.si_ops.specs.Raised.{IsRaised}
use Rattle.si_ops.specs.inner.Objects.{is_exception}

-- an object that is none to be raised
pub raised_other : (old new : Memory) (x y : ℕ) (q : pure.Object) → ((w : World) → raised_object x (Some q) w ≡ type_error w) → slice_get old.store x ≡ Some q → IsRaised (λ w. type_error w) old new y → IsRaised (λ w. raised_by (pure.Address x) w) old new y
raised_other old new x y q f at p = record {
  raises = λ w e. ap (λ s. raised_object x (slice_get s x) w) e ∙ ap (λ o. raised_object x o w) at ∙ f w ∙ p.raises w e;
  lies = p.lies;
  memory = p.memory;
  extends = p.extends;
}

-- an object is an exception, or not
raises_other : (x : ℕ) (q : pure.Object) (b : Bool) (w : World) → b ≡ is_exception q → b ≡ false → raised_object x (Some q) w ≡ type_error w
raises_other x (pure.Exception k a) b w e h = absurd (let no : true ≡ false = sym e ∙ h in cc)
raises_other x (pure.Items vs) b w e h = refl
raises_other x (pure.Pairs ps) b w e h = refl
raises_other x (pure.Thread i t) b w e h = refl
raises_other x (pure.Started r) b w e h = refl

pub raised_none : (old new : Memory) (x y : ℕ) (q : pure.Object) (b : Bool) → b ≡ is_exception q → b ≡ false → slice_get old.store x ≡ Some q → IsRaised (λ w. type_error w) old new y → IsRaised (λ w. raised_by (pure.Address x) w) old new y
raised_none old new x y q b e h at p = raised_other old new x y q (λ w. raises_other x q b w e h) at p

-- an exception is raised itself
raises_itself : (x : ℕ) (q : pure.Object) (b : Bool) (w : World) → b ≡ is_exception q → b ≡ true → raised_object x (Some q) w ≡ (x, w)
raises_itself x (pure.Exception k a) b w e h = refl
raises_itself x (pure.Items vs) b w e h = absurd (let no : false ≡ true = sym e ∙ h in cc)
raises_itself x (pure.Pairs ps) b w e h = absurd (let no : false ≡ true = sym e ∙ h in cc)
raises_itself x (pure.Thread i t) b w e h = absurd (let no : false ≡ true = sym e ∙ h in cc)
raises_itself x (pure.Started r) b w e h = absurd (let no : false ≡ true = sym e ∙ h in cc)

pub raised_itself : (m : Memory) (x : ℕ) (q : pure.Object) (b : Bool) → x < length m.store → slice_get m.store x ≡ Some q → b ≡ is_exception q → b ≡ true → IsRaised (λ w. raised_by (pure.Address x) w) m m x
raised_itself m x q b l at e h = record {
  raises = λ w g. ap (λ s. raised_object x (slice_get s x) w) g ∙ ap (λ o. raised_object x o w) at ∙ raises_itself x q b w e h ∙ ap (λ s. (x, record w { store = s })) g;
  lies = l;
  memory = refl;
  extends = extends_same m;
}

-- what is no exception is none
pub no_exception : (s : List pure.Object) (value : Ref) (x y : ℕ) (q : pure.Object) (b : Bool) (k : Kind) (a : Option pure.Value) → value ≡ ref.Object x → value ≡ ref.Object y → slice_get s x ≡ Some q → b ≡ is_exception q → b ≡ false → slice_get s y ≡ Some (pure.Exception k a) → ⊥
no_exception s value x y q b k a e f g i j h =
    let same : x ≡ y = cc in
    let both : Some q ≡ Some (pure.Exception k a) = sym g ∙ ap (slice_get s) same ∙ h in
    let is : q ≡ pure.Exception k a = cc in
    let no : false ≡ true = sym j ∙ i ∙ ap is_exception is in
    cc
