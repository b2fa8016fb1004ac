-- Reports that are taken out of those that are left, by their numbers.
use Rattle.std.proofs.Common.{◌≡◌, ℕ, ◌+◌, ◌<◌, ◌⊎◌, zero, suc, List, [], ◌∷◌, ◌++◌, length, length-append, refl, ap, sym, ◌∙◌, subst, arith, inl, inr, slice_get, Some}
use Rattle.std.specs.List.{Contains}
use Rattle.std.specs.List.Sorted.{IsPermutation}
use Rattle.std.proofs.lemmas.List.Elements.{Contains-append_left, Contains-append_cases}
use Rattle.std.proofs.lemmas.List.Sorted.{IsPermutation-refl, IsPermutation-sym, IsPermutation-pop_more, Contains-permutation}
use Rattle.std.proofs.lemmas.Option.{slice_get_read, slice_get_within, get_or_from_slice_get}
use Rattle.si_hub.specs.HubCode.{Past}
use Rattle.si_interp.specs.Meaning.{InterpView}
use Rattle.si_workers.specs.inner.Members.{HasReport, AreReports, AreFit, AreMembers}

contains_at : (xs : List InterpView) (k : ℕ) (x : InterpView) → slice_get xs k ≡ Some x → Contains xs x
contains_at xs k x e = (k, slice_get_within xs k x e, get_or_from_slice_get xs k x x e)

contained_at : (xs : List InterpView) (x : InterpView) → Contains xs x → (k : ℕ) × (slice_get xs k ≡ Some x)
contained_at xs x c = (c.0, slice_get_read xs (length xs) c.0 x refl c.1 (sym c.2))

-- the reports of the first i interpreters are taken out, and the rest is left
pub record IsTaken (worked done rest : List InterpView) (i : ℕ) : Type 0 where
  pub all : IsPermutation worked (done ++ rest)
  pub count : length done ≡ i
  pub numbered : (j : ℕ) (v : InterpView) → slice_get done j ≡ Some v → v.id ≡ j

pub taken_none : (worked : List InterpView) → IsTaken worked [] worked 0
taken_none worked = record { all = IsPermutation-refl worked; count = refl; numbered = λ j v at. absurd (cc at) }

get_snoc : (vs : List InterpView) (v u : InterpView) (i : ℕ) → slice_get (vs ++ v ∷ []) i ≡ Some u → (slice_get vs i ≡ Some u) ⊎ ((i ≡ length vs) × (v ≡ u))
get_snoc [] v u zero e = let h : v ≡ u = cc in inr (refl, h)
get_snoc [] v u (suc i) e = absurd (cc e)
get_snoc (x ∷ vs) v u zero e = inl e
get_snoc (x ∷ vs) v u (suc i) e = elim (get_snoc vs v u i e) [ inl h ↦ inl h | inr h ↦ inr (ap suc h.0, h.1) ]

-- one more
pub taken_more : (worked done rest : List InterpView) (i : ℕ) (v : InterpView) (more left : List InterpView) → IsTaken worked done rest i → v.id ≡ i → IsPermutation rest (v ∷ left) → more ≡ done ++ v ∷ []
    → IsTaken worked more left (i + 1)
taken_more worked done rest i v more left h id others e = record {
  all = subst (λ (xs : List InterpView). IsPermutation worked (xs ++ left)) (sym e) (IsPermutation-pop_more worked done rest left v h.all others);
  count = ap (λ (xs : List InterpView). length xs) e ∙ length-append done (v ∷ []) ∙ ap (λ (n : ℕ). n + 1) h.count;
  numbered = λ j u at.
      elim (get_snoc done v u j (ap (λ (xs : List InterpView). slice_get xs j) (sym e) ∙ at)) [
        | inl a ↦ h.numbered j u a
        | inr a ↦ ap (λ (w : InterpView). w.id) (sym a.1) ∙ id ∙ sym h.count ∙ sym a.0
      ];
}

-- the next is among those that are left
pub next_left : (worked done rest : List InterpView) (i : ℕ) → IsTaken worked done rest i → HasReport worked i → HasReport rest i
next_left worked done rest i h r =
    let v = r.seen in
    let in_all = Contains-permutation worked (done ++ rest) v h.all (contains_at worked r.place v r.report.at) in
    elim (Contains-append_cases done rest v in_all) [
      | inl d ↦ (
          let at = contained_at done v d in
          let lt : at.0 < length done = slice_get_within done at.0 v at.1 in
          let a = h.numbered at.0 v at.1 in
          let b = r.report.id in
          let n = h.count in
          absurd (omega arith))
      | inr d ↦ (let at = contained_at rest v d in record { place = at.0; seen = v; report = record { at = at.1; id = r.report.id } })
    ]

-- those that were taken are reports of the first n
pub taken_all : (worked done rest : List InterpView) (n : ℕ) → IsTaken worked done rest n → AreReports worked n done
taken_all worked done rest n h = record {
  count = h.count;
  each = λ i v at.
      let in_all = Contains-append_left done rest v (contains_at done i v at) in
      let there = contained_at worked v (Contains-permutation (done ++ rest) worked v (IsPermutation-sym worked (done ++ rest) h.all) in_all) in
      (there.0, record { at = there.1; id = h.numbered i v at });
}

-- where all are fit, they are members
pub members_of : (p : Past) (worked : List InterpView) (n : ℕ) (vs : List InterpView) → AreFit p worked n → AreReports worked n vs → AreMembers p worked n vs
members_of p worked n vs fit a = record {
  count = a.count;
  each = λ i v at.
      let r = a.each i v at in
      let lt : i < n = (let here = slice_get_within vs i v at in let m = a.count in omega arith) in
      ((fit i lt).each r.0 v r.1, r);
}
