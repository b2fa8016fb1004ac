-- The tree that is found is the one as which bytes are read, where it is well scoped.
use Rattle.std.proofs.Common.{◌≡◌, ℕ, List, length, map, Option, Some, None, Bool, true, false, refl, sym, ap, ◌∙◌, subst, leb-true, le-leb}
use Rattle.std.proofs.lemmas.Option.{none-some}
use Rattle.std.specs.Prelude.{option_map, nat_le, if◌then◌else◌, encode_utf8_all}
use Rattle.si_semantics.specs.Tree.{Stmt, Stmts, Module}
use Rattle.si_semantics.specs.Scope.{is_scoped}
use Rattle.si_semantics.specs.Grammar.{Terminal, terminal_of, stmts_of, Derives}
use Rattle.si_token.specs.inner.Reading.{then_read}
use Rattle.si_token.proofs.Runs.{then_some}
use Rattle.si_parse.specs.Modules.{max_bytes}
use Rattle.si_parse.specs.inner.Lines.{module_by}
use Rattle.si_parse.proofs.Modules.{module_sound, module_complete}
use Rattle.si_token.proofs.Texts.{some_inj}
use Rattle.si_reading.specs.Taken.{IsTaken, IsJob}
use Rattle.si_reading.specs.Texts.{tree_of_text}
use Rattle.si_reading.specs.Laws.{ReadsRight, ReadsOnly, TextsReadRight}
use Rattle.si_reading.specs.inner.Trees.{tokens_in, derived_by, if_scoped, scoped_by, tree_in}
use Rattle.si_reading.proofs.Words.{tokens_right, tokens_found}

-- ---- what is found is right

derived_right : (ts : List Terminal) (body : Stmts) → derived_by ts ≡ Some body → Derives body ts
derived_right ts body h = by (module_by ts) refl h
  where
    by : (o : Option (List Stmt × List Terminal)) → module_by ts ≡ o → option_map (λ r. stmts_of r.0) o ≡ Some body → Derives body ts
    by None is h = cc
    by (Some r) is h = subst (λ body. Derives body ts) (some_inj (stmts_of r.0) body h) (module_sound ts r is)

scoped_right : (body : Stmts) (m : Module) → if_scoped body ≡ Some m → (body ≡ m.body) × (is_scoped m.body ≡ true)
scoped_right body m h = by (is_scoped body) refl h
  where
    by : (t : Bool) → is_scoped body ≡ t → (if t then Some (record { body = body }) else None) ≡ Some m → (body ≡ m.body) × (is_scoped m.body ≡ true)
    by true is h = let same : body ≡ m.body = ap (λ (m : Module). m.body) (some_inj (record { body = body }) m h) in (same, sym (ap is_scoped same) ∙ is)
    by false is h = cc

tree_right : (bytes : List ℕ) (m : Module) → tree_in bytes ≡ Some m → IsTaken bytes m.body
unfolding tree_in
tree_right bytes m h = by (nat_le (length bytes) max_bytes) refl h
  where
    by : (t : Bool) → nat_le (length bytes) max_bytes ≡ t → (if t then then_read (tokens_in bytes) scoped_by else None) ≡ Some m → IsTaken bytes m.body
    by true short h =
        let ts = then_some (tokens_in bytes) scoped_by m h in
        let tree = then_some (derived_by (map terminal_of ts.0)) if_scoped m ts.2 in
        let scoped = scoped_right tree.0 m tree.2 in
        ((leb-true (length bytes) max_bytes short, ts.0, tokens_right bytes ts.0 ts.1, subst (λ body. Derives body (map terminal_of ts.0)) scoped.0 (derived_right (map terminal_of ts.0) tree.0 tree.1)), scoped.1)
    by false short h = cc

-- ---- what is right is found

derived_found : (ts : List Terminal) (body : Stmts) → Derives body ts → derived_by ts ≡ Some body
derived_found ts body d =
    let c = module_complete body ts d in ap (option_map (λ r. stmts_of r.0)) c.2 ∙ ap (λ b. Some b) (sym c.1)

scoped_found : (body : Stmts) → is_scoped body ≡ true → if_scoped body ≡ Some (record { body = body })
scoped_found body h = ap (λ (t : Bool). if t then Some (record { body = body }) else None) h

pub reads_only : ReadsOnly
unfolding tree_in
reads_only bytes body ((short, ts, has, d), scoped) =
    ap (λ (t : Bool). if t then then_read (tokens_in bytes) scoped_by else None) (le-leb (length bytes) max_bytes short)
    ∙ ap (λ o. then_read o scoped_by) (tokens_found bytes ts has)
    ∙ ap (λ o. then_read o if_scoped) (derived_found (map terminal_of ts) body d)
    ∙ scoped_found body scoped

-- ---- the laws

job_of : (bytes : List ℕ) (o : Option Module) → tree_in bytes ≡ o → IsJob bytes o
job_of bytes (Some m) is = tree_right bytes m is
job_of bytes None is = λ body h. none-some (record { body = body }) (sym is ∙ reads_only bytes body h)

pub reads_right : ReadsRight
reads_right bytes = job_of bytes (tree_in bytes) refl

pub texts_read_right : TextsReadRight
unfolding tree_of_text
texts_read_right text = reads_right (encode_utf8_all text)

-- where bytes are read as no tree that is well scoped, they have none
pub no_tree : (bytes : List ℕ) → ((body : Stmts) → IsTaken bytes body → ⊥) → tree_in bytes ≡ None
no_tree bytes h = by (tree_in bytes) refl
  where
    by : (o : Option Module) → tree_in bytes ≡ o → o ≡ None
    by None is = refl
    by (Some m) is = absurd (h m.body (tree_right bytes m is))

-- whatever a text has to run by the relation, the function gives
pub only_job : (bytes : List ℕ) (job : Option Module) → IsJob bytes job → job ≡ tree_in bytes
only_job bytes (Some m) h = sym (reads_only bytes m.body h)
only_job bytes None h = sym (no_tree bytes h)
