-- A module: what is read is in the grammar, and what is in the grammar is read.
use Rattle.std.proofs.Common.{◌≡◌, ◌<◌, List, [], ◌∷◌, ◌++◌, length, Option, Some, None, true, false, refl, sym, ap, ◌∙◌, subst, arith, length-append}
use Rattle.std.specs.Prelude.{option_map}
use Rattle.si_semantics.specs.Tree.{Stmt, Stmts}
use Rattle.si_semantics.specs.Grammar.{Terminal, ENDMARKER, Many, stmts_of, Nests, max_nesting, Derives}
use Rattle.si_parse.specs.inner.Lists.{many_by}
use Rattle.si_parse.specs.inner.Lines.{block_at, is_end, module_by}
use Rattle.si_parse.proofs.Laws.{some_inj}
use Rattle.si_parse.proofs.Lists.{many_sound, many_complete}
use Rattle.si_parse.proofs.Statements.{with_line}
use Rattle.si_parse.proofs.Blocks.{all_of, added_lines, block_sound, Ends, begun, block_complete}

two : (t u : Terminal) (ts : List Terminal) → is_end (t ∷ (u ∷ ts)) ≡ false
two ENDMARKER u ts = refl
two _ u ts = refl

not_end : (ts : List Terminal) → 1 < length ts → is_end ts ≡ false
not_end [] h = absurd (omega arith)
not_end (t ∷ []) h = absurd (omega arith)
not_end (t ∷ (u ∷ ts)) h = two t u ts

end_only : (ts : List Terminal) → is_end ts ≡ true → ts ≡ ENDMARKER ∷ []
end_only [] h = cc
end_only (ENDMARKER ∷ []) h = refl
end_only (_ ∷ []) h = cc
end_only (t ∷ (u ∷ ts)) h = let bad : true ≡ false = sym h ∙ two t u ts in cc

abbrev ModuleRead : List Terminal → List Stmt × List Terminal → Type 0
ModuleRead ts r = (lines : List (List Stmt)) × (f : List Terminal) × (r.0 ≡ all_of lines) × (ts ≡ f ++ ENDMARKER ∷ []) × Many (Nests max_nesting) lines f

module_read : (ts : List Terminal) (r : List Stmt × List Terminal) → module_by ts ≡ Some r → ModuleRead ts r
module_read ts r h =
    let m = many_sound with_line (block_at max_nesting) is_end (Nests max_nesting) (block_sound max_nesting) (length ts) [] ts r h in
    (m.0, m.1, m.2 ∙ added_lines [] m.0, m.3 ∙ ap (λ t. m.1 ++ t) (end_only r.1 m.5), m.4)

-- what is read is derived
pub module_sound : (ts : List Terminal) (r : List Stmt × List Terminal) → module_by ts ≡ Some r → Derives (stmts_of r.0) ts
module_sound ts r h = let m = module_read ts r h in (m.1, m.3, (m.0, ap stmts_of m.2, m.4))

good : (line : List Stmt) (f more : List Terminal) → Nests max_nesting line f → Ends more → Ends (f ++ more)
good line f more h e = let b = begun max_nesting line f more h in b.ends

next_line : (body line : List Stmt) (f more : List Terminal) → Nests max_nesting line f → Ends more → (block_at max_nesting body (f ++ more) ≡ Some (with_line body line, more)) × (is_end (f ++ more) ≡ false) × (0 < length f)
next_line body line f more h e =
    let b = begun max_nesting line f more h in
    (block_complete max_nesting body line f more h e, not_end (f ++ more) (omega (arith, length-append f more, b.long, e.some)), b.long)

-- what is derived is read
pub module_complete : (body : Stmts) (ts : List Terminal) → Derives body ts → (ss : List Stmt) × (body ≡ stmts_of ss) × (module_by ts ≡ Some (ss, ENDMARKER ∷ []))
module_complete body ts h =
    let fuel : length h.0 < length ts = omega (arith, ap length h.1, length-append h.0 (ENDMARKER ∷ [])) in (
      all_of h.2.0,
      h.2.1,
      ap (λ t. many_by (block_at max_nesting) is_end (length ts) [] t) h.1
          ∙ many_complete with_line (block_at max_nesting) is_end (Nests max_nesting) Ends good next_line (length ts) [] h.2.0 h.0 (ENDMARKER ∷ []) fuel h.2.2 (record { elifs = refl; elses = refl; excepts = refl; finals = refl; some = omega arith }) refl
          ∙ ap (λ b. Some (b, ENDMARKER ∷ [])) (added_lines [] h.2.0),
    )

-- a list of terminals has at most one tree
pub one_module : (a b : Stmts) (ts : List Terminal) → Derives a ts → Derives b ts → a ≡ b
one_module a b ts g h =
    let x = module_complete a ts g in
    let y = module_complete b ts h in
    x.1 ∙ ap (λ r. stmts_of r.0) (some_inj (x.0, ENDMARKER ∷ []) (y.0, ENDMARKER ∷ []) (sym x.2 ∙ y.2)) ∙ sym y.1

-- ---- what the parser keeps of it

whole : (ts : List Terminal) (o : Option (List Stmt × List Terminal)) → module_by ts ≡ o → (ss : List Stmt) → option_map (λ r. r.0) o ≡ Some ss → (r : List Stmt × List Terminal) × (module_by ts ≡ Some r) × (r.0 ≡ ss)
whole ts None is ss h = cc
whole ts (Some r) is ss h = (r, is, some_inj r.0 ss h)

pub found : (ts : List Terminal) (ss : List Stmt) → option_map (λ r. r.0) (module_by ts) ≡ Some ss → Derives (stmts_of ss) ts
found ts ss h = let w = whole ts (module_by ts) refl ss h in subst (λ l. Derives (stmts_of l) ts) w.2 (module_sound ts w.0 w.1)

pub none_derived : (ts : List Terminal) → option_map (λ r. r.0) (module_by ts) ≡ None → (body : Stmts) → Derives body ts → ⊥
none_derived ts h body d =
    let c = module_complete body ts d in let bad : None ≡ Some c.0 = sym h ∙ ap (option_map (λ r. r.0)) c.2 in cc
