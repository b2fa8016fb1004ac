use Rattle.std.proofs.Common.{◌≡◌, ℕ, zero, suc, ◌+◌, ◌-◌, ◌<◌, ◌≤◌, List, [], ◌∷◌, ◌++◌, Some, Result, Ok, Err, length, refl, sym, ap, subst, ◌∙◌, codes, drop, arith, slice_get}
use Rattle.std.specs.declared.string.String.{String}
use Rattle.si_plain.specs.Kinds.{name_of}
use Rattle.si_semantics.specs.Value as pure
use Rattle.si_semantics.specs.Opened.{InList, InDict, opened_at}
use Rattle.si_semantics.specs.Text.{Written, Whole, followed, after, between, rest_by, items_by, pair_by, tuple_end, repr_of, repr_atom, repr_text}
use Rattle.si_arena.specs.declared.cause.Cause.TheVariants.{TooLong}
use Rattle.si_arena.specs.declared.cause.Fault.{Fault}
use Rattle.si_arena.specs.declared.cause.Fault.TheVariants.{Raises, NoMemory}
use Rattle.si_arena.specs.declared.object.Object.{Object}
use Rattle.si_arena.specs.declared.object.Object.TheVariants.{Bare, Made, Caused, Thread, Started}
use Rattle.si_arena.specs.Causes.{kind_of, message_of}
use Rattle.si_arena.specs.declared.value.Ref.{Ref}
use Rattle.si_arena.specs.Views.{value_in}
use Rattle.si_arena.specs.declared.dict.Pair.{Pair}
use Rattle.si_arena.specs.declared.atom.Atom.{Atom}
use Rattle.si_arena.specs.Memory.{Memory, value_of, all_of, object_of, pair_of, pairs_of, IsKey, Lies}
use Rattle.std.proofs.lemmas.List.{length-map}
use Rattle.si_ops.proofs.KeysOf.{key_back}
use Rattle.si_ops.specs.Writing.{Puts, Lacks}
use Rattle.si_ops.specs.inner.Written.{addresses_of, repr_within}
use Rattle.si_ops.proofs.Adding.{adds_as, adds_none}
use Rattle.si_ops.proofs.Ends.{passed}
use Rattle.si_ops.proofs.Lines.{lies_at}
use Rattle.si_ops.proofs.Puts.{puts_after, puts_next, puts_ends, whole_put, whole_lacks, row_lacks, row_breaks, row_closes, past_all}
use Rattle.si_ops.proofs.Showing.{repr_shown, repr_deeper, repr_bottom, repr_at, repr_tuple, tuple_bottom, comma_is, opening_is, closing_is, end_is, bracket_is, end_bracket_is, list_again_is, brace_is, end_brace_is, dict_again_is, kind_opens, rest_left, none_left, bare_made, argument_made, caused_made, bare_is, caused_is, argument_lies, cause_lies, short_inside, not_inside, pairs_first, pair_left, no_pair_left}
use Rattle.si_ops.proofs.shown.+repr.Goals as goal

-- ---- exceptions and threads

abbrev Shows : Memory → ℕ → List ℕ → ℕ → Object → {Z : Type 0} → String Z → String Z → Result (Unit {0}) Fault → Type 0
Shows m n inside start o old new r = (x : ℕ) → Puts {U = Unit {0}} (repr_within (suc n) m.store inside (opened_at x (Some (object_of m o)))) start old new r

shows_as : (m : Memory) (n : ℕ) (inside : List ℕ) (start : ℕ) {Z : Type 0} (o p : Object) (w : Written) (old new : String Z) (r : Result (Unit {0}) Fault) → o ≡ p → ((x : ℕ) → repr_within (suc n) m.store inside (opened_at x (Some (object_of m p))) ≡ w) → Puts {U = Unit {0}} w start old new r → Shows m n inside start o old new r
shows_as m n inside start o p w old new r is e h = λ x. subst (λ v. Puts {U = Unit {0}} v start old new r) (sym (ap (λ q. repr_within (suc n) m.store inside (opened_at x (Some (object_of m q)))) is ∙ e x)) h

pub put_plain-returns-in_err-put_bare-in-Bare : goal.put_plain-returns-in_err-put_bare-in-Bare
put_plain-returns-in_err-put_bare-in-Bare t c =
    let m = c.args.arena.now in
    let ins = addresses_of c.args.inside.now in
    let k = c.in-Bare.kind in
    passed c.from_residual.result (Shows m c.args.depth ins c.args.start c.args.object c.args.out.now c.put_bare.new.out) NoMemory c.from_residual.ensures.1
    (shows_as m c.args.depth ins c.args.start c.args.object (Bare k) _ c.args.out.now c.put_bare.new.out (Err NoMemory) c.in-Bare.is (bare_made c.args.depth m ins k)
    (whole_lacks ((name_of k ++ codes "(") ++ codes ")") c.args.start c.args.out.now c.put_bare.new.out (bare_is k) c.in_err-put_bare-in-Bare.ensures.err))

pub put_plain-returns-in_ok-put_bare-in-Bare : goal.put_plain-returns-in_ok-put_bare-in-Bare
put_plain-returns-in_ok-put_bare-in-Bare t c =
    let m = c.args.arena.now in
    let ins = addresses_of c.args.inside.now in
    let k = c.in-Bare.kind in
    shows_as m c.args.depth ins c.args.start c.args.object (Bare k) _ c.args.out.now c.put_bare.new.out (Ok tt) c.in-Bare.is (bare_made c.args.depth m ins k)
    (whole_put ((name_of k ++ codes "(") ++ codes ")") c.args.start c.args.out.now c.put_bare.new.out (bare_is k) c.in_ok-put_bare-in-Bare.ensures.ok)

pub put_plain-put_caused_repr-requires : goal.put_plain-put_caused_repr-requires
put_plain-put_caused_repr-requires t c = cause_lies c.args.arena.now c.args.object c.in-Caused.cause c.in-Caused.is c.requires

pub put_plain-returns-in_err-put_caused_repr-in-Caused : goal.put_plain-returns-in_err-put_caused_repr-in-Caused
put_plain-returns-in_err-put_caused_repr-in-Caused t c =
    let m = c.args.arena.now in
    let ins = addresses_of c.args.inside.now in
    let q = c.in-Caused.cause in
    passed c.from_residual-in_err-put_caused_repr-in-Caused.result (Shows m c.args.depth ins c.args.start c.args.object c.args.out.now c.put_caused_repr.new.out) NoMemory c.from_residual-in_err-put_caused_repr-in-Caused.ensures.1
    (shows_as m c.args.depth ins c.args.start c.args.object (Caused q) _ c.args.out.now c.put_caused_repr.new.out (Err NoMemory) c.in-Caused.is (caused_made c.args.depth m ins q)
    (whole_lacks ((name_of (kind_of q) ++ codes "(") ++ (repr_text (message_of m.names q) ++ codes ")")) c.args.start c.args.out.now c.put_caused_repr.new.out (caused_is (kind_of q) (repr_text (message_of m.names q))) c.in_err-put_caused_repr-in-Caused.ensures.err))

pub put_plain-returns-in_ok-put_caused_repr-in-Caused : goal.put_plain-returns-in_ok-put_caused_repr-in-Caused
put_plain-returns-in_ok-put_caused_repr-in-Caused t c =
    let m = c.args.arena.now in
    let ins = addresses_of c.args.inside.now in
    let q = c.in-Caused.cause in
    shows_as m c.args.depth ins c.args.start c.args.object (Caused q) _ c.args.out.now c.put_caused_repr.new.out (Ok tt) c.in-Caused.is (caused_made c.args.depth m ins q)
    (whole_put ((name_of (kind_of q) ++ codes "(") ++ (repr_text (message_of m.names q) ++ codes ")")) c.args.start c.args.out.now c.put_caused_repr.new.out (caused_is (kind_of q) (repr_text (message_of m.names q))) c.in_ok-put_caused_repr-in-Caused.ensures.ok)

pub put_plain-returns-in_err-put_opening-in-Made : goal.put_plain-returns-in_err-put_opening-in-Made
put_plain-returns-in_err-put_opening-in-Made t c =
    let m = c.args.arena.now in
    let ins = addresses_of c.args.inside.now in
    let k = c.in-Made.kind in
    let w = repr_of c.args.depth m.store ins (value_of m c.in-Made.argument) in
    passed c.from_residual-in_err-put_opening-in-Made.result (Shows m c.args.depth ins c.args.start c.args.object c.args.out.now c.put_opening.new.out) NoMemory c.from_residual-in_err-put_opening-in-Made.ensures.1
    (shows_as m c.args.depth ins c.args.start c.args.object (Made k c.in-Made.argument) _ c.args.out.now c.put_opening.new.out (Err NoMemory) c.in-Made.is (argument_made c.args.depth m ins k c.in-Made.argument)
    (row_lacks (name_of k ++ codes "(") w (codes ")") c.args.start c.args.out.now c.put_opening.new.out (kind_opens k) c.in_err-put_opening-in-Made.ensures.err))

pub put_plain-put_repr-requires : goal.put_plain-put_repr-requires
put_plain-put_repr-requires t c = (omega (arith, c.decreases), argument_lies c.args.arena.now c.args.object c.in-Made.kind c.in-Made.argument c.in-Made.is c.requires)

pub put_plain-returns-in_err-put_repr-in-Made : goal.put_plain-returns-in_err-put_repr-in-Made
put_plain-returns-in_err-put_repr-in-Made t c =
    let m = c.args.arena.now in
    let ins = addresses_of c.args.inside.now in
    let k = c.in-Made.kind in
    let w = repr_of c.args.depth m.store ins (value_of m c.in-Made.argument) in
    let f = c.in_err-put_repr-in-Made.field-0.0 in
    passed c.from_residual-in_err-put_repr-in-Made.result (Shows m c.args.depth ins c.args.start c.args.object c.args.out.now c.put_repr.new.out) f c.from_residual-in_err-put_repr-in-Made.ensures.1
    (shows_as m c.args.depth ins c.args.start c.args.object (Made k c.in-Made.argument) _ c.args.out.now c.put_repr.new.out (Err f) c.in-Made.is (argument_made c.args.depth m ins k c.in-Made.argument)
    (row_breaks (name_of k ++ codes "(") w (codes ")") c.args.start c.args.out.now c.put_opening.new.out c.put_repr.new.out f (kind_opens k) c.in_ok-put_opening-in-Made.ensures.ok c.in_err-put_repr-in-Made.ensures))

pub put_plain-returns-in_err-put-in-Made : goal.put_plain-returns-in_err-put-in-Made
put_plain-returns-in_err-put-in-Made t c =
    let m = c.args.arena.now in
    let ins = addresses_of c.args.inside.now in
    let k = c.in-Made.kind in
    let w = repr_of c.args.depth m.store ins (value_of m c.in-Made.argument) in
    passed c.from_residual-in_err-put-in-Made.result (Shows m c.args.depth ins c.args.start c.args.object c.args.out.now c.put.new.out) NoMemory c.from_residual-in_err-put-in-Made.ensures.1
    (shows_as m c.args.depth ins c.args.start c.args.object (Made k c.in-Made.argument) _ c.args.out.now c.put.new.out (Err NoMemory) c.in-Made.is (argument_made c.args.depth m ins k c.in-Made.argument)
    (row_closes (name_of k ++ codes "(") w (codes ")") c.args.start c.args.out.now c.put_opening.new.out c.put_repr.new.out c.put.new.out c.in_ok-put_repr-in-Made.field-0 (Err NoMemory) (kind_opens k) c.in_ok-put_opening-in-Made.ensures.ok c.in_ok-put_repr-in-Made.ensures
    (whole_lacks (codes ")") c.args.start c.put_repr.new.out c.put.new.out closing_is c.in_err-put-in-Made.ensures.err)))

pub put_plain-returns-in_ok-put-in-Made : goal.put_plain-returns-in_ok-put-in-Made
put_plain-returns-in_ok-put-in-Made t c =
    let m = c.args.arena.now in
    let ins = addresses_of c.args.inside.now in
    let k = c.in-Made.kind in
    let w = repr_of c.args.depth m.store ins (value_of m c.in-Made.argument) in
    shows_as m c.args.depth ins c.args.start c.args.object (Made k c.in-Made.argument) _ c.args.out.now c.put.new.out (Ok tt) c.in-Made.is (argument_made c.args.depth m ins k c.in-Made.argument)
    (row_closes (name_of k ++ codes "(") w (codes ")") c.args.start c.args.out.now c.put_opening.new.out c.put_repr.new.out c.put.new.out c.in_ok-put_repr-in-Made.field-0 (Ok tt) (kind_opens k) c.in_ok-put_opening-in-Made.ensures.ok c.in_ok-put_repr-in-Made.ensures
    (whole_put (codes ")") c.args.start c.put_repr.new.out c.put.new.out closing_is c.in_ok-put-in-Made.ensures.ok))

pub put_plain-returns-in-Thread : goal.put_plain-returns-in-Thread
put_plain-returns-in-Thread t c =
    let m = c.args.arena.now in
    shows_as m c.args.depth (addresses_of c.args.inside.now) c.args.start c.args.object (Thread _ _) (Whole (codes "<Thread>")) c.args.out.now c.put_thread.new.out c.put_thread.result c.in-Thread.is (λ x. refl) (c.put_thread.ensures c.args.start)

pub put_plain-returns-in-Started : goal.put_plain-returns-in-Started
put_plain-returns-in-Started t c =
    let m = c.args.arena.now in
    shows_as m c.args.depth (addresses_of c.args.inside.now) c.args.start c.args.object (Started _) (Whole (codes "<Thread>")) c.args.out.now c.put_thread-in-Started.new.out c.put_thread-in-Started.result c.in-Started.is (λ x. refl) (c.put_thread-in-Started.ensures c.args.start)

-- ---- objects

pub put_object-returns-in-Plain : goal.put_object-returns-in-Plain
put_object-returns-in-Plain t c =
    let m = c.args.arena.now in
    subst (λ w. Puts {U = Unit {0}} w c.args.start c.args.out.now c.put_plain.new.out c.put_plain.result) (sym (repr_at (suc c.args.depth) m.store (addresses_of c.args.inside.now) c.args.address (object_of m c.in-Plain.object) c.in-Plain.ensures.object)) (c.put_plain.ensures c.args.address)

pub put_object-returns-in-List : goal.put_object-returns-in-List
put_object-returns-in-List t c =
    let m = c.args.arena.now in
    subst (λ w. Puts {U = Unit {0}} w c.args.start c.args.out.now c.put_list.new.out c.put_list.result) (sym (repr_at (suc c.args.depth) m.store (addresses_of c.args.inside.now) c.args.address (pure.Items (all_of m c.in-List.items.now)) c.in-List.ensures.object)) c.put_list.ensures

pub put_object-returns-in-Dict : goal.put_object-returns-in-Dict
put_object-returns-in-Dict t c =
    let m = c.args.arena.now in
    subst (λ w. Puts {U = Unit {0}} w c.args.start c.args.out.now c.put_dict.new.out c.put_dict.result) (sym (repr_at (suc c.args.depth) m.store (addresses_of c.args.inside.now) c.args.address (pure.Pairs (pairs_of m c.in-Dict.pairs.now)) c.in-Dict.ensures.object)) c.put_dict.ensures

-- ---- lists

pub put_list-returns-in_err-put : goal.put_list-returns-in_err-put
put_list-returns-in_err-put t c =
    let m = c.args.arena.now in
    let ins = addresses_of c.args.inside.now in
    let vs = all_of m c.args.items.now in
    let P : Result (Unit {0}) Fault → Type 0 = λ r. Puts {U = Unit {0}} (repr_within (suc c.args.depth) m.store ins (InList c.args.address vs)) c.args.start c.args.out.now c.put.new.out r in
    passed c.from_residual.result P NoMemory c.from_residual.ensures.1
    (subst (λ w. Puts {U = Unit {0}} w c.args.start c.args.out.now c.put.new.out (Err NoMemory)) (sym (short_inside c.args.address ins (codes "[...]") _ c.is_inside.result c.is_inside.ensures c.if-is_inside.true))
    (whole_lacks (codes "[...]") c.args.start c.args.out.now c.put.new.out list_again_is c.in_err-put.ensures.err))

pub put_list-returns-then-is_inside : goal.put_list-returns-then-is_inside
put_list-returns-then-is_inside t c =
    let m = c.args.arena.now in
    let ins = addresses_of c.args.inside.now in
    subst (λ w. Puts {U = Unit {0}} w c.args.start c.args.out.now c.put.new.out (Ok tt)) (sym (short_inside c.args.address ins (codes "[...]") _ c.is_inside.result c.is_inside.ensures c.if-is_inside.true))
    (whole_put (codes "[...]") c.args.start c.args.out.now c.put.new.out list_again_is c.in_ok-put.ensures.ok)

pub put_list-returns : goal.put_list-returns
put_list-returns t c =
    let m = c.args.arena.now in
    let ins = addresses_of c.args.inside.now in
    subst (λ w. Puts {U = Unit {0}} w c.args.start c.args.out.now c.put_row.new.out c.put_row.result) (sym (not_inside c.args.address ins (codes "[...]") _ c.is_inside.result c.is_inside.ensures c.if-is_inside.false))
    (c.put_row.ensures (codes "[") (codes "]") bracket_is end_bracket_is)

-- ---- rows

pub put_row-returns-in_err-put : goal.put_row-returns-in_err-put
put_row-returns-in_err-put t c = λ opening closing e f.
    let m = c.args.arena.now in
    let w = items_by (repr_of c.args.depth m.store (addresses_of c.args.inside.now)) (all_of m c.args.items.now) in
    let P : Result (Unit {0}) Fault → Type 0 = λ r. Puts {U = Unit {0}} (between opening w closing) c.args.start c.args.out.now c.put.new.out r in
    passed c.from_residual.result P NoMemory c.from_residual.ensures.1
    (row_lacks opening w closing c.args.start c.args.out.now c.put.new.out e c.in_err-put.ensures.err)

pub put_row-returns-in_err-put_items : goal.put_row-returns-in_err-put_items
put_row-returns-in_err-put_items t c = λ opening closing e f.
    let m = c.args.arena.now in
    let w = items_by (repr_of c.args.depth m.store (addresses_of c.args.inside.now)) (all_of m c.args.items.now) in
    let fault = c.in_err-put_items.field-0.0 in
    let P : Result (Unit {0}) Fault → Type 0 = λ r. Puts {U = Unit {0}} (between opening w closing) c.args.start c.args.out.now c.put_items.new.out r in
    passed c.from_residual-in_err-put_items.result P fault c.from_residual-in_err-put_items.ensures.1
    (row_breaks opening w closing c.args.start c.args.out.now c.put.new.out c.put_items.new.out fault e c.in_ok-put.ensures.ok c.in_err-put_items.ensures)

pub put_row-returns-in_err-put-2 : goal.put_row-returns-in_err-put-2
put_row-returns-in_err-put-2 t c = λ opening closing e f.
    let m = c.args.arena.now in
    let w = items_by (repr_of c.args.depth m.store (addresses_of c.args.inside.now)) (all_of m c.args.items.now) in
    let P : Result (Unit {0}) Fault → Type 0 = λ r. Puts {U = Unit {0}} (between opening w closing) c.args.start c.args.out.now c.put-2.new.out r in
    passed c.from_residual-in_err-put-2.result P NoMemory c.from_residual-in_err-put-2.ensures.1
    (row_closes opening w closing c.args.start c.args.out.now c.put.new.out c.put_items.new.out c.put-2.new.out c.in_ok-put_items.field-0 (Err NoMemory) e c.in_ok-put.ensures.ok c.in_ok-put_items.ensures
    (whole_lacks closing c.args.start c.put_items.new.out c.put-2.new.out f c.in_err-put-2.ensures.err))

pub put_row-returns : goal.put_row-returns
put_row-returns t c = λ opening closing e f.
    let m = c.args.arena.now in
    let w = items_by (repr_of c.args.depth m.store (addresses_of c.args.inside.now)) (all_of m c.args.items.now) in
    row_closes opening w closing c.args.start c.args.out.now c.put.new.out c.put_items.new.out c.put-2.new.out c.in_ok-put_items.field-0 (Ok tt) e c.in_ok-put.ensures.ok c.in_ok-put_items.ensures
    (whole_put closing c.args.start c.put_items.new.out c.put-2.new.out f c.in_ok-put-2.ensures.ok)

-- ---- dicts

pub put_dict-returns-in_err-put : goal.put_dict-returns-in_err-put
put_dict-returns-in_err-put t c =
    let m = c.args.arena.now in
    let ins = addresses_of c.args.inside.now in
    let P : Result (Unit {0}) Fault → Type 0 = λ r. Puts {U = Unit {0}} (repr_within (suc c.args.depth) m.store ins (InDict c.args.address (pairs_of m c.args.pairs.now))) c.args.start c.args.out.now c.put.new.out r in
    passed c.from_residual.result P NoMemory c.from_residual.ensures.1
    (subst (λ w. Puts {U = Unit {0}} w c.args.start c.args.out.now c.put.new.out (Err NoMemory)) (sym (short_inside c.args.address ins (codes "{...}") _ c.is_inside.result c.is_inside.ensures c.if-is_inside.true))
    (whole_lacks (codes "{...}") c.args.start c.args.out.now c.put.new.out dict_again_is c.in_err-put.ensures.err))

pub put_dict-returns-then-is_inside : goal.put_dict-returns-then-is_inside
put_dict-returns-then-is_inside t c =
    let ins = addresses_of c.args.inside.now in
    subst (λ w. Puts {U = Unit {0}} w c.args.start c.args.out.now c.put.new.out (Ok tt)) (sym (short_inside c.args.address ins (codes "{...}") _ c.is_inside.result c.is_inside.ensures c.if-is_inside.true))
    (whole_put (codes "{...}") c.args.start c.args.out.now c.put.new.out dict_again_is c.in_ok-put.ensures.ok)

pub put_dict-returns-in_err-put-2 : goal.put_dict-returns-in_err-put-2
put_dict-returns-in_err-put-2 t c =
    let m = c.args.arena.now in
    let ins = addresses_of c.args.inside.now in
    let w = items_by (pair_by (repr_of c.args.depth m.store (c.args.address ∷ ins))) (pairs_of m c.args.pairs.now) in
    let P : Result (Unit {0}) Fault → Type 0 = λ r. Puts {U = Unit {0}} (repr_within (suc c.args.depth) m.store ins (InDict c.args.address (pairs_of m c.args.pairs.now))) c.args.start c.args.out.now c.put-2.new.out r in
    passed c.from_residual-in_err-put-2.result P NoMemory c.from_residual-in_err-put-2.ensures.1
    (subst (λ v. Puts {U = Unit {0}} v c.args.start c.args.out.now c.put-2.new.out (Err NoMemory)) (sym (not_inside c.args.address ins (codes "{...}") _ c.is_inside.result c.is_inside.ensures c.if-is_inside.false))
    (row_lacks (codes "{") w (codes "}") c.args.start c.args.out.now c.put-2.new.out brace_is c.in_err-put-2.ensures.err))

pub put_dict-returns-in_err-put_pairs : goal.put_dict-returns-in_err-put_pairs
put_dict-returns-in_err-put_pairs t c =
    let m = c.args.arena.now in
    let ins = addresses_of c.args.inside.now in
    let w = items_by (pair_by (repr_of c.args.depth m.store (c.args.address ∷ ins))) (pairs_of m c.args.pairs.now) in
    let fault = c.in_err-put_pairs.field-0.0 in
    let P : Result (Unit {0}) Fault → Type 0 = λ r. Puts {U = Unit {0}} (repr_within (suc c.args.depth) m.store ins (InDict c.args.address (pairs_of m c.args.pairs.now))) c.args.start c.args.out.now c.put_pairs.new.out r in
    passed c.from_residual-in_err-put_pairs.result P fault c.from_residual-in_err-put_pairs.ensures.1
    (subst (λ v. Puts {U = Unit {0}} v c.args.start c.args.out.now c.put_pairs.new.out (Err fault)) (sym (not_inside c.args.address ins (codes "{...}") _ c.is_inside.result c.is_inside.ensures c.if-is_inside.false))
    (row_breaks (codes "{") w (codes "}") c.args.start c.args.out.now c.put-2.new.out c.put_pairs.new.out fault brace_is c.in_ok-put-2.ensures.ok c.in_err-put_pairs.ensures))

-- what closes it

pub put_dict-returns-in_err-put-3 : goal.put_dict-returns-in_err-put-3
put_dict-returns-in_err-put-3 t c =
    let m = c.args.arena.now in
    let ins = addresses_of c.args.inside.now in
    let w = items_by (pair_by (repr_of c.args.depth m.store (c.args.address ∷ ins))) (pairs_of m c.args.pairs.now) in
    let P : Result (Unit {0}) Fault → Type 0 = λ r. Puts {U = Unit {0}} (repr_within (suc c.args.depth) m.store ins (InDict c.args.address (pairs_of m c.args.pairs.now))) c.args.start c.args.out.now c.put-3.new.out r in
    passed c.from_residual-in_err-put-3.result P NoMemory c.from_residual-in_err-put-3.ensures.1
    (subst (λ v. Puts {U = Unit {0}} v c.args.start c.args.out.now c.put-3.new.out (Err NoMemory)) (sym (not_inside c.args.address ins (codes "{...}") _ c.is_inside.result c.is_inside.ensures c.if-is_inside.false))
    (row_closes (codes "{") w (codes "}") c.args.start c.args.out.now c.put-2.new.out c.put_pairs.new.out c.put-3.new.out c.in_ok-put_pairs.field-0 (Err NoMemory) brace_is c.in_ok-put-2.ensures.ok c.in_ok-put_pairs.ensures
    (whole_lacks (codes "}") c.args.start c.put_pairs.new.out c.put-3.new.out end_brace_is c.in_err-put-3.ensures.err)))

pub put_dict-returns : goal.put_dict-returns
put_dict-returns t c =
    let m = c.args.arena.now in
    let ins = addresses_of c.args.inside.now in
    let w = items_by (pair_by (repr_of c.args.depth m.store (c.args.address ∷ ins))) (pairs_of m c.args.pairs.now) in
    subst (λ v. Puts {U = Unit {0}} v c.args.start c.args.out.now c.put-3.new.out (Ok tt)) (sym (not_inside c.args.address ins (codes "{...}") _ c.is_inside.result c.is_inside.ensures c.if-is_inside.false))
    (row_closes (codes "{") w (codes "}") c.args.start c.args.out.now c.put-2.new.out c.put_pairs.new.out c.put-3.new.out c.in_ok-put_pairs.field-0 (Ok tt) brace_is c.in_ok-put-2.ensures.ok c.in_ok-put_pairs.ensures
    (whole_put (codes "}") c.args.start c.put_pairs.new.out c.put-3.new.out end_brace_is c.in_ok-put-3.ensures.ok))

-- ---- pairs

no_pairs : (f : pure.Key × pure.Value → Written) (ps : List (pure.Key × pure.Value)) (n k : ℕ) → length ps ≡ k → n ≡ k → n ≡ 0 → items_by f ps ≡ Whole []
no_pairs f [] n k e h z = refl
no_pairs f (p ∷ ps) n k e h z = absurd (omega (arith, e, h, z))

pub put_pairs-returns-then-len-eq0 : goal.put_pairs-returns-then-len-eq0
put_pairs-returns-then-len-eq0 t c =
    let m = c.args.arena.now in
    let f = pair_by (repr_of c.args.depth m.store (addresses_of c.args.inside.now)) in
    ([], no_pairs f (pairs_of m c.args.pairs.now) c.len.result (length c.args.pairs.now) (length-map c.args.pairs.now (λ e. pair_of m e.1)) c.len.ensures c.if-len-eq0.true, adds_none c.args.out.now)

pub put_pairs-pair-requires : goal.put_pairs-pair-requires
put_pairs-pair-requires t c = let a = c.len.ensures in let b = c.if-len-eq0.false in omega (arith, a, b)

pub put_pairs-put_pair-requires : goal.put_pairs-put_pair-requires
put_pairs-put_pair-requires t c = (omega (arith, c.decreases), c.pair.ensures.lies c.args.arena.now c.requires)

pub put_pairs-returns-in_err-put_pair : goal.put_pairs-returns-in_err-put_pair
put_pairs-returns-in_err-put_pair t c =
    let m = c.args.arena.now in
    let f = pair_by (repr_of c.args.depth m.store (addresses_of c.args.inside.now)) in
    let ps = pairs_of m c.args.pairs.now in
    let p = pair_of m c.pair.result in
    let P : Result (Unit {0}) Fault → Type 0 = λ r. Puts {U = Unit {0}} (items_by f ps) c.args.start c.args.out.now c.put_pair.new.out r in
    let e = c.in_err-put_pair.field-0.0 in
    passed c.from_residual.result P e c.from_residual.ensures.1
    (subst (λ w. Puts {U = Unit {0}} w c.args.start c.args.out.now c.put_pair.new.out (Err e)) (sym (pairs_first f ps p (c.pair.ensures.pair m)))
    (puts_ends (Unit {0}) (Unit {0}) (f p) (rest_by f (drop 1 ps)) c.args.start c.args.out.now c.put_pair.new.out e c.in_err-put_pair.ensures))

pub put_pairs-returns : goal.put_pairs-returns
put_pairs-returns t c =
    let m = c.args.arena.now in
    let f = pair_by (repr_of c.args.depth m.store (addresses_of c.args.inside.now)) in
    let ps = pairs_of m c.args.pairs.now in
    let p = pair_of m c.pair.result in
    subst (λ w. Puts {U = Unit {0}} w c.args.start c.args.out.now c.put_other_pairs.new.out c.put_other_pairs.result) (sym (pairs_first f ps p (c.pair.ensures.pair m)))
    (puts_next (Unit {0}) (Unit {0}) (f p) (rest_by f (drop 1 ps)) c.args.start c.args.out.now c.put_pair.new.out c.put_other_pairs.new.out c.in_ok-put_pair.field-0 c.put_other_pairs.result c.in_ok-put_pair.ensures c.put_other_pairs.ensures)

pair_there : {A : Type 0} (xs : List A) (i : ℕ) → i < length xs → (x : A) × (slice_get xs i ≡ Some x)
pair_there [] i h = absurd (omega (arith, h))
pair_there (x ∷ xs) zero h = (x, refl)
pair_there (x ∷ xs) (suc i) h = pair_there xs i (omega (arith, h))

-- there is no room for the comma
comma_lacks : (f : pure.Key × pure.Value → Written) (ps : List (pure.Key × pure.Value)) (i start : ℕ) {Z : Type 0} (x y : String Z) → i < length ps → Lacks (codes ", ") x y → Puts {U = Unit {0}} (rest_by f (drop i ps)) start x y (Err NoMemory)
comma_lacks f ps i start x y h p =
    let q = pair_there ps i h in
    subst (λ w. Puts {U = Unit {0}} w start x y (Err NoMemory)) (sym (pair_left f ps i q.0 q.1))
    (puts_ends (Unit {0}) (Unit {0}) (Whole (codes ", ")) (followed (f q.0) (rest_by f (drop (i + 1) ps))) start x y NoMemory (whole_lacks (codes ", ") start x y comma_is p))

below_length : (m : Memory) (es : List (Atom × Pair)) (i n : ℕ) → n ≡ length es → i < n → i < length (pairs_of m es)
below_length m es i n e h = omega (arith, e, h, length-map es (λ e. pair_of m e.1))

pub put_other_pairs-returns-then-is_past_all : goal.put_other_pairs-returns-then-is_past_all
put_other_pairs-returns-then-is_past_all t c =
    let m = c.args.arena.now in
    let f = pair_by (repr_of c.args.depth m.store (addresses_of c.args.inside.now)) in
    let rest = rest_by f (drop c.loop-i.i (pairs_of m c.args.pairs.now)) in
    c.loop-i.invariant c.loop-i.out (Err (Raises TooLong)) (past_all rest c.args.start c.loop-i.out c.is_past_all.result c.is_past_all.ensures c.if-is_past_all.true)

pub put_other_pairs-returns-in_err-put : goal.put_other_pairs-returns-in_err-put
put_other_pairs-returns-in_err-put t c =
    let m = c.args.arena.now in
    let f = pair_by (repr_of c.args.depth m.store (addresses_of c.args.inside.now)) in
    let ps = pairs_of m c.args.pairs.now in
    let rest = rest_by f (drop c.loop-i.i ps) in
    let P : Result (Unit {0}) Fault → Type 0 = λ r. Puts {U = Unit {0}} (rest_by f (drop 1 ps)) c.args.start c.args.out.now c.put.new.out r in
    passed c.from_residual.result P NoMemory c.from_residual.ensures.1
    (c.loop-i.invariant c.put.new.out (Err NoMemory) (comma_lacks f ps c.loop-i.i c.args.start c.loop-i.out c.put.new.out (below_length m c.args.pairs.now c.loop-i.i c.len-i-end.result c.len-i-end.ensures c.loop-i-test.true) c.in_err-put.ensures.err))

pub put_other_pairs-pair-requires : goal.put_other_pairs-pair-requires
put_other_pairs-pair-requires t c = let a = c.len-i-end.ensures in let b = c.loop-i-test.true in omega (arith, a, b)

pub put_other_pairs-put_pair-requires : goal.put_other_pairs-put_pair-requires
put_other_pairs-put_pair-requires t c = (omega (arith, c.decreases), c.pair.ensures.lies c.args.arena.now c.requires)

pub put_other_pairs-returns-in_err-put_pair : goal.put_other_pairs-returns-in_err-put_pair
put_other_pairs-returns-in_err-put_pair t c =
    let m = c.args.arena.now in
    let f = pair_by (repr_of c.args.depth m.store (addresses_of c.args.inside.now)) in
    let ps = pairs_of m c.args.pairs.now in
    let i = c.loop-i.i in
    let p = pair_of m c.pair.result in
    let later = rest_by f (drop (i + 1) ps) in
    let parts = pair_left f ps i p (c.pair.ensures.pair m) in
    let P : Result (Unit {0}) Fault → Type 0 = λ r. Puts {U = Unit {0}} (rest_by f (drop 1 ps)) c.args.start c.args.out.now c.put_pair.new.out r in
    let e = c.in_err-put_pair.field-0.0 in
    passed c.from_residual-in_err-put_pair.result P e c.from_residual-in_err-put_pair.ensures.1
    (c.loop-i.invariant c.put_pair.new.out (Err e) (subst (λ w. Puts {U = Unit {0}} w c.args.start c.loop-i.out c.put_pair.new.out (Err e)) (sym parts)
    (puts_after (Unit {0}) (codes ", ") (followed (f p) later) c.args.start c.loop-i.out c.put.new.out c.put_pair.new.out (Err e) (adds_as comma_is c.in_ok-put.ensures.ok)
    (puts_ends (Unit {0}) (Unit {0}) (f p) later c.args.start c.put.new.out c.put_pair.new.out e c.in_err-put_pair.ensures))))

pub put_other_pairs-loop-i-preserved : goal.put_other_pairs-loop-i-preserved
put_other_pairs-loop-i-preserved t c =
    let m = c.args.arena.now in
    let f = pair_by (repr_of c.args.depth m.store (addresses_of c.args.inside.now)) in
    let ps = pairs_of m c.args.pairs.now in
    let i = c.loop-i.i in
    let p = pair_of m c.pair.result in
    let later = rest_by f (drop (i + 1) ps) in
    let parts = pair_left f ps i p (c.pair.ensures.pair m) in
    λ end q h. c.loop-i.invariant end q (subst (λ w. Puts {U = Unit {0}} w c.args.start c.loop-i.out end q) (sym parts)
    (puts_after (Unit {0}) (codes ", ") (followed (f p) later) c.args.start c.loop-i.out c.put.new.out end q (adds_as comma_is c.in_ok-put.ensures.ok)
    (puts_next (Unit {0}) (Unit {0}) (f p) later c.args.start c.put.new.out c.put_pair.new.out end c.in_ok-put_pair.field-0 q c.in_ok-put_pair.ensures h)))

pub put_other_pairs-returns : goal.put_other_pairs-returns
put_other_pairs-returns t c =
    let m = c.args.arena.now in
    let f = pair_by (repr_of c.args.depth m.store (addresses_of c.args.inside.now)) in
    let ps = pairs_of m c.args.pairs.now in
    let a = c.len-i-end.ensures in
    let b = c.loop-i-test.false in
    let l : length ps ≤ c.loop-i.i = omega (arith, a, b, length-map c.args.pairs.now (λ e. pair_of m e.1)) in
    c.loop-i.invariant c.loop-i.out (Ok tt) ([], sym (no_pair_left f ps c.loop-i.i l), adds_none c.loop-i.out)

pair_is : (f : pure.Value → Written) (m : Memory) (p : Pair) → IsKey (value_of m p.key) → pair_by f (pair_of m p) ≡ after (repr_atom (value_of m p.key) ++ codes ": ") (f (value_of m p.value))
pair_is f m p h = ap (λ v. after (repr_atom v ++ codes ": ") (f (value_of m p.value))) (key_back (value_of m p.key) h)

pub put_pair-put_key-requires : goal.put_pair-put_key-requires
put_pair-put_key-requires t c = c.requires.key

pub put_pair-put_repr-requires : goal.put_pair-put_repr-requires
put_pair-put_repr-requires t c = (omega (arith, c.decreases), c.requires.value)

pub put_pair-returns-in_err-put_key : goal.put_pair-returns-in_err-put_key
put_pair-returns-in_err-put_key t c =
    let m = c.args.arena.now in
    let f = repr_of c.args.depth m.store (addresses_of c.args.inside.now) in
    let p = c.args.pair in
    let front = repr_atom (value_of m p.key) ++ codes ": " in
    let P : Result (Unit {0}) Fault → Type 0 = λ r. Puts {U = Unit {0}} (pair_by f (pair_of m p)) c.args.start c.args.out.now c.put_key.new.out r in
    passed c.from_residual.result P NoMemory c.from_residual.ensures.1
    (subst (λ w. Puts {U = Unit {0}} w c.args.start c.args.out.now c.put_key.new.out (Err NoMemory)) (sym (pair_is f m p c.requires.is_key))
    (puts_ends (Unit {0}) (Unit {0}) (Whole front) (f (value_of m p.value)) c.args.start c.args.out.now c.put_key.new.out NoMemory (whole_lacks front c.args.start c.args.out.now c.put_key.new.out refl c.in_err-put_key.ensures.err)))

pub put_pair-returns : goal.put_pair-returns
put_pair-returns t c =
    let m = c.args.arena.now in
    let f = repr_of c.args.depth m.store (addresses_of c.args.inside.now) in
    let p = c.args.pair in
    let front = repr_atom (value_of m p.key) ++ codes ": " in
    subst (λ w. Puts {U = Unit {0}} w c.args.start c.args.out.now c.put_repr.new.out c.put_repr.result) (sym (pair_is f m p c.requires.is_key))
    (puts_after (Unit {0}) front (f (value_of m p.value)) c.args.start c.args.out.now c.put_key.new.out c.put_repr.new.out c.put_repr.result c.in_ok-put_key.ensures.ok c.put_repr.ensures)

-- ---- items

pub put_items-returns-in_err-put_repr-in-Some : goal.put_items-returns-in_err-put_repr-in-Some
put_items-returns-in_err-put_repr-in-Some t c =
    let m = c.args.arena.now in
    let f = repr_of c.args.depth m.store (addresses_of c.args.inside.now) in
    let v = value_of m c.in-Some.first.now in
    let vs = all_of m c.in-Some.others.now in
    let P : Result (Unit {0}) Fault → Type 0 = λ r. Puts {U = Unit {0}} (items_by f (all_of m c.args.items.now)) c.args.start c.args.out.now c.put_repr.new.out r in
    let parts = ap (λ xs. items_by f (all_of m xs)) c.in-Some.ensures.cases.0 in
    let e = c.in_err-put_repr-in-Some.field-0.0 in
    passed c.from_residual.result P e c.from_residual.ensures.1
    (subst (λ w. Puts {U = Unit {0}} w c.args.start c.args.out.now c.put_repr.new.out (Err e)) (sym parts)
    (puts_ends (Unit {0}) (Unit {0}) (f v) (rest_by f vs) c.args.start c.args.out.now c.put_repr.new.out e c.in_err-put_repr-in-Some.ensures))

pub put_items-returns-in_ok-put_repr-in-Some : goal.put_items-returns-in_ok-put_repr-in-Some
put_items-returns-in_ok-put_repr-in-Some t c =
    let m = c.args.arena.now in
    let f = repr_of c.args.depth m.store (addresses_of c.args.inside.now) in
    let v = value_of m c.in-Some.first.now in
    let vs = all_of m c.in-Some.others.now in
    let P : Result (Unit {0}) Fault → Type 0 = λ r. Puts {U = Unit {0}} (items_by f (all_of m c.args.items.now)) c.args.start c.args.out.now c.put_others.new.out r in
    let parts = ap (λ xs. items_by f (all_of m xs)) c.in-Some.ensures.cases.0 in
    subst (λ w. Puts {U = Unit {0}} w c.args.start c.args.out.now c.put_others.new.out c.put_others.result) (sym parts)
    (puts_next (Unit {0}) (Unit {0}) (f v) (rest_by f vs) c.args.start c.args.out.now c.put_repr.new.out c.put_others.new.out c.in_ok-put_repr-in-Some.field-0 c.put_others.result c.in_ok-put_repr-in-Some.ensures c.put_others.ensures)

pub put_others-returns-then-is_past_all : goal.put_others-returns-then-is_past_all
put_others-returns-then-is_past_all t c =
    let m = c.args.arena.now in
    let rest = rest_by (repr_of c.args.depth m.store (addresses_of c.args.inside.now)) (all_of m (drop c.loop-item.item-index c.args.items.now)) in
    c.loop-item.invariant c.loop-item.out (Err (Raises TooLong)) (past_all rest c.args.start c.loop-item.out c.is_past_all.result c.is_past_all.ensures c.if-is_past_all.true)

pub put_others-returns-in_err-put : goal.put_others-returns-in_err-put
put_others-returns-in_err-put t c =
    let m = c.args.arena.now in
    let n = c.args.depth in
    let rs = c.args.items.now in
    let i = c.loop-item.item-index in
    let r = c.item-item.result in
    let f = repr_of n m.store (addresses_of c.args.inside.now) in
    let v = value_of m r in
    let later = rest_by f (all_of m (drop (i + 1) rs)) in
    let parts = rest_left f m rs i r c.loop-item-test.true c.item-item.is in
    let P : Result (Unit {0}) Fault → Type 0 = λ r. Puts {U = Unit {0}} (rest_by f (all_of m rs)) c.args.start c.args.out.now c.put.new.out r in
    passed c.from_residual.result P NoMemory c.from_residual.ensures.1
    (c.loop-item.invariant c.put.new.out (Err NoMemory) (subst (λ w. Puts {U = Unit {0}} w c.args.start c.loop-item.out c.put.new.out (Err NoMemory)) (sym parts)
    (puts_ends (Unit {0}) (Unit {0}) (Whole (codes ", ")) (followed (f v) later) c.args.start c.loop-item.out c.put.new.out NoMemory (whole_lacks (codes ", ") c.args.start c.loop-item.out c.put.new.out comma_is c.in_err-put.ensures.err))))

pub put_others-put_repr-requires : goal.put_others-put_repr-requires
put_others-put_repr-requires t c =
    let m = c.args.arena.now in
    (omega (arith, c.decreases), subst (Lies m) (sym c.item-item.is) (lies_at m c.args.items.now c.loop-item.item-index c.item-item.result c.requires c.loop-item-test.true))

pub put_others-returns-in_err-put_repr : goal.put_others-returns-in_err-put_repr
put_others-returns-in_err-put_repr t c =
    let m = c.args.arena.now in
    let n = c.args.depth in
    let rs = c.args.items.now in
    let i = c.loop-item.item-index in
    let r = c.item-item.result in
    let f = repr_of n m.store (addresses_of c.args.inside.now) in
    let v = value_of m r in
    let later = rest_by f (all_of m (drop (i + 1) rs)) in
    let parts = rest_left f m rs i r c.loop-item-test.true c.item-item.is in
    let P : Result (Unit {0}) Fault → Type 0 = λ r. Puts {U = Unit {0}} (rest_by f (all_of m rs)) c.args.start c.args.out.now c.put_repr.new.out r in
    let e = c.in_err-put_repr.field-0.0 in
    passed c.from_residual-in_err-put_repr.result P e c.from_residual-in_err-put_repr.ensures.1
    (c.loop-item.invariant c.put_repr.new.out (Err e) (subst (λ w. Puts {U = Unit {0}} w c.args.start c.loop-item.out c.put_repr.new.out (Err e)) (sym parts)
    (puts_after (Unit {0}) (codes ", ") (followed (f v) later) c.args.start c.loop-item.out c.put.new.out c.put_repr.new.out (Err e) (adds_as comma_is c.in_ok-put.ensures.ok)
    (puts_ends (Unit {0}) (Unit {0}) (f v) later c.args.start c.put.new.out c.put_repr.new.out e c.in_err-put_repr.ensures))))

pub put_others-loop-item-preserved : goal.put_others-loop-item-preserved
put_others-loop-item-preserved t c =
    let m = c.args.arena.now in
    let n = c.args.depth in
    let rs = c.args.items.now in
    let i = c.loop-item.item-index in
    let r = c.item-item.result in
    let f = repr_of n m.store (addresses_of c.args.inside.now) in
    let v = value_of m r in
    let later = rest_by f (all_of m (drop (i + 1) rs)) in
    let parts = rest_left f m rs i r c.loop-item-test.true c.item-item.is in
    λ end q p. c.loop-item.invariant end q (subst (λ w. Puts {U = Unit {0}} w c.args.start c.loop-item.out end q) (sym parts)
    (puts_after (Unit {0}) (codes ", ") (followed (f v) later) c.args.start c.loop-item.out c.put.new.out end q (adds_as comma_is c.in_ok-put.ensures.ok)
    (puts_next (Unit {0}) (Unit {0}) (f v) later c.args.start c.put.new.out c.put_repr.new.out end c.in_ok-put_repr.field-0 q c.in_ok-put_repr.ensures p)))

pub put_others-returns : goal.put_others-returns
put_others-returns t c =
    let m = c.args.arena.now in
    c.loop-item.invariant c.loop-item.out (Ok tt) ([], sym (none_left (repr_of c.args.depth m.store (addresses_of c.args.inside.now)) m c.args.items.now c.loop-item.item-index c.loop-item-test.false), adds_none c.loop-item.out)

-- ---- values

abbrev Is : Memory → List ℕ → Ref → ℕ → ℕ → {Z : Type 0} → String Z → String Z → Result (Unit {0}) Fault → Type 0
Is m inside r n start old new q = Puts {U = Unit {0}} (repr_of n m.store inside (value_of m r)) start old new q

pub put_repr-returns-then-depth-eq0 : goal.put_repr-returns-then-depth-eq0
put_repr-returns-then-depth-eq0 t c =
    let m = c.args.arena.now in
    ([], tuple_bottom c.args.depth m.store (addresses_of c.args.inside.now) (all_of m c.in-Tuple.items.now) (value_of m c.args.value) c.if-depth-eq0.true c.in-Tuple.ensures.value, adds_none c.args.out.now)

pub put_repr-returns-else-depth-eq0 : goal.put_repr-returns-else-depth-eq0
put_repr-returns-else-depth-eq0 t c =
    let m = c.args.arena.now in
    let ins = addresses_of c.args.inside.now in
    let vs = all_of m c.in-Tuple.items.now in
    subst (λ w. Puts {U = Unit {0}} w c.args.start c.args.out.now c.put_row.new.out c.put_row.result) (sym (repr_tuple (c.args.depth - 1) m.store ins vs) ∙ repr_deeper c.args.depth m.store ins (pure.tuple_of vs) (value_of m c.args.value) c.if-depth-eq0.false c.in-Tuple.ensures.value)
    (c.put_row.ensures (codes "(") (tuple_end vs) opening_is (c.tuple_end.ensures m ∙ end_is vs))

pub put_repr-returns-then-depth-eq0-2 : goal.put_repr-returns-then-depth-eq0-2
put_repr-returns-then-depth-eq0-2 t c =
    let m = c.args.arena.now in
    subst (λ w. Puts {U = Unit {0}} w c.args.start c.args.out.now c.put_bottom.new.out c.put_bottom.result) (repr_bottom c.args.depth m.store (addresses_of c.args.inside.now) c.in-Object.address (value_of m c.args.value) c.if-depth-eq0-2.true c.in-Object.ensures.value) (c.put_bottom.ensures c.args.start)

pub put_repr-returns-else-depth-eq0-2 : goal.put_repr-returns-else-depth-eq0-2
put_repr-returns-else-depth-eq0-2 t c =
    let m = c.args.arena.now in
    subst (λ w. Puts {U = Unit {0}} w c.args.start c.args.out.now c.put_object.new.out c.put_object.result) (repr_deeper c.args.depth m.store (addresses_of c.args.inside.now) (pure.Address c.in-Object.address) (value_of m c.args.value) c.if-depth-eq0-2.false c.in-Object.ensures.value) c.put_object.ensures

pub put_repr-returns-in_err-put_view-in_default : goal.put_repr-returns-in_err-put_view-in_default
put_repr-returns-in_err-put_view-in_default t c =
    let m = c.args.arena.now in
    let ins = addresses_of c.args.inside.now in
    let v = c.view-view.result in
    passed c.from_residual.result (Is m ins c.args.value c.args.depth c.args.start c.args.out.now c.put_view.new.out) NoMemory c.from_residual.ensures.1
    (subst (λ w. Puts {U = Unit {0}} w c.args.start c.args.out.now c.put_view.new.out (Err NoMemory)) (sym (repr_shown c.args.depth m ins v c.args.value c.in_default.not-Tuple c.in_default.not-Object c.view-view.ensures.value))
    (c.in_err-put_view-in_default.ensures.err m))

pub put_repr-returns-in_ok-put_view-in_default : goal.put_repr-returns-in_ok-put_view-in_default
put_repr-returns-in_ok-put_view-in_default t c =
    let m = c.args.arena.now in
    let v = c.view-view.result in
    (repr_atom (value_in m v), repr_shown c.args.depth m (addresses_of c.args.inside.now) v c.args.value c.in_default.not-Tuple c.in_default.not-Object c.view-view.ensures.value, c.in_ok-put_view-in_default.ensures.ok m)
