use Rattle.std.proofs.Common.{◌++◌, Result, Ok, Err, OnOk, OnErr, encode_utf8_all, sym, ap}
use Rattle.std.specs.Prelude.{codes}
use Rattle.std.proofs.lemmas.Str.{encodes-append}
use Rattle.si_semantics.specs.Text.{repr_atom}
use Rattle.si_arena.specs.Memory.{value_of}
use Rattle.si_ops.specs.Writing.{Lacks}
use Rattle.si_ops.proofs.Adding.{adds_as, adds_more, lacks_as, lacks_first, lacks_next}
use Rattle.si_ops.proofs.Ends.{passed}
use Rattle.si_ops.proofs.Showing.{colon_is}
use Rattle.si_ops.proofs.shown.put_key.Goals as goal

then_ok : {T E : Type 0} (r : Result T E) (P Q : Type 0) → (P → Q) → OnOk r P → OnOk r Q
then_ok (Ok x) P Q f h = f h
then_ok (Err e) P Q f h = h

then_err : {T E : Type 0} (r : Result T E) (P Q : Type 0) → (P → Q) → OnErr r P → OnErr r Q
then_err (Ok x) P Q f h = h
then_err (Err e) P Q f h = f h

pub returns-in_err-put_view-clause-err : goal.returns-in_err-put_view-clause-err
returns-in_err-put_view-clause-err c =
    let m = c.args.arena.now in
    let t = repr_atom (value_of m c.args.key) in
    let same = ap (λ v. encode_utf8_all (repr_atom v)) c.view.ensures.value in
    let whole = sym (encodes-append t (codes ": ")) in
    passed c.from_residual.result (λ r. OnErr r (Lacks (encode_utf8_all (t ++ codes ": ")) c.args.out.now c.put_view.new.out)) c.in_err-put_view.field-0.0 c.from_residual.ensures.1
    (lacks_as whole (lacks_first (encode_utf8_all (codes ": ")) (lacks_as same (c.in_err-put_view.ensures.err m))))

pub returns-clause-ok : goal.returns-clause-ok
returns-clause-ok c =
    let m = c.args.arena.now in
    let t = repr_atom (value_of m c.args.key) in
    let same = ap (λ v. encode_utf8_all (repr_atom v)) c.view.ensures.value in
    let whole = sym (encodes-append t (codes ": ")) in
    then_ok c.put.result _ _ (λ p. adds_as whole (adds_more (adds_as same (c.in_ok-put_view.ensures.ok m)) (adds_as colon_is p))) c.put.ensures.ok

pub returns-clause-err : goal.returns-clause-err
returns-clause-err c =
    let m = c.args.arena.now in
    let t = repr_atom (value_of m c.args.key) in
    let same = ap (λ v. encode_utf8_all (repr_atom v)) c.view.ensures.value in
    let whole = sym (encodes-append t (codes ": ")) in
    then_err c.put.result _ _ (λ p. lacks_as whole (lacks_next (adds_as same (c.in_ok-put_view.ensures.ok m)) (lacks_as colon_is p))) c.put.ensures.err
