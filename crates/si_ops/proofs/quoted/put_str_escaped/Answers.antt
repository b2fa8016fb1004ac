use Rattle.std.proofs.Common.{ℕ, List, encode_utf8_all, flat_map, length, sym, ap, map-id, ◌∙◌}
use Rattle.std.proofs.lemmas.Iterator.{YieldsList-from_chars}
use Rattle.std.proofs.lemmas.Iterator.Consumers.{YieldsList-end, YieldsList-so_far, YieldsList-turn}
use Rattle.si_plain.specs.Characters.{characters_of}
use Rattle.si_plain.specs.Repr.{escaped}
use Rattle.si_ops.proofs.Adding.{on_err, escaped_in, escape_one, more_adds, next_lacks, adds_as}
use Rattle.si_ops.proofs.quoted.put_str_escaped.Goals as goal

pub loop-c-preserved : goal.loop-c-preserved
loop-c-preserved c =
    let f = escaped c.args.quote in
    more_adds (λ xs. encode_utf8_all (flat_map f xs)) (escaped_in f) c.loop-c.yielded _ _ (escape_one f _) c.loop-c.invariant c.in_ok-put_escaped.ensures.ok

pub returns-in_err-put_escaped-clause-err : goal.returns-in_err-put_escaped-clause-err
returns-in_err-put_escaped-clause-err c =
    let f = escaped c.args.quote in
    let g = λ (xs : List ℕ). encode_utf8_all (flat_map f xs) in
    let all = characters_of c.args.text.now in
    let road = YieldsList-from_chars c.args.text.now c.utf8.text cc in
    let front = YieldsList-so_far road c.loop-c.yielded _ c.loop-c.yielded_by in
    let turn = YieldsList-turn road c.loop-c.yielded _ c.loop-c.yielded_by _ _ c.in-Some.c c.in-Some.is c.next.ensures.steps in
    on_err _ _ (next_lacks g (escaped_in f) all (length c.loop-c.yielded) c.in-Some.c _ turn.0 (ap (λ x. encode_utf8_all (f x)) turn.1 ∙ escape_one f _)
    (adds_as (ap g (sym (map-id c.loop-c.yielded) ∙ front)) c.loop-c.invariant) c.in_err-put_escaped.ensures.err)

pub returns-clause-ok : goal.returns-clause-ok
returns-clause-ok c =
    let f = escaped c.args.quote in
    let t = YieldsList-end (YieldsList-from_chars c.args.text.now c.utf8.text cc) c.loop-c.yielded _ c.loop-c.yielded_by _ _ c.in-None.is c.next.ensures.steps in
    adds_as (ap (λ xs. encode_utf8_all (flat_map f xs)) (sym (map-id c.loop-c.yielded) ∙ t.0)) c.loop-c.invariant
