use Rattle.std.proofs.Common.{◌≡◌, ◌<◌, ◌∙◌, List, ap, sym, arith, refl, length, slice_get, Some}
use Rattle.std.proofs.lemmas.Option.{slice_get_read}
use Rattle.si_plain.specs.Ranges.{Numbers}
use Rattle.si_semantics.specs.History.{Call}
use Rattle.si_workers.proofs.Finding.{created_none, created_some, created_more}
use Rattle.si_workers.proofs.gathering.created.Goals as goal

pub loop-call-init : goal.loop-call-init
loop-call-init c = sym (created_none c.args.hub.now.past)

pub created_after-made-requires : goal.created_after-made-requires
created_after-made-requires c =
    let a = c.loop-call.invariant in
    let b = created_some c.args.hub.now.past c.loop-call.call-index c.facts.ensures.told in
    let d = c.facts.ensures.few in
    let e = c.interpreters-most.ensures.value in
    let f = c.interpreters-most.ensures.most in
    let g = ap (λ (l : Numbers). l.interpreters) c.limits.ensures in
    omega arith

pub loop-call-preserved : goal.loop-call-preserved
loop-call-preserved c =
    let p = c.args.hub.now.past in
    let js = c.journal-journal.result.now in
    let k = c.loop-call.call-index in
    let lt : k < length js = (let a = c.loop-call-test.true in omega arith) in
    let at : slice_get p.journal k ≡ Some c.call-item.result =
    ap (λ (cs : List Call). slice_get cs k) (sym c.journal-journal.ensures) ∙ slice_get_read js (length js) k c.call-item.result refl lt c.call-item.is in
    created_more p k c.call-item.result c.loop-call.made c.created_after-made.result c.facts.ensures.told at c.loop-call.invariant c.created_after-made.ensures
