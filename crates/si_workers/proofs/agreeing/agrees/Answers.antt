use Rattle.std.proofs.Common.{◌≡◌, ◌++◌, ◌<◌, ◌+◌, ◌∙◌, List, ap, arith, refl, subst, length, take, drop}
use Rattle.std.proofs.lemmas.List.{take_all}
use Rattle.std.proofs.lemmas.Option.{slice_get_read}
use Rattle.si_semantics.specs.History.{Call}
use Rattle.si_world.specs.Legal.{calls_of, exchanges}
use Rattle.si_workers.proofs.Logs.{split_at, log_long, long_or}
use Rattle.si_workers.proofs.agreeing.agrees.Goals as goal

pub returns-in-None-clause-no : goal.returns-in-None-clause-no
returns-in-None-clause-no c = λ f e.
    let js = c.args.journal.now in
    let k = c.loop-call.call-index in
    let lt : k < length js = (let a = c.loop-call-test.true in omega arith) in
    let at = slice_get_read js (length js) k c.call-item.result refl lt c.call-item.is in
    c.in-None.ensures.differs (take k js) (drop (k + 1) js) c.loop-call.invariant.so_far (ap (calls_of c.args.i) (split_at js k c.call-item.result at) ∙ e)

pub returns-clause-no : goal.returns-clause-no
returns-clause-no c = λ f e.
    let js = c.args.journal.now in
    let k = c.loop-call.call-index in
    let all : take k js ≡ js = take_all k js c.loop-call-test.false in
    let so_far = subst (λ (cs : List Call). exchanges c.args.log.now ≡ calls_of c.args.i cs ++ exchanges (drop c.loop-call.next c.args.log.now)) all c.loop-call.invariant.so_far in
    log_long c.args.i js c.args.log.now c.loop-call.next (long_or c.loop-call.next (length c.args.log.now) c.loop-call.invariant.within f) so_far e
