use Rattle.std.proofs.Common.{◌≡◌, Result, codes, encode_utf8_all, refl}
use Rattle.si_semantics.specs.Text.{Whole}
use Rattle.si_arena.specs.declared.cause.Fault.{Fault}
use Rattle.si_arena.specs.declared.cause.Fault.TheVariants.{NoMemory}
use Rattle.si_ops.specs.Writing.{Puts}
use Rattle.si_ops.proofs.Ends.{passed}
use Rattle.si_ops.proofs.Puts.{whole_put, whole_lacks}
use Rattle.si_ops.proofs.shown.put_thread.Goals as goal

thread_is : codes "<Thread>" ≡ encode_utf8_all (codes "<Thread>")
unfolding lib.Utf8.encode
thread_is = refl

pub returns-in_err-put : goal.returns-in_err-put
returns-in_err-put c = λ start.
    let P : Result (Unit {0}) Fault → Type 0 = λ r. Puts {U = Unit {0}} (Whole (codes "<Thread>")) start c.args.out.now c.put.new.out r in
    passed c.from_residual.result P NoMemory c.from_residual.ensures.1 (whole_lacks (codes "<Thread>") start c.args.out.now c.put.new.out thread_is c.in_err-put.ensures.err)

pub returns : goal.returns
returns c = λ start. whole_put (codes "<Thread>") start c.args.out.now c.put.new.out thread_is c.in_ok-put.ensures.ok
