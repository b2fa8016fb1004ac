use Rattle.std.proofs.Common.{◌∙◌, sym}
use Rattle.std.proofs.lemmas.Result.{on_ok_weaker}
use Rattle.si_interp.proofs.Answering.{one_bound}
use Rattle.si_interp.proofs.taking.bind.Goals as goal

pub returns-then-is_ascii_text-clause-bound : goal.returns-then-is_ascii_text-clause-bound
returns-then-is_ascii_text-clause-bound c =
    on_ok_weaker c.bind.result
    (λ h w waits. one_bound c.args.name.now c.as_str.result.now c.args.parcel.now w c.bind.new.self c.as_str.ensures.bytes (sym c.is_ascii_text.ensures ∙ c.if-is_ascii_text.true) (h w waits))
    c.bind.ensures.bound
