use Rattle.si_slots.specs.Views.{source_of}
use Rattle.si_steps.specs.inner.Operands.{words_at}
use Rattle.si_steps.proofs.Unpacked.{laid_did, not_unpacked_did}
use Rattle.si_steps.proofs.state.State.unpack.Goals as goal

pub returns-in-Ok-unpacks : goal.returns-in-Ok-unpacks
returns-in-Ok-unpacks g c =
    let s = c.args.self.now in
    laid_did (source_of (words_at s) c.args.source) c.in-Ok.value c.args.at c.args.count s c.lay_out.new.self g.p c.lay_out.result c.requires.0 c.in-Ok.ensures c.in-Ok-unpacks.ensures c.lay_out.ensures

pub returns-in-Err-unpacks : goal.returns-in-Err-unpacks
returns-in-Err-unpacks g c =
    let s = c.args.self.now in
    not_unpacked_did (source_of (words_at s) c.args.source) c.in-Ok.value c.args.at c.args.count c.in-Err-unpacks.cause s c.raise.new.self g.p c.raise.result c.requires.0 c.in-Ok.ensures c.in-Err-unpacks.ensures c.raise.ensures
