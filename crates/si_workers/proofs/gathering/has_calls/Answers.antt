use Rattle.std.proofs.Common.{◌∙◌, ap, sym, arith}
use Rattle.si_world.specs.Legal.{calls_of}
use Rattle.si_workers.proofs.Left.{no_calls}
use Rattle.si_workers.proofs.Logs.{none_in_it, some_in_it}
use Rattle.si_workers.proofs.gathering.has_calls.Goals as goal

pub returns-then-i-made : goal.returns-then-i-made
returns-then-i-made c =
    let none = no_calls c.args.hub.now.past c.args.i c.facts.ensures.told (let a = c.if-i-made.true in let b = c.requires in omega arith) in
    record {
      yes = λ t. none ∙ sym (none_in_it c.args.log.now (sym c.is_empty.ensures ∙ t));
      no = λ f e. some_in_it c.args.log.now (sym c.is_empty.ensures ∙ f) (sym e ∙ none);
    }

pub returns : goal.returns
returns c = record {
  yes = λ t. ap (calls_of c.args.i) (sym c.journal.ensures) ∙ c.agrees.ensures.yes t;
  no = λ f e. c.agrees.ensures.no f (ap (calls_of c.args.i) c.journal.ensures ∙ e);
}
