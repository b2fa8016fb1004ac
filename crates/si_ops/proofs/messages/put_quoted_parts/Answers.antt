use Rattle.si_plain.specs.Characters.{characters_of}
use Rattle.si_ops.proofs.Adding.{ok_as, err_as}
use Rattle.si_ops.proofs.Spelling.{between_are, characters_are}
use Rattle.si_ops.proofs.messages.put_quoted_parts.Goals as goal

pub returns-clause-ok : goal.returns-clause-ok
returns-clause-ok c =
    λ t e. ok_as c.put_between.result c.args.out.now c.put_between.new.out
    (between_are c.parts_quote-quote.result (characters_of c.args.front.now) (characters_of c.args.name.now) (characters_of c.args.back.now) t c.parts_quote-quote.ensures (characters_are c.args.front.now c.args.name.now c.args.back.now t c.utf8.front c.utf8.name c.utf8.back e)) c.put_between.ensures.ok

pub returns-clause-err : goal.returns-clause-err
returns-clause-err c =
    λ t e. err_as c.put_between.result c.args.out.now c.put_between.new.out
    (between_are c.parts_quote-quote.result (characters_of c.args.front.now) (characters_of c.args.name.now) (characters_of c.args.back.now) t c.parts_quote-quote.ensures (characters_are c.args.front.now c.args.name.now c.args.back.now t c.utf8.front c.utf8.name c.utf8.back e)) c.put_between.ensures.err
