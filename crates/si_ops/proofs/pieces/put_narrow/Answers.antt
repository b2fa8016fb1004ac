use Rattle.std.proofs.Common.{sym, ◌∙◌}
use Rattle.std.proofs.lemmas.Str.Ascii.{encodes-IsAscii}
use Rattle.si_ops.proofs.Adding.{ok_as, err_as}
use Rattle.si_ops.proofs.pieces.put_narrow.Goals as goal

pub returns-in-Ok-clause-ok : goal.returns-in-Ok-clause-ok
returns-in-Ok-clause-ok c =
    ok_as c.put.result c.args.out.now c.put.new.out (c.in-Ok.ensures.cases.0 ∙ sym (encodes-IsAscii c.args.characters.now c.if-is_ascii.ensures.cases)) c.put.ensures.ok

pub returns-in-Ok-clause-err : goal.returns-in-Ok-clause-err
returns-in-Ok-clause-err c =
    err_as c.put.result c.args.out.now c.put.new.out (c.in-Ok.ensures.cases.0 ∙ sym (encodes-IsAscii c.args.characters.now c.if-is_ascii.ensures.cases)) c.put.ensures.err
