use Rattle.std.proofs.Common.{pos}
use Rattle.si_ops.proofs.Adding.{ok_as, err_as}
use Rattle.si_ops.proofs.Spelling.{exec_is}
use Rattle.si_ops.proofs.atoms.put_exec.Goals as goal

pub returns-clause-ok : goal.returns-clause-ok
returns-clause-ok c = ok_as c.put_numbered.result c.args.out.now c.put_numbered.new.out (exec_is (pos c.args.id)) c.put_numbered.ensures.ok

pub returns-clause-err : goal.returns-clause-err
returns-clause-err c = err_as c.put_numbered.result c.args.out.now c.put_numbered.new.out (exec_is (pos c.args.id)) c.put_numbered.ensures.err
