use Rattle.si_ops.proofs.Adding.{ok_as, err_as}
use Rattle.si_ops.proofs.Quoting.{bytes_shown}
use Rattle.si_ops.proofs.quoted.put_bytes.Goals as goal

pub returns-clause-ok : goal.returns-clause-ok
returns-clause-ok c = ok_as c.put_prefixed.result c.args.out.now c.put_prefixed.new.out (bytes_shown c.args.bytes.now) c.put_prefixed.ensures.ok

pub returns-clause-err : goal.returns-clause-err
returns-clause-err c = err_as c.put_prefixed.result c.args.out.now c.put_prefixed.new.out (bytes_shown c.args.bytes.now) c.put_prefixed.ensures.err
