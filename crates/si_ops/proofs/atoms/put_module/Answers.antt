use Rattle.si_ops.proofs.Adding.{ok_as, err_as}
use Rattle.si_ops.proofs.Spelling.{module_is}
use Rattle.si_ops.proofs.atoms.put_module.Goals as goal

pub returns-clause-ok : goal.returns-clause-ok
returns-clause-ok c = ok_as c.put_within.result c.args.out.now c.put_within.new.out (module_is c.args.name _ c.full_name.ensures) c.put_within.ensures.ok

pub returns-clause-err : goal.returns-clause-err
returns-clause-err c = err_as c.put_within.result c.args.out.now c.put_within.new.out (module_is c.args.name _ c.full_name.ensures) c.put_within.ensures.err
