use Rattle.si_semantics.specs.Tree.{Module}
use Rattle.si_scope.specs.Scripts.{script_of}
use Rattle.si_slots.specs.Machine.{Table}
use Rattle.si_slots.specs.Views.{table_of}
use Rattle.std.proofs.Common.{ℕ}
use Rattle.si_interp.proofs.Answering.{awaits_lent, both_ok, entry_is, never_closes, run_leads}
use Rattle.si_interp.proofs.taking.begin.Goals as goal

pub resume-requires : goal.resume-requires
resume-requires g c =
    let tree : Module = record { body = script_of c.args.script.now } in
    let entry : Table × ℕ = (table_of c.compile.new.table, c.in_ok-at.at) in
    let is = entry_is g.c tree entry c.lend_table-table.result c.args.machine.now c.requires.0 c.lend_table-table.ensures.lent c.in_ok-at.ensures.ok in (
      awaits_lent g.c.world c.args.machine.now c.lend_table-table.new.self c.lend_table-table.result c.compile.new.table c.requires.0.waits c.lend_table-table.ensures.rest c.lend_table-table.ensures.lent c.in_ok-at.ensures.extends,
      never_closes g.c tree entry c.requires.1 is,
    )

pub returns-clause-begun : goal.returns-clause-begun
returns-clause-begun g c =
    let tree : Module = record { body = script_of c.args.script.now } in
    let entry : Table × ℕ = (table_of c.compile.new.table, c.in_ok-at.at) in
    let is = entry_is g.c tree entry c.lend_table-table.result c.args.machine.now c.requires.0 c.lend_table-table.ensures.lent c.in_ok-at.ensures.ok in
    both_ok c.resume.result (λ stands runs. run_leads g.c tree entry c.args.machine.now c.resume.new.self c.requires.0 is stands runs) c.resume.ensures.stands c.resume.ensures.running
