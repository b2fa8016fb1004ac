use Rattle.si_cli.specs.Report.{part_of}
use Rattle.si_cli.proofs.ReportLemmas.{appended_piece, part_appended}
use Rattle.si_cli.proofs.report.write_parts.Goals as goal

pub loop-i-preserved : goal.loop-i-preserved
loop-i-preserved g c =
    let part = part_appended _ _ c.in-Some.interp.now _ _ _ c.id.ensures c.printed.ensures c.log.ensures c.in_ok-write_part-in-Some.ensures.part in
    appended_piece part_of c.args.world.now.interps c.loop-i.i c.in-Some.interp.now _ _ _ c.in-Some.ensures c.loop-i.invariant part
