use Rattle.std.proofs.Common.{◌≡◌, ◌-◌, [], ◌∷◌, length, ap, subst, ◌∙◌, arith}
use Rattle.std.proofs.lemmas.Result.{on_ok_weaker}
use Rattle.si_syntax.specs.Trees.{target_of}
use Rattle.si_slots.specs.Code.{item_target}
use Rattle.si_slots.specs.Machine as machine
use Rattle.si_slots.specs.Views.{Gains}
use Rattle.si_emit.proofs.Noted.{noted_gains}
use Rattle.si_emit.proofs.loops.emit_next.Goals as goal

pub returns-clause-ok : goal.returns-clause-ok
returns-clause-ok c =
    let t = c.args.table.now in
    let noted = ap (λ t. length t.lines) c.note_again.ensures in
    let far : c.in_ok-back.back ≡ length t.lines - c.args.entry = grind (arith, c.in_ok-back.ensures.cases, c.try_from.ensures, c.saturating_sub-lines.ensures, c.len.ensures, noted) in
    let same = ap (λ g. machine.NextItem g c.in_ok-back.back) c.place_of_item.ensures ∙ ap (machine.NextItem (item_target c.args.locals.now (target_of c.args.target.now))) far in
    on_ok_weaker c.put.result (λ h. noted_gains c.note_again.ensures (subst (λ i. Gains c.note_again.new.self c.put.new.self (i ∷ [])) same h)) c.put.ensures.ok
