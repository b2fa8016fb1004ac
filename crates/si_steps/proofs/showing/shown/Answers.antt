use Rattle.std.proofs.Common.{Ok, ap, sym, ◌∙◌}
use Rattle.si_semantics.specs.Text.{repr_in}
use Rattle.si_arena.specs.Memory.{value_of}
use Rattle.si_steps.proofs.Shown.{written_text}
use Rattle.si_steps.proofs.showing.shown.Goals as goal

pub returns-in-Ok : goal.returns-in-Ok
returns-in-Ok c =
    let m = c.args.arena.now in
    let h = c.in-Ok.ensures in
    written_text (repr_in m.store (value_of m c.args.value)) c.new-text.result c.push_repr.new.out c.as_str.result.now h.0 c.new-text.ensures.bytes h.1 h.2 c.as_str.ensures.value
    ∙ ap Ok (sym c.in_ok-from_str-in-Ok.ensures)
