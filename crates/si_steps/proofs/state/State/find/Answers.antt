use Rattle.std.proofs.Common.{sym, ◌∙◌}
use Rattle.si_arena.specs.declared.value.Ref.TheVariants as value
use Rattle.si_slots.specs.Views.{text_at}
use Rattle.si_steps.specs.declared.step.Step.TheVariants.{Local}
use Rattle.si_steps.proofs.Asked.{object_lies, called_itself, found_kept}
use Rattle.si_steps.proofs.Lines.{of_kind}
use Rattle.si_steps.proofs.state.State.find.Goals as goal

pub method-requires : goal.method-requires
method-requires g c =
    let s = c.args.self.now in
    record {
      lies = object_lies (text_at s.table.names c.args.slot) c.args.at s g.p (value.Object c.in-Object.address) c.requires.0 (sym c.in-Object.is ∙ c.temporary.ensures);
      sound = c.requires.0.at.1.sound;
      there = c.requires.1;
    }

pub returns-in-Some : goal.returns-in-Some
returns-in-Some g c =
    let s = c.args.self.now in
    let r = value.Object c.in-Object.address in
    let x = text_at s.table.names c.args.slot in
    let is = sym c.in-Object.is ∙ c.temporary.ensures in
    let lies = object_lies x c.args.at s g.p r c.requires.0 is in
    of_kind _ g.p s c.advance.new.self c.advance.result Local c.advance.ensures.step
    (found_kept x c.args.at s c.advance.new.self g.p r c.requires.0 is (called_itself r x s.arena c.in-Some.field-0 lies c.in-Some.ensures) c.advance.ensures.state)

pub is_list-requires : goal.is_list-requires
is_list-requires g c =
    let s = c.args.self.now in
    object_lies (text_at s.table.names c.args.slot) c.args.at s g.p (value.Object c.in-Object.address) c.requires.0 (sym c.in-Object.is ∙ c.temporary.ensures)
