use Rattle.std.proofs.Common.{◌≡◌, ◌∙◌, false, length, ap, sym}
use Rattle.std.specs.Prelude.{nat_lt}
use Rattle.si_semantics.specs.Text.{max_length}
use Rattle.si_arena.specs.Causes.{no_attribute}
use Rattle.si_arena.specs.declared.cause.Cause.TheVariants.{NoAttribute}
use Rattle.si_slots.specs.Views.{text_at}
use Rattle.si_steps.specs.inner.Asking.{missing_line}
use Rattle.si_steps.specs.inner.Pieces.{raised_line}
use Rattle.si_steps.proofs.Asked.{missing_named, with_arena}
use Rattle.si_steps.proofs.Globals.{slot_text}
use Rattle.si_steps.proofs.Lines.{alike}
use Rattle.si_steps.proofs.Sources.{did_over, named_there, under_way_named}
use Rattle.si_steps.proofs.state.State.raise_no_attribute.Goals as goal

pub raise-requires-in-Ok : goal.raise-requires-in-Ok
raise-requires-in-Ok g c =
    let is = c.in-Ok.ensures.ok in
    (under_way_named c.args.self.now c.add_name.new.arena g.p is c.requires.0, (named_there is).0)

pub returns-in-Ok : goal.returns-in-Ok
returns-in-Ok g c =
    let s = c.args.self.now in
    let m = c.add_name.new.arena in
    let n = c.in-Ok.number in
    let new = c.raise-in-Ok.new.self in
    let r = c.raise-in-Ok.result in
    let x = text_at s.table.names c.args.slot in
    let same = slot_text s.table.names c.args.slot c.in-Some.name.now c.in-Some.ensures in
    let short : nat_lt max_length (length (no_attribute x)) ≡ false =
    ap (λ t. nat_lt max_length (length (no_attribute t))) same ∙ (sym c.is_too_long_about.ensures ∙ c.if-is_too_long_about.false) in
    let line = missing_named x n (with_arena m s) g.p short ((named_there c.in-Ok.ensures.ok).1 ∙ sym same) in
    did_over (missing_line x g.p) g.p s new m r
    (alike (missing_line x g.p) (raised_line (NoAttribute n) (with_arena m s) g.p) g.p (with_arena m s) new r line c.raise-in-Ok.ensures)
