use Rattle.std.proofs.Common.{◌∙◌, ℕ, ap, sym, ◌+◌, if◌then◌else◌}
use Rattle.si_parcel.specs.Shared.{action_of, answer_of}
use Rattle.si_world.specs.inner.Counting.{is_created}
use Rattle.si_world.proofs.Counting.{created_after}
use Rattle.si_world.proofs.Turning.{from_taken}
use Rattle.si_world.proofs.moving.act_at.Goals as goal

pub count-requires : goal.count-requires
count-requires c =
    created_after c.args.hub.now.past c.act.new.self.past c.args.i (action_of c.in-Some.action) (answer_of c.in-Ok.answer) c.in-Ok.ensures.ok
    ∙ ap (λ (n : ℕ). if is_created (answer_of c.in-Ok.answer) then n + 1 else n) (sym c.requires.made)

pub returns-in-Ok-clause-moves : goal.returns-in-Ok-clause-moves
returns-in-Ok-clause-moves c =
    let s = c.in-Some.ensures.some in
    (action_of c.in-Some.action, answer_of c.in-Ok.answer, s.0, c.in-Ok.ensures.ok, from_taken _ _ _ _ s.2 c.answer.ensures)
