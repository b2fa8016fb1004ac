use Rattle.std.proofs.Common.{◌≡◌, ◌∙◌, Ok, Some, ap, sym}
use Rattle.std.specs.Prelude.{option_map}
use Rattle.si_arena.specs.Memory.{value_of}
use Rattle.si_ops.proofs.Ends.{passed}
use Rattle.si_steps.specs.Moments.{ground_of, global_of}
use Rattle.si_steps.specs.Shown.{ShowsGlobal, shown_in}
use Rattle.si_steps.proofs.Shown.{shown_bound, shown_not}
use Rattle.si_steps.proofs.state.State.show_global.Goals as goal
use Rattle.si_steps.proofs.state.State.show_global.Goals.{After-branch-text}

-- the value that was found
found : (c : After-branch-text) → Some (value_of c.args.self.now.arena c.in-Some.value) ≡ global_of c.args.self.now.arena c.args.self.now.table.names c.args.self.now.globals.items c.args.name.now
found c = ap (option_map (value_of c.args.self.now.arena)) (sym c.in-Some.is) ∙ c.in_ok-global_named.ensures.value

pub returns-in_err-text-in-Some : goal.returns-in_err-text-in-Some
returns-in_err-text-in-Some c = λ w h.
    let x = c.args.name.now in
    let e = c.in_err-text-in-Some.field-0.0 in
    passed c.from_residual-in_err-text-in-Some.result (ShowsGlobal (shown_in w x)) e c.from_residual-in_err-text-in-Some.ensures.1
    (shown_not (ground_of c.args.self.now) w x c.in-Some.value e (found (goal.at.returns-in_err-text-in-Some c).After-branch-text) c.in_err-text-in-Some.ensures h)

pub returns-in_ok-text-in-Some : goal.returns-in_ok-text-in-Some
returns-in_ok-text-in-Some c = λ w h.
    shown_bound (ground_of c.args.self.now) w c.args.name.now c.in-Some.value (Ok c.in_ok-text-in-Some.text) (found (goal.at.returns-in_ok-text-in-Some c).After-branch-text) c.in_ok-text-in-Some.ensures h
