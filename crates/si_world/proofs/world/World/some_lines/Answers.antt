use Rattle.std.proofs.Common.{◌≡◌, ℕ, Bool, ◌<◌, ◌∙◌, ap, refl, arith, subst, slice_get, Some, length}
use Rattle.std.proofs.lemmas.Option.{slice_get_read}
use Rattle.si_plain.specs.Ranges.{Numbers}
use Rattle.si_interp.specs.Meaning.{InterpView}
use Rattle.si_world.specs.Worlds.{WorldView, created}
use Rattle.si_world.specs.inner.Stretches.{Stretched}
use Rattle.si_world.proofs.Serving.{gives_none}
use Rattle.si_world.proofs.Stretching.{stretched_world, stretched_gives, stretched_ran, ran_none, has_no_line}
use Rattle.si_world.proofs.world.World.some_lines.Goals as goal
use Rattle.si_world.proofs.world.World.some_lines.Goals.{After-index_mut-interp}

was_created : (c : After-index_mut-interp) → c.args.i < created c.self.inside.hub.past
was_created c = let a = c.self.invariant.1 in let e = c.if-i-self.false in omega arith

within : (c : After-index_mut-interp) → c.args.i < length c.self.inside.interps.items
within c = let a = c.self.invariant.0.count in let b = c.self.invariant.0.few in let d = was_created c in omega arith

at : (c : After-index_mut-interp) → slice_get c.self.inside.interps.items c.args.i ≡ Some c.index_mut-interp.result.now
at c = slice_get_read c.self.inside.interps.items (length c.self.inside.interps.items) c.args.i _ refl (within c) c.index_mut-interp.ensures.value

-- the turns that are given are those of the limits
stretched : (c : After-index_mut-interp) (w : InterpView) (n : ℕ) (b : Bool) → Stretched c.turns-turns.result c.index_mut-interp.result.now n b w → Stretched c.self.inside.hub.past.limits.turns c.index_mut-interp.result.now n b w
stretched c w n b s = subst (λ (turns : ℕ). Stretched turns c.index_mut-interp.result.now n b w) (c.turns-turns.ensures.value ∙ ap (λ (l : Numbers). l.turns) c.limits.ensures) s

pub returns-then-i-self-clause-gives : goal.returns-then-i-self-clause-gives
returns-then-i-self-clause-gives c = gives_none 0 c.args.self.now (omega arith)

pub invariant_of-self : goal.invariant_of-self
invariant_of-self c = (
  stretched_world c.self.inside.hub.past c.self.inside.interps.items c.args.i c.index_mut-interp.result.now c.stretch.new.interp c.stretch.result.0 c.stretch.result.1
      c.self.invariant.0 (at (goal.at.invariant_of-self c).After-index_mut-interp) (stretched (goal.at.invariant_of-self c).After-index_mut-interp c.stretch.new.interp c.stretch.result.0 c.stretch.result.1 c.stretch.ensures.stretched) c.stretch.ensures.shows,
  c.self.invariant.1,
)

pub returns-clause-gives : goal.returns-clause-gives
returns-clause-gives c =
    stretched_gives c.self.inside.hub.past c.self.inside.interps.items c.args.i c.index_mut-interp.result.now c.stretch.new.interp c.stretch.result.0 c.stretch.result.1 c.args.self.now
    c.self.view_is (at (goal.at.returns-clause-gives c).After-index_mut-interp) (was_created (goal.at.returns-clause-gives c).After-index_mut-interp)
    (stretched (goal.at.returns-clause-gives c).After-index_mut-interp c.stretch.new.interp c.stretch.result.0 c.stretch.result.1 c.stretch.ensures.stretched)

pub returns-then-i-self-clause-ran : goal.returns-then-i-self-clause-ran
returns-then-i-self-clause-ran c = ran_none c.args.self.now c.args.i

pub returns-then-i-self-clause-all : goal.returns-then-i-self-clause-all
returns-then-i-self-clause-all c = λ e f v lt g r.
    let a = c.self.invariant.1 in
    let t = c.if-i-self.true in
    let w = ap (λ (x : WorldView). created x.past) c.self.view_is in
    absurd (omega arith)

pub returns-clause-ran : goal.returns-clause-ran
returns-clause-ran c =
    stretched_ran c.self.inside.hub.past c.self.inside.interps.items c.args.i c.index_mut-interp.result.now c.stretch.new.interp c.stretch.result.0 c.stretch.result.1 c.args.self.now
    c.self.view_is (at (goal.at.returns-clause-ran c).After-index_mut-interp) (was_created (goal.at.returns-clause-ran c).After-index_mut-interp)
    (stretched (goal.at.returns-clause-ran c).After-index_mut-interp c.stretch.new.interp c.stretch.result.0 c.stretch.result.1 c.stretch.ensures.stretched)

pub returns-clause-all : goal.returns-clause-all
returns-clause-all c = λ e f.
    has_no_line c.self.inside.hub.past c.self.inside.interps.items c.args.i c.index_mut-interp.result.now c.stretch.new.interp (at (goal.at.returns-clause-all c).After-index_mut-interp)
    (λ r. (
    let t = c.turns-turns.ensures.value ∙ ap (λ (l : Numbers). l.turns) c.limits.ensures in
    let w = ap (λ (x : WorldView). x.past.limits.turns) c.self.view_is in
    let h = c.stretch.ensures.all (omega arith) f r in
    omega arith))
