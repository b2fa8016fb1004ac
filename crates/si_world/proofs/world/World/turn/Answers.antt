use Rattle.std.proofs.Common.{◌≡◌, ◌<◌, ◌∙◌, ap, refl, arith, slice_get, Some, length}
use Rattle.std.specs.Prelude.{option_and_then}
use Rattle.std.proofs.lemmas.Option.{slice_get_read}
use Rattle.si_interp.specs.Globals.{globals_of}
use Rattle.si_world.specs.Worlds.{WorldView, created}
use Rattle.si_world.proofs.Lists.{get-set_other}
use Rattle.si_world.proofs.Turning.{world_moved, turned_by}
use Rattle.si_world.proofs.world.World.turn.Goals as goal
use Rattle.si_world.proofs.world.World.turn.Goals.{After-index_mut-interp}

was_created : (c : After-index_mut-interp) → c.args.i < created c.self.inside.hub.past
was_created c = let a = c.self.invariant.1 in let e = c.if-i-self.false in omega arith

within : (c : After-index_mut-interp) → c.args.i < length c.self.inside.interps.items
within c = let a = c.self.invariant.0.count in let b = c.self.invariant.0.few in let d = was_created c in omega arith

at : (c : After-index_mut-interp) → slice_get c.self.inside.interps.items c.args.i ≡ Some c.index_mut-interp.result.now
at c = slice_get_read c.self.inside.interps.items (length c.self.inside.interps.items) c.args.i _ refl (within c) c.index_mut-interp.ensures.value

pub move_one-requires-clause-taken : goal.move_one-requires-clause-taken
move_one-requires-clause-taken c = (c.self.invariant.0.each c.args.i _ (at (goal.at.move_one-requires-clause-taken c).After-index_mut-interp)).taken

pub invariant_of-self : goal.invariant_of-self
invariant_of-self c =
    let e = c.move_one.ensures in (
      world_moved c.self.inside.hub.past c.move_one.new.hub.past c.self.inside.interps.items _ c.args.i c.index_mut-interp.result.now c.move_one.new.interp c.move_one.result
          c.self.invariant.0 (at (goal.at.invariant_of-self c).After-index_mut-interp) (record { moves = e.moves; shows = e.shows; told = e.told; few = e.few }) refl,
      e.made,
    )

pub returns-clause-turned : goal.returns-clause-turned
returns-clause-turned c =
    turned_by c.self.inside.hub.past c.move_one.new.hub.past c.self.inside.interps.items c.args.i c.index_mut-interp.result.now c.move_one.new.interp c.move_one.result c.args.self.now
    c.self.view_is (at (goal.at.returns-clause-turned c).After-index_mut-interp) c.move_one.ensures.moves (was_created (goal.at.returns-clause-turned c).After-index_mut-interp)

pub returns-clause-isolation : goal.returns-clause-isolation
returns-clause-isolation c = λ j ne. get-set_other c.self.inside.interps.items c.args.i j c.move_one.new.interp ne ∙ ap (λ (w : WorldView). slice_get w.interps j) c.self.view_is

pub returns-clause-globals : goal.returns-clause-globals
returns-clause-globals c = λ j ne. ap (option_and_then globals_of) (get-set_other c.self.inside.interps.items c.args.i j c.move_one.new.interp ne ∙ ap (λ (w : WorldView). slice_get w.interps j) c.self.view_is)
