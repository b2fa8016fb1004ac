use Rattle.std.proofs.Common.{◌++◌, ◌∷◌, [], ◌∙◌, List, ap₂, refl, sym, length, take, map-id}
use Rattle.std.proofs.lemmas.Option.{slice_get_read}
use Rattle.std.proofs.lemmas.Iterator.Adapters.{YieldsList-from_vec}
use Rattle.std.proofs.lemmas.Iterator.Consumers.{YieldsList-turn, YieldsList-end}
use Rattle.si_interp.specs.Meaning.{InterpView}
use Rattle.si_world.proofs.Copying.{free_view, taken_get}
use Rattle.si_world.proofs.recording.take_reports.Goals as goal

pub loop-interp-preserved : goal.loop-interp-preserved
loop-interp-preserved c =
    let all = take c.args.count c.args.interps.items in
    let xs = c.loop-interp.yielded in
    let v = c.in-Some.interp in
    let road = YieldsList-from_vec all (c.into_iter-interp-iterator.ensures.into_iter_gives.0 ∙ c.truncate.ensures.items) (cc) in
    let t = YieldsList-turn road xs _ c.loop-interp.yielded_by _ c.next.new.self v c.in-Some.is c.next.ensures.steps in
    let at = taken_get c.args.interps.items c.args.count (length xs) v (slice_get_read all (length all) (length xs) v refl t.0 t.1) in
    c.in_ok-push.ensures.items ∙ ap₂ (λ (ys : List InterpView) (x : InterpView). ys ++ x ∷ []) c.loop-interp.invariant (c.in_ok-taking.ensures ∙ free_view v (c.requires (length xs) v at))

pub returns : goal.returns
returns c =
    let all = take c.args.count c.args.interps.items in
    let xs = c.loop-interp.yielded in
    let road = YieldsList-from_vec all (c.into_iter-interp-iterator.ensures.into_iter_gives.0 ∙ c.truncate.ensures.items) (cc) in
    let t = YieldsList-end road xs _ c.loop-interp.yielded_by _ c.next.new.self c.in-None.is c.next.ensures.steps in
    c.loop-interp.invariant ∙ sym (map-id xs) ∙ t.0
