use Rattle.std.proofs.Common.{◌≡◌, ◌∙◌, ◌<◌, ap, refl, sym, subst, length, arith, slice_get, Some}
use Rattle.std.proofs.lemmas.Option.{slice_get_read}
use Rattle.si_world.specs.Worlds.{WorldView, created}
use Rattle.si_world.proofs.Copying.{free_view}
use Rattle.si_world.proofs.world.World.report.Goals as goal

pub returns : goal.returns
returns c =
    let vs = c.self.inside.interps.items in
    let i = c.args.i in
    let v = c.index.result.now in
    let made : i < created c.self.inside.hub.past = (let a = c.self.invariant.1 in let e = c.if-i-self.false in omega arith) in
    let within : i < length vs = (let a = c.self.invariant.0.count in let b = c.self.invariant.0.few in omega arith) in
    let at = slice_get_read vs (length vs) i v refl within c.index.ensures in
    let free = (c.self.invariant.0.each i v at).taken in
    let same = c.in_ok-report.ensures ∙ free_view v free in (
      subst (λ (w : WorldView). i < created w.past) c.self.view_is made,
      subst (λ (w : WorldView). slice_get w.interps i ≡ Some c.in_ok-report.report) c.self.view_is (at ∙ ap Some (sym same)),
    )
