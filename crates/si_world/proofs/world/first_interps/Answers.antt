use Rattle.std.proofs.Common.{◌≡◌, ◌+◌, ◌++◌, ◌∷◌, [], List, ◌∙◌, sym, ap, subst, arith}
use Rattle.si_interp.specs.Meaning.{InterpView}
use Rattle.si_world.specs.Worlds.{first_view, first_views}
use Rattle.si_world.specs.inner.Firsts.{AllShow}
use Rattle.si_world.proofs.Firsts.{views_more, show_more}
use Rattle.si_world.proofs.world.first_interps.Goals as goal

pub loop-i-preserved : goal.loop-i-preserved
loop-i-preserved c =
    let e = c.in_ok-push.ensures.items in
    let h = c.loop-i.invariant in
    let n : 0 + c.loop-i.i ≡ c.loop-i.i = omega arith in
    record {
      views = e ∙ ap (λ (vs : List InterpView). vs ++ c.in_ok-interp.interp ∷ []) h.views ∙ ap (λ (v : InterpView). first_views 0 c.loop-i.i ++ v ∷ []) (c.in_ok-interp.ensures ∙ ap first_view (sym n)) ∙ sym (views_more 0 c.loop-i.i);
      show = subst AllShow (sym e) (show_more c.loop-i.interps.items c.in_ok-interp.interp h.show c.facts.ensures);
    }
