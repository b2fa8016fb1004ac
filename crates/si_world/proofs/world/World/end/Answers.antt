use Rattle.std.proofs.Common.{◌≡◌, ◌∙◌, ◌+◌, ◌<◌, ap, refl, subst, take, length, arith, sym, ℕ}
use Rattle.std.proofs.lemmas.Option.{slice_get_read}
use Rattle.si_world.specs.Worlds.{WorldView, created}
use Rattle.si_world.specs.Reports.{end_of, first_of_ends}
use Rattle.si_world.proofs.Ends.{end_next, rests_so}
use Rattle.si_world.proofs.world.World.end.Goals as goal

pub loop-i-preserved : goal.loop-i-preserved
loop-i-preserved c =
    let vs = c.self.inside.interps.items in
    let i = c.loop-i.i in
    let within : i < length vs = (let a = c.self.invariant.0.count in let b = c.self.invariant.0.few in let d = c.self.invariant.1 in let t = c.loop-i-test.true in omega arith) in
    let at = slice_get_read vs (length vs) i c.index.result.now refl within c.index.ensures in
    let before = subst (λ (w : WorldView). c.loop-i.end ≡ end_of w.past (take i w.interps)) (sym c.self.view_is) c.loop-i.invariant in
    subst (λ (w : WorldView). c.first-end.result ≡ end_of w.past (take (i + 1) w.interps)) c.self.view_is
    (end_next c.self.inside.hub.past vs i c.index.result.now c.loop-i.end c.first-end.result at before (c.first-end.ensures ∙ ap (first_of_ends c.loop-i.end) c.end_at.ensures))

pub returns-clause-rest : goal.returns-clause-rest
returns-clause-rest c = λ ne.
    let n : c.loop-i.i ≡ c.self.inside.made = (let a = c.loop-i.auto.i-end in let b = c.loop-i-test.false in omega arith) in
    let all = n ∙ c.self.invariant.1 ∙ ap (λ (w : WorldView). created w.past) c.self.view_is in
    rests_so c.args.self.now (λ o. ne (c.loop-i.invariant ∙ ap (λ (k : ℕ). end_of c.args.self.now.past (take k c.args.self.now.interps)) all ∙ o))
