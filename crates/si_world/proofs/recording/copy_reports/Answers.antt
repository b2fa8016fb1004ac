use Rattle.std.proofs.Common.{◌++◌, ◌∷◌, [], ◌∙◌, ◌<◌, List, ap₂, refl, sym, length, arith}
use Rattle.std.proofs.lemmas.Option.{slice_get_read}
use Rattle.si_interp.specs.Meaning.{InterpView}
use Rattle.si_world.proofs.Copying.{free_view, take_get}
use Rattle.si_world.proofs.recording.copy_reports.Goals as goal

pub loop-i-preserved : goal.loop-i-preserved
loop-i-preserved c =
    let vs = c.args.interps.now in
    let i = c.loop-i.i in
    let v = c.index-interps-i.result in
    let within : i < length vs = (let a = c.requires.within in let t = c.loop-i-test.true in omega arith) in
    let at = slice_get_read vs (length vs) i v refl within c.index-interps-i.is in
    c.in_ok-push.ensures.items ∙ ap₂ (λ (xs : List InterpView) (x : InterpView). xs ++ x ∷ []) c.loop-i.invariant (c.in_ok-of.ensures ∙ free_view v (c.requires.taken i v at))
    ∙ sym (take_get vs i v at)
