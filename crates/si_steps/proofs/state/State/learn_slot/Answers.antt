use Rattle.std.proofs.Common.{◌≡◌, Some, ap, sym, subst, ◌∙◌}
use Rattle.std.specs.Prelude.{slice_get}
use Rattle.si_semantics.specs.Value.{Text}
use Rattle.si_semantics.specs.World.{first_world}
use Rattle.si_semantics.specs.Operations.{built_in}
use Rattle.si_methods.specs.Methods.{IsMethodName}
use Rattle.si_steps.proofs.Begun.{IsFirst, slot_known}
use Rattle.si_steps.proofs.state.State.learn_slot.Goals as goal

pub returns-clause-ok : goal.returns-clause-ok
returns-clause-ok c = λ w h.
    let s = c.args.self.now in
    let m = s.arena in
    let name : Text = c.in-Some.name.now in
    let n = c.of.result in
    let first : IsFirst m name c.first_global.result c.built_in.result n = record {
      holds = c.first_global.ensures.holds m;
      bound = c.first_global.ensures.value m 0 ∙ ap ((first_world 0).globals) (c.as_str.ensures.characters ∙ c.in_ok-text.ensures);
      has = c.built_in.ensures.holds m;
      built_in = c.built_in.ensures.value m ∙ ap built_in (c.as_str-2.ensures.characters ∙ c.in_ok-text.ensures);
      method = subst (λ (x : Text). IsMethodName x n) (c.as_str-3.ensures.characters ∙ c.in_ok-text.ensures) c.of.ensures;
    } in
    slot_known s.own s.table m s.literals.items s.names.items s.globals.items c.push.new.self.items s.built_ins.items c.push-2.new.self.items s.methods.items c.push-3.new.self.items w name c.first_global.result c.built_in.result n h
    (subst (λ k. slice_get s.table.names k ≡ Some name) c.requires.first (sym c.in-Some.ensures)) first
    c.in_ok-push.ensures.items c.in_ok-push-2.ensures.items c.in_ok-push-3.ensures.items
