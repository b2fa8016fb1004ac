use Rattle.std.proofs.Common.{Option, arith, sym, subst}
use Rattle.si_methods.specs.declared.method.MethodName.{MethodName}
use Rattle.si_methods.specs.Methods.{IsMethodName}
use Rattle.si_slots.specs.Views.{text_at}
use Rattle.si_steps.proofs.Globals.{as_many_methods, method_name_at}
use Rattle.si_steps.proofs.state.State.method.Goals as goal

pub index-requires : goal.index-requires
index-requires c =
    let s = c.args.self.now in
    omega (arith, c.requires.there, as_many_methods s.table.names s.methods.items c.requires.sound.methods, s.methods.ok.0)

pub returns : goal.returns
returns c = λ w e.
    let s = c.args.self.now in
    let n = c.index.result.now in
    let x = text_at s.table.names c.args.slot in
    let is = subst (λ (o : Option MethodName). IsMethodName x o) (sym c.index.ensures) (method_name_at s.table.names s.methods.items c.args.slot n c.requires.sound.methods c.requires.there) in
    c.method_at.ensures x w is e
