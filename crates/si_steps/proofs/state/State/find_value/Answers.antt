use Rattle.std.proofs.Common.{Ok, Err, None, Option, Some, subst}
use Rattle.si_semantics.specs.Value.{Text}
use Rattle.si_arena.specs.declared.value.Ref.{Ref}
use Rattle.si_arena.specs.Memory.{value_of}
use Rattle.si_methods.specs.Methods.{HasAttribute}
use Rattle.si_slots.specs.Views.{text_at}
use Rattle.si_steps.proofs.Asked.{object_lies, called_value, found_given, found_missing, found_thrown}
use Rattle.si_steps.proofs.state.State.find_value.Goals as goal

pub attribute-requires : goal.attribute-requires
attribute-requires g c =
    let s = c.args.self.now in
    object_lies (text_at s.table.names c.args.slot) c.args.at s g.p c.args.object c.requires.0 c.requires.1.1.0

pub returns-in-Ok-Some : goal.returns-in-Ok-Some
returns-in-Ok-Some g c =
    let s = c.args.self.now in
    let r = c.args.object in
    let v = value_of s.arena r in
    let x = text_at s.table.names c.args.slot in
    let k = c.in-Ok-Some in
    let named = subst (λ (t : Text). HasAttribute v t s.arena (Ok k.field-0)) c.in-Ok.ensures k.ensures in
    let has = subst (λ (o : Option Ref). HasAttribute v x s.arena (Ok o)) k.field-0-is named in
    found_given x c.args.at s c.put.new.self g.p r k.value c.put.result c.requires.0 c.requires.1.1.0 (called_value v x s.arena (Ok (Some k.value)) c.requires.1.1.1 has) c.put.ensures

pub returns-in-Ok-None : goal.returns-in-Ok-None
returns-in-Ok-None g c =
    let s = c.args.self.now in
    let r = c.args.object in
    let v = value_of s.arena r in
    let x = text_at s.table.names c.args.slot in
    let k = c.in-Ok-None in
    let named = subst (λ (t : Text). HasAttribute v t s.arena (Ok k.field-0)) c.in-Ok.ensures k.ensures in
    let has = subst (λ (o : Option Ref). HasAttribute v x s.arena (Ok o)) k.field-0-is named in
    found_missing x c.args.at s c.raise_no_attribute.new.self g.p r c.raise_no_attribute.result c.requires.0 c.requires.1.1.0 (called_value v x s.arena (Ok None) c.requires.1.1.1 has) c.raise_no_attribute.ensures

pub returns : goal.returns
returns g c =
    let s = c.args.self.now in
    let r = c.args.object in
    let v = value_of s.arena r in
    let x = text_at s.table.names c.args.slot in
    let k = c.in-Err-attribute in
    let has = subst (λ (t : Text). HasAttribute v t s.arena (Err k.cause)) c.in-Ok.ensures k.ensures in
    found_thrown x c.args.at s c.raise.new.self g.p r k.cause c.raise.result c.requires.0 c.requires.1.1.0 (called_value v x s.arena (Err k.cause) c.requires.1.1.1 has) c.raise.ensures
