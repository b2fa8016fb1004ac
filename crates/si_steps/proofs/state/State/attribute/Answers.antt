use Rattle.std.proofs.Common.{Ok, Err, Option, subst}
use Rattle.si_semantics.specs.Value.{Text}
use Rattle.si_arena.specs.declared.value.Ref.{Ref}
use Rattle.si_arena.specs.Memory.{value_of}
use Rattle.si_methods.specs.Methods.{HasAttribute}
use Rattle.si_slots.specs.Views.{source_of, target_of, text_at}
use Rattle.si_steps.specs.inner.Operands.{words_at}
use Rattle.si_steps.proofs.Asked.{attribute_lies, attribute_given, attribute_missing, attribute_thrown}
use Rattle.si_steps.proofs.state.State.attribute.Goals as goal

pub attribute-requires : goal.attribute-requires
attribute-requires g c =
    let s = c.args.self.now in
    attribute_lies (source_of (words_at s) c.args.source) (text_at s.table.names c.args.slot) (target_of c.args.target) s g.p c.in-Ok.value c.requires.0 c.in-Ok.ensures

pub returns-in-Ok-Some : goal.returns-in-Ok-Some
returns-in-Ok-Some g c =
    let s = c.args.self.now in
    let v = value_of s.arena c.in-Ok.value in
    let x = text_at s.table.names c.args.slot in
    let k = c.in-Ok-Some in
    let named = subst (λ (t : Text). HasAttribute v t s.arena (Ok k.field-0)) c.in-Ok-name_text.ensures k.ensures in
    let has = subst (λ (o : Option Ref). HasAttribute v x s.arena (Ok o)) k.field-0-is named in
    attribute_given (source_of (words_at s) c.args.source) x c.args.target s c.put.new.self g.p c.in-Ok.value k.value c.put.result c.requires.0 c.in-Ok.ensures has c.put.ensures

pub returns-in-Ok-None : goal.returns-in-Ok-None
returns-in-Ok-None g c =
    let s = c.args.self.now in
    let v = value_of s.arena c.in-Ok.value in
    let x = text_at s.table.names c.args.slot in
    let k = c.in-Ok-None in
    let named = subst (λ (t : Text). HasAttribute v t s.arena (Ok k.field-0)) c.in-Ok-name_text.ensures k.ensures in
    let has = subst (λ (o : Option Ref). HasAttribute v x s.arena (Ok o)) k.field-0-is named in
    attribute_missing (source_of (words_at s) c.args.source) x (target_of c.args.target) s c.raise_no_attribute.new.self g.p c.in-Ok.value c.raise_no_attribute.result c.requires.0 c.in-Ok.ensures has c.raise_no_attribute.ensures

pub returns : goal.returns
returns g c =
    let s = c.args.self.now in
    let v = value_of s.arena c.in-Ok.value in
    let x = text_at s.table.names c.args.slot in
    let k = c.in-Err-attribute in
    let has = subst (λ (t : Text). HasAttribute v t s.arena (Err k.cause)) c.in-Ok-name_text.ensures k.ensures in
    attribute_thrown (source_of (words_at s) c.args.source) x (target_of c.args.target) s c.raise.new.self g.p c.in-Ok.value k.cause c.raise.result c.requires.0 c.in-Ok.ensures has c.raise.ensures
