use Rattle.std.proofs.Common.{encode_utf8_all, ap, sym, ◌∙◌}
use Rattle.si_arena.specs.Causes.{message_of, name_at}
use Rattle.si_ops.proofs.Spelling.{not_defined_is, not_bound_is, no_attribute_is, refusal_is}
use Rattle.si_ops.proofs.messages.parts_of.Goals as goal

pub returns-in-NotDefined : goal.returns-in-NotDefined
returns-in-NotDefined c =
    let names = c.args.arena.now.names in
    not_defined_is (name_at names c.in-NotDefined.name) _ (c.as_str.ensures.bytes ∙ ap encode_utf8_all c.name.ensures) ∙ ap (λ k. encode_utf8_all (message_of names k)) (sym c.in-NotDefined.is)

pub returns-in-NotBound : goal.returns-in-NotBound
returns-in-NotBound c =
    let names = c.args.arena.now.names in
    not_bound_is (name_at names c.in-NotBound.name) _ (c.as_str-in-NotBound.ensures.bytes ∙ ap encode_utf8_all c.name-in-NotBound.ensures) ∙ ap (λ k. encode_utf8_all (message_of names k)) (sym c.in-NotBound.is)

pub returns-in-NoAttribute : goal.returns-in-NoAttribute
returns-in-NoAttribute c =
    let names = c.args.arena.now.names in
    no_attribute_is (name_at names c.in-NoAttribute.name) _ (c.as_str-in-NoAttribute.ensures.bytes ∙ ap encode_utf8_all c.name-in-NoAttribute.ensures) ∙ ap (λ k. encode_utf8_all (message_of names k)) (sym c.in-NoAttribute.is)

pub returns-in-Refused : goal.returns-in-Refused
returns-in-Refused c =
    let names = c.args.arena.now.names in
    c.fixed-in-Refused.ensures ∙ c.message.ensures ∙ refusal_is c.in-Refused.refusal ∙ ap (λ k. encode_utf8_all (message_of names k)) (sym c.in-Refused.is)
