use Rattle.std.proofs.Common.{Some, sym, ap, ◌∙◌}
use Rattle.si_semantics.specs.Attributes.{method_named, methods_of_object}
use Rattle.si_arena.specs.Memory.{contents_of, all_of, pairs_of}
use Rattle.si_methods.specs.Methods.{spelled}
use Rattle.si_methods.proofs.method.method_of_object.Goals as goal

pub returns-in-Plain : goal.returns-in-Plain
returns-in-Plain c = λ m. c.method_of_plain.ensures m ∙ ap (λ o. method_named (spelled c.args.name) (methods_of_object (Some (contents_of m o)))) (sym c.in-Plain.is)

pub returns-in-List : goal.returns-in-List
returns-in-List c = λ m. c.method_of_list.ensures (all_of m c.in-List.field-0.now) ∙ ap (λ o. method_named (spelled c.args.name) (methods_of_object (Some (contents_of m o)))) (sym c.in-List.is)

pub returns-in-Dict : goal.returns-in-Dict
returns-in-Dict c = λ m. c.method_of_dict.ensures (pairs_of m c.in-Dict.field-0.now) ∙ ap (λ o. method_named (spelled c.args.name) (methods_of_object (Some (contents_of m o)))) (sym c.in-Dict.is)
