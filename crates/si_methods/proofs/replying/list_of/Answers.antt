use Rattle.std.proofs.Common.{◌≡◌, List, map, sym, subst, ap, ◌∙◌}
use Rattle.std.specs.Prelude.{IfOk}
use Rattle.si_semantics.specs.Value as pure
use Rattle.si_arena.specs.declared.value.Ref.TheVariants as value
use Rattle.si_arena.specs.Memory.{all_of, AllLie, IsMade}
use Rattle.si_methods.proofs.Made.{interpreters_lie, interpreters_are}
use Rattle.si_methods.proofs.replying.list_of.Goals as goal

pub make_list-requires : goal.make_list-requires
make_list-requires c =
    let e : c.in_ok-interpreters.interpreters.items ≡ map value.Interpreter c.args.ids.now = c.in_ok-interpreters.ensures in
    subst (AllLie c.args.arena.now) (sym e) (interpreters_lie c.args.arena.now c.args.ids.now)

pub returns-clause-ok : goal.returns-clause-ok
returns-clause-ok c =
    let m = c.args.arena.now in
    let e : c.in_ok-interpreters.interpreters.items ≡ map value.Interpreter c.args.ids.now = c.in_ok-interpreters.ensures in
    let P : List pure.Value → Type 0 = λ vs. IfOk c.make_list.result (λ r. IsMade (pure.Items vs) m c.make_list.new.self r) in
    subst P (ap (all_of m) e ∙ interpreters_are m c.args.ids.now) c.make_list.ensures.ok
