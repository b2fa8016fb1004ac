use Rattle.std.proofs.Common.{List, subst, ap, sym, ◌∙◌}
use Rattle.si_arena.specs.declared.value.Ref.{Ref}
use Rattle.si_methods.specs.Needing.{AreBare}
use Rattle.std.specs.Prelude.{codes}
use Rattle.si_semantics.specs.Attributes.{one_argument, puts}
use Rattle.si_arena.specs.Memory.{value_of, all_of}
use Rattle.si_methods.proofs.Words.{obj_word}
use Rattle.si_methods.proofs.Calling.{puts_through}
use Rattle.si_methods.proofs.queues.item_put.Goals as goal

pub put_into-requires-clause-item : goal.put_into-requires-clause-item
put_into-requires-clause-item c = (c.in-Some.ensures c.args.arena.now c.requires.arguments).0

pub returns-in-Some-clause-puts : goal.returns-in-Some-clause-puts
returns-in-Some-clause-puts c =
    let m = c.args.arena.now in
    let vs = all_of m c.args.arguments.now in
    let names = c.args.names.now in
    let p = c.in-Some.ensures m c.requires.arguments in
    puts_through (λ does w. one_argument (codes "obj") vs names does w) (λ does w. does (value_of m c.in-Some.item)) (value_of m c.args.object) m c.put_into.result
    (λ does w. ap (λ x. one_argument x vs names does w) (sym obj_word) ∙ p.1 does w)
    c.put_into.ensures.puts

pub returns-in-None-clause-puts : goal.returns-in-None-clause-puts
returns-in-None-clause-puts c = λ request.
    let m = c.args.arena.now in
    let vs = all_of m c.args.arguments.now in
    let names = c.args.names.now in
    let v = value_of m c.args.object in (
      (λ w e.
          ap (λ x. one_argument x vs names (λ u. puts request v u w) w) (sym obj_word)
          ∙ c.in-None.ensures m (λ u. puts request v u w) w),
      tt,
    )

pub returns-in-Some-clause-memory : goal.returns-in-Some-clause-memory
returns-in-Some-clause-memory c = λ h.
    let m = c.args.arena.now in
    let P : List Ref → Type 0 = λ xs. AreBare (all_of m xs) in
    c.put_into.ensures.memory (subst P (c.in-Some.ensures m c.requires.arguments).2 h).0
