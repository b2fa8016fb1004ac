use Rattle.std.proofs.Common.{ap, ◌∙◌}
use Rattle.si_semantics.specs.Attributes.{alone, asks_interpreter}
use Rattle.si_arena.specs.Memory.{value_of, all_of}
use Rattle.si_methods.proofs.Passed.{alone_refuses, no_values}
use Rattle.si_methods.proofs.Otherwise.{no_interpreter}
use Rattle.si_methods.proofs.interpreters.asked.Goals as goal

pub returns-then-not-is_empty : goal.returns-then-not-is_empty
returns-then-not-is_empty c = λ request.
    let m = c.args.arena.now in
    let v = value_of m c.args.object in
    ((λ w e. alone_refuses m c.args.arguments.now c.is_empty.result (asks_interpreter request v w) w c.is_empty.ensures c.if-not-is_empty.true), tt)

pub returns-in-Some : goal.returns-in-Some
returns-in-Some c = λ request w.
    let m = c.args.arena.now in
    let v = value_of m c.args.object in
    let none = no_values c.args.arguments.now c.is_empty.result c.is_empty.ensures c.if-not-is_empty.false in
    ap (λ xs. alone (all_of m xs) (asks_interpreter request v w) w) none ∙ ap (λ u. asks_interpreter request u w) c.in-Some.ensures

pub returns-in-None : goal.returns-in-None
returns-in-None c = λ request.
    let m = c.args.arena.now in
    let v = value_of m c.args.object in
    let none = no_values c.args.arguments.now c.is_empty.result c.is_empty.ensures c.if-not-is_empty.false in
    ((λ w e. ap (λ xs. alone (all_of m xs) (asks_interpreter request v w) w) none ∙ no_interpreter v request w c.in-None.ensures), tt)
