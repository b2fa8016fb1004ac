use Rattle.std.proofs.Common.{sym, subst}
use Rattle.si_semantics.specs.Value as pure
use Rattle.si_semantics.specs.Attributes.{texts_in}
use Rattle.si_arena.specs.Memory.{value_of}
use Rattle.si_methods.specs.Joining.{JoinsItems}
use Rattle.si_methods.proofs.Otherwise.{joins_no_text}
use Rattle.si_methods.proofs.joining.joined.Goals as goal

pub returns-in-Some : goal.returns-in-Some
returns-in-Some c =
    let m = c.args.arena.now in
    let P : pure.Value → Type 0 = λ v. JoinsItems v (value_of m c.args.items.now) m c.joined_by.result in
    subst P (sym c.in-Some.ensures.characters) c.joined_by.ensures

pub returns-in-None : goal.returns-in-None
returns-in-None c =
    let m = c.args.arena.now in
    ((λ w e. joins_no_text (value_of m c.args.object.now) (texts_in (value_of m c.args.items.now) w) w c.in-None.ensures.characters), tt)
