use Rattle.std.proofs.Common.{ap}
use Rattle.si_semantics.specs.Value as pure
use Rattle.si_semantics.specs.Attributes.{joins_texts}
use Rattle.si_arena.specs.Texts.{characters_in}
use Rattle.si_arena.specs.Memory.{value_of}
use Rattle.si_methods.specs.Joining.{values_in}
use Rattle.si_methods.proofs.Calling.{joins_items}
use Rattle.si_methods.proofs.joining.joined_by.Goals as goal

pub returns-in-Some : goal.returns-in-Some
returns-in-Some c =
    let m = c.args.arena.now in
    joins_items (characters_in c.args.between) (value_of m c.args.items.now) m (values_in m c.in-Some.pieces) c.join_pieces.result c.in-Some.ensures.0 c.join_pieces.ensures

pub returns-in-None : goal.returns-in-None
returns-in-None c = ((λ w e. ap (λ o. joins_texts (pure.Str (characters_in c.args.between)) o w) (c.in-None.ensures w e)), tt)
