use Rattle.std.proofs.Common.{◌≡◌, ◌<◌, [], ◌∷◌, ℕ, length, get_or, Some, sym, subst, ap, arith}
use Rattle.std.proofs.lemmas.List.{length-map}
use Rattle.std.proofs.lemmas.Option.{slice_get-get_or}
use Rattle.si_semantics.specs.Value as pure
use Rattle.si_semantics.specs.Tuples as tuples
use Rattle.si_arena.specs.Texts.{characters_in}
use Rattle.si_arena.specs.Memory.{value_of, all_of, AllLie}
use Rattle.si_arena.proofs.Sizes.{lies_at}
use Rattle.si_methods.specs.declared.joining.Pieces.{Pieces}
use Rattle.si_methods.specs.Joining.{values_in, IsPiece}
use Rattle.si_methods.proofs.Joined.{characters_count, character_there}
use Rattle.si_methods.proofs.Sending.{value_there}
use Rattle.si_methods.proofs.joining.piece_at.Goals as goal

pub characters_of-requires : goal.characters_of-requires
characters_of-requires c =
    let m = c.args.arena.now in
    let rs = c.in-Values.items.now in
    let lie : AllLie m rs = rw c.in-Values.is at c.requires.lie in
    let within : c.args.at < length (all_of m rs) = rw c.in-Values.is at c.requires.at in
    let same : length (all_of m rs) ≡ length rs = length-map rs (value_of m) in
    let there : c.args.at < length rs = omega arith in
    lies_at m rs c.args.at c.index-items-at.result c.index-items-at.result c.index-items-at.is there lie

pub character-requires : goal.character-requires
character-requires c =
    let cs = characters_in c.in-Characters.characters in
    let within : c.args.at < length (tuples.characters_in cs) = rw c.in-Characters.is at c.requires.at in
    let same : length (tuples.characters_in cs) ≡ length cs = characters_count cs in
    omega arith

pub returns-in-Values : goal.returns-in-Values
returns-in-Values c =
    let m = c.args.arena.now in
    let rs = c.in-Values.items.now in
    let within : c.args.at < length (all_of m rs) = rw c.in-Values.is at c.requires.at in
    let same : length (all_of m rs) ≡ length rs = length-map rs (value_of m) in
    let there : c.args.at < length rs = omega arith in
    let r = c.index-items-at.result in
    let P : Pieces → Type 0 = λ p. IsPiece (values_in m p) c.args.at c.characters_of.result in
    subst P (sym c.in-Values.is) (record { value = value_of m r; there = value_there m rs c.args.at r r c.index-items-at.is there; shown = c.characters_of.ensures.characters })

pub returns-in-Characters : goal.returns-in-Characters
returns-in-Characters c =
    let m = c.args.arena.now in
    let cs = characters_in c.in-Characters.characters in
    let within : c.args.at < length (tuples.characters_in cs) = rw c.in-Characters.is at c.requires.at in
    let same : length (tuples.characters_in cs) ≡ length cs = characters_count cs in
    let there : c.args.at < length cs = omega arith in
    let x : ℕ = get_or cs c.args.at 0 in
    let P : Pieces → Type 0 = λ p. IsPiece (values_in m p) c.args.at (Some c.character.result) in
    subst P (sym c.in-Characters.is) (record { value = pure.Str (x ∷ []); there = character_there cs c.args.at x (slice_get-get_or cs c.args.at 0 there); shown = ap pure.Str (sym c.character.ensures) })
