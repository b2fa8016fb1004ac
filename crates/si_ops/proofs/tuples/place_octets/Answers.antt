use Rattle.std.proofs.Common.{List, length, refl, sym, ap, subst, arith, ◌∙◌, ◌<◌, ◌≤◌}
use Rattle.si_semantics.specs.Value.{Value}
use Rattle.si_semantics.specs.Tuples.{numbers_in}
use Rattle.si_arena.specs.Memory.{all_of, AllLie, PlacesTuple}
use Rattle.si_arena.specs.Bytes.{bytes_of}
use Rattle.si_ops.proofs.Tupled.{atoms_large, atoms_small, large_told, numbers_count, numbers_deep}
use Rattle.si_ops.proofs.tuples.place_octets.Goals as goal

pub returns-then-octets-clause-tuple : goal.returns-then-octets-clause-tuple
returns-then-octets-clause-tuple c =
    let m = c.args.arena.now in
    let n = length (bytes_of m.texts c.args.bytes) in
    let vs = numbers_in (bytes_of m.texts c.args.bytes) in
    let large : 65536 ≤ n = omega (arith, ap length c.bytes-octets.ensures) in
    (atoms_large vs n (numbers_count (bytes_of m.texts c.args.bytes)) large, refl, refl)

pub returns-in_err-items-clause-told : goal.returns-in_err-items-clause-told
returns-in_err-items-clause-told c = λ h.
    let m = c.args.arena.now in
    let n = length (bytes_of m.texts c.args.bytes) in
    let vs = numbers_in (bytes_of m.texts c.args.bytes) in
    let few : n < 65536 = omega (arith, ap length c.bytes-octets.ensures) in
    large_told vs c.from_residual.result (atoms_small vs n (numbers_count (bytes_of m.texts c.args.bytes)) (numbers_deep (bytes_of m.texts c.args.bytes)) few) h

pub returns-clause-told : goal.returns-clause-told
returns-clause-told c = λ h.
    let m = c.args.arena.now in
    let n = length (bytes_of m.texts c.args.bytes) in
    let vs = numbers_in (bytes_of m.texts c.args.bytes) in
    let few : n < 65536 = omega (arith, ap length c.bytes-octets.ensures) in
    large_told vs c.place_tuple.result (atoms_small vs n (numbers_count (bytes_of m.texts c.args.bytes)) (numbers_deep (bytes_of m.texts c.args.bytes)) few) h

pub place_tuple-requires : goal.place_tuple-requires
place_tuple-requires c =
    let m = c.args.arena.now in
    subst (AllLie m) (sym c.as_slice.ensures.value) (c.in_ok-items.ensures.lie m)

pub returns-clause-tuple : goal.returns-clause-tuple
returns-clause-tuple c =
    let m = c.args.arena.now in
    let is = ap (all_of m) c.as_slice.ensures.value ∙ c.in_ok-items.ensures.all m ∙ ap numbers_in c.bytes-octets.ensures in
    let P : List Value → Type 0 = λ vs. PlacesTuple vs m c.place_tuple.new.self c.place_tuple.result in
    subst P is c.place_tuple.ensures.tuple
