use Rattle.std.proofs.Common.{arith}
use Rattle.si_semantics.specs.Shareable.{parcel_of}
use Rattle.si_arena.specs.Memory.{value_of}
use Rattle.si_share.proofs.Longest.{longest_of, no_longest}
use Rattle.si_share.proofs.Parts.{alike}
use Rattle.si_share.proofs.outward.copy_out.Goals as goal

pub returns-then-size-gt-MAX_TUPLE_VALUES : goal.returns-then-size-gt-MAX_TUPLE_VALUES
returns-then-size-gt-MAX_TUPLE_VALUES c =
    let v = value_of c.args.arena.now c.args.value in
    let p = longest_of (parcel_of v) c.in-Some.longest c.in-Some.ensures in
    let same = alike v p.0 p.1 in
    (p.0, p.1, λ h. omega (arith, h.size, same.size, c.size-size.ensures.values, c.if-size-gt-MAX_TUPLE_VALUES.true))

pub returns-then-size-gt-MAX_TUPLE_LEVELS : goal.returns-then-size-gt-MAX_TUPLE_LEVELS
returns-then-size-gt-MAX_TUPLE_LEVELS c =
    let v = value_of c.args.arena.now c.args.value in
    let p = longest_of (parcel_of v) c.in-Some.longest c.in-Some.ensures in
    let same = alike v p.0 p.1 in
    (p.0, p.1, λ h. omega (arith, h.levels, same.levels, c.size-size.ensures.levels, c.if-size-gt-MAX_TUPLE_LEVELS.true))

pub returns-then-longest-gt-MAX_STR_LENGTH : goal.returns-then-longest-gt-MAX_STR_LENGTH
returns-then-longest-gt-MAX_STR_LENGTH c =
    let v = value_of c.args.arena.now c.args.value in
    let p = longest_of (parcel_of v) c.in-Some.longest c.in-Some.ensures in
    (p.0, p.1, λ h. omega (arith, h.longest, p.2, c.if-longest-gt-MAX_STR_LENGTH.true))

pub parcel_out-requires-clause-fits : goal.parcel_out-requires-clause-fits
parcel_out-requires-clause-fits c =
    let v = value_of c.args.arena.now c.args.value in
    let p = longest_of (parcel_of v) c.in-Some.longest c.in-Some.ensures in
    let same = alike v p.0 p.1 in (
      p.0,
      p.1,
      record {
        size = omega (arith, same.size, c.size-size.ensures.values, c.if-size-gt-MAX_TUPLE_VALUES.false);
        levels = omega (arith, same.levels, c.size-size.ensures.levels, c.if-size-gt-MAX_TUPLE_LEVELS.false);
        longest = omega (arith, p.2, c.if-longest-gt-MAX_STR_LENGTH.false);
      },
    )

pub returns-in_default : goal.returns-in_default
returns-in_default c = no_longest (parcel_of (value_of c.args.arena.now c.args.value)) c.in_default.ensures
