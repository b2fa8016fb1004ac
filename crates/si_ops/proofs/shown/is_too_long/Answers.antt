use Rattle.std.proofs.Common.{◌≤◌, ◌-◌, length, string_bytes, arith}
use Rattle.std.proofs.lemmas.Str.{IsUtf8-string_bytes}
use Rattle.si_ops.proofs.Ends.{few}
use Rattle.si_ops.proofs.shown.is_too_long.Goals as goal

pub returns-then-len-start-le-MAX_STR_LENGTH : goal.returns-then-len-start-le-MAX_STR_LENGTH
returns-then-len-start-le-MAX_STR_LENGTH c =
    let s = c.args.out.now in
    let h : length (string_bytes s) - c.args.start ≤ 1048576 = omega arith in
    few (string_bytes s) c.args.start (IsUtf8-string_bytes s) c.requires h
