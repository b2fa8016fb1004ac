use Rattle.std.proofs.Common.{◌≤◌, length, arith}
use Rattle.std.proofs.lemmas.Result.{err_from_is_err_and}
use Rattle.si_share.proofs.Limits.{bytes_refused, bytes_too_large}
use Rattle.si_share.proofs.bytes.bytes_out.Goals as goal

pub returns-then-bytes-gt-MAX_STR_LENGTH : goal.returns-then-bytes-gt-MAX_STR_LENGTH
returns-then-bytes-gt-MAX_STR_LENGTH c = bytes_too_large c.args.bytes.now (omega arith)

pub returns-in_err-octets : goal.returns-in_err-octets
returns-in_err-octets c =
    let p = err_from_is_err_and c.from_residual.result c.from_residual.ensures.1 in
    let few : length c.args.bytes.now ≤ 1048576 = omega arith in
    rw (p.1, p.2) (bytes_refused c.args.bytes.now few)
