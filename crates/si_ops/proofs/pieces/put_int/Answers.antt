use Rattle.std.proofs.Common.{ℕ, List, IsAscii, sym, ap, ◌∙◌, rules}
use Rattle.std.proofs.Math.Facts.{to_z-of_z}
use Rattle.std.specs.Fmt.{signed_decimal}
use Rattle.std.proofs.lemmas.Fmt.{IsAscii-signed}
use Rattle.std.proofs.lemmas.Str.Ascii.{encodes-IsAscii}
use Rattle.si_ops.proofs.Adding.{ok_as, err_as}
use Rattle.si_ops.proofs.pieces.put_int.Goals as goal

pub returns-clause-ok : goal.returns-clause-ok
returns-clause-ok c =
    let t : List ℕ = signed_decimal c.args.n in
    let ascii : IsAscii t = search (rules, IsAscii-signed) in
    ok_as c.put_digits.result c.args.out.now c.put_digits.new.out (ap signed_decimal (to_z-of_z c.ranges.n) ∙ sym (encodes-IsAscii t ascii)) c.put_digits.ensures.ok

pub returns-clause-err : goal.returns-clause-err
returns-clause-err c =
    let t : List ℕ = signed_decimal c.args.n in
    let ascii : IsAscii t = search (rules, IsAscii-signed) in
    err_as c.put_digits.result c.args.out.now c.put_digits.new.out (ap signed_decimal (to_z-of_z c.ranges.n) ∙ sym (encodes-IsAscii t ascii)) c.put_digits.ensures.err
