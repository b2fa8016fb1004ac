use Rattle.std.proofs.Common.{◌≤◌, length, arith}
use Rattle.std.proofs.lemmas.Result.{err_from_is_err_and}
use Rattle.si_arena.specs.Texts.{characters_in}
use Rattle.si_share.proofs.Limits.{str_refused, str_too_large}
use Rattle.si_share.proofs.outward.str_out.Goals as goal

pub returns-then-length_of-gt-MAX_STR_LENGTH : goal.returns-then-length_of-gt-MAX_STR_LENGTH
returns-then-length_of-gt-MAX_STR_LENGTH c = str_too_large (characters_in c.args.characters) (omega arith)

pub returns-in_err-text : goal.returns-in_err-text
returns-in_err-text c =
    let p = err_from_is_err_and c.from_residual.result c.from_residual.ensures.1 in
    let few : length (characters_in c.args.characters) ≤ 1048576 = omega arith in
    rw (p.1, p.2) (str_refused (characters_in c.args.characters) few)

pub returns : goal.returns
returns c =
    let few : length (characters_in c.args.characters) ≤ 1048576 = omega arith in
    str_refused (characters_in c.args.characters) few
