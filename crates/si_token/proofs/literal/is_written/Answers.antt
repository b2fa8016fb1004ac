use Rattle.std.proofs.Common.{◌≡◌, sym, ◌∙◌, arith}
use Rattle.std.specs.Option.{option_to_list}
use Rattle.si_token.specs.inner.Literals.{characters}
use Rattle.si_token.proofs.Literals.{no_escape, on_escape}
use Rattle.si_token.proofs.literal.is_written.Goals as goal

pub returns-in_default-escape : goal.returns-in_default-escape
returns-in_default-escape c =
    let first : c.loop-character.skipped ≡ 0 = omega arith in
    sym (no_escape c.args.bytes c.loop-character.skipped c.in-Some.character (characters c.loop-character.rest.now) (characters c.in-Some.after.now) c.in-Some.ensures.gives first c.if-character-eq92.true (sym c.in_default-escape.ensures))
    ∙ c.loop-character.invariant.reads

pub loop-character-preserved-then-character-eq92 : goal.loop-character-preserved-then-character-eq92
loop-character-preserved-then-character-eq92 c =
    let first : c.loop-character.skipped ≡ 0 = omega arith in
    record {
      utf8 = c.in-Some.ensures.utf8;
      reads = on_escape c.args.bytes c.loop-character.skipped c.in-Some.character (characters c.loop-character.rest.now) (characters c.in-Some.after.now) c.in-Some.ensures.gives first c.if-character-eq92.true
          (option_to_list c.in-Some-escape.field-0-0) c.in-Some-escape.count (sym c.in-Some-escape.ensures)
          ∙ c.loop-character.invariant.reads;
    }
