use Rattle.std.proofs.Common.{◌≡◌, ◌-◌, suc, sym, ap, ◌∙◌, arith}
use Rattle.std.specs.Option.{option_to_list}
use Rattle.si_token.specs.inner.Literals.{characters}
use Rattle.si_parse.specs.inner.Literals.{value_from}
use Rattle.si_parse.proofs.Literals.{on_plain, no_escape, on_escape, on_skipped}
use Rattle.si_parse.proofs.literal.written.Goals as goal

pub loop-character-preserved-then-skipped-gt0 : goal.loop-character-preserved-then-skipped-gt0
loop-character-preserved-then-skipped-gt0 c =
    let is : c.loop-character.skipped ≡ suc (c.loop-character.skipped - 1) = omega arith in
    record {
      utf8 = c.in-Some.ensures.utf8;
      reads = on_skipped c.args.bytes c.loop-character.text c.begins_raw-raw.result c.loop-character.skipped (c.loop-character.skipped - 1) c.in-Some.character (characters c.loop-character.rest.now) (characters c.in-Some.after.now) c.in-Some.ensures.gives is
          ∙ c.loop-character.invariant.reads;
    }

pub loop-character-preserved-in-Continue-1 : goal.loop-character-preserved-in-Continue-1
loop-character-preserved-in-Continue-1 c =
    let first : c.loop-character.skipped ≡ 0 = omega arith in
    record {
      utf8 = c.in-Some.ensures.utf8;
      reads = ap (λ t. value_from c.args.bytes t c.begins_raw-raw.result c.loop-character.skipped (characters c.in-Some.after.now)) c.in_ok-push.ensures.ok
          ∙ on_plain c.args.bytes c.loop-character.text c.begins_raw-raw.result c.loop-character.skipped c.in-Some.character (characters c.loop-character.rest.now) (characters c.in-Some.after.now) c.in-Some.ensures.gives first
          (sym c.is_plain.ensures ∙ c.if-is_plain.true)
          ∙ c.loop-character.invariant.reads;
    }

pub returns-in_default-escape : goal.returns-in_default-escape
returns-in_default-escape c =
    let first : c.loop-character.skipped ≡ 0 = omega arith in
    sym c.loop-character.invariant.reads
    ∙ no_escape c.args.bytes c.loop-character.text c.begins_raw-raw.result c.loop-character.skipped c.in-Some.character (characters c.loop-character.rest.now) (characters c.in-Some.after.now) c.in-Some.ensures.gives first
    (sym c.is_plain.ensures ∙ c.if-is_plain.false) (sym c.in_default-escape.ensures)

pub loop-character-preserved : goal.loop-character-preserved
loop-character-preserved c =
    let first : c.loop-character.skipped ≡ 0 = omega arith in
    record {
      utf8 = c.in-Some.ensures.utf8;
      reads = ap (λ t. value_from c.args.bytes t c.begins_raw-raw.result c.in-Some-escape.count (characters c.in-Some.after.now)) c.in_ok-keep.ensures
          ∙ on_escape c.args.bytes c.loop-character.text c.begins_raw-raw.result c.loop-character.skipped c.in-Some.character (characters c.loop-character.rest.now) (characters c.in-Some.after.now) c.in-Some.ensures.gives first
          (sym c.is_plain.ensures ∙ c.if-is_plain.false) (option_to_list c.in-Some-escape.character) c.in-Some-escape.count (sym c.in-Some-escape.ensures)
          ∙ c.loop-character.invariant.reads;
    }
