use Rattle.std.proofs.Common.{◌≡◌, List, ℕ, length, ap, ◌∙◌, sym, subst, map-id, arith}
use Rattle.std.proofs.lemmas.List.{get_or_default}
use Rattle.std.proofs.lemmas.Iterator.{YieldsList-from_chars}
use Rattle.std.proofs.lemmas.Str.{chars-IsAscii}
use Rattle.std.proofs.lemmas.Iterator.Consumers.{YieldsList-end, YieldsList-turn}
use Rattle.std.specs.Prelude.{MatchOption}
use Rattle.si_plain.specs.Characters.{characters_of}
use Rattle.si_arena.specs.Short.{short_text, FitsShort}
use Rattle.si_arena.proofs.short.Short.from_str.Goals as goal

-- an ASCII text is its bytes
pub returns-then-is_ascii : goal.returns-then-is_ascii
returns-then-is_ascii c =
    let is : c.as_bytes.result.now ≡ characters_of c.args.text.now = c.as_bytes.ensures.value ∙ sym (chars-IsAscii c.args.text.now c.if-is_ascii.ensures.cases) in
    subst (λ (cs : List ℕ). MatchOption c.from_narrow.result (¬ FitsShort cs) (λ s. short_text s ≡ cs)) is c.from_narrow.ensures

-- a character past 255 is one of the text
pub returns-then-c-gt255 : goal.returns-then-c-gt255
returns-then-c-gt255 c = λ h.
    let t = YieldsList-turn (YieldsList-from_chars c.args.text.now c.utf8.text cc) c.loop-c.yielded _ c.loop-c.yielded_by _ _ _ c.in-Some.is c.next.ensures.steps in
    omega (arith, t.1, get_or_default (characters_of c.args.text.now) (length c.loop-c.yielded) c.in-Some.c 0 t.0, h.1 (length c.loop-c.yielded) t.0)

-- a character after eleven
pub returns-then-as_slice-eq-CAPACITY : goal.returns-then-as_slice-eq-CAPACITY
returns-then-as_slice-eq-CAPACITY c = λ h.
    let t = YieldsList-turn (YieldsList-from_chars c.args.text.now c.utf8.text cc) c.loop-c.yielded _ c.loop-c.yielded_by _ _ _ c.in-Some.is c.next.ensures.steps in
    omega (arith, t.0, h.0, ap length c.loop-c.invariant, ap length c.as_slice.ensures)

pub returns : goal.returns
returns c =
    let t = YieldsList-end (YieldsList-from_chars c.args.text.now c.utf8.text cc) c.loop-c.yielded _ c.loop-c.yielded_by _ _ c.in-None.is c.next.ensures.steps in
    c.loop-c.invariant ∙ sym (map-id c.loop-c.yielded) ∙ t.0
