use Rattle.std.proofs.Common.{◌+◌, ◌-◌, [], ◌∷◌, length, sym, ◌∙◌, ap, map, string_bytes, arith}
use Rattle.std.specs.Prelude.{option_map}
use Rattle.std.proofs.lemmas.List.{map-append}
use Rattle.si_parse.specs.inner.Lists.{many_by, is_none}
use Rattle.si_parse.specs.inner.Names.{next_name_by, no_comma}
use Rattle.si_parse.specs.inner.Gives.{from}
use Rattle.si_parse.proofs.Turns.{many_on, next_name_read}
use Rattle.si_parse.proofs.name.names.Goals as goal

pub loop-turn-preserved : goal.loop-turn-preserved
loop-turn-preserved c =
    let next = sym c.after.ensures ∙ ap (option_map (from c.args.tokens.now)) c.in-Some.is in
    let pushed = ap (map string_bytes) c.in_ok-push-2.ensures.items ∙ map-append string_bytes c.loop-turn.names.items (c.in_ok-next.next ∷ []) in
    let read = next_name_read (map string_bytes c.loop-turn.names.items) (from c.args.tokens.now c.loop-turn.at) (from c.args.tokens.now c.in-Some.more) _ _ next c.in_ok-next.ensures in
    ap (λ l. many_by next_name_by no_comma (length c.args.tokens.now.items - (c.loop-turn._turn + 1)) l (from c.args.tokens.now c.in_ok-next.end)) pushed
    ∙ sym (many_on next_name_by no_comma (length c.args.tokens.now.items - c.loop-turn._turn) (length c.args.tokens.now.items - (c.loop-turn._turn + 1)) (map string_bytes c.loop-turn.names.items) (from c.args.tokens.now c.loop-turn.at)
    (omega arith) (ap is_none next) _ _ read)
    ∙ c.loop-turn.invariant
