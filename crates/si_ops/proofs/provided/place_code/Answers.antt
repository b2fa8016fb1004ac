use Rattle.si_semantics.specs.World.{first_world}
use Rattle.si_semantics.specs.Operations.{character_of, integer_in}
use Rattle.si_arena.specs.Memory.{value_of}
use Rattle.si_ops.proofs.Providing.{text_runs, byte_told}
use Rattle.si_ops.proofs.provided.place_code.Goals as goal

pub returns-in-Ok-clause-runs : goal.returns-in-Ok-clause-runs
returns-in-Ok-clause-runs c =
    let m = c.args.arena.now in
    text_runs (λ w. character_of (integer_in (value_of m c.args.value)) w) c.in-Ok.character m c.place_character.new.arena c.place_character.result c.in-Ok.ensures c.place_character.ensures.text

pub returns-in-Ok-clause-memory : goal.returns-in-Ok-clause-memory
returns-in-Ok-clause-memory c = λ h.
    c.place_character.ensures.memory (byte_told (integer_in (value_of c.args.arena.now c.args.value)) c.in-Ok.character (first_world 0) (c.in-Ok.ensures (first_world 0)) h)
