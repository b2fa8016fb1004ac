use Rattle.std.proofs.Common.{take, length, ap, arith, length-append, length-take-le}
use Rattle.si_arena.specs.Short.{short_text}
use Rattle.si_arena.proofs.short.Short.append.Goals as goal

pub push-requires : goal.push-requires
push-requires c =
    let e = ap length c.loop-c.invariant in
    omega (arith, e, length-append (short_text c.args.self.now) (take c.loop-c.c-index c.args.characters.now), length-take-le c.loop-c.c-index c.args.characters.now (omega arith))
