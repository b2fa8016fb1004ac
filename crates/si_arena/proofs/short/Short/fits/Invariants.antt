-- the characters that were read are below 256
use Rattle.std.proofs.Common.{ℕ, ◌<◌, get_or}
use Rattle.si_arena.specs.Short.{short_text}
use Rattle.si_arena.proofs.short.Short.fits.Given as goal

abbrev pub invariant-loop-i : goal.invariant-loop-i
invariant-loop-i l = (k : ℕ) → k < l.i → get_or (short_text l.self) k 0 < 256
