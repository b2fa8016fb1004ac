use Rattle.std.proofs.Common.{◌≡◌, length, vec_len}
use denote.Text.{Utf8}
use denote.Shadow.{shadow}
use Rattle.si_schedule.specs.inner.Reading.{HasRead}
use Rattle.si_schedule.proofs.reading.read_text.Given as goal

abbrev pub invariant-loop-read : goal.invariant-loop-read
invariant-loop-read l = shadow (Utf8 l.left) × HasRead l.text l.interpreters l.count l.callers.items l.left × (length l.callers.items ≡ l._read) × (vec_len l.callers ≡ l._read)
