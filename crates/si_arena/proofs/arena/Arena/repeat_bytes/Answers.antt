use Rattle.std.proofs.Common.{Ok, ◌≤◌, length, ap, refl, sym, subst, ◌∙◌}
use Rattle.std.proofs.Math.Facts.{to_z-of_z}
use Rattle.si_arena.specs.Texts.{IsNarrow, repeated_text}
use Rattle.si_arena.specs.Bytes.{bytes_of}
use Rattle.si_arena.specs.Memory.{Memory}
use Rattle.si_arena.specs.Arenas.{memory_of}
use Rattle.si_arena.proofs.Growing.{text_kept, bytes_placed, bytes_text_narrow}
use Rattle.si_arena.proofs.arena.Arena.repeat_bytes.Goals as goal

pub invariant_of-self-2 : goal.invariant_of-self-2
invariant_of-self-2 c = text_kept _ _ _ _ _ _ _ _ _ (Ok c.in_ok-repeated.repeated) c.in_ok-repeated.ensures.text c.self.invariant

pub returns-clause-bytes : goal.returns-clause-bytes
returns-clause-bytes c =
    let count = rw (to_z-of_z c.ranges.count) at c.in_ok-repeated.ensures.text in
    let added = rw c.text_of_bytes.ensures at count in
    let narrow = c.in_ok-repeated.ensures.narrow (subst IsNarrow (sym c.text_of_bytes.ensures) (bytes_text_narrow c.args.bytes)) in
    rw c.bytes_of_text.ensures (rw (← c.self.view_is) (bytes_placed _ _ _ _ _ _ _ _ _ c.in_ok-repeated.repeated added narrow c.self.invariant))

pub returns-clause-short : goal.returns-clause-short
returns-clause-short c = λ few.
    let i = c.self.inside in
    let count = rw (to_z-of_z c.ranges.count) at c.in_ok-repeated.ensures.short in
    let short = rw c.text_of_bytes.ensures at count in
    let e = short (bytes_text_narrow c.args.bytes) (subst (λ (m : Memory). length (repeated_text (bytes_of m.texts c.args.bytes) c.args.count) ≤ 11) (sym c.self.view_is) few) in
    (ap (λ rows. memory_of rows i.names.items i.ranges.items i.tuples.items i.tuples.tuples i.objects.items) e.0 ∙ c.self.view_is, refl)
