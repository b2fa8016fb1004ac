-- What items stand for.
use Rattle.std.specs.Prelude.{◌≡◌, ℕ, ◌<◌, List, [], drop, length, Option, Some, None, Result, Ok, Err, unwrap_or}
use Rattle.si_semantics.specs.Value as pure
use Rattle.si_semantics.specs.World.{World, nothing_bound}
use Rattle.si_semantics.specs.Operations as operations
use Rattle.si_semantics.specs.Operations.{Iterator, Item, Exhausted, Refuses, next_item, items_from, comparison_message}
use Rattle.si_semantics.specs.Containers.{unpacked}
use Rattle.si_arena.specs.declared.value.Ref.{Ref}
use Rattle.si_arena.specs.declared.cause.Cause.{Cause}
use Rattle.si_arena.specs.Causes.{kind_of, message_of, CauseLies}
use Rattle.si_arena.specs.Memory.{Memory, value_of, Lies}
use Rattle.si_arena.specs.Texts.{text_of}
use Rattle.si_arena.specs.Bytes.{bytes_of}
use Rattle.si_ops.specs.Operands.{members_of}
use Rattle.si_ops.specs.declared.items.Items.{Items}
use Rattle.si_ops.specs.declared.items.Items.TheVariants.{Numbers, Characters, Octets, Members, Listed, Keys, NoMore}

-- what a `for` still has to give
abbrev pub items_of : Memory → Items → Iterator
items_of m (Numbers at stop step) = operations.Numbers at stop step
items_of m (Characters text given count) = operations.Characters (drop given (text_of m.texts text))
items_of m (Octets bytes given) = operations.Octets (drop given (bytes_of m.texts bytes))
items_of m (Members tuple given) = operations.Items (drop given (members_of (value_of m tuple)))
items_of m (Listed address at) = operations.Listed address at
items_of m (Keys address at count) = operations.Keys address at count
items_of m NoMore = operations.NoMore

-- the text of items lies in the arena, and has so many characters; bytes, a tuple, a list and a dict lie there
abbrev pub ItemsLie : Memory → Items → Type 0
ItemsLie m (Numbers at stop step) = Unit {0}
ItemsLie m (Characters text given count) = Lies m text × (count ≡ length (text_of m.texts text))
ItemsLie m (Octets bytes given) = Lies m bytes
ItemsLie m (Members tuple given) = Lies m tuple
ItemsLie m (Listed address at) = address < length m.store
ItemsLie m (Keys address at count) = address < length m.store
ItemsLie m NoMore = Unit {0}

-- the next item and what is left, which lie in the arena, where there is one
abbrev pub GivesItem : Memory → Items → Option (Ref × Items) → Type 0
GivesItem m items None = (w : World) → w.store ≡ m.store → next_item (items_of m items) w ≡ Exhausted
GivesItem m items (Some p) = ((w : World) → w.store ≡ m.store → next_item (items_of m items) w ≡ Item (value_of m p.0) (items_of m p.1)) × Lies m p.0 × ItemsLie m p.1

-- the same, or why it raises
abbrev pub GivesNext : Memory → Items → Result (Option (Ref × Items)) Cause → Type 0
GivesNext m items (Ok next) = GivesItem m items next
GivesNext m items (Err cause) = ((w : World) → w.store ≡ m.store → next_item (items_of m items) w ≡ Refuses (kind_of cause) (message_of m.names cause)) × CauseLies m.names cause

-- ---- all items

-- a world with the objects of an arena
abbrev pub world_of : Memory → World
world_of m = record { own = 0; globals = nothing_bound; store = m.store }

-- all items that a value gives where it is gone over; none of what can't be
abbrev pub gone_over : Memory → pure.Value → List pure.Value
gone_over m v = unwrap_or (items_from v (world_of m)) []

-- a value has just so many items, or why it can't be unpacked
abbrev pub Unpacks : ℕ → Memory → pure.Value → Result (Unit {0}) Cause → Type 0
Unpacks n m v (Ok u) = ((w : World) → w.store ≡ m.store → unpacked n v w ≡ Ok (gone_over m v)) × (length (gone_over m v) ≡ n)
Unpacks n m v (Err cause) = ((w : World) → w.store ≡ m.store → unpacked n v w ≡ Err (kind_of cause)) × (message_of m.names cause ≡ comparison_message (kind_of cause)) × CauseLies m.names cause
