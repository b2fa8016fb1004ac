-- What is shown of a value.
use Rattle.std.specs.Prelude.{◌<◌, length}
use Rattle.si_semantics.specs.Value as pure
use Rattle.si_arena.specs.declared.view.View.{View}
use Rattle.si_arena.specs.declared.view.View.TheVariants as view
use Rattle.si_arena.specs.declared.value.Ref.{Ref}
use Rattle.si_arena.specs.Texts.{characters_in, IsText}
use Rattle.si_arena.specs.Bytes.{IsBytes}
use Rattle.si_arena.specs.Memory.{Memory, built_in_of, range_of, all_of, AllLie}

-- the value that is shown, in an arena
abbrev pub value_in : Memory → View → pure.Value
value_in m view.None = pure.Nothing
value_in m (view.Truth b) = pure.Truth b
value_in m (view.Int n) = pure.Int n
value_in m (view.Str part) = pure.Str (characters_in part)
value_in m (view.Bytes part) = pure.Bytes part.now
value_in m (view.BuiltIn b) = pure.Provided (built_in_of b)
value_in m (view.Function number name) = pure.Function name.now number
value_in m (view.Range steps) = range_of steps.now
value_in m (view.Tuple items) = pure.tuple_of (all_of m items.now)
value_in m (view.Kind k) = pure.Class k
value_in m (view.Module mo) = pure.Module mo
value_in m (view.Queue id maxsize) = pure.Queue id maxsize
value_in m (view.Interpreter i) = pure.Interpreter i
value_in m (view.Exec i) = pure.Exec i
value_in m (view.Object x) = pure.Address x

-- what shows as a text is one, and what shows as bytes are bytes
abbrev pub ShowsText : View → Ref → Type 0
ShowsText (view.Str part) r = IsText r
ShowsText (view.Bytes part) r = IsBytes r
ShowsText _ r = Unit {0}

-- the items of a tuple that is shown lie in the arena, and so does an object
abbrev pub PartsLie : Memory → View → Type 0
PartsLie m (view.Tuple items) = AllLie m items.now
PartsLie m (view.Object x) = x < length m.store
PartsLie m _ = Unit {0}
