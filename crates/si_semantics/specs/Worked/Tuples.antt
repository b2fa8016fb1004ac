-- Worked cases of tuples: what operations give for them, computed from the definitions.
use Rattle.std.specs.Prelude.{◌≡◌, codes, ℕ, zero, suc, pos, negsuc, List, [], ◌∷◌, Bool, true, false, Some, None, Ok, Err}
use Rattle.si_plain.specs.declared.kind.Kind.TheVariants.{RecursionError, TypeError, ValueError, KeyError}
use Rattle.si_semantics.specs.Value.{Text, Value, Truth, Int, Str, Bytes, Function, Range, Class, Address, MakeTuple, Exception, tuple_of}
use Rattle.si_semantics.specs.Tree as tree
use Rattle.si_semantics.specs.Tree.{Expr}
use Rattle.si_semantics.specs.World.{World}
use Rattle.si_semantics.specs.World as worlds
use Rattle.si_semantics.specs.Text.{Written, Whole, Broken, repr_of, repr_in, str_in}
use Rattle.si_semantics.specs.Tuples.{count_of, levels_of}
use Rattle.si_semantics.specs.Operations.{gave, refused, wrong_type, wrong_arguments, operate, compare, are_equal, equal_within, is_true, length_of, contains, call_built_in, tuple_from, bytes_of, iterator_of, Items, Item, Exhausted, next_item, catches}
use Rattle.si_semantics.specs.Subscription.{outside, subscript}
use Rattle.si_semantics.specs.Parcels as parcel
use Rattle.si_semantics.specs.Shareable.{parcel_of, value_of_parcel}
use Rattle.si_semantics.specs.Worked.Straight.{int, str, arguments}
use Rattle.si_semantics.specs.Worked.Functions.{called}
use Rattle.si_semantics.specs.Worked.BuiltIns.{printed}

-- as interpreter 0 begins
abbrev pub first_world : World
first_world = worlds.first_world 0

-- ---- values

abbrev pub one : Value
one = Int (pos 1)

abbrev pub two : Value
two = Int (pos 2)

-- `()`
abbrev pub none : Value
none = tuple_of []

-- `(1,)`
abbrev pub single : Value
single = tuple_of (one ∷ [])

-- `(1, 2)`
abbrev pub pair : Value
pair = tuple_of (one ∷ two ∷ [])

-- `((), 'a')`
abbrev pub nested : Value
nested = tuple_of (none ∷ Str (codes "a") ∷ [])

-- a value so many tuples deep
abbrev pub within : ℕ → Value → Value
within zero v = v
within (suc n) v = tuple_of (within n v ∷ [])

-- a world in which a KeyError was raised
abbrev pub key_error_world : World
key_error_world = record first_world { store = Exception KeyError None ∷ [] }

-- a text is broken off
abbrev pub is_broken : Written → Bool
is_broken (Whole t) = false
is_broken (Broken t) = true

-- a function
abbrev pub f : Value
f = Function (codes "f") 0

-- `b'ab'`
abbrev pub letters : Value
letters = Bytes (codes "ab")

-- `(A, ..)` in a script
abbrev pub display : List Expr → Expr
display es = tree.Tuple (arguments es)

-- `print(TEXT)` in a script
abbrev pub say : Text → Expr
say t = called (codes "print") (str t ∷ [])

-- ---- the cases

pub record TupleCases : Type 0 where
  -- ---- `repr` and `str`
  pub nothing_in_it : repr_in [] none ≡ Ok (codes "()")
  pub comma_of_one : repr_in [] single ≡ Ok (codes "(1,)")
  pub commas : repr_in [] pair ≡ Ok (codes "(1, 2)")
  pub items_by_repr : repr_in [] nested ≡ Ok (codes "((), 'a')")
  pub str_is_repr : str_in [] nested ≡ Ok (codes "((), 'a')")
  --     (ValueError('a', ), KeyError((1,)))
  pub exceptions_in_it :
      repr_in (Exception ValueError (Some (Str (codes "a"))) ∷ Exception KeyError (Some single) ∷ []) (tuple_of (Address 0 ∷ Address 1 ∷ []))
      ≡ Ok (codes "(ValueError('a'), KeyError((1,)))")
  --     str(ValueError((1, 2)))
  pub in_an_exception : str_in (Exception ValueError (Some pair) ∷ []) (Address 0) ≡ Ok (codes "(1, 2)")
  -- two levels are enough for a tuple in a tuple, and one is not; what stands before it is known
  pub deep_enough : repr_of 2 [] [] nested ≡ Whole (codes "((), 'a')")
  pub too_deep : repr_of 1 [] [] (tuple_of (one ∷ none ∷ two ∷ [])) ≡ Broken (codes "(1, ")
  pub written_200_deep : is_broken (repr_of 200 [] [] (within 200 one)) ≡ false
  pub not_201_deep : repr_in [] (within 201 one) ≡ Err RecursionError
  pub an_exception_201_deep : repr_in (Exception ValueError (Some (within 200 one)) ∷ []) (Address 0) ≡ Err RecursionError
  -- ---- `==`
  pub same_items : are_equal pair (tuple_of (Truth true ∷ two ∷ [])) first_world ≡ Ok true
  pub other_item : are_equal pair (tuple_of (one ∷ one ∷ [])) first_world ≡ Ok false
  pub other_length : are_equal pair single first_world ≡ Ok false
  pub of_another_kind : are_equal none (Str []) first_world ≡ Ok false
  pub items_in_items : are_equal nested (tuple_of (none ∷ Str (codes "a") ∷ [])) first_world ≡ Ok true
  -- two functions in it are not compared, where what stands before them is equal
  pub functions_in_it : are_equal (tuple_of (one ∷ f ∷ [])) (tuple_of (one ∷ f ∷ [])) first_world ≡ Err TypeError
  pub unequal_before_functions : are_equal (tuple_of (one ∷ f ∷ [])) (tuple_of (two ∷ f ∷ [])) first_world ≡ Ok false
  pub lengths_before_functions : are_equal (tuple_of (f ∷ [])) (tuple_of (f ∷ one ∷ [])) first_world ≡ Ok false
  -- the pair past the last level is too deep, whatever it holds
  pub compared_deep_enough : equal_within 2 nested nested first_world ≡ Ok true
  pub compared_too_deep : equal_within 1 nested (tuple_of (single ∷ Str (codes "a") ∷ [])) first_world ≡ Err RecursionError
  -- ---- no order
  pub no_order : compare tree.Less none single first_world ≡ wrong_type first_world
  -- ---- truth and length
  pub empty_is_false : is_true none first_world ≡ false
  pub else_true : is_true (tuple_of (none ∷ [])) first_world ≡ true
  pub length : length_of pair first_world ≡ gave two first_world
  -- ---- `+` and `*`
  pub joined : operate tree.Add single pair first_world ≡ gave (tuple_of (one ∷ one ∷ two ∷ [])) first_world
  pub not_with_a_str : operate tree.Add pair (Str []) first_world ≡ wrong_type first_world
  pub repeated : operate tree.Multiply pair two first_world ≡ gave (tuple_of (one ∷ two ∷ one ∷ two ∷ [])) first_world
  pub repeated_from_the_left : operate tree.Multiply (Truth true) single first_world ≡ gave single first_world
  pub repeated_below_zero : operate tree.Multiply pair (Int (negsuc 0)) first_world ≡ gave none first_world
  -- ---- how large it is
  pub counted : count_of nested ≡ 3
  pub levels : levels_of nested ≡ 2
  pub levels_of_none : levels_of none ≡ 1
  -- ---- `tuple`
  pub of_a_str : tuple_from (Str (codes "ab")) first_world ≡ gave (tuple_of (Str (codes "a") ∷ Str (codes "b") ∷ [])) first_world
  pub of_a_range : tuple_from (Range (pos 5) (pos 0) (negsuc 2)) first_world ≡ gave (tuple_of (Int (pos 5) ∷ two ∷ [])) first_world
  pub of_a_tuple : tuple_from pair first_world ≡ gave pair first_world
  pub of_an_integer : tuple_from one first_world ≡ wrong_type first_world
  pub of_nothing : call_built_in MakeTuple [] first_world ≡ wrong_arguments first_world
  pub of_bytes : tuple_from (Bytes (0 ∷ 255 ∷ [])) first_world ≡ gave (tuple_of (Int (pos 0) ∷ Int (pos 255) ∷ [])) first_world
  -- ---- `bytes` of a tuple: each item is an integer from 0 to 255, True and False 1 and 0
  pub bytes_of_items : bytes_of (tuple_of (Int (pos 97) ∷ Truth true ∷ [])) first_world ≡ gave (Bytes (97 ∷ 1 ∷ [])) first_world
  pub no_byte : bytes_of (tuple_of (Int (pos 256) ∷ [])) first_world ≡ refused ValueError (codes "wrong value") first_world
  pub no_integer : bytes_of (tuple_of (Str (codes "a") ∷ [])) first_world ≡ refused ValueError (codes "wrong value") first_world
  -- ---- `in`: asked from the left, up to the first that is equal
  pub an_item : contains pair two first_world ≡ Ok true
  pub no_item : contains pair none first_world ≡ Ok false
  pub a_tuple_in_it : contains nested none first_world ≡ Ok true
  pub found_before_functions : contains (tuple_of (one ∷ f ∷ [])) one first_world ≡ Ok true
  pub functions_before_it : contains (tuple_of (f ∷ one ∷ [])) f first_world ≡ Err TypeError
  -- of bytes their parts, and each of them
  pub a_part : contains letters (Bytes (codes "b")) first_world ≡ Ok true
  pub a_byte : contains letters (Int (pos 98)) first_world ≡ Ok true
  pub not_a_byte_of_it : contains letters (Truth true) first_world ≡ Ok false
  pub past_a_byte : compare tree.In (Int (pos 256)) letters first_world ≡ refused ValueError (codes "wrong value") first_world
  pub below_a_byte : contains letters (Int (negsuc 0)) first_world ≡ Err ValueError
  pub no_text_in_bytes : contains letters (Str (codes "a")) first_world ≡ Err TypeError
  -- ---- subscriptions
  pub first_item : subscript pair (Int (pos 0)) first_world ≡ gave one first_world
  pub last_item : subscript pair (Int (negsuc 0)) first_world ≡ gave two first_world
  pub no_such_item : subscript pair (Int (pos 2)) first_world ≡ outside first_world
  pub before_the_first : subscript pair (Int (negsuc 2)) first_world ≡ outside first_world
  pub a_byte_by_index : subscript letters (Int (negsuc 1)) first_world ≡ gave (Int (pos 97)) first_world
  pub no_such_byte : subscript letters (Int (pos 2)) first_world ≡ outside first_world
  -- ---- displays
  --     print((1, (), ('a',)))
  pub displayed : printed (display (int 1 ∷ display [] ∷ display (str (codes "a") ∷ []) ∷ []) ∷ []) ≡ codes "(1, (), ('a',))\n"
  --     print((print('a'), print('b')))
  pub items_from_the_left : printed (display (say (codes "a") ∷ say (codes "b") ∷ []) ∷ []) ≡ codes "a\nb\n(None, None)\n"
  -- ---- `for`
  pub gone_over : iterator_of pair first_world ≡ Some (Items (one ∷ two ∷ []))
  pub next_one : next_item (Items (one ∷ two ∷ [])) first_world ≡ Item one (Items (two ∷ []))
  pub at_the_end : next_item (Items []) first_world ≡ Exhausted
  -- ---- `except`
  pub caught_by_one : catches (tuple_of (Class ValueError ∷ Class KeyError ∷ [])) 0 key_error_world ≡ gave (Truth true) key_error_world
  pub caught_by_none : catches none 0 key_error_world ≡ gave (Truth false) key_error_world
  pub caught_by_no_kind : catches (tuple_of (Class KeyError ∷ one ∷ [])) 0 key_error_world ≡ wrong_type key_error_world
  -- ---- parcels
  pub shared : parcel_of nested ≡ Some (parcel.tuple_of (parcel.tuple_of [] ∷ parcel.Leaf (parcel.Str (codes "a")) ∷ []))
  pub not_shared : parcel_of (tuple_of (one ∷ tuple_of (f ∷ []) ∷ [])) ≡ None
  pub received : value_of_parcel (parcel.tuple_of (parcel.tuple_of [] ∷ parcel.Leaf (parcel.Str (codes "a")) ∷ [])) ≡ Some nested
