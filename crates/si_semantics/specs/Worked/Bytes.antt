-- Worked cases of bytes: what scripts print and how they end, computed from the definitions.
use Rattle.std.specs.Prelude.{None, ◌≡◌, codes, ℕ, List, [], ◌∷◌, Some, false}
use Rattle.si_semantics.specs.Value.{Bytes}
use Rattle.si_semantics.specs.Value as value
use Rattle.si_semantics.specs.Tree as tree
use Rattle.si_semantics.specs.Tree.{Expr}
use Rattle.si_semantics.specs.Parcels as parcel
use Rattle.si_semantics.specs.Shareable.{parcel_of, value_of_parcel}
use Rattle.si_semantics.specs.Worked.Straight.{int, str, minus, compared}
use Rattle.si_semantics.specs.Worked.Functions.{prints}
use Rattle.si_semantics.specs.Worked.Scripts.{i, a_range, a_repr, a_str, each, ends_within}
use Rattle.si_semantics.specs.Worked.BuiltIns.{true_value, of_one, of_two, printed, wrong_type, wrong_value, wrong_arguments}

-- `b'..'`
abbrev pub bytes : List ℕ → Expr
bytes bs = tree.Constant (Bytes bs)

-- `b'ab'`
abbrev pub ab : Expr
ab = bytes (codes "ab")

-- `bytes(VALUE)`
abbrev pub bytes_of : Expr → Expr
bytes_of v = of_one (codes "bytes") v

pub record BytesCases : Type 0 where
  -- ---- how they show
  --     print(b'', b'it\'s', b'\n\t\x00\x7f\xff\\', repr(b'"'), str(b'a'))
  pub shown :
      printed
      (bytes []
      ∷ bytes (codes "it's")
      ∷ bytes (10 ∷ 9 ∷ 0 ∷ 127 ∷ 255 ∷ 92 ∷ [])
      ∷ a_repr (bytes (34 ∷ []))
      ∷ a_str (bytes (codes "a"))
      ∷ [])
      ≡ codes "b'' b\"it's\" b'\\n\\t\\x00\\x7f\\xff\\\\' b'\"' b'a'\n"
  -- ---- whether they are true
  --     print(not b'', not b'\x00', bool(b''))
  pub truths :
      printed (tree.Unary tree.Not (bytes []) ∷ tree.Unary tree.Not (bytes (0 ∷ [])) ∷ of_one (codes "bool") (bytes []) ∷ []) ≡ codes "True False False\n"
  -- ---- compared
  --     print(b'ab' == b'ab', b'ab' != b'a', b'a' == 'a', b'' == None, b'' != '')
  pub equal :
      printed
      (compared tree.Equal ab ab
      ∷ compared tree.NotEqual ab (bytes (codes "a"))
      ∷ compared tree.Equal (bytes (codes "a")) (str (codes "a"))
      ∷ compared tree.Equal (bytes []) (tree.Constant value.Nothing)
      ∷ compared tree.NotEqual (bytes []) (str [])
      ∷ [])
      ≡ codes "True True False False True\n"
  --     print(b'a' < b'ab', b'b' < b'ab', b'\xff' >= b'a', b'' <= b'')
  pub ordered :
      printed
      (compared tree.Less (bytes (codes "a")) ab
      ∷ compared tree.Less (bytes (codes "b")) ab
      ∷ compared tree.GreaterEqual (bytes (255 ∷ [])) (bytes (codes "a"))
      ∷ compared tree.LessEqual (bytes []) (bytes [])
      ∷ [])
      ≡ codes "True False True True\n"
  --     b'a' < 'b'
  pub no_order_with_a_text : printed (compared tree.Less (bytes (codes "a")) (str (codes "b")) ∷ []) ≡ wrong_type
  --     b'a' >= 1
  pub no_order_with_an_integer : printed (compared tree.GreaterEqual (bytes (codes "a")) (int 1) ∷ []) ≡ wrong_type
  --     print(min(b'b', b'a', b'ab'), max(b'a', b'b'))
  pub least_and_greatest :
      printed
      (tree.Call (tree.Name (codes "min")) None (tree.MoreExprs (bytes (codes "b")) (tree.MoreExprs (bytes (codes "a")) (tree.MoreExprs ab tree.NoExprs))) []
      ∷ of_two (codes "max") (bytes (codes "a")) (bytes (codes "b"))
      ∷ [])
      ≡ codes "b'a' b'b'\n"
  --     min(b'a', 'a')
  pub least_of_two_kinds : printed (of_two (codes "min") (bytes (codes "a")) (str (codes "a")) ∷ []) ≡ wrong_type
  -- ---- joined and repeated
  --     print(b'ab' + b'\xff', b'ab' * 2, 2 * b'ab', b'ab' * -1, True * b'ab', b'ab' * False)
  pub joined_and_repeated :
      printed
      (tree.Binary tree.Add ab (bytes (255 ∷ []))
      ∷ tree.Binary tree.Multiply ab (int 2)
      ∷ tree.Binary tree.Multiply (int 2) ab
      ∷ tree.Binary tree.Multiply ab (minus (int 1))
      ∷ tree.Binary tree.Multiply true_value ab
      ∷ tree.Binary tree.Multiply ab (tree.Constant (value.Truth false))
      ∷ [])
      ≡ codes "b'ab\\xff' b'abab' b'abab' b'' b'ab' b''\n"
  --     b'ab' * 524289
  pub repeated_too_long : printed (tree.Binary tree.Multiply ab (int 524289) ∷ []) ≡ codes "raised OverflowError: too long\n"
  --     b'a' + 'a'
  pub joined_with_a_text : printed (tree.Binary tree.Add (bytes (codes "a")) (str (codes "a")) ∷ []) ≡ wrong_type
  --     'a' + b'a'
  pub a_text_joined_with_bytes : printed (tree.Binary tree.Add (str (codes "a")) (bytes (codes "a")) ∷ []) ≡ wrong_type
  --     b'a' * b'a'
  pub repeated_by_bytes : printed (tree.Binary tree.Multiply (bytes (codes "a")) (bytes (codes "a")) ∷ []) ≡ wrong_type
  --     -b'a'
  pub negated : printed (minus (bytes (codes "a")) ∷ []) ≡ wrong_type
  -- ---- items
  --     print(len(b''), len(b'a\x00'))
  pub lengths : printed (of_one (codes "len") (bytes []) ∷ of_one (codes "len") (bytes (97 ∷ 0 ∷ [])) ∷ []) ≡ codes "0 2\n"
  --     for i in b'a\xff':
  --         print(i)
  pub items_are_integers : ends_within 3 (each i (bytes (97 ∷ 255 ∷ [])) (prints (tree.Name i ∷ []) ∷ []) ∷ []) ≡ codes "97\n255\n"
  -- ---- `bytes`
  --     print(bytes(range(3)), bytes(range(255, -1, -85)), bytes(range(0)), bytes(range(300, 0, 1)))
  pub made_of_ranges :
      printed
      (bytes_of (a_range (int 3 ∷ []))
      ∷ bytes_of (a_range (int 255 ∷ minus (int 1) ∷ minus (int 85) ∷ []))
      ∷ bytes_of (a_range (int 0 ∷ []))
      ∷ bytes_of (a_range (int 300 ∷ int 0 ∷ int 1 ∷ []))
      ∷ [])
      ≡ codes "b'\\x00\\x01\\x02' b'\\xff\\xaaU\\x00' b'' b''\n"
  --     bytes(range(255, 257))
  pub item_past_the_last : printed (bytes_of (a_range (int 255 ∷ int 257 ∷ [])) ∷ []) ≡ wrong_value
  --     bytes(range(1, -2, -1))
  pub item_below_zero : printed (bytes_of (a_range (int 1 ∷ minus (int 2) ∷ minus (int 1) ∷ [])) ∷ []) ≡ wrong_value
  --     bytes(3)
  pub made_of_an_integer : printed (bytes_of (int 3) ∷ []) ≡ wrong_type
  --     bytes('a')
  pub made_of_a_text : printed (bytes_of (str (codes "a")) ∷ []) ≡ wrong_type
  --     bytes(range(1), 2)
  pub made_of_two : printed (of_two (codes "bytes") (a_range (int 1 ∷ [])) (int 2) ∷ []) ≡ wrong_arguments
  -- ---- what takes none
  --     int(b'1')
  pub integer_of_bytes : printed (of_one (codes "int") (bytes (codes "1")) ∷ []) ≡ wrong_type
  --     ord(b'a')
  pub number_of_bytes : printed (of_one (codes "ord") (bytes (codes "a")) ∷ []) ≡ wrong_type
  --     chr(b'a')
  pub character_of_bytes : printed (of_one (codes "chr") (bytes (codes "a")) ∷ []) ≡ wrong_type
  --     abs(b'a')
  pub absolute_bytes : printed (of_one (codes "abs") (bytes (codes "a")) ∷ []) ≡ wrong_type
  -- ---- shared
  pub parcel_of_bytes : parcel_of (Bytes (0 ∷ 255 ∷ [])) ≡ Some (parcel.Leaf (parcel.Bytes (0 ∷ 255 ∷ [])))
  pub bytes_of_a_parcel : value_of_parcel (parcel.Leaf (parcel.Bytes (codes "a"))) ≡ Some (Bytes (codes "a"))
