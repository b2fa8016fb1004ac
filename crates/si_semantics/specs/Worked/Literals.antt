-- Worked cases: what literals are, computed from the definitions.
use Rattle.std.specs.Prelude.{◌≡◌, codes, List, ℕ, Bool, [], ◌∷◌, pos, Some, None, true, false}
use Rattle.si_semantics.specs.Literals.{value_of_int, value_of_str, value_of_bytes}
use Rattle.si_semantics.specs.Words as words
use Rattle.si_semantics.specs.Words.{is_text, is_allowed}

-- a literal may be a word of a text, at its end
abbrev pub may_stand : List ℕ → Bool
may_stand literal = is_allowed words.Text literal []

pub record LiteralCases : Type 0 where
  pub decimal : value_of_int (codes "1_000_000") ≡ Some (pos 1000000)
  pub zeros : value_of_int (codes "00_0") ≡ Some (pos 0)
  pub hexadecimal : value_of_int (codes "0xFf_e") ≡ Some (pos 4094)
  pub underscore_after_a_prefix : value_of_int (codes "0X_7f") ≡ Some (pos 127)
  pub octal : value_of_int (codes "0o17") ≡ Some (pos 15)
  pub binary : value_of_int (codes "0B1_01") ≡ Some (pos 5)
  pub greatest : value_of_int (codes "0x7fff_ffff_ffff_ffff") ≡ Some (pos 9223372036854775807)
  pub one_past_the_greatest : value_of_int (codes "9223372036854775808") ≡ None
  pub leading_zero : value_of_int (codes "007") ≡ None
  pub two_underscores : value_of_int (codes "1__0") ≡ None
  pub underscore_at_the_end : value_of_int (codes "1_") ≡ None
  pub underscore_before_a_prefix : value_of_int (codes "0_x1") ≡ None
  pub prefix_alone : value_of_int (codes "0x") ≡ None
  pub prefix_and_underscore : value_of_int (codes "0b_") ≡ None
  pub digit_past_the_base : value_of_int (codes "0o8") ≡ None
  pub letter_after : value_of_int (codes "1if") ≡ None
  pub text : is_text (codes "'a\\'\"'") ≡ true
  pub raw_text : is_text (codes "R'\\''") ≡ true
  pub empty_text : is_text (codes "u\"\"") ≡ true
  pub three_quotes : is_text (codes "'''a''\n'''") ≡ true
  pub six_quotes : is_text (codes "''''''") ≡ true
  pub quote_after_three : is_text (codes "''''a'''") ≡ true
  pub escaped_quote_before_three : is_text (codes "r'''\\''''") ≡ true
  pub escaped_line_end : is_text (codes "'a\\\r\n'") ≡ true
  pub line_end : is_text (codes "'a\n'") ≡ false
  pub line_end_after_an_escaped_one : is_text (codes "'\\\n\n'") ≡ false
  pub two_texts : is_text (codes "'a''b'") ≡ false
  pub text_that_is_open : is_text (codes "'a\\'") ≡ false
  pub three_quotes_open : is_text (codes "'''a'") ≡ false
  pub quote_after_a_text : is_text (codes "'''a''''") ≡ false
  pub two_prefixes : is_text (codes "ru''") ≡ false
  pub value_in_single_quotes : value_of_str (codes "'it\\'s'") ≡ Some (codes "it's")
  pub value_in_three_quotes : value_of_str (codes "'''a''\r\nb\r'''") ≡ Some (codes "a''\nb\n")
  pub value_of_an_empty_text : value_of_str (codes "u\"\"") ≡ Some []
  pub value_of_six_quotes : value_of_str (codes "\"\"\"\"\"\"") ≡ Some []
  pub value_of_a_raw_text : value_of_str (codes "r'\\n\\'\\\r\n'") ≡ Some (codes "\\n\\'\\\n")
  pub value_of_letter_escapes : value_of_str (codes "'\\\\\\'\\\"\\a\\b\\f\\n\\r\\t\\v'") ≡ Some (92 ∷ 39 ∷ 34 ∷ 7 ∷ 8 ∷ 12 ∷ 10 ∷ 13 ∷ 9 ∷ 11 ∷ [])
  pub value_of_an_escaped_line_end : value_of_str (codes "'a\\\r\nb\\\nc'") ≡ Some (codes "abc")
  pub value_of_octal_escapes : value_of_str (codes "'\\0\\18\\377\\1234'") ≡ Some (0 ∷ 1 ∷ 56 ∷ 255 ∷ 83 ∷ 52 ∷ [])
  pub value_of_hexadecimal_escapes : value_of_str (codes "'\\x41f\\u20aC0\\U0010ffff1'") ≡ Some (65 ∷ 102 ∷ 8364 ∷ 48 ∷ 1114111 ∷ 49 ∷ [])
  pub unknown_escapes_stay : value_of_str (codes "'\\q\\8\\('") ≡ Some (codes "\\q\\8\\(")
  pub octal_too_large : value_of_str (codes "'\\400'") ≡ None
  pub one_hexadecimal_digit : value_of_str (codes "'\\x4g'") ≡ None
  pub three_hexadecimal_digits : value_of_str (codes "'\\u123'") ≡ None
  pub seven_hexadecimal_digits : value_of_str (codes "'\\U0010fff'") ≡ None
  pub surrogate : value_of_str (codes "'\\ud800'") ≡ None
  pub past_the_characters : value_of_str (codes "'\\U00110000'") ≡ None
  pub named_character : value_of_str (codes "'\\N{DIGIT ONE}'") ≡ None
  pub greatest_octal : may_stand (codes "'\\377'") ≡ true
  pub past_the_greatest_octal : may_stand (codes "'\\400'") ≡ false
  pub two_digits_after_x : may_stand (codes "'\\x41'") ≡ true
  pub one_digit_after_x : may_stand (codes "'\\x4'") ≡ false
  pub no_digit_after_x : may_stand (codes "'\\x'") ≡ false
  pub before_the_surrogates : may_stand (codes "'\\ud7ff'") ≡ true
  pub first_surrogate : may_stand (codes "'\\ud800'") ≡ false
  pub last_surrogate : may_stand (codes "'\\udfff'") ≡ false
  pub after_the_surrogates : may_stand (codes "'\\ue000'") ≡ true
  pub three_digits_after_u : may_stand (codes "'\\u123'") ≡ false
  pub greatest_character : may_stand (codes "'\\U0010ffff'") ≡ true
  pub past_the_greatest_character : may_stand (codes "'\\U00110000'") ≡ false
  pub seven_digits_after_upper_u : may_stand (codes "'\\U0010fff'") ≡ false
  pub named_character_refused : may_stand (codes "'\\N{a}'") ≡ false
  pub after_a_good_escape : may_stand (codes "'a\\n\\x4'") ≡ false
  pub in_three_quotes : may_stand (codes "'''\r\n\\400'''") ≡ false
  pub after_the_prefix_u : may_stand (codes "u'\\400'") ≡ false
  pub raw_octal : may_stand (codes "r'\\400'") ≡ true
  pub raw_named_character : may_stand (codes "R'\\N{a}'") ≡ true
  pub backslash_before_the_escape : may_stand (codes "'\\\\400'") ≡ true
  pub unknown_escape : may_stand (codes "'\\q'") ≡ true
  pub bytes_literal : is_text (codes "b'a'") ≡ true
  pub raw_bytes : is_text (codes "rB\"\\\"\"") ≡ true
  pub bytes_that_are_raw : is_text (codes "Br'''a''\n'''") ≡ true
  pub two_prefixes_of_bytes : is_text (codes "bb''") ≡ false
  pub prefixes_of_both : is_text (codes "ub''") ≡ false
  pub three_prefixes : is_text (codes "rbr''") ≡ false
  pub value_of_plain_bytes : value_of_bytes (codes "b'a~'") ≡ Some (codes "a~")
  pub value_of_no_bytes : value_of_bytes (codes "B\"\"") ≡ Some []
  pub value_of_escaped_bytes : value_of_bytes (codes "b'\\x00\\xff\\377\\0\\n\\\r\n'") ≡ Some (0 ∷ 255 ∷ 255 ∷ 0 ∷ 10 ∷ [])
  pub texts_escapes_stay_in_bytes : value_of_bytes (codes "b'\\u0041\\U\\N{a}\\q'") ≡ Some (codes "\\u0041\\U\\N{a}\\q")
  pub value_of_raw_bytes : value_of_bytes (codes "bR'\\x00\\''") ≡ Some (codes "\\x00\\'")
  pub bytes_past_ascii : value_of_bytes (98 ∷ 39 ∷ 195 ∷ 169 ∷ 39 ∷ []) ≡ None
  pub octal_too_large_in_bytes : value_of_bytes (codes "b'\\400'") ≡ None
  pub no_digit_after_x_in_bytes : value_of_bytes (codes "b'\\x4'") ≡ None
  pub bytes_may_stand : may_stand (codes "rb'\\400'") ≡ true
  pub bytes_past_ascii_refused : may_stand (114 ∷ 98 ∷ 39 ∷ 195 ∷ 169 ∷ 39 ∷ []) ≡ false
  pub bytes_with_a_bad_escape : may_stand (codes "b'\\x4'") ≡ false
  pub bytes_with_an_escape_of_texts : may_stand (codes "b'\\u12'") ≡ true
