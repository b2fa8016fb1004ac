-- Expressions, as the parser reads them: by precedence climbing.
use Rattle.std.specs.Prelude.{ℕ, zero, suc, ◌+◌, max, List, [], ◌∷◌, ◌++◌, length, Option, Some, None, option_map, nat_lt, nat_le, nat_eq, Bool, true, false, not, ◌&&◌, if◌then◌else◌}
use Rattle.si_semantics.specs.Value.{Text, Nothing, Truth, Int, Str, Bytes}
use Rattle.si_semantics.specs.Tree.{BinaryOperator, UnaryOperator, ComparisonOperator, BooleanOperator, Expr, callee_of}
use Rattle.si_semantics.specs.Tree as tree
use Rattle.si_semantics.specs.Scope.{is_in}
use Rattle.si_semantics.specs.Tokens.{Symbol}
use Rattle.si_semantics.specs.Tokens as token
use Rattle.si_semantics.specs.Text.{max_length}
use Rattle.si_semantics.specs.Grammar.{Terminal, NAME, NUMBER, STRING, BYTES, Sign, Word, Argument, Positional, ByName, value_of_int, value_of_str, value_of_bytes, right_level, prefix_level, item_level, is_identity, Link, chain_of, exprs_of, bit_or_level, disjunction_level, expression_level}
use Rattle.si_parse.specs.inner.Lookahead.{after, Continuation, operator, attribute, arguments, index, comparison, boolean, condition, nothing, continuation_at, strength_at, rest_of, after_boolean}
use Rattle.si_parse.specs.inner.Lists.{then_read, Found, Parsed, Measured, alone, enclosed_by, chain_by}
use Rattle.si_parse.specs.inner.Names.{name_at}

abbrev pub Parser : Type 0
Parser = ℕ → List Terminal → Parsed

-- expressions, and the greatest depth among them
abbrev pub Collected : Type 0
Collected = List Expr × ℕ

-- an argument, its depth, and the terminals after it
abbrev pub Argued : Type 0
Argued = Measured Argument

-- the name by which an argument is passed, and the terminals after its `=`
abbrev pub named_at : List Terminal → Option (Text × List Terminal)
named_at [] = None
named_at (NAME x ∷ ts) = option_map (λ rest. (x, rest)) (after (Sign token.Equal) ts)
named_at (_ ∷ ts) = None

-- an argument, once it is known whether a name stands in front
abbrev pub argument_from : Parser → List Terminal → Option (Text × List Terminal) → Option Argued
argument_from sub ts (Some n) = then_read (sub expression_level n.1) (λ r. Some (ByName n.0 r.0, r.1, r.2))
argument_from sub ts None = then_read (sub expression_level ts) (λ r. Some (Positional r.0, r.1, r.2))

-- an argument is passed by name exactly where it begins with a name and an `=`
abbrev pub argument_by : Parser → List Terminal → Option Argued
argument_by sub ts = argument_from sub ts (named_at ts)

-- the arguments, once it is known whether the bracket is closed at once
abbrev pub arguments_from : Parser → List Terminal → Option (List Terminal) → Option ((List Argument × ℕ) × List Terminal)
arguments_from sub ts (Some rest) = Some (([], 0), rest)
arguments_from sub ts None = enclosed_by alone (argument_by sub) token.RightParenthesis (length ts) ([], 0) ts

-- the arguments after an open bracket, the greatest depth among them, and the closed one
abbrev pub arguments_by : Parser → List Terminal → Option ((List Argument × ℕ) × List Terminal)
arguments_by sub ts = arguments_from sub ts (after (Sign token.RightParenthesis) ts)

-- the expressions of arguments, and the names by which the last ones are passed
abbrev pub Passed : Type 0
Passed = List Expr × List Text

-- whether there are none
abbrev pub no_names : List Text → Bool
no_names [] = true
no_names (x ∷ xs) = false

-- one more argument: an expression only in front of all names, and a name only once
abbrev pub with_passed : Passed → Argument → Option Passed
with_passed b (Positional e) = if no_names b.1 then Some (b.0 ++ e ∷ [], b.1) else None
with_passed b (ByName x e) = if is_in x b.1 then None else Some (b.0 ++ e ∷ [], b.1 ++ x ∷ [])

-- the arguments one by one, after those before
abbrev pub passed_from : Passed → List Argument → Option Passed
passed_from b [] = Some b
passed_from b (a ∷ more) = then_read (with_passed b a) (λ c. passed_from c more)

-- a tree that is no deeper than the limit
abbrev pub within : ℕ → Expr → ℕ → List Terminal → Parsed
within n e d ts = if nat_le d n then Some (e, d, ts) else None

abbrev pub binary_by : Parser → ℕ → Expr → ℕ → BinaryOperator → List Terminal → Parsed
binary_by sub n e d op ts = then_read (sub (right_level op) ts) (λ r. within n (tree.Binary op e r.0) (max d r.1 + 1) r.2)

-- an attribute, by the name that was read after the dot
abbrev pub attributed : ℕ → Expr → ℕ → Text × List Terminal → Parsed
attributed n e d r = within n (tree.Attribute e r.0) (d + 1) r.1

-- from after the dot
abbrev pub attribute_by : ℕ → Expr → ℕ → List Terminal → Parsed
attribute_by n e d ts = then_read (name_at ts) (attributed n e d)

-- The call of a tree with arguments that were read. Where the tree is an attribute, its object is the callee.
abbrev pub call_of : Expr → Passed → Expr
call_of e p = tree.Call (callee_of e).0 (callee_of e).1 (exprs_of p.0) p.1

abbrev pub called : ℕ → Expr → ℕ → (List Argument × ℕ) × List Terminal → Parsed
called n e d r = then_read (passed_from ([], []) r.0.0) (λ p. within n (call_of e p) (max d r.0.1 + 1) r.1)

abbrev pub call_by : Parser → ℕ → Expr → ℕ → List Terminal → Parsed
call_by sub n e d ts = then_read (arguments_by sub ts) (called n e d)

-- an index, from after the open bracket
abbrev pub indexed : ℕ → Expr → ℕ → Found → List Terminal → Parsed
indexed n e d i rest = within n (tree.Subscript e i.0) (max d i.1 + 1) rest

abbrev pub subscript_by : Parser → ℕ → Expr → ℕ → List Terminal → Parsed
subscript_by sub n e d ts = then_read (sub expression_level ts) (λ i. then_read (after (Sign token.RightBracket) i.2) (indexed n e d i))

-- a conditional expression, from after its `if`
abbrev pub other_by : Parser → ℕ → Expr → ℕ → Found → List Terminal → Parsed
other_by sub n e d t ts = then_read (sub expression_level ts) (λ o. within n (tree.Conditional t.0 e o.0) (max d (max t.1 o.1) + 1) o.2)

abbrev pub conditional_by : Parser → ℕ → Expr → ℕ → List Terminal → Parsed
conditional_by sub n e d ts = then_read (sub disjunction_level ts) (λ t. then_read (after (Word token.ElseWord) t.2) (other_by sub n e d t))

-- the operands of `and` or of `or` after the first one, from the first word on
abbrev pub with_word : BooleanOperator → Option (List Terminal) → Option (BooleanOperator × List Terminal)
with_word op rest = option_map (λ ts. (op, ts)) rest

abbrev pub operands_by : Parser → BooleanOperator → List Terminal → Option (Collected × List Terminal)
operands_by sub op ts = chain_by (λ o e. e) (λ ts. with_word op (after_boolean op ts)) (λ o. sub (item_level o)) (length ts) ([], 0) ts

abbrev pub boolean_by : Parser → ℕ → Expr → ℕ → BooleanOperator → List Terminal → Parsed
boolean_by sub n e d op ts = then_read (operands_by sub op ts) (λ r. within n (tree.Boolean op e (exprs_of r.0.0)) (max d r.0.1 + 1) r.1)

-- an operator of a comparison, and the terminals after it
abbrev pub comparison_symbol : Symbol → Option ComparisonOperator
comparison_symbol token.Less = Some tree.Less
comparison_symbol token.Greater = Some tree.Greater
comparison_symbol token.LessEqual = Some tree.LessEqual
comparison_symbol token.GreaterEqual = Some tree.GreaterEqual
comparison_symbol token.EqualEqual = Some tree.Equal
comparison_symbol token.NotEqual = Some tree.NotEqual
comparison_symbol _ = None

abbrev pub identity_from : List Terminal → Option (List Terminal) → ComparisonOperator × List Terminal
identity_from ts None = (tree.Is, ts)
identity_from ts (Some rest) = (tree.IsNot, rest)

abbrev pub comparison_at : List Terminal → Option (ComparisonOperator × List Terminal)
comparison_at [] = None
comparison_at (Sign s ∷ ts) = option_map (λ op. (op, ts)) (comparison_symbol s)
comparison_at (Word token.IsWord ∷ ts) = Some (identity_from ts (after (Word token.NotWord) ts))
comparison_at (Word token.InWord ∷ ts) = Some (tree.In, ts)
comparison_at (Word token.NotWord ∷ ts) = option_map (λ rest. (tree.NotIn, rest)) (after (Word token.InWord) ts)
comparison_at (_ ∷ ts) = None

-- whether a tree of this depth is None, True or False, by one word alone
abbrev pub is_singleton : Expr → ℕ → Bool
is_singleton (tree.Constant Nothing) d = nat_eq d 1
is_singleton (tree.Constant (Truth b)) d = nat_eq d 1
is_singleton _ d = false

abbrev pub compared_to : ComparisonOperator → Found → Parsed
compared_to op r = if is_identity op && not (is_singleton r.0 r.1) then None else Some r

abbrev pub compared_by : Parser → ComparisonOperator → List Terminal → Parsed
compared_by sub op ts = then_read (sub bit_or_level ts) (compared_to op)

-- the operators of comparisons with the operands after them, from the first operator on
abbrev pub links_by : Parser → List Terminal → Option ((List Link × ℕ) × List Terminal)
links_by sub ts = chain_by (λ o e. (o, e)) comparison_at (compared_by sub) (length ts) ([], 0) ts

abbrev pub compare_by : Parser → ℕ → Expr → ℕ → List Terminal → Parsed
compare_by sub n e d ts = then_read (links_by sub ts) (λ r. within n (tree.Compare e (chain_of r.0.0)) (max d r.0.1 + 1) r.1)

-- the operand with what continues it; the terminals begin with the one that does
abbrev pub extended_by : Parser → ℕ → Expr → ℕ → List Terminal → Continuation → Parsed
extended_by sub n e d ts (operator op) = binary_by sub n e d op (rest_of ts)
extended_by sub n e d ts attribute = attribute_by n e d (rest_of ts)
extended_by sub n e d ts arguments = call_by sub n e d (rest_of ts)
extended_by sub n e d ts index = subscript_by sub n e d (rest_of ts)
extended_by sub n e d ts comparison = compare_by sub n e d ts
extended_by sub n e d ts (boolean op) = boolean_by sub n e d op ts
extended_by sub n e d ts condition = conditional_by sub n e d (rest_of ts)
extended_by sub n e d ts nothing = None

-- What continues an operand, as far as it is of level l. The last number bounds it.
unfoldable pub continued_by : Parser → ℕ → ℕ → ℕ → Expr → ℕ → List Terminal → Parsed
continued_by sub n l zero e d ts = None
continued_by sub n l (suc k) e d ts =
    if nat_lt (strength_at ts) l then Some (e, d, ts)
    else then_read (extended_by sub n e d ts (continuation_at ts)) (λ r. continued_by sub n l k r.0 r.1 r.2)

-- the items of a tuple or a list after those that were read, up to the closed bracket, once it is known whether that stands first
abbrev pub items_from : Parser → Symbol → Collected → List Terminal → Option (List Terminal) → Option (Collected × List Terminal)
items_from sub bracket b ts (Some rest) = Some (b, rest)
items_from sub bracket b ts None = enclosed_by alone (sub expression_level) bracket (length ts) b ts

abbrev pub items_by : Parser → Symbol → Collected → List Terminal → Option (Collected × List Terminal)
items_by sub bracket b ts = items_from sub bracket b ts (after (Sign bracket) ts)

-- the tuple of items that were read
abbrev pub tupled : Collected × List Terminal → Parsed
tupled r = Some (tree.Tuple (exprs_of r.0.0), r.0.1 + 1, r.1)

-- what the first expression in round brackets begins: a group where the closed one follows, a tuple where a comma does
abbrev pub closed : Parser → Expr → ℕ → (close comma : Option (List Terminal)) → Parsed
closed sub e d (Some rest) more = Some (e, d + 1, rest)
closed sub e d None (Some more) = then_read (items_by sub token.RightParenthesis (e ∷ [], d) more) tupled
closed sub e d None None = None

-- the joined text of the str literals that stand first, after a text
abbrev pub strings_by : Text → List Terminal → Option (Text × List Terminal)
strings_by text [] = Some (text, [])
strings_by text (STRING literal ∷ ts) = then_read (value_of_str literal) (λ s. strings_by (text ++ s) ts)
strings_by text (t ∷ ts) = Some (text, t ∷ ts)

-- a text that is no longer than a str may be
abbrev pub short : Text × List Terminal → Option (Text × List Terminal)
short r = if nat_le (length r.0) max_length then Some r else None

-- the text of the str literals that stand first, where it is short
abbrev pub str_by : List Terminal → Option (Text × List Terminal)
str_by ts = then_read (strings_by [] ts) short

-- the joined bytes of the bytes literals that stand first, after others
abbrev pub octets_by : List ℕ → List Terminal → Option (List ℕ × List Terminal)
octets_by bs [] = Some (bs, [])
octets_by bs (BYTES literal ∷ ts) = then_read (value_of_bytes literal) (λ s. octets_by (bs ++ s) ts)
octets_by bs (t ∷ ts) = Some (bs, t ∷ ts)

-- the bytes of the bytes literals that stand first, where they are few enough
abbrev pub bytes_by : List Terminal → Option (List ℕ × List Terminal)
bytes_by ts = then_read (octets_by [] ts) short

-- the operator that stands before an operand
abbrev pub prefix_at : List Terminal → Option UnaryOperator
prefix_at [] = None
prefix_at (Sign token.Plus ∷ ts) = Some tree.Plus
prefix_at (Sign token.Minus ∷ ts) = Some tree.Minus
prefix_at (Sign token.Tilde ∷ ts) = Some tree.Invert
prefix_at (Word token.NotWord ∷ ts) = Some tree.Not
prefix_at (_ ∷ ts) = None

abbrev pub unary_by : Parser → ℕ → UnaryOperator → List Terminal → Parsed
unary_by sub l op ts = if nat_le l (prefix_level op) then then_read (sub (prefix_level op) ts) (λ r. Some (tree.Unary op r.0, r.1 + 1, r.2)) else None

abbrev pub grouped : Parser → Found → Parsed
grouped sub r = closed sub r.0 r.1 (after (Sign token.RightParenthesis) r.2) (after (Sign token.Comma) r.2)

-- what stands in round brackets, once it is known whether they are closed at once
abbrev pub bracketed_from : Parser → List Terminal → Option (List Terminal) → Parsed
bracketed_from sub ts (Some rest) = Some (tree.Tuple tree.NoExprs, 1, rest)
bracketed_from sub ts None = then_read (sub expression_level ts) (grouped sub)

-- from after the open bracket
abbrev pub bracketed_by : Parser → List Terminal → Parsed
bracketed_by sub ts = bracketed_from sub ts (after (Sign token.RightParenthesis) ts)

-- the list of items that were read
abbrev pub listed : Collected × List Terminal → Parsed
listed r = Some (tree.ListDisplay (exprs_of r.0.0), r.0.1 + 1, r.1)

-- a list, from after the open bracket
abbrev pub list_by : Parser → List Terminal → Parsed
list_by sub ts = then_read (items_by sub token.RightBracket ([], 0) ts) listed

-- a key and its value
abbrev pub Pair : Type 0
Pair = Expr × Expr

abbrev pub both : Pair → List Expr
both p = p.0 ∷ p.1 ∷ []

abbrev pub paired : Found → Found → Option (Measured Pair)
paired k v = Some ((k.0, v.0), max k.1 v.1, v.2)

-- the value of a key, from after the colon
abbrev pub value_of_key : Parser → Found → List Terminal → Option (Measured Pair)
value_of_key sub k ts = then_read (sub expression_level ts) (paired k)

abbrev pub pair_by : Parser → List Terminal → Option (Measured Pair)
pair_by sub ts = then_read (sub expression_level ts) (λ k. then_read (after (Sign token.Colon) k.2) (value_of_key sub k))

-- keys and values by turns, up to the closed brace, once it is known whether that stands first
abbrev pub pairs_from : Parser → List Terminal → Option (List Terminal) → Option (Collected × List Terminal)
pairs_from sub ts (Some rest) = Some (([], 0), rest)
pairs_from sub ts None = enclosed_by both (pair_by sub) token.RightBrace (length ts) ([], 0) ts

abbrev pub pairs_by : Parser → List Terminal → Option (Collected × List Terminal)
pairs_by sub ts = pairs_from sub ts (after (Sign token.RightBrace) ts)

-- the dict of keys and values that were read
abbrev pub in_dict : Collected × List Terminal → Parsed
in_dict r = Some (tree.DictDisplay (exprs_of r.0.0), r.0.1 + 1, r.1)

-- a dict, from after the open brace
abbrev pub dict_by : Parser → List Terminal → Parsed
dict_by sub ts = then_read (pairs_by sub ts) in_dict

abbrev pub atom_by : Parser → List Terminal → Parsed
atom_by sub [] = None
atom_by sub (NAME x ∷ ts) = Some (tree.Name x, 1, ts)
atom_by sub (NUMBER digits ∷ ts) = then_read (value_of_int digits) (λ n. Some (tree.Constant (Int n), 1, ts))
atom_by sub (STRING literal ∷ ts) = then_read (str_by (STRING literal ∷ ts)) (λ r. Some (tree.Constant (Str r.0), 1, r.1))
atom_by sub (BYTES literal ∷ ts) = then_read (bytes_by (BYTES literal ∷ ts)) (λ r. Some (tree.Constant (Bytes r.0), 1, r.1))
atom_by sub (Word token.NoneWord ∷ ts) = Some (tree.Constant Nothing, 1, ts)
atom_by sub (Word token.TrueWord ∷ ts) = Some (tree.Constant (Truth true), 1, ts)
atom_by sub (Word token.FalseWord ∷ ts) = Some (tree.Constant (Truth false), 1, ts)
atom_by sub (Sign token.LeftParenthesis ∷ ts) = bracketed_by sub ts
atom_by sub (Sign token.LeftBracket ∷ ts) = list_by sub ts
atom_by sub (Sign token.LeftBrace ∷ ts) = dict_by sub ts
atom_by sub (_ ∷ ts) = None

abbrev pub operand_from : Parser → ℕ → List Terminal → Option UnaryOperator → Parsed
operand_from sub l ts (Some op) = unary_by sub l op (rest_of ts)
operand_from sub l ts None = atom_by sub ts

abbrev pub operand_by : Parser → ℕ → List Terminal → Parsed
operand_by sub l ts = operand_from sub l ts (prefix_at ts)

-- an expression of level l and of at most this depth, given the parser of its parts
abbrev pub expression_by : Parser → ℕ → Parser
expression_by sub n l ts = then_read (operand_by sub l ts) (λ r. continued_by sub n l n r.0 r.1 r.2)

unfoldable pub expression_at : ℕ → Parser
expression_at zero l ts = None
expression_at (suc n) l ts = expression_by (expression_at n) (suc n) l ts
