-- What a function returned against what reading gives.
use Rattle.std.specs.Prelude.{◌≡◌, ℕ, List, Option, Some, None, Result, Ok, Err, map, drop, string_bytes}
use Rattle.si_semantics.specs.Grammar.{Terminal, terminal_of}
use Rattle.si_semantics.specs.Grammar as grammar
use Rattle.si_token.specs.Rows.{Row}
use Rattle.si_token.specs.declared.scan.TokenFault.{TokenFault}
use Rattle.si_token.specs.declared.scan.TokenFault.TheVariants as tokens
use Rattle.si_parse.specs.declared.fault.ParseFault.{ParseFault}
use Rattle.si_parse.specs.declared.fault.ParseFault.TheVariants.{Syntax, NoMemory}
use Rattle.si_parse.specs.declared.precedence.Continuation.{Continuation as Rust}
use Rattle.si_parse.specs.declared.precedence.Continuation.TheVariants as variant
use Rattle.si_token.specs.Views.{token_of}
use Rattle.si_syntax.specs.Trees.{expr_of}
use Rattle.si_parse.specs.declared.lookahead.Header.{Header as Word}
use Rattle.si_parse.specs.declared.lookahead.Header.TheVariants as header
use Rattle.si_parse.specs.declared.argument.Argument.{Argument}
use Rattle.si_parse.specs.declared.argument.Argument.TheVariants as passed
use Rattle.si_parse.specs.inner.Lookahead.{Continuation, operator, attribute, arguments, index, comparison, boolean, condition, nothing, Header, if_header, while_header, for_header, try_header, def_header}

-- the terminals of tokens, from a place on
abbrev pub from : Row → ℕ → List Terminal
from tokens at = drop at (map (λ t. terminal_of (token_of t)) tokens.items)

-- a syntax fault only where reading gives nothing
abbrev pub Fails : {Y : Type 0} → ParseFault → Option Y → Type 0
Fails NoMemory read = Unit {0}
Fails (Syntax line) read = read ≡ None

-- What was returned, seen by view, is what reading gives, unless memory ran out.
abbrev pub Gives : {X Y : Type 0} → (X → Y) → Result X ParseFault → Option Y → Type 0
Gives view (Ok x) read = read ≡ Some (view x)
Gives view (Err e) read = Fails e read

abbrev pub continuation_view : Rust → Continuation
continuation_view (variant.Operator op) = operator op
continuation_view variant.Attribute = attribute
continuation_view variant.Arguments = arguments
continuation_view variant.Index = index
continuation_view variant.Comparison = comparison
continuation_view (variant.Boolean op) = boolean op
continuation_view variant.Condition = condition
continuation_view variant.Nothing = nothing

abbrev pub header_view : Word → Header
header_view header.If = if_header
header_view header.While = while_header
header_view header.For = for_header
header_view header.Try = try_header
header_view header.Def = def_header

-- the argument that a value stands for
abbrev pub argument_of : Argument → grammar.Argument
argument_of (passed.Positional e) = grammar.Positional (expr_of e)
argument_of (passed.ByName x e) = grammar.ByName (string_bytes x) (expr_of e)

-- the fault of a text that the grammar has no tree for
abbrev pub IsSyntax : ParseFault → Type 0
IsSyntax NoMemory = ⊥
IsSyntax (Syntax line) = Unit {0}

-- the fault of a text, by that of its tokens
abbrev pub fault_of : TokenFault → ParseFault
fault_of (tokens.BadText line) = Syntax line
fault_of tokens.TooLong = Syntax 1
fault_of tokens.NoMemory = NoMemory
