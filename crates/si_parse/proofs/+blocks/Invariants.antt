use Rattle.std.proofs.Common.{◌≡◌, ◌+◌, ◌-◌, ◌*◌, [], length, map}
use Rattle.si_syntax.specs.Trees.{stmt_of, branch_of, clause_of}
use Rattle.si_parse.specs.inner.Lists.{many_by}
use Rattle.si_parse.specs.inner.Blocks.{elif_by, no_elif, elifs_by, is_dedent}
use Rattle.si_parse.specs.inner.Handlers.{catch_by, no_catch, catches_by}
use Rattle.si_parse.specs.inner.Lines.{block_at}
use Rattle.si_parse.specs.inner.Gives.{from}
use Rattle.si_parse.proofs.+blocks.Given as goal

abbrev pub decreases-block::block : goal.decreases-block::block
decreases-block::block l = 9 * l.nesting

abbrev pub decreases-block::compound : goal.decreases-block::compound
decreases-block::compound l = 9 * l.parts + 8

abbrev pub decreases-block::if_statement : goal.decreases-block::if_statement
decreases-block::if_statement l = 9 * l.parts + 7

abbrev pub decreases-block::while_statement : goal.decreases-block::while_statement
decreases-block::while_statement l = 9 * l.parts + 7

abbrev pub decreases-block::for_statement : goal.decreases-block::for_statement
decreases-block::for_statement l = 9 * l.parts + 7

abbrev pub decreases-block::definition : goal.decreases-block::definition
decreases-block::definition l = 9 * l.parts + 7

abbrev pub decreases-block::elifs : goal.decreases-block::elifs
decreases-block::elifs l = 9 * l.parts + 6

abbrev pub decreases-block::branch : goal.decreases-block::branch
decreases-block::branch l = 9 * l.parts + 5

abbrev pub decreases-block::over : goal.decreases-block::over
decreases-block::over l = 9 * l.parts + 5

abbrev pub decreases-block::otherwise : goal.decreases-block::otherwise
decreases-block::otherwise l = 9 * l.parts + 5

abbrev pub decreases-block::suite : goal.decreases-block::suite
decreases-block::suite l = 9 * l.parts + 3

abbrev pub decreases-block::indented : goal.decreases-block::indented
decreases-block::indented l = 9 * l.parts + 2

abbrev pub decreases-handler::try_statement : goal.decreases-handler::try_statement
decreases-handler::try_statement l = 9 * l.parts + 7

abbrev pub decreases-handler::handlers : goal.decreases-handler::handlers
decreases-handler::handlers l = 9 * l.parts + 6

abbrev pub decreases-handler::catches : goal.decreases-handler::catches
decreases-handler::catches l = 9 * l.parts + 5

abbrev pub decreases-handler::clause : goal.decreases-handler::clause
decreases-handler::clause l = 9 * l.parts + 4

abbrev pub decreases-handler::bare : goal.decreases-handler::bare
decreases-handler::bare l = 9 * l.parts + 4

abbrev pub invariant-block::elifs-loop-turn : goal.invariant-block::elifs-loop-turn
invariant-block::elifs-loop-turn l =
    many_by (elif_by (block_at l.parts)) no_elif (length l.tokens.items - l._turn) (map branch_of l.elifs.items) (from l.tokens l.at) ≡ elifs_by (block_at l.parts) (from l.tokens l.start)

abbrev pub invariant-handler::catches-loop-turn : goal.invariant-handler::catches-loop-turn
invariant-handler::catches-loop-turn l =
    many_by (catch_by (block_at l.parts)) no_catch (length l.tokens.items - l._turn) (map clause_of l.clauses.items) (from l.tokens l.at) ≡ catches_by (block_at l.parts) (from l.tokens l.start)

abbrev pub invariant-block::indented-loop-turn : goal.invariant-block::indented-loop-turn
invariant-block::indented-loop-turn l =
    many_by (block_at l.parts) is_dedent (length l.tokens.items - l._turn) (map stmt_of l.body.items) (from l.tokens l.at) ≡ many_by (block_at l.parts) is_dedent (length (from l.tokens l.start)) [] (from l.tokens l.start)
