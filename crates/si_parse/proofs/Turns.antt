-- What one turn of a loop does.
use Rattle.std.proofs.Common.{◌≡◌, ℕ, ◌+◌, ◌-◌, ◌<◌, ◌≤◌, List, [], ◌∷◌, ◌++◌, max, length, Option, Some, None, refl, sym, ap, ◌∙◌, subst, arith}
use Rattle.std.specs.Prelude.{nat_lt, Bool, true, false, if◌then◌else◌}
use Rattle.std.proofs.lemmas.Bool.Decides.{nat_tests}
use Rattle.si_semantics.specs.Value.{Text}
use Rattle.si_semantics.specs.Tree as tree
use Rattle.si_semantics.specs.Tree.{Expr, Stmt, Stmts, Target}
use Rattle.si_semantics.specs.Tokens as token
use Rattle.si_semantics.specs.Grammar.{Terminal, DEDENT, Branch, stmts_of, Clause, clauses_of, Sign, Word, target_of}
use Rattle.si_parse.specs.declared.fault.ParseFault.{ParseFault}
use Rattle.si_parse.specs.declared.fault.ParseFault.TheVariants.{Syntax, NoMemory}
use Rattle.si_parse.specs.inner.Lookahead.{Step, Continuation, strength_of, strength_at, continuation_at, rest_of, Header, header_at, after}
use Rattle.si_parse.specs.inner.Lists.{then_read, closing, after_item, separated_by, chain_from, chain_by, Parsed, many_by}
use Rattle.si_parse.specs.inner.Names.{name_at, and_name, next_name_by, parameters_by}
use Rattle.si_parse.specs.inner.Expressions.{Parser, extended_by, continued_by}
use Rattle.si_parse.specs.inner.Unbracketed.{expressions_by}
use Rattle.si_parse.specs.inner.Statements.{LineParser, Chained, chained_from, chained_by}
use Rattle.si_parse.specs.inner.Blocks.{with_branch, branch_by, over_by, elif_by, otherwise_by, joined_while, while_by, joined_for, for_by, defined_by, define_by, suite_by}
use Rattle.si_parse.specs.inner.Targets.{target_by}
use Rattle.si_parse.specs.inner.Handlers.{handlers_by, finally_from, try_by, after_catch, with_clause, clause_by, catch_by, handled_from, tried}
use Rattle.si_parse.specs.inner.Lines.{compound_by, with_compound, block_from, block_at}
use Rattle.si_parse.specs.inner.Gives.{Fails}
use Rattle.si_parse.proofs.Steps.{continued_by_step, separated_by_step, chain_by_step, many_by_step, block_at_step}

pub not_less : (a b : ℕ) → b ≤ a → nat_lt a b ≡ false
not_less a b h = grind (arith, nat_tests)

pub less : (a b : ℕ) → a < b → nat_lt a b ≡ true
less a b h = grind (arith, nat_tests)

module _ (sub : Parser) (n l k : ℕ) (e : Expr) (d : ℕ) (ts : List Terminal) (next : Continuation) (role : next ≡ continuation_at ts) where
  pub continued_stops : 0 < k → strength_of next < l → continued_by sub n l k e d ts ≡ Some (e, d, ts)
  continued_stops positive weak =
      let weaker : strength_at ts < l = subst (λ c. strength_of c < l) role weak in
      continued_by_step sub n l k e d ts positive
      ∙ ap (λ b. if b then Some (e, d, ts) else then_read (extended_by sub n e d ts (continuation_at ts)) (λ r. continued_by sub n l (k - 1) r.0 r.1 r.2)) (less (strength_at ts) l weaker)

  module _ (j : ℕ) (one : k ≡ j + 1) (strong : l ≤ strength_of next) where
    continued_turn : continued_by sub n l k e d ts ≡ then_read (extended_by sub n e d ts next) (λ r. continued_by sub n l j r.0 r.1 r.2)
    continued_turn =
        let same : k - 1 ≡ j = omega arith in
        let stronger : l ≤ strength_at ts = subst (λ c. l ≤ strength_of c) role strong in
        continued_by_step sub n l k e d ts (omega arith)
        ∙ ap (λ b. if b then Some (e, d, ts) else then_read (extended_by sub n e d ts (continuation_at ts)) (λ r. continued_by sub n l (k - 1) r.0 r.1 r.2)) (not_less (strength_at ts) l stronger)
        ∙ ap (λ i. then_read (extended_by sub n e d ts (continuation_at ts)) (λ r. continued_by sub n l i r.0 r.1 r.2)) same
        ∙ ap (λ c. then_read (extended_by sub n e d ts c) (λ r. continued_by sub n l j r.0 r.1 r.2)) (sym role)

    pub continued_on : (e' : Expr) (d' : ℕ) (ts' : List Terminal) → extended_by sub n e d ts next ≡ Some (e', d', ts') → continued_by sub n l k e d ts ≡ continued_by sub n l j e' d' ts'
    continued_on e' d' ts' h = continued_turn ∙ ap (λ r. then_read r (λ r. continued_by sub n l j r.0 r.1 r.2)) h

    pub continued_fails : (f : ParseFault) → Fails f (extended_by sub n e d ts next) → Fails f (continued_by sub n l k e d ts)
    continued_fails NoMemory h = tt
    continued_fails (Syntax line) h = continued_turn ∙ ap (λ r. then_read r (λ r. continued_by sub n l j r.0 r.1 r.2)) h

module _ {O X : Type 0} (make : O → Expr → X) (operator : List Terminal → Option (O × List Terminal)) (item : O → List Terminal → Parsed) (k : ℕ) (b : List X × ℕ) (ts : List Terminal) where
  pub chain_ends : 0 < k → operator ts ≡ None → chain_by make operator item k b ts ≡ Some (b, ts)
  chain_ends positive h = chain_by_step make operator item k b ts positive ∙ ap (chain_from make item (chain_by make operator item (k - 1)) b ts) h

  module _ (j : ℕ) (one : k ≡ j + 1) (o : O) (rest : List Terminal) (next : operator ts ≡ Some (o, rest)) where
    chain_turn : chain_by make operator item k b ts ≡ then_read (item o rest) (λ r. chain_by make operator item j (b.0 ++ make o r.0 ∷ [], max b.1 r.1) r.2)
    chain_turn =
        let same : k - 1 ≡ j = omega arith in
        chain_by_step make operator item k b ts (omega arith)
        ∙ ap (chain_from make item (chain_by make operator item (k - 1)) b ts) next
        ∙ ap (λ i. then_read (item o rest) (λ r. chain_by make operator item i (b.0 ++ make o r.0 ∷ [], max b.1 r.1) r.2)) same

    pub chain_on : (e : Expr) (d : ℕ) (more : List Terminal) → item o rest ≡ Some (e, d, more) → chain_by make operator item k b ts ≡ chain_by make operator item j (b.0 ++ make o e ∷ [], max b.1 d) more
    chain_on e d more h = chain_turn ∙ ap (λ r. then_read r (λ r. chain_by make operator item j (b.0 ++ make o r.0 ∷ [], max b.1 r.1) r.2)) h

    pub chain_next : (e : Expr) (d : ℕ) (more : List Terminal) → item o rest ≡ Some (e, d, more) → (items : List X) (top : ℕ) → items ≡ b.0 ++ make o e ∷ [] → top ≡ max b.1 d
        → chain_by make operator item j (items, top) more ≡ chain_by make operator item k b ts
    chain_next e d more h items top p q =
        ap (λ i. chain_by make operator item j (i, top) more) p ∙ ap (λ t. chain_by make operator item j (b.0 ++ make o e ∷ [], t) more) q ∙ sym (chain_on e d more h)

    pub chain_fails : (f : ParseFault) → Fails f (item o rest) → Fails f (chain_by make operator item k b ts)
    chain_fails NoMemory h = tt
    chain_fails (Syntax line) h = chain_turn ∙ ap (λ r. then_read r (λ r. chain_by make operator item j (b.0 ++ make o r.0 ∷ [], max b.1 r.1) r.2)) h

module _ {R B : Type 0} (add : B → R → B) (rest : R → List Terminal) (item : List Terminal → Option R) (separator close : Step) (k j : ℕ) (b : B) (ts : List Terminal) (one : k ≡ j + 1) where
  pub separated_turn : separated_by add rest item separator close k b ts
      ≡ then_read (item ts) (λ r. after_item (separated_by add rest item separator close j) (add b r) (closing separator close (rest r)) (separator (rest r)))
  separated_turn =
      let same : k - 1 ≡ j = omega arith in
      separated_by_step add rest item separator close k b ts (omega arith)
      ∙ ap (λ i. then_read (item ts) (λ r. after_item (separated_by add rest item separator close i) (add b r) (closing separator close (rest r)) (separator (rest r)))) same

  pub separated_fails : (f : ParseFault) → Fails f (item ts) → Fails f (separated_by add rest item separator close k b ts)
  separated_fails NoMemory h = tt
  separated_fails (Syntax line) h =
      separated_turn ∙ ap (λ o. then_read o (λ r. after_item (separated_by add rest item separator close j) (add b r) (closing separator close (rest r)) (separator (rest r)))) h

  module _ (r : R) (read : item ts ≡ Some r) where
    pub separated_read : separated_by add rest item separator close k b ts ≡ after_item (separated_by add rest item separator close j) (add b r) (closing separator close (rest r)) (separator (rest r))
    separated_read = separated_turn ∙ ap (λ o. then_read o (λ r. after_item (separated_by add rest item separator close j) (add b r) (closing separator close (rest r)) (separator (rest r)))) read

    pub separated_last : (after : List Terminal) → closing separator close (rest r) ≡ Some after → separated_by add rest item separator close k b ts ≡ Some (add b r, after)
    separated_last after h = separated_read ∙ ap (λ o. after_item (separated_by add rest item separator close j) (add b r) o (separator (rest r))) h

    pub separated_on : (more : List Terminal) → closing separator close (rest r) ≡ None → separator (rest r) ≡ Some more → separated_by add rest item separator close k b ts ≡ separated_by add rest item separator close j (add b r) more
    separated_on more h i =
        separated_read
        ∙ ap (λ o. after_item (separated_by add rest item separator close j) (add b r) o (separator (rest r))) h
        ∙ ap (λ o. after_item (separated_by add rest item separator close j) (add b r) None o) i

    pub separated_stuck : closing separator close (rest r) ≡ None → separator (rest r) ≡ None → separated_by add rest item separator close k b ts ≡ None
    separated_stuck h i =
        separated_read
        ∙ ap (λ o. after_item (separated_by add rest item separator close j) (add b r) o (separator (rest r))) h
        ∙ ap (λ o. after_item (separated_by add rest item separator close j) (add b r) None o) i

-- a compound statement after its word
pub block_compound : (n : ℕ) (body : List Stmt) (ts rest : List Terminal) (word : Header) (s : Stmt) (more : List Terminal) → 0 < n → header_at ts ≡ Some (word, rest) → compound_by (block_at (n - 1)) word rest ≡ Some (s, more)
    → block_at n body ts ≡ Some (body ++ s ∷ [], more)
block_compound n body ts rest word s more positive is h =
    block_at_step n body ts positive ∙ ap (block_from (block_at (n - 1)) body ts) is ∙ ap (λ o. then_read o (with_compound body)) h

pub next_name_read : (xs : List Text) (ts rest : List Terminal) (x : Text) (more : List Terminal) → after (Sign token.Comma) ts ≡ Some rest → name_at rest ≡ Some (x, more) → next_name_by xs ts ≡ Some (xs ++ x ∷ [], more)
next_name_read xs ts rest x more is h = ap (λ o. then_read o (λ rest. then_read (name_at rest) (and_name xs))) is ∙ ap (λ o. then_read o (and_name xs)) h

-- one more target of an assignment
pub chained_read : (sub : Parser) (b : Chained) (ts rest : List Terminal) (t : Target) (e : Expr) (d : ℕ) (more : List Terminal) → after (Sign token.Equal) ts ≡ Some rest → target_of b.1 ≡ Some t → expressions_by sub 1 rest ≡ Some (e, d, more)
    → chained_by sub b ts ≡ Some ((b.0 ++ t ∷ [], e), more)
chained_read sub b ts rest t e d more next is h =
    ap (λ o. then_read o (λ rest. then_read (target_of b.1) (chained_from sub b rest))) next ∙ ap (λ o. then_read o (chained_from sub b rest)) is ∙ ap (λ o. then_read o (λ r. Some ((b.0 ++ t ∷ [], r.0), r.2))) h

pub elif_read : (line : LineParser) (bs : List Branch) (ts rest : List Terminal) (b : Branch) (more : List Terminal) → after (Word token.ElifWord) ts ≡ Some rest → branch_by line rest ≡ Some (b, more) → elif_by line bs ts ≡ Some (bs ++ b ∷ [], more)
elif_read line bs ts rest b more is h = ap (λ o. then_read o (λ rest. then_read (branch_by line rest) (with_branch bs))) is ∙ ap (λ o. then_read o (with_branch bs)) h

pub catch_read : (line : LineParser) (cs : List Clause) (ts rest : List Terminal) (c : Clause) (more : List Terminal) → after_catch ts ≡ Some rest → clause_by line rest ≡ Some (c, more) → catch_by line cs ts ≡ Some (cs ++ c ∷ [], more)
catch_read line cs ts rest c more is h = ap (λ o. then_read o (λ rest. then_read (clause_by line rest) (with_clause cs))) is ∙ ap (λ o. then_read o (with_clause cs)) h

-- the other compound statements after their words
pub while_read : (line : LineParser) (ts : List Terminal) (b : Branch) (rest : List Terminal) (last : List Stmt) (more : List Terminal) → branch_by line ts ≡ Some (b, rest) → otherwise_by line rest ≡ Some (last, more)
    → while_by line ts ≡ Some (tree.While b.0 b.1 (stmts_of last), more)
while_read line ts b rest last more h i = ap (λ o. then_read o (λ b. then_read (otherwise_by line b.1) (joined_while b.0))) h ∙ ap (λ o. then_read o (joined_while b)) i

pub for_read : (line : LineParser) (ts : List Terminal) (t : Target) (first : List Terminal) (b : Branch) (rest : List Terminal) (last : List Stmt) (more : List Terminal) → target_by ts ≡ Some (t, first)
    → over_by line first ≡ Some (b, rest) → otherwise_by line rest ≡ Some (last, more) → for_by line ts ≡ Some (tree.For t b.0 b.1 (stmts_of last), more)
for_read line ts t first b rest last more h i j =
    ap (λ o. then_read o (λ t. then_read (over_by line t.1) (λ b. then_read (otherwise_by line b.1) (joined_for t.0 b.0)))) h
    ∙ ap (λ o. then_read o (λ b. then_read (otherwise_by line b.1) (joined_for t b.0))) i
    ∙ ap (λ o. then_read o (joined_for t b)) j

pub define_read : (line : LineParser) (ts : List Terminal) (x : Text) (opened first : List Terminal) (ps : List Text) (past : List Terminal) (body : List Stmt) (more : List Terminal) → name_at ts ≡ Some (x, opened)
    → after (Sign token.LeftParenthesis) opened ≡ Some first → parameters_by first ≡ Some (ps, past) → suite_by line past ≡ Some (body, more) → define_by line ts ≡ Some (tree.Define x ps (stmts_of body), more)
define_read line ts x opened first ps past body more h i j k =
    ap (λ o. then_read o (λ n. then_read (after (Sign token.LeftParenthesis) n.1) (λ rest. then_read (parameters_by rest) (defined_by line n.0)))) h
    ∙ ap (λ o. then_read o (λ rest. then_read (parameters_by rest) (defined_by line x))) i
    ∙ ap (λ o. then_read o (defined_by line x)) j
    ∙ ap (λ o. then_read o (λ b. Some (tree.Define x ps (stmts_of b.0), b.1))) k

pub finally_read : (line : LineParser) (ts : List Terminal) (body : List Stmt) (past : List Terminal) (cs : List Clause) (last : List Stmt) (more rest : List Terminal) (end : List Stmt) (done : List Terminal) → suite_by line ts ≡ Some (body, past)
    → handlers_by line past ≡ Some ((cs, last), more) → after (Word token.FinallyWord) more ≡ Some rest → suite_by line rest ≡ Some (end, done)
    → try_by line ts ≡ Some (tree.Finally (stmts_of body) (clauses_of cs) (stmts_of last) (stmts_of end), done)
finally_read line ts body past cs last more rest end done h i is j =
    ap (λ o. then_read o (λ b. then_read (handlers_by line b.1) (λ h. finally_from line (stmts_of b.0) h (after (Word token.FinallyWord) h.1)))) h
    ∙ ap (λ o. then_read o (λ h. finally_from line (stmts_of body) h (after (Word token.FinallyWord) h.1))) i
    ∙ ap (finally_from line (stmts_of body) ((cs, last), more)) is
    ∙ ap (λ o. then_read o (λ b. Some (tree.Finally (stmts_of body) (clauses_of cs) (stmts_of last) (stmts_of b.0), b.1))) j

-- with a clause at least an `else` may follow, and no `finally` need
pub handled_some : (line : LineParser) (cs : List Clause) (ts : List Terminal) → 0 < length cs → handled_from line cs ts ≡ then_read (otherwise_by line ts) (λ o. Some ((cs, o.0), o.1))
handled_some line [] ts some = absurd (omega arith)
handled_some line (c ∷ cs) ts some = refl

pub handled_none : (line : LineParser) (cs : List Clause) (ts : List Terminal) → length cs ≡ 0 → handled_from line cs ts ≡ Some ((cs, []), ts)
handled_none line [] ts none = refl
handled_none line (c ∷ cs) ts none = absurd (omega arith)

pub tried_some : (body : Stmts) (cs : List Clause) (last : List Stmt) (ts : List Terminal) → 0 < length cs → tried body cs last ts ≡ Some (tree.Try body (clauses_of cs) (stmts_of last), ts)
tried_some body [] last ts some = absurd (omega arith)
tried_some body (c ∷ cs) last ts some = refl

pub tried_none : (body : Stmts) (cs : List Clause) (last : List Stmt) (ts : List Terminal) → length cs ≡ 0 → tried body cs last ts ≡ None
tried_none body [] last ts none = refl
tried_none body (c ∷ cs) last ts none = absurd (omega arith)

pub try_read : (line : LineParser) (ts : List Terminal) (body : List Stmt) (rest : List Terminal) (cs : List Clause) (last : List Stmt) (more : List Terminal) → suite_by line ts ≡ Some (body, rest)
    → handlers_by line rest ≡ Some ((cs, last), more) → after (Word token.FinallyWord) more ≡ None → 0 < length cs → try_by line ts ≡ Some (tree.Try (stmts_of body) (clauses_of cs) (stmts_of last), more)
try_read line ts body rest cs last more h i not_finally some =
    ap (λ o. then_read o (λ b. then_read (handlers_by line b.1) (λ h. finally_from line (stmts_of b.0) h (after (Word token.FinallyWord) h.1)))) h
    ∙ ap (λ o. then_read o (λ h. finally_from line (stmts_of body) h (after (Word token.FinallyWord) h.1))) i
    ∙ ap (finally_from line (stmts_of body) ((cs, last), more)) not_finally
    ∙ tried_some (stmts_of body) cs last more some

dedent_rest : (ts rest : List Terminal) → after DEDENT ts ≡ Some rest → rest_of ts ≡ rest
dedent_rest [] rest h = cc
dedent_rest (DEDENT ∷ ts) rest h = cc
dedent_rest (_ ∷ ts) rest h = cc

pub many_over : {B : Type 0} (item : B → List Terminal → Option (B × List Terminal)) (ends : List Terminal → Bool) (k : ℕ) (b : B) (ts : List Terminal) → 0 < k → ends ts ≡ true → many_by item ends k b ts ≡ Some (b, ts)
many_over item ends k b ts positive over =
    many_by_step item ends k b ts positive ∙ ap (λ t. if t then Some (b, ts) else then_read (item b ts) (λ r. many_by item ends (k - 1) r.0 r.1)) over

module _ {B : Type 0} (item : B → List Terminal → Option (B × List Terminal)) (ends : List Terminal → Bool) (k j : ℕ) (b : B) (ts : List Terminal) (one : k ≡ j + 1) (more : ends ts ≡ false) where
  many_turn : many_by item ends k b ts ≡ then_read (item b ts) (λ r. many_by item ends j r.0 r.1)
  many_turn =
      let same : k - 1 ≡ j = omega arith in
      many_by_step item ends k b ts (omega arith)
      ∙ ap (λ t. if t then Some (b, ts) else then_read (item b ts) (λ r. many_by item ends (k - 1) r.0 r.1)) more
      ∙ ap (λ i. then_read (item b ts) (λ r. many_by item ends i r.0 r.1)) same

  pub many_on : (c : B) (rest : List Terminal) → item b ts ≡ Some (c, rest) → many_by item ends k b ts ≡ many_by item ends j c rest
  many_on c rest h = many_turn ∙ ap (λ r. then_read r (λ r. many_by item ends j r.0 r.1)) h
