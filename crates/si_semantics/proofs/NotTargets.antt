-- Neither `()` nor `[]` spells a target, and a name alone no item.
use Rattle.std.proofs.Common.{◌≡◌, ℕ, zero, suc, ◌<◌, List, [], ◌∷◌, ◌++◌, length, inl, inr, Some, None, refl, subst, arith}
use Rattle.si_semantics.specs.Value.{Text, Nothing, Truth, Int, Str, Bytes, Provided, Function, Range, Tuple, Class, Module, Queue, Interpreter, Exec, Address}
use Rattle.si_semantics.specs.Tree as tree
use Rattle.si_semantics.specs.Tree.{Expr, Exprs, Target}
use Rattle.si_semantics.specs.Tokens as tokens
use Rattle.si_semantics.specs.Grammar.{Terminal, NAME, Sign, bit_or_level, item_level, primary_level, Separated, Ended, Spells, items_of, max_depth, max_item_depth, target_of, IsTarget}

-- ---- lists

nothing_after : (f : List Terminal) (x : Terminal) (g : List Terminal) → [] ≡ f ++ x ∷ g → ⊥
nothing_after [] x g e = cc
nothing_after (y ∷ f) x g e = cc

nothing_in_front : (f g : List Terminal) → [] ≡ f ++ g → f ≡ []
nothing_in_front [] g e = refl
nothing_in_front (y ∷ f) g e = cc

-- ---- every expression has a terminal

not_empty : (n l : ℕ) (e : Expr) → Spells n l e [] → ⊥
not_empty zero l e h = h
not_empty (suc n) l e (inr (f, h, g)) = cc
not_empty (suc n) l (tree.Name x) (inl h) = cc
not_empty (suc n) l (tree.Constant (Int i)) (inl (digits, h, v)) = cc
not_empty (suc n) l (tree.Constant (Str s)) (inl (h, g, v)) = absurd (omega (arith, h))
not_empty (suc n) l (tree.Constant (Bytes s)) (inl (h, g, v)) = absurd (omega (arith, h))
not_empty (suc n) l (tree.Constant Nothing) (inl h) = cc
not_empty (suc n) l (tree.Constant (Truth b)) (inl h) = cc
not_empty (suc n) l (tree.Constant (Provided b)) (inl h) = h
not_empty (suc n) l (tree.Constant (Function x k)) (inl h) = h
not_empty (suc n) l (tree.Constant (Range a b c)) (inl h) = h
not_empty (suc n) l (tree.Constant (Tuple vs)) (inl h) = h
not_empty (suc n) l (tree.Constant (Class k)) (inl h) = h
not_empty (suc n) l (tree.Constant (Module m)) (inl h) = h
not_empty (suc n) l (tree.Constant (Queue q m)) (inl h) = h
not_empty (suc n) l (tree.Constant (Interpreter i)) (inl h) = h
not_empty (suc n) l (tree.Constant (Exec i)) (inl h) = h
not_empty (suc n) l (tree.Constant (Address x)) (inl h) = h
not_empty (suc n) l (tree.Unary op a) (inl (f, h, i, k)) = cc
not_empty (suc n) l (tree.Binary op a b) (inl (f, g, h, i, k, m)) = nothing_after f _ _ h
not_empty (suc n) l (tree.Attribute a x) (inl (f, h, i, k)) = nothing_after f _ _ h
not_empty (suc n) l (tree.Call a x args names) (inl (f, g, p, passed, h, i, k, m, o, q)) = nothing_after f _ _ h
not_empty (suc n) l (tree.Subscript a b) (inl (f, g, h, i, k, m)) = nothing_after f _ _ h
not_empty (suc n) l (tree.ListDisplay items) (inl (f, h, k)) = cc
not_empty (suc n) l (tree.DictDisplay items) (inl (ps, f, h, i, k)) = cc
not_empty (suc n) l (tree.Tuple items) (inl (f, h, k)) = cc
not_empty (suc n) l (tree.Compare a cs) (inl (f, g, h, i, k, m, o)) = not_empty n bit_or_level a (subst (λ ts. Spells n bit_or_level a ts) (nothing_in_front f g h) k)
not_empty (suc n) l (tree.Boolean w a es) (inl (f, g, h, i, k, m, o)) = not_empty n (item_level w) a (subst (λ ts. Spells n (item_level w) a ts) (nothing_in_front f g h) k)
not_empty (suc n) l (tree.Conditional a b c) (inl (f, g, j, h, i, k, m, o)) = nothing_after f _ _ h

-- ---- rows

-- items that nothing spells are none, whether an only one has a comma after it or not
ended_by_nothing : (n : ℕ) (items : Exprs) → Ended (Spells n 1) tokens.Comma (items_of items) [] → items ≡ tree.NoExprs
ended_by_nothing n tree.NoExprs h = refl
ended_by_nothing n (tree.MoreExprs a tree.NoExprs) (f, h, k) = absurd (nothing_after f _ _ h)
ended_by_nothing n (tree.MoreExprs a (tree.MoreExprs b es)) (f, g, h, k, m) = absurd (not_empty n 1 a (subst (λ ts. Spells n 1 a ts) (nothing_in_front f g h) k))

separated_by_nothing : (n : ℕ) (items : Exprs) → Separated (Spells n 1) tokens.Comma (items_of items) [] → items ≡ tree.NoExprs
separated_by_nothing n tree.NoExprs h = refl
separated_by_nothing n (tree.MoreExprs a es) (f, g, h, k, m) = absurd (not_empty n 1 a (subst (λ ts. Spells n 1 a ts) (nothing_in_front f g h) k))

-- nothing stands between two terminals that are all
between : (x y z : Terminal) (f : List Terminal) → x ∷ y ∷ [] ≡ x ∷ (f ++ z ∷ []) → f ≡ []
between x y z [] e = refl
between x y z (a ∷ []) e = cc
between x y z (a ∷ b ∷ f) e = cc

-- what is in front of one of two terminals
none_of_two : (x y z : Terminal) (f g : List Terminal) → (x ≡ z → ⊥) → (y ≡ z → ⊥) → x ∷ y ∷ [] ≡ f ++ z ∷ g → ⊥
none_of_two x y z [] g h k e = h cc
none_of_two x y z (a ∷ []) g h k e = k cc
none_of_two x y z (a ∷ b ∷ []) g h k e = cc
none_of_two x y z (a ∷ b ∷ c ∷ f) g h k e = cc

-- an opening bracket in front of another is the first of two
front_of_two : (f g : List Terminal) → Sign tokens.LeftBracket ∷ Sign tokens.RightBracket ∷ [] ≡ f ++ Sign tokens.LeftBracket ∷ g → f ≡ []
front_of_two [] g e = refl
front_of_two (x ∷ []) g e = cc
front_of_two (x ∷ y ∷ []) g e = cc
front_of_two (x ∷ y ∷ z ∷ f) g e = cc

-- two terminals that are no comma are no items with commas, of which there is one at least
no_comma : (n : ℕ) (x y : Terminal) (es : List Expr) → (x ≡ Sign tokens.Comma → ⊥) → (y ≡ Sign tokens.Comma → ⊥) → 0 < length es
    → Ended (Spells n 1) tokens.Comma es (x ∷ y ∷ [])
    → ⊥
no_comma n x y [] h k some ended = absurd (omega (arith, some))
no_comma n x y (a ∷ []) h k some (f, e, i) = none_of_two x y (Sign tokens.Comma) f [] h k e
no_comma n x y (a ∷ b ∷ es) h k some (f, g, e, i, (f1, g1, j, m, o)) =
    none_of_two x y (Sign tokens.Comma) f (f1 ++ g1) h k (subst (λ ts. x ∷ y ∷ [] ≡ f ++ ts) j e)

-- ---- targets

not_round : (n l : ℕ) (e : Expr) (t : Target) → target_of e ≡ Some t → Spells n l e (Sign tokens.LeftParenthesis ∷ Sign tokens.RightParenthesis ∷ []) → ⊥
not_round zero l e t h s = s
not_round (suc n) l e t h (inr (f, i, k)) = not_empty n 1 e (subst (λ ts. Spells n 1 e ts) (between _ _ _ f i) k)
not_round (suc n) l (tree.Name x) t h (inl i) = cc
not_round (suc n) l (tree.Subscript a b) t h (inl (f, g, i, j, k, m)) = none_of_two _ _ (Sign tokens.LeftBracket) f _ (λ e. cc) (λ e. cc) i
not_round (suc n) l (tree.Tuple items) t h (inl (f, i, k)) =
    let none = ended_by_nothing n items (subst (λ ts. Ended (Spells n 1) tokens.Comma (items_of items) ts) (between _ _ _ f i) k) in
    let bad : target_of (tree.Tuple tree.NoExprs) ≡ Some t = subst (λ es. target_of (tree.Tuple es) ≡ Some t) none h in
    absurd (let no : None ≡ Some t = bad in cc)
not_round (suc n) l (tree.ListDisplay items) t h (inl (f, i, k)) = cc
not_round (suc n) l (tree.Constant v) t h (inl i) = cc
not_round (suc n) l (tree.Unary op a) t h (inl i) = cc
not_round (suc n) l (tree.Binary op a b) t h (inl i) = cc
not_round (suc n) l (tree.Attribute a x) t h (inl i) = cc
not_round (suc n) l (tree.Call a x args names) t h (inl i) = cc
not_round (suc n) l (tree.DictDisplay items) t h (inl i) = cc
not_round (suc n) l (tree.Boolean o a es) t h (inl i) = cc
not_round (suc n) l (tree.Compare a cs) t h (inl i) = cc
not_round (suc n) l (tree.Conditional a b c) t h (inl i) = cc

not_square : (n l : ℕ) (e : Expr) (t : Target) → target_of e ≡ Some t → Spells n l e (Sign tokens.LeftBracket ∷ Sign tokens.RightBracket ∷ []) → ⊥
not_square zero l e t h s = s
not_square (suc n) l e t h (inr (f, i, k)) = cc
not_square (suc n) l (tree.Name x) t h (inl i) = cc
not_square (suc n) l (tree.Subscript a b) t h (inl (f, g, i, j, k, m)) = not_empty n primary_level a (subst (λ ts. Spells n primary_level a ts) (front_of_two f _ i) k)
not_square (suc n) l (tree.Tuple items) t h (inl (f, i, k)) = cc
not_square (suc n) l (tree.ListDisplay items) t h (inl (f, i, k)) =
    let none = separated_by_nothing n items (subst (λ ts. Separated (Spells n 1) tokens.Comma (items_of items) ts) (between _ _ _ f i) k) in
    let bad : target_of (tree.ListDisplay tree.NoExprs) ≡ Some t = subst (λ es. target_of (tree.ListDisplay es) ≡ Some t) none h in
    absurd (let no : None ≡ Some t = bad in cc)
not_square (suc n) l (tree.Constant v) t h (inl i) = cc
not_square (suc n) l (tree.Unary op a) t h (inl i) = cc
not_square (suc n) l (tree.Binary op a b) t h (inl i) = cc
not_square (suc n) l (tree.Attribute a x) t h (inl i) = cc
not_square (suc n) l (tree.Call a x args names) t h (inl i) = cc
not_square (suc n) l (tree.DictDisplay items) t h (inl i) = cc
not_square (suc n) l (tree.Boolean o a es) t h (inl i) = cc
not_square (suc n) l (tree.Compare a cs) t h (inl i) = cc
not_square (suc n) l (tree.Conditional a b c) t h (inl i) = cc

-- no bracket is a comma
pub record NoComma : Type 0 where
  pub left : Sign tokens.LeftParenthesis ≡ Sign tokens.Comma → ⊥
  pub right : Sign tokens.RightParenthesis ≡ Sign tokens.Comma → ⊥
  pub left_square : Sign tokens.LeftBracket ≡ Sign tokens.Comma → ⊥
  pub right_square : Sign tokens.RightBracket ≡ Sign tokens.Comma → ⊥

brackets : NoComma
brackets = record { left = λ e. cc; right = λ e. cc; left_square = λ e. cc; right_square = λ e. cc }

pub no_round_target : (t : Target) → IsTarget t (Sign tokens.LeftParenthesis ∷ Sign tokens.RightParenthesis ∷ []) → ⊥
no_round_target t (e, h, inl s) = not_round max_depth 1 e t h s
no_round_target t (e, h, inr (es, i, some, s)) = no_comma max_item_depth _ _ es brackets.left brackets.right some s

pub no_square_target : (t : Target) → IsTarget t (Sign tokens.LeftBracket ∷ Sign tokens.RightBracket ∷ []) → ⊥
no_square_target t (e, h, inl s) = not_square max_depth 1 e t h s
no_square_target t (e, h, inr (es, i, some, s)) = no_comma max_item_depth _ _ es brackets.left_square brackets.right_square some s

-- ---- items

pub not_an_item : (n l : ℕ) (x : Text) (a b : Expr) → Spells n l (tree.Subscript a b) (NAME x ∷ []) → ⊥
not_an_item zero l x a b h = h
not_an_item (suc n) l x a b (inl (f, g, h, i, k, m)) = by f _ h
  where
    by : (f g : List Terminal) → NAME x ∷ [] ≡ f ++ Sign tokens.LeftBracket ∷ g → ⊥
    by [] g e = cc
    by (y ∷ []) g e = cc
    by (y ∷ z ∷ f) g e = cc
not_an_item (suc n) l x a b (inr (f, h, k)) = cc

pub not_deleted : (n l : ℕ) (x : Text) (a b : Expr) (w : Terminal) (f : List Terminal) → w ∷ NAME x ∷ [] ≡ w ∷ f → Spells n l (tree.Subscript a b) f → ⊥
not_deleted n l x a b w [] e h = cc
not_deleted n l x a b w (y ∷ []) e h =
    let same : y ≡ NAME x = cc in
    not_an_item n l x a b (subst (λ z. Spells n l (tree.Subscript a b) (z ∷ [])) same h)
not_deleted n l x a b w (y ∷ z ∷ f) e h = cc
