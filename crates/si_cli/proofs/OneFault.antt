-- A command with no subcommands finds at most one kind of fault in its words.
use Rattle.std.proofs.Common.{◌≡◌, ◌&&◌, ◌||◌, ◌==◌, ◌+◌, ℕ, min, zero, suc, Bool, true, false, not, List, [], ◌∷◌, Option, Some, None, refl, drop, length, if◌then◌else◌, nat_lt, bytes_eq, slice_get, subst, sym, chars, encode_utf8, is_some}
use Rattle.std.specs.Option.{option_map_or}
use Rattle.clap.specs.Lexer.{long_of, short_of}
use Rattle.clap.specs.Matches.{count_text}
use Rattle.clap.specs.Facts.{parser_of_value, unwrap_or_range}
use Rattle.clap.specs.Kinds.{Kinds, check_kinds, or_else, range_kinds, request_kinds, value_kinds, values_kinds}
use Rattle.clap.specs.Values.{refused_kind}
use Rattle.clap.specs.ValueTests.{accepts}
use Rattle.clap.specs.Walk.{Held, Row, Rule, Step, Text, Waiting, Walk, action_of, arg_by_id, arg_by_index, arg_by_long, arg_by_short, attached_value, count_of, finished, has_row, is_empty, is_pending, most_values, reacted, settled, subcommand_met, takes_several, takes_values, value, values_or_missing, walk, walk_from, walked, with_default, word_met}
use Rattle.clap.specs.Walk as walk
use Rattle.clap.specs.Simple.{Shape}
use Rattle.clap.specs.Faults.{action_fault, built_fault, bundle_fault, bundle_step_fault, check_fault, count_fault, default_fault, defaults_fault, entered_fault, flag_word_fault, flags_fault, level_fault, long_fault, option_fault, other_fault, positional_fault, react_fault, repeat_fault, set_fault, settle_fault, short_fault, step_fault, stray_fault, turn_fault, use_fault, values_fault, walk_fault, word_fault}
use Rattle.clap.specs.declared.builder.value_parser.ValueParser.{ValueParser}
use Rattle.clap.specs.declared.builder.action.ArgAction.{ArgAction}
use Rattle.clap.specs.declared.builder.action.ArgAction.TheVariants as action
use Rattle.clap.specs.declared.error.kind.ErrorKind.TheVariants as kind

-- no more than one kind
abbrev pub IsOne : Kinds → Type 0
IsOne [] = Unit {0}
IsOne (k ∷ []) = Unit {0}
IsOne (k ∷ l ∷ ks) = ⊥

-- the first that is there, of two
first : (ks ls : Kinds) → IsOne ks → IsOne ls → IsOne (or_else ks ls)
first [] ls h k = k
first (x ∷ ks) ls h k = h

-- one of two
choice : (t : Bool) (ks ls : Kinds) → IsOne ks → IsOne ls → IsOne (if t then ks else ls)
choice true ks ls h k = h
choice false ks ls h k = k

-- what is found of a thing, where it is there
perhaps : {A : Type 0} (f : A → Kinds) (o : Option A) (ks : Kinds) → ((a : A) → IsOne (f a)) → IsOne ks → IsOne (option_map_or f o ks)
perhaps f None ks h k = k
perhaps f (Some a) ks h k = h a

one_value : (i : Bool) (p : ValueParser) (text : List ℕ) → IsOne (value_kinds i p text)
one_value i p text = choice (accepts i p text) [] (refused_kind p ∷ []) tt tt

one_of_values : (i : Bool) (p : ValueParser) (vs : List (List ℕ)) → IsOne (values_kinds i p vs)
one_of_values i p [] = tt
one_of_values i p (v ∷ vs) = first (value_kinds i p v) (values_kinds i p vs) (one_value i p v) (one_of_values i p vs)

one_range : (least most n : ℕ) → IsOne (range_kinds least most n)
one_range least most n =
    choice (nat_lt 0 least && n == 0) _ _ tt
    (choice (least == most) _ _ (choice (least == n) _ _ tt tt)
    (choice (nat_lt n least) _ _ tt (choice (nat_lt most n) _ _ tt tt)))

one_request : (a : ArgAction) → IsOne (request_kinds a)
one_request action.Set = tt
one_request action.Append = tt
one_request action.SetTrue = tt
one_request action.SetFalse = tt
one_request action.Count = tt
one_request action.Help = tt
one_request action.HelpShort = tt
one_request action.HelpLong = tt
one_request action.Version = tt

one_set : (again : Bool) (a : Rule) (vs : List Text) (rows : List Row) → IsOne (set_fault again a vs rows)
one_set again a vs rows = first (repeat_fault again a.id rows) (values_fault a vs) (choice (has_row a.id rows && not again) _ _ tt tt) (one_of_values _ _ vs)

one_count : (a : Rule) (vs : List Text) (rows : List Row) → IsOne (count_fault a vs rows)
one_count a [] rows = one_value a.ignore_case (parser_of_value a.parser) (count_text (min (count_of a.id rows + 1) 255))
one_count a (v ∷ vs) rows = one_of_values _ _ (v ∷ vs)

one_action : (x : ArgAction) (again : Bool) (a : Rule) (vs : List Text) (rows : List Row) → IsOne (action_fault x again a vs rows)
one_action action.Set again a vs rows = one_set again a vs rows
one_action action.SetTrue again a vs rows = one_set again a vs rows
one_action action.SetFalse again a vs rows = one_set again a vs rows
one_action action.Append again a vs rows = one_of_values _ _ vs
one_action action.Count again a vs rows = one_count a vs rows
one_action action.Help again a vs rows = tt
one_action action.HelpShort again a vs rows = tt
one_action action.HelpLong again a vs rows = tt
one_action action.Version again a vs rows = tt

one_use : (again : Bool) (a : Rule) (vs : List Text) (rows : List Row) → IsOne (use_fault again a vs rows)
one_use again a vs rows =
    first (range_kinds (unwrap_or_range a.range).start_inclusive (most_values a) (length vs))
    (action_fault (action_of a) again a (values_or_missing a vs) rows) (one_range (unwrap_or_range a.range).start_inclusive (most_values a) (length vs))
    (one_action (action_of a) again a (values_or_missing a vs) rows)

one_settled : (c : List Rule) (again : Bool) (h : Held) → IsOne (settle_fault c again h)
one_settled c again h =
    perhaps (λ (p : Text × List Text). option_map_or (λ a. use_fault again a p.1 h.rows) (arg_by_id c p.0) []) h.pending []
    (λ p. perhaps (λ (a : Rule). use_fault again a p.1 h.rows) (arg_by_id c p.0) [] (λ a. one_use again a p.1 h.rows) tt) tt

one_reaction : (c : List Rule) (again : Bool) (a : Rule) (vs : List Text) (h : Held) → IsOne (react_fault c again a vs h)
one_reaction c again a vs h =
    first (settle_fault c again h) (use_fault again a vs (settled c h).rows) (one_settled c again h) (one_use again a vs (settled c h).rows)

one_option : (c : List Rule) (again : Bool) (a : Rule) (v : Option Text) (h : Held) → IsOne (option_fault c again a v h)
one_option c again a (Some v) h = one_reaction c again a (v ∷ []) h
one_option c again a None h = one_settled c again h

one_long : (c : List Rule) (again : Bool) (a : Option Rule) (v : Option Text) (h : Held) → IsOne (long_fault c again a v h)
one_long c again None v h = tt
one_long c again (Some a) v h =
    choice (takes_values a) _ _ (one_option c again a v h) (choice (is_some v) _ _ tt (one_reaction c again a [] h))

one_short : (c : List Rule) (again : Bool) (a : Option Rule) (rest : Text) (h : Held) (next : Held → Kinds) → ((g : Held) → IsOne (next g)) → IsOne (short_fault c again a rest h next)
one_short c again None rest h next k = tt
one_short c again (Some a) rest h next k =
    choice (takes_values a) _ _ (one_option c again a (attached_value rest) h)
    (first (react_fault c again a [] h) (next (reacted c a [] h)) (one_reaction c again a [] h) (k (reacted c a [] h)))

one_in_bundle : (c : List Rule) (again : Bool) (x : Option ℕ) (flags : Text) (skip : ℕ) (h : Held) (next : Text → ℕ → Held → Kinds) → ((t : Text) (n : ℕ) (g : Held) → IsOne (next t n g)) → IsOne (bundle_step_fault c again x flags skip h next)
one_in_bundle c again None flags skip h next k = tt
one_in_bundle c again (Some x) flags zero h next k =
    let rest = drop (length (encode_utf8 x)) flags in
    one_short c again (arg_by_short c x) rest h (next rest 0) (k rest 0)
one_in_bundle c again (Some x) flags (suc skip) h next k = k (drop (length (encode_utf8 x)) flags) skip h

one_in_flags : (c : List Rule) (again : Bool) (n : ℕ) (flags : Text) (skip : ℕ) (h : Held) → IsOne (flags_fault c again n flags skip h)
unfolding flags_fault
one_in_flags c again zero flags skip h = tt
one_in_flags c again (suc k) flags skip h =
    one_in_bundle c again (slice_get (chars flags) 0) flags skip h (flags_fault c again k) (one_in_flags c again k)

one_flag_word : (c : List Rule) (again : Bool) (p : Option (Text × Option Text)) (word : Text) (h : Held) → IsOne (flag_word_fault c again p word h)
one_flag_word c again (Some p) word h = one_long c again (arg_by_long c p.0) p.1 h
one_flag_word c again None word h =
    perhaps (λ (flags : Text). bundle_fault c again flags h) (short_of word) [] (λ flags. one_in_flags c again (length flags) flags h.skip (record h { skip = 0 })) tt

-- no word names a subcommand, where there is none
none_met : (waiting : Waiting) (word : Text) → subcommand_met [] waiting word ≡ None
none_met walk.idle word = refl
none_met (walk.option id) word = refl
none_met walk.positional word = refl

one_other : (s : Shape) (word : Text) (h : Held) → IsOne (other_fault s None word h)
one_other s word h = choice (bytes_eq word (45 ∷ 45 ∷ [])) _ _ tt (one_flag_word s.rules s.args_override_self (long_of word) word h)

one_word : (s : Shape) (is_trailing : Bool) (waiting : Waiting) (word : Text) (h : Held) → IsOne (word_fault s [] is_trailing waiting word h)
one_word s is_trailing waiting word h =
    choice is_trailing _ _ tt
    (subst (λ (met : Option Text). IsOne (other_fault s met word h)) (sym (none_met waiting word)) (one_other s word h))

one_positional : (c : List Rule) (again : Bool) (a : Rule) (h : Held) → IsOne (positional_fault c again a h)
one_positional c again a h = choice (is_pending a h.pending && takes_several a) _ _ tt (one_settled c again h)

one_stray : (s : Shape) → s.is_leaf ≡ true → IsOne (stray_fault s)
one_stray s leaf = subst (λ (t : Bool). IsOne (if t then kind.UnknownArgument ∷ [] else kind.UnknownArgument ∷ kind.InvalidSubcommand ∷ [])) (sym leaf) tt

one_step : (s : Shape) (position : ℕ) (h : Held) (step : Step) → s.is_leaf ≡ true → IsOne (step_fault s position h step)
one_step s position h walk.value leaf =
    perhaps (λ (a : Rule). positional_fault s.rules s.args_override_self a h) (arg_by_index s.rules position) (stray_fault s)
    (λ a. one_positional s.rules s.args_override_self a h) (one_stray s leaf)
one_step s position h (walk.next waiting) leaf = tt
one_step s position h (walk.trailing p) leaf = tt
one_step s position h (walk.subcommand name) leaf = tt

one_turn : (s : Shape) (w : Walk) (word : Text) → s.is_leaf ≡ true → IsOne (turn_fault s [] w word)
one_turn s w word leaf =
    let met = word_met s.rules [] w.is_trailing w.waiting w.position word w.held in
    choice (is_some w.stopped) _ _ tt
    (first (word_fault s [] w.is_trailing w.waiting word w.held) (step_fault s w.position met.0 met.1)
    (one_word s w.is_trailing w.waiting word w.held) (one_step s w.position met.0 met.1 leaf))

one_in_walk : (s : Shape) (w : Walk) (words : List Text) → s.is_leaf ≡ true → IsOne (walk_fault s [] w words)
unfolding walk_fault
one_in_walk s w [] leaf = tt
one_in_walk s w (word ∷ rest) leaf =
    first (turn_fault s [] w word) (walk_fault s [] (walked s.rules [] w word) rest)
    (one_turn s w word leaf) (one_in_walk s (walked s.rules [] w word) rest leaf)

one_default : (rows : List Row) (a : Rule) → IsOne (default_fault rows a)
one_default rows a =
    choice (has_row a.id rows || is_empty a.defaults) _ _ tt
    (first (request_kinds (action_of a)) (values_fault a a.defaults) (one_request (action_of a)) (one_of_values _ _ a.defaults))

one_of_defaults : (rows : List Row) (rules : List Rule) → IsOne (defaults_fault rows rules)
unfolding defaults_fault
one_of_defaults rows [] = tt
one_of_defaults rows (a ∷ rest) =
    first (default_fault rows a) (defaults_fault (with_default rows a) rest) (one_default rows a) (one_of_defaults (with_default rows a) rest)

one_check : (help sub arg : Bool) → IsOne (check_kinds help sub arg)
one_check help sub arg = choice help _ _ tt (choice sub _ _ tt (choice arg _ _ tt tt))

one_at_level : (s : Shape) (h : Held) (words : List Text) (has_subcommand : Bool) (below : Kinds) → s.is_leaf ≡ true → IsOne below → IsOne (level_fault s [] h words has_subcommand below)
one_at_level s h words has_subcommand below leaf k =
    let end = (walk s.rules [] h words).held in
    first (walk_fault s [] (walk_from h) words) _ (one_in_walk s (walk_from h) words leaf)
    (first below _ k
    (first (settle_fault s.rules s.args_override_self end) _ (one_settled s.rules s.args_override_self end)
    (first (defaults_fault (settled s.rules end).rows s.rules) (check_fault s (finished s.rules end) has_subcommand)
    (one_of_defaults (settled s.rules end).rows s.rules) (one_check _ _ _))))

-- no subcommand is entered, where there is none
none_entered : (top : Shape) (stop : Option (Text × List Text)) → IsOne (entered_fault (record { top = top; subs = [] }) stop)
none_entered top None = tt
none_entered top (Some p) = tt

pub one_fault : (top : Shape) (h : Held) (words : List Text) → top.is_leaf ≡ true → IsOne (built_fault (record { top = top; subs = [] }) h words)
one_fault top h words leaf = one_at_level top h words _ _ leaf (none_entered top _)
