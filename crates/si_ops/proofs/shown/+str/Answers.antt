use Rattle.std.proofs.Common.{◌≡◌, ℕ, [], Some, Result, Ok, Err, refl, sym, ap, subst, ◌∙◌, codes, arith}
use Rattle.si_plain.specs.declared.kind.Kind.TheVariants as kind
use Rattle.std.specs.declared.string.String.{String}
use Rattle.si_semantics.specs.Value as pure
use Rattle.si_semantics.specs.Opened.{opened_at}
use Rattle.si_semantics.specs.Text.{Written, Whole, str_of, repr_of}
use Rattle.si_arena.specs.declared.cause.Fault.{Fault}
use Rattle.si_arena.specs.declared.cause.Fault.TheVariants.{NoMemory}
use Rattle.si_arena.specs.declared.object.Object.{Object}
use Rattle.si_arena.specs.declared.object.Object.TheVariants.{Bare, Made, Caused, Thread, Started}
use Rattle.si_arena.specs.Causes.{kind_of, message_of}
use Rattle.si_arena.specs.Texts.{characters_in}
use Rattle.si_arena.specs.Memory.{Memory, value_of, all_of, object_of, pairs_of}
use Rattle.si_ops.specs.Writing.{Puts, caused_str}
use Rattle.si_ops.specs.inner.Written.{str_within}
use Rattle.si_ops.proofs.Adding.{adds_none}
use Rattle.si_ops.proofs.Ends.{passed}
use Rattle.si_ops.proofs.Showing.{argument_lies, cause_lies, str_at, str_own, str_caused, str_of_other, str_deeper, str_shown, str_bottom}
use Rattle.si_ops.proofs.shown.+str.Goals as goal

-- ---- exceptions and threads

abbrev Says : Memory → ℕ → ℕ → Object → {Z : Type 0} → String Z → String Z → Result (Unit {0}) Fault → Type 0
Says m n start o old new r = (x : ℕ) → Puts {U = Unit {0}} (str_within n m.store (opened_at x (Some (object_of m o)))) start old new r

says_as : (m : Memory) (n start : ℕ) {Z : Type 0} (o p : Object) (w : Written) (old new : String Z) (r : Result (Unit {0}) Fault) → o ≡ p → ((x : ℕ) → str_within n m.store (opened_at x (Some (object_of m p))) ≡ w) → Puts {U = Unit {0}} w start old new r → Says m n start o old new r
says_as m n start o p w old new r is e h = λ x. subst (λ v. Puts {U = Unit {0}} v start old new r) (sym (ap (λ q. str_within n m.store (opened_at x (Some (object_of m q)))) is ∙ e x)) h

pub put_plain_str-returns-in-Bare : goal.put_plain_str-returns-in-Bare
put_plain_str-returns-in-Bare t c =
    let m = c.args.arena.now in
    says_as m c.args.depth c.args.start c.args.object (Bare _) (Whole []) c.args.out.now c.args.out.now (Ok tt) c.in-Bare.is (λ x. refl) ([], refl, adds_none c.args.out.now)

pub put_plain_str-put_caused_str-requires : goal.put_plain_str-put_caused_str-requires
put_plain_str-put_caused_str-requires t c = cause_lies c.args.arena.now c.args.object c.in-Caused.cause c.in-Caused.is c.requires

pub put_plain_str-returns-in_err-put_caused_str-in-Caused : goal.put_plain_str-returns-in_err-put_caused_str-in-Caused
put_plain_str-returns-in_err-put_caused_str-in-Caused t c =
    let m = c.args.arena.now in
    let q = c.in-Caused.cause in
    passed c.from_residual.result (Says m c.args.depth c.args.start c.args.object c.args.out.now c.put_caused_str.new.out) NoMemory c.from_residual.ensures.1
    (says_as m c.args.depth c.args.start c.args.object (Caused q) (Whole (caused_str (kind_of q) (message_of m.names q))) c.args.out.now c.put_caused_str.new.out (Err NoMemory) c.in-Caused.is (str_caused c.args.depth m q) c.in_err-put_caused_str-in-Caused.ensures.err)

pub put_plain_str-returns-in_ok-put_caused_str-in-Caused : goal.put_plain_str-returns-in_ok-put_caused_str-in-Caused
put_plain_str-returns-in_ok-put_caused_str-in-Caused t c =
    let m = c.args.arena.now in
    let q = c.in-Caused.cause in
    says_as m c.args.depth c.args.start c.args.object (Caused q) (Whole (caused_str (kind_of q) (message_of m.names q))) c.args.out.now c.put_caused_str.new.out (Ok tt) c.in-Caused.is (str_caused c.args.depth m q)
    (caused_str (kind_of q) (message_of m.names q), refl, c.in_ok-put_caused_str-in-Caused.ensures.ok)

pub put_plain_str-put_repr-requires : goal.put_plain_str-put_repr-requires
put_plain_str-put_repr-requires t c = argument_lies c.args.arena.now c.args.object _ c.in-Made.argument c.in-Made.is c.requires

pub put_plain_str-returns-in-KeyError : goal.put_plain_str-returns-in-KeyError
put_plain_str-returns-in-KeyError t c =
    let m = c.args.arena.now in
    let u = c.in-Made.argument in
    says_as m c.args.depth c.args.start c.args.object (Made kind.KeyError u) (repr_of c.args.depth m.store [] (value_of m u)) c.args.out.now c.put_repr.new.out c.put_repr.result (c.in-Made.is ∙ ap (λ k. Made k u) c.in-KeyError.is) (λ x. refl) c.put_repr.ensures

pub put_plain_str-put_str-requires : goal.put_plain_str-put_str-requires
put_plain_str-put_str-requires t c = (omega (arith, c.decreases), argument_lies c.args.arena.now c.args.object _ c.in-Made.argument c.in-Made.is c.requires)

pub put_plain_str-returns-in_default : goal.put_plain_str-returns-in_default
put_plain_str-returns-in_default t c =
    let m = c.args.arena.now in
    let u = c.in-Made.argument in
    says_as m c.args.depth c.args.start c.args.object (Made c.in-Made.kind u) (str_of c.args.depth m.store (value_of m u)) c.args.out.now c.put_str.new.out c.put_str.result c.in-Made.is (λ x. str_of_other c.args.depth m c.in-Made.kind u x c.in_default.not-KeyError) c.put_str.ensures

pub put_plain_str-returns-in-Thread : goal.put_plain_str-returns-in-Thread
put_plain_str-returns-in-Thread t c =
    let m = c.args.arena.now in
    says_as m c.args.depth c.args.start c.args.object (Thread _ _) (Whole (codes "<Thread>")) c.args.out.now c.put_thread.new.out c.put_thread.result c.in-Thread.is (λ x. refl) (c.put_thread.ensures c.args.start)

pub put_plain_str-returns-in-Started : goal.put_plain_str-returns-in-Started
put_plain_str-returns-in-Started t c =
    let m = c.args.arena.now in
    says_as m c.args.depth c.args.start c.args.object (Started _) (Whole (codes "<Thread>")) c.args.out.now c.put_thread-in-Started.new.out c.put_thread-in-Started.result c.in-Started.is (λ x. refl) (c.put_thread-in-Started.ensures c.args.start)

-- ---- objects

pub put_object_str-returns-in-Plain : goal.put_object_str-returns-in-Plain
put_object_str-returns-in-Plain t c =
    let m = c.args.arena.now in
    subst (λ w. Puts {U = Unit {0}} w c.args.start c.args.out.now c.put_plain_str.new.out c.put_plain_str.result) (sym (str_at c.args.depth m.store c.args.address (object_of m c.in-Plain.object) c.in-Plain.ensures.object)) (c.put_plain_str.ensures c.args.address)

pub put_object_str-returns-in-List : goal.put_object_str-returns-in-List
put_object_str-returns-in-List t c =
    let m = c.args.arena.now in
    subst (λ w. Puts {U = Unit {0}} w c.args.start c.args.out.now c.put_list.new.out c.put_list.result) (sym (str_at c.args.depth m.store c.args.address (pure.Items (all_of m c.in-List.items.now)) c.in-List.ensures.object)) c.put_list.ensures

pub put_object_str-returns-in-Dict : goal.put_object_str-returns-in-Dict
put_object_str-returns-in-Dict t c =
    let m = c.args.arena.now in
    subst (λ w. Puts {U = Unit {0}} w c.args.start c.args.out.now c.put_dict.new.out c.put_dict.result) (sym (str_at c.args.depth m.store c.args.address (pure.Pairs (pairs_of m c.in-Dict.pairs.now)) c.in-Dict.ensures.object)) c.put_dict.ensures

-- ---- values

pub put_str-returns-then-depth-eq0 : goal.put_str-returns-then-depth-eq0
put_str-returns-then-depth-eq0 t c =
    let m = c.args.arena.now in
    subst (λ w. Puts {U = Unit {0}} w c.args.start c.args.out.now c.put_bottom.new.out c.put_bottom.result) (str_bottom c.args.depth m.store c.in-Object.address (value_of m c.args.value) c.if-depth-eq0.true c.in-Object.ensures.value) (c.put_bottom.ensures c.args.start)

pub put_str-returns-in_ok-put_characters-in-Str : goal.put_str-returns-in_ok-put_characters-in-Str
put_str-returns-in_ok-put_characters-in-Str t c =
    let m = c.args.arena.now in
    let s = characters_in c.in-Str.characters in
    (s, ap (str_of c.args.depth m.store) (sym c.in-Str.ensures.value) ∙ str_own c.args.depth m.store s, c.in_ok-put_characters-in-Str.ensures.ok)

pub put_str-returns-else-depth-eq0 : goal.put_str-returns-else-depth-eq0
put_str-returns-else-depth-eq0 t c =
    let m = c.args.arena.now in
    subst (λ w. Puts {U = Unit {0}} w c.args.start c.args.out.now c.put_object_str.new.out c.put_object_str.result) (str_deeper c.args.depth m.store (pure.Address c.in-Object.address) (value_of m c.args.value) c.if-depth-eq0.false c.in-Object.ensures.value) c.put_object_str.ensures

pub put_str-returns-in_default : goal.put_str-returns-in_default
put_str-returns-in_default t c =
    let m = c.args.arena.now in
    subst (λ w. Puts {U = Unit {0}} w c.args.start c.args.out.now c.put_repr.new.out c.put_repr.result) (str_shown c.args.depth m c.view.result c.args.value c.in_default.not-Str c.in_default.not-Object c.view.ensures.value) c.put_repr.ensures
