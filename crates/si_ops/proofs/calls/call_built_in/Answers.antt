use Rattle.std.proofs.Common.{Result, Ok, refl, sym, subst}
use Rattle.si_semantics.specs.Value as pure
use Rattle.si_semantics.specs.Operations.{call_built_in}
use Rattle.si_arena.specs.declared.value.BuiltIn.{BuiltIn}
use Rattle.si_arena.specs.declared.cause.Fault.{Fault}
use Rattle.si_arena.specs.Memory.{built_in_of, all_of}
use Rattle.si_ops.specs.declared.calls.Called.{Called}
use Rattle.si_ops.specs.declared.calls.Called.TheVariants.{Value}
use Rattle.si_ops.specs.Calls.{Calls, NeedsNone, IsSaid}
use Rattle.si_ops.proofs.Ends.{passed}
use Rattle.si_ops.proofs.Calling.{calls_ok, calls_err, calls_failed, calls_told, said_of}
use Rattle.si_ops.proofs.calls.call_built_in.Goals as goal

pub returns-in-Print-clause-calls : goal.returns-in-Print-clause-calls
returns-in-Print-clause-calls c =
    let m = c.args.arena.now in
    let P : BuiltIn → Type 0 = λ b. Calls (λ w. call_built_in (built_in_of b) (all_of m c.args.arguments.now) w) m m c.args.line.now c.print.new.line c.print.result in
    subst P (sym c.in-Print.is) c.print.ensures.calls

pub returns-in_err-range-in-Range-clause-calls : goal.returns-in_err-range-in-Range-clause-calls
returns-in_err-range-in-Range-clause-calls c =
    let m = c.args.arena.now in
    let vs = all_of m c.args.arguments.now in
    let f = c.in_err-range-in-Range.field-0.0 in
    let P : BuiltIn → Type 0 = λ b. Calls (λ w. call_built_in (built_in_of b) vs w) m c.make_range.new.arena c.args.line.now c.args.line.now c.from_residual.result in
    let Q : Result Called Fault → Type 0 = λ r. Calls (λ w. call_built_in pure.MakeRange vs w) m c.make_range.new.arena c.args.line.now c.args.line.now r in
    subst P (sym c.in-Range.is)
    (passed c.from_residual.result Q f c.from_residual.ensures.1 (calls_err (λ w. call_built_in pure.MakeRange vs w) m c.make_range.new.arena c.args.line.now c.args.line.now f c.in_err-range-in-Range.ensures refl))

pub returns-in_ok-range-in-Range-clause-calls : goal.returns-in_ok-range-in-Range-clause-calls
returns-in_ok-range-in-Range-clause-calls c =
    let m = c.args.arena.now in
    let vs = all_of m c.args.arguments.now in
    let r = c.in_ok-range-in-Range.range in
    let P : BuiltIn → Type 0 = λ b. Calls (λ w. call_built_in (built_in_of b) vs w) m c.make_range.new.arena c.args.line.now c.args.line.now (Ok (Value r)) in
    subst P (sym c.in-Range.is) (calls_ok (λ w. call_built_in pure.MakeRange vs w) m c.make_range.new.arena c.args.line.now c.args.line.now r c.in_ok-range-in-Range.ensures refl)

pub returns-in_err-text-in-Str-clause-calls : goal.returns-in_err-text-in-Str-clause-calls
returns-in_err-text-in-Str-clause-calls c =
    let m = c.args.arena.now in
    let vs = all_of m c.args.arguments.now in
    let f = c.in_err-text-in-Str.field-0.0 in
    let P : BuiltIn → Type 0 = λ b. Calls (λ w. call_built_in (built_in_of b) vs w) m c.make_str.new.arena c.args.line.now c.make_str.new.line c.from_residual-in_err-text-in-Str.result in
    let Q : Result Called Fault → Type 0 = λ r. Calls (λ w. call_built_in pure.MakeStr vs w) m c.make_str.new.arena c.args.line.now c.make_str.new.line r in
    subst P (sym c.in-Str.is)
    (passed c.from_residual-in_err-text-in-Str.result Q f c.from_residual-in_err-text-in-Str.ensures.1 (calls_err (λ w. call_built_in pure.MakeStr vs w) m c.make_str.new.arena c.args.line.now c.make_str.new.line f c.in_err-text-in-Str.ensures.runs c.in_err-text-in-Str.ensures.line))

pub returns-in_ok-text-in-Str-clause-calls : goal.returns-in_ok-text-in-Str-clause-calls
returns-in_ok-text-in-Str-clause-calls c =
    let m = c.args.arena.now in
    let vs = all_of m c.args.arguments.now in
    let r = c.in_ok-text-in-Str.text in
    let P : BuiltIn → Type 0 = λ b. Calls (λ w. call_built_in (built_in_of b) vs w) m c.make_str.new.arena c.args.line.now c.make_str.new.line (Ok (Value r)) in
    subst P (sym c.in-Str.is) (calls_ok (λ w. call_built_in pure.MakeStr vs w) m c.make_str.new.arena c.args.line.now c.make_str.new.line r c.in_ok-text-in-Str.ensures.runs c.in_ok-text-in-Str.ensures.line)

pub returns-in_err-text-in-Repr-clause-calls : goal.returns-in_err-text-in-Repr-clause-calls
returns-in_err-text-in-Repr-clause-calls c =
    let m = c.args.arena.now in
    let vs = all_of m c.args.arguments.now in
    let f = c.in_err-text-in-Repr.field-0.0 in
    let P : BuiltIn → Type 0 = λ b. Calls (λ w. call_built_in (built_in_of b) vs w) m c.make_repr.new.arena c.args.line.now c.make_repr.new.line c.from_residual-in_err-text-in-Repr.result in
    let Q : Result Called Fault → Type 0 = λ r. Calls (λ w. call_built_in pure.Repr vs w) m c.make_repr.new.arena c.args.line.now c.make_repr.new.line r in
    subst P (sym c.in-Repr.is)
    (passed c.from_residual-in_err-text-in-Repr.result Q f c.from_residual-in_err-text-in-Repr.ensures.1 (calls_err (λ w. call_built_in pure.Repr vs w) m c.make_repr.new.arena c.args.line.now c.make_repr.new.line f c.in_err-text-in-Repr.ensures.runs c.in_err-text-in-Repr.ensures.line))

pub returns-in_ok-text-in-Repr-clause-calls : goal.returns-in_ok-text-in-Repr-clause-calls
returns-in_ok-text-in-Repr-clause-calls c =
    let m = c.args.arena.now in
    let vs = all_of m c.args.arguments.now in
    let r = c.in_ok-text-in-Repr.text in
    let P : BuiltIn → Type 0 = λ b. Calls (λ w. call_built_in (built_in_of b) vs w) m c.make_repr.new.arena c.args.line.now c.make_repr.new.line (Ok (Value r)) in
    subst P (sym c.in-Repr.is) (calls_ok (λ w. call_built_in pure.Repr vs w) m c.make_repr.new.arena c.args.line.now c.make_repr.new.line r c.in_ok-text-in-Repr.ensures.runs c.in_ok-text-in-Repr.ensures.line)

pub returns-in-Print-clause-memory : goal.returns-in-Print-clause-memory
returns-in-Print-clause-memory c =
    let m = c.args.arena.now in
    let P : BuiltIn → Type 0 = λ b. NeedsNone m c.args.line.now (pure.Provided (built_in_of b)) (all_of m c.args.arguments.now) → IsSaid c.print.result in
    subst P (sym c.in-Print.is) c.print.ensures.memory

pub returns-in_err-range-in-Range-clause-memory : goal.returns-in_err-range-in-Range-clause-memory
returns-in_err-range-in-Range-clause-memory c =
    let m = c.args.arena.now in
    let P : BuiltIn → Type 0 = λ b. NeedsNone m c.args.line.now (pure.Provided (built_in_of b)) (all_of m c.args.arguments.now) → IsSaid c.from_residual.result in
    subst P (sym c.in-Range.is) (λ h. absurd h)

pub returns-in_err-text-in-Str-clause-memory : goal.returns-in_err-text-in-Str-clause-memory
returns-in_err-text-in-Str-clause-memory c =
    let m = c.args.arena.now in
    let P : BuiltIn → Type 0 = λ b. NeedsNone m c.args.line.now (pure.Provided (built_in_of b)) (all_of m c.args.arguments.now) → IsSaid c.from_residual-in_err-text-in-Str.result in
    subst P (sym c.in-Str.is) (λ h. absurd h)

pub returns-in_err-text-in-Repr-clause-memory : goal.returns-in_err-text-in-Repr-clause-memory
returns-in_err-text-in-Repr-clause-memory c =
    let m = c.args.arena.now in
    let P : BuiltIn → Type 0 = λ b. NeedsNone m c.args.line.now (pure.Provided (built_in_of b)) (all_of m c.args.arguments.now) → IsSaid c.from_residual-in_err-text-in-Repr.result in
    subst P (sym c.in-Repr.is) (λ h. absurd h)

pub returns-in-Len-clause-calls : goal.returns-in-Len-clause-calls
returns-in-Len-clause-calls c =
    let m = c.args.arena.now in
    let vs = all_of m c.args.arguments.now in
    let P : BuiltIn → Type 0 = λ b. Calls (λ w. call_built_in (built_in_of b) vs w) m m c.args.line.now c.args.line.now c.told.result in
    subst P (sym c.in-Len.is) (calls_told (λ w. call_built_in pure.Len vs w) m c.args.line.now c.call_len.result c.told.result c.told.ensures.call c.call_len.ensures)

pub returns-in-Bool-clause-calls : goal.returns-in-Bool-clause-calls
returns-in-Bool-clause-calls c =
    let m = c.args.arena.now in
    let vs = all_of m c.args.arguments.now in
    let P : BuiltIn → Type 0 = λ b. Calls (λ w. call_built_in (built_in_of b) vs w) m m c.args.line.now c.args.line.now c.told-in-Bool.result in
    subst P (sym c.in-Bool.is) (calls_told (λ w. call_built_in pure.MakeBool vs w) m c.args.line.now c.call_bool.result c.told-in-Bool.result c.told-in-Bool.ensures.call c.call_bool.ensures)

pub returns-in-Abs-clause-calls : goal.returns-in-Abs-clause-calls
returns-in-Abs-clause-calls c =
    let m = c.args.arena.now in
    let vs = all_of m c.args.arguments.now in
    let P : BuiltIn → Type 0 = λ b. Calls (λ w. call_built_in (built_in_of b) vs w) m m c.args.line.now c.args.line.now c.told-in-Abs.result in
    subst P (sym c.in-Abs.is) (calls_told (λ w. call_built_in pure.Abs vs w) m c.args.line.now c.call_abs.result c.told-in-Abs.result c.told-in-Abs.ensures.call c.call_abs.ensures)

pub returns-in-Int-clause-calls : goal.returns-in-Int-clause-calls
returns-in-Int-clause-calls c =
    let m = c.args.arena.now in
    let vs = all_of m c.args.arguments.now in
    let P : BuiltIn → Type 0 = λ b. Calls (λ w. call_built_in (built_in_of b) vs w) m m c.args.line.now c.args.line.now c.told-in-Int.result in
    subst P (sym c.in-Int.is) (calls_told (λ w. call_built_in pure.MakeInt vs w) m c.args.line.now c.call_int.result c.told-in-Int.result c.told-in-Int.ensures.call c.call_int.ensures)

pub returns-in-Ord-clause-calls : goal.returns-in-Ord-clause-calls
returns-in-Ord-clause-calls c =
    let m = c.args.arena.now in
    let vs = all_of m c.args.arguments.now in
    let P : BuiltIn → Type 0 = λ b. Calls (λ w. call_built_in (built_in_of b) vs w) m m c.args.line.now c.args.line.now c.told-in-Ord.result in
    subst P (sym c.in-Ord.is) (calls_told (λ w. call_built_in pure.Ord vs w) m c.args.line.now c.call_ord.result c.told-in-Ord.result c.told-in-Ord.ensures.call c.call_ord.ensures)

pub returns-in-Min-clause-calls : goal.returns-in-Min-clause-calls
returns-in-Min-clause-calls c =
    let m = c.args.arena.now in
    let vs = all_of m c.args.arguments.now in
    let P : BuiltIn → Type 0 = λ b. Calls (λ w. call_built_in (built_in_of b) vs w) m m c.args.line.now c.args.line.now c.told-in-Min.result in
    subst P (sym c.in-Min.is) (calls_told (λ w. call_built_in pure.Min vs w) m c.args.line.now c.call_min.result c.told-in-Min.result c.told-in-Min.ensures.call c.call_min.ensures)

pub returns-in-Max-clause-calls : goal.returns-in-Max-clause-calls
returns-in-Max-clause-calls c =
    let m = c.args.arena.now in
    let vs = all_of m c.args.arguments.now in
    let P : BuiltIn → Type 0 = λ b. Calls (λ w. call_built_in (built_in_of b) vs w) m m c.args.line.now c.args.line.now c.told-in-Max.result in
    subst P (sym c.in-Max.is) (calls_told (λ w. call_built_in pure.Max vs w) m c.args.line.now c.call_max.result c.told-in-Max.result c.told-in-Max.ensures.call c.call_max.ensures)

pub returns-in_err-text-in-Chr-clause-calls : goal.returns-in_err-text-in-Chr-clause-calls
returns-in_err-text-in-Chr-clause-calls c =
    let m = c.args.arena.now in
    let vs = all_of m c.args.arguments.now in
    let f = c.in_err-text-in-Chr.field-0.0 in
    let P : BuiltIn → Type 0 = λ b. Calls (λ w. call_built_in (built_in_of b) vs w) m c.call_chr.new.arena c.args.line.now c.args.line.now c.from_residual-in_err-text-in-Chr.result in
    let Q : Result Called Fault → Type 0 = λ r. Calls (λ w. call_built_in pure.Chr vs w) m c.call_chr.new.arena c.args.line.now c.args.line.now r in
    subst P (sym c.in-Chr.is)
    (passed c.from_residual-in_err-text-in-Chr.result Q f c.from_residual-in_err-text-in-Chr.ensures.1 (calls_err (λ w. call_built_in pure.Chr vs w) m c.call_chr.new.arena c.args.line.now c.args.line.now f c.in_err-text-in-Chr.ensures.runs refl))

pub returns-in_ok-text-in-Chr-clause-calls : goal.returns-in_ok-text-in-Chr-clause-calls
returns-in_ok-text-in-Chr-clause-calls c =
    let m = c.args.arena.now in
    let vs = all_of m c.args.arguments.now in
    let r = c.in_ok-text-in-Chr.text in
    let P : BuiltIn → Type 0 = λ b. Calls (λ w. call_built_in (built_in_of b) vs w) m c.call_chr.new.arena c.args.line.now c.args.line.now (Ok (Value r)) in
    subst P (sym c.in-Chr.is) (calls_ok (λ w. call_built_in pure.Chr vs w) m c.call_chr.new.arena c.args.line.now c.args.line.now r c.in_ok-text-in-Chr.ensures.runs refl)

pub returns-in_err-text-in-Chr-clause-memory : goal.returns-in_err-text-in-Chr-clause-memory
returns-in_err-text-in-Chr-clause-memory c =
    let m = c.args.arena.now in
    let vs = all_of m c.args.arguments.now in
    let f = c.in_err-text-in-Chr.field-0.0 in
    let P : BuiltIn → Type 0 = λ b. NeedsNone m c.args.line.now (pure.Provided (built_in_of b)) vs → IsSaid c.from_residual-in_err-text-in-Chr.result in
    subst P (sym c.in-Chr.is) (λ h. passed c.from_residual-in_err-text-in-Chr.result IsSaid f c.from_residual-in_err-text-in-Chr.ensures.1 (said_of f (c.in_err-text-in-Chr.ensures.memory h)))

pub returns-in_err-bytes-in-Bytes-clause-calls : goal.returns-in_err-bytes-in-Bytes-clause-calls
returns-in_err-bytes-in-Bytes-clause-calls c =
    let m = c.args.arena.now in
    let vs = all_of m c.args.arguments.now in
    let f = c.in_err-bytes-in-Bytes.field-0.0 in
    let P : BuiltIn → Type 0 = λ b. Calls (λ w. call_built_in (built_in_of b) vs w) m c.call_bytes.new.arena c.args.line.now c.args.line.now c.from_residual-in_err-bytes-in-Bytes.result in
    let Q : Result Called Fault → Type 0 = λ r. Calls (λ w. call_built_in pure.MakeBytes vs w) m c.call_bytes.new.arena c.args.line.now c.args.line.now r in
    subst P (sym c.in-Bytes.is)
    (passed c.from_residual-in_err-bytes-in-Bytes.result Q f c.from_residual-in_err-bytes-in-Bytes.ensures.1 (calls_err (λ w. call_built_in pure.MakeBytes vs w) m c.call_bytes.new.arena c.args.line.now c.args.line.now f c.in_err-bytes-in-Bytes.ensures refl))

pub returns-in_ok-bytes-in-Bytes-clause-calls : goal.returns-in_ok-bytes-in-Bytes-clause-calls
returns-in_ok-bytes-in-Bytes-clause-calls c =
    let m = c.args.arena.now in
    let vs = all_of m c.args.arguments.now in
    let r = c.in_ok-bytes-in-Bytes.bytes in
    let P : BuiltIn → Type 0 = λ b. Calls (λ w. call_built_in (built_in_of b) vs w) m c.call_bytes.new.arena c.args.line.now c.args.line.now (Ok (Value r)) in
    subst P (sym c.in-Bytes.is) (calls_ok (λ w. call_built_in pure.MakeBytes vs w) m c.call_bytes.new.arena c.args.line.now c.args.line.now r c.in_ok-bytes-in-Bytes.ensures refl)

pub returns-in_err-bytes-in-Bytes-clause-memory : goal.returns-in_err-bytes-in-Bytes-clause-memory
returns-in_err-bytes-in-Bytes-clause-memory c =
    let m = c.args.arena.now in
    let P : BuiltIn → Type 0 = λ b. NeedsNone m c.args.line.now (pure.Provided (built_in_of b)) (all_of m c.args.arguments.now) → IsSaid c.from_residual-in_err-bytes-in-Bytes.result in
    subst P (sym c.in-Bytes.is) (λ h. absurd h)

pub returns-in_err-tuple-in-Tuple-clause-calls : goal.returns-in_err-tuple-in-Tuple-clause-calls
returns-in_err-tuple-in-Tuple-clause-calls c =
    let m = c.args.arena.now in
    let vs = all_of m c.args.arguments.now in
    let f = c.in_err-tuple-in-Tuple.field-0.0 in
    let P : BuiltIn → Type 0 = λ b. Calls (λ w. call_built_in (built_in_of b) vs w) m c.call_tuple.new.arena c.args.line.now c.args.line.now c.from_residual-in_err-tuple-in-Tuple.result in
    let Q : Result Called Fault → Type 0 = λ r. Calls (λ w. call_built_in pure.MakeTuple vs w) m c.call_tuple.new.arena c.args.line.now c.args.line.now r in
    subst P (sym c.in-Tuple.is)
    (passed c.from_residual-in_err-tuple-in-Tuple.result Q f c.from_residual-in_err-tuple-in-Tuple.ensures.1 (calls_err (λ w. call_built_in pure.MakeTuple vs w) m c.call_tuple.new.arena c.args.line.now c.args.line.now f c.in_err-tuple-in-Tuple.ensures.runs refl))

pub returns-in_ok-tuple-in-Tuple-clause-calls : goal.returns-in_ok-tuple-in-Tuple-clause-calls
returns-in_ok-tuple-in-Tuple-clause-calls c =
    let m = c.args.arena.now in
    let vs = all_of m c.args.arguments.now in
    let r = c.in_ok-tuple-in-Tuple.tuple in
    let P : BuiltIn → Type 0 = λ b. Calls (λ w. call_built_in (built_in_of b) vs w) m c.call_tuple.new.arena c.args.line.now c.args.line.now (Ok (Value r)) in
    subst P (sym c.in-Tuple.is) (calls_ok (λ w. call_built_in pure.MakeTuple vs w) m c.call_tuple.new.arena c.args.line.now c.args.line.now r c.in_ok-tuple-in-Tuple.ensures.runs refl)

pub returns-in_err-tuple-in-Tuple-clause-memory : goal.returns-in_err-tuple-in-Tuple-clause-memory
returns-in_err-tuple-in-Tuple-clause-memory c =
    let m = c.args.arena.now in
    let vs = all_of m c.args.arguments.now in
    let f = c.in_err-tuple-in-Tuple.field-0.0 in
    let P : BuiltIn → Type 0 = λ b. NeedsNone m c.args.line.now (pure.Provided (built_in_of b)) vs → IsSaid c.from_residual-in_err-tuple-in-Tuple.result in
    subst P (sym c.in-Tuple.is) (λ h. passed c.from_residual-in_err-tuple-in-Tuple.result IsSaid f c.from_residual-in_err-tuple-in-Tuple.ensures.1 (said_of f (c.in_err-tuple-in-Tuple.ensures.memory h)))

pub returns-in_err-list-in-List-clause-calls : goal.returns-in_err-list-in-List-clause-calls
returns-in_err-list-in-List-clause-calls c =
    let m = c.args.arena.now in
    let vs = all_of m c.args.arguments.now in
    let f = c.in_err-list-in-List.field-0.0 in
    let P : BuiltIn → Type 0 = λ b. Calls (λ w. call_built_in (built_in_of b) vs w) m c.call_list.new.arena c.args.line.now c.args.line.now c.from_residual-in_err-list-in-List.result in
    let Q : Result Called Fault → Type 0 = λ r. Calls (λ w. call_built_in pure.MakeList vs w) m c.call_list.new.arena c.args.line.now c.args.line.now r in
    subst P (sym c.in-List.is)
    (passed c.from_residual-in_err-list-in-List.result Q f c.from_residual-in_err-list-in-List.ensures.1 (calls_failed (λ w. call_built_in pure.MakeList vs w) m c.call_list.new.arena c.args.line.now c.args.line.now f c.in_err-list-in-List.ensures refl))

pub returns-in_ok-list-in-List-clause-calls : goal.returns-in_ok-list-in-List-clause-calls
returns-in_ok-list-in-List-clause-calls c =
    let m = c.args.arena.now in
    let vs = all_of m c.args.arguments.now in
    let r = c.in_ok-list-in-List.list in
    let P : BuiltIn → Type 0 = λ b. Calls (λ w. call_built_in (built_in_of b) vs w) m c.call_list.new.arena c.args.line.now c.args.line.now (Ok (Value r)) in
    subst P (sym c.in-List.is) (c.in_ok-list-in-List.ensures, refl)

pub returns-in_err-list-in-List-clause-memory : goal.returns-in_err-list-in-List-clause-memory
returns-in_err-list-in-List-clause-memory c =
    let m = c.args.arena.now in
    let P : BuiltIn → Type 0 = λ b. NeedsNone m c.args.line.now (pure.Provided (built_in_of b)) (all_of m c.args.arguments.now) → IsSaid c.from_residual-in_err-list-in-List.result in
    subst P (sym c.in-List.is) (λ h. absurd h)
