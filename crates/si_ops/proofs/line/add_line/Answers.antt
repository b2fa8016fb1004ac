use Rattle.std.proofs.Common.{Result}
use Rattle.si_semantics.specs.Text.{str_in, str_of, max_nested, line_of}
use Rattle.si_arena.specs.declared.cause.Fault.{Fault}
use Rattle.si_arena.specs.declared.cause.Fault.TheVariants.{NoMemory}
use Rattle.si_arena.specs.Memory.{value_of, all_of}
use Rattle.si_ops.specs.Writing.{Writes, spelled, spaced_in, spaced_bytes, line_bytes}
use Rattle.si_ops.proofs.Ends.{passed}
use Rattle.si_ops.proofs.Lines.{went_from, others_refused, end_lacks, all_go, none_goes}
use Rattle.si_ops.proofs.line.add_line.Goals as goal

pub returns-in_err-add_others-in-Some : goal.returns-in_err-add_others-in-Some
returns-in_err-add_others-in-Some c =
    let m = c.args.arena.now in
    let rs = c.args.arguments.now in
    let s = c.args.out.now in
    let t = c.add_str.new.out in
    let v = value_of m c.in-Some.first.now in
    let f = c.in_err-add_others-in-Some.field-0.0 in
    let P : Result (Unit {0}) Fault → Type 0 = λ r. Writes {U = Unit {0}} (line_of m.store (all_of m rs)) (line_bytes m.store (all_of m rs)) s c.add_others.new.out r in
    passed c.from_residual-in_err-add_others-in-Some.result P f c.from_residual-in_err-add_others-in-Some.ensures.1
    (others_refused (Unit {0}) m rs c.in-Some.first.now c.in-Some.others.now s t c.add_others.new.out f c.in-Some.ensures.cases.0
    (went_from (Unit {0}) (str_in m.store v) (spelled (str_of max_nested m.store v)) s t c.in_ok-add_str-in-Some.field-0 c.in_ok-add_str-in-Some.ensures)
    c.in_err-add_others-in-Some.ensures)

pub returns-in_err-put-in-Some : goal.returns-in_err-put-in-Some
returns-in_err-put-in-Some c =
    let m = c.args.arena.now in
    let rs = c.args.arguments.now in
    let s = c.args.out.now in
    let t = c.add_str.new.out in
    let u = c.add_others.new.out in
    let v = value_of m c.in-Some.first.now in
    let vs = all_of m c.in-Some.others.now in
    let P : Result (Unit {0}) Fault → Type 0 = λ r. Writes {U = Unit {0}} (line_of m.store (all_of m rs)) (line_bytes m.store (all_of m rs)) s c.put-in-Some.new.out r in
    passed c.from_residual-in_err-put-in-Some.result P NoMemory c.from_residual-in_err-put-in-Some.ensures.1
    (end_lacks m rs c.in-Some.first.now c.in-Some.others.now s t u c.put-in-Some.new.out c.in-Some.ensures.cases.0
    (went_from (Unit {0}) (str_in m.store v) (spelled (str_of max_nested m.store v)) s t c.in_ok-add_str-in-Some.field-0 c.in_ok-add_str-in-Some.ensures)
    (went_from (Unit {0}) (spaced_in m.store vs) (spaced_bytes m.store vs) t u c.in_ok-add_others-in-Some.field-0 c.in_ok-add_others-in-Some.ensures)
    c.in_err-put-in-Some.ensures.err)

pub returns-in_ok-put-in-None : goal.returns-in_ok-put-in-None
returns-in_ok-put-in-None c = none_goes c.args.arena.now c.args.arguments.now c.args.out.now c.put.new.out c.in-None.ensures.cases c.in_ok-put-in-None.ensures.ok

pub returns-in_ok-put-in-Some : goal.returns-in_ok-put-in-Some
returns-in_ok-put-in-Some c =
    let m = c.args.arena.now in
    let s = c.args.out.now in
    let t = c.add_str.new.out in
    let u = c.add_others.new.out in
    let v = value_of m c.in-Some.first.now in
    let vs = all_of m c.in-Some.others.now in
    all_go (Unit {0}) m c.args.arguments.now c.in-Some.first.now c.in-Some.others.now s t u c.put-in-Some.new.out tt c.in-Some.ensures.cases.0
    (went_from (Unit {0}) (str_in m.store v) (spelled (str_of max_nested m.store v)) s t c.in_ok-add_str-in-Some.field-0 c.in_ok-add_str-in-Some.ensures)
    (went_from (Unit {0}) (spaced_in m.store vs) (spaced_bytes m.store vs) t u c.in_ok-add_others-in-Some.field-0 c.in_ok-add_others-in-Some.ensures)
    c.in_ok-put-in-Some.ensures.ok
