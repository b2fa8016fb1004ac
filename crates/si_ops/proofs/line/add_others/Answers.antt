use Rattle.std.proofs.Common.{◌+◌, Result, suc, take, drop, sym, subst}
use Rattle.si_semantics.specs.Text.{str_in, str_of, max_nested}
use Rattle.si_arena.specs.declared.cause.Fault.{Fault}
use Rattle.si_arena.specs.declared.cause.Fault.TheVariants.{NoMemory}
use Rattle.si_arena.specs.Memory.{Lies, value_of, all_of}
use Rattle.si_ops.specs.Writing.{Writes, spelled, spaced_in, spaced_bytes}
use Rattle.si_ops.proofs.Ends.{passed}
use Rattle.si_ops.proofs.Lines.{lies_at, went_from, all_parts, one_more, space_lacks, next_refused, next_goes}
use Rattle.si_ops.proofs.line.add_others.Goals as goal

pub returns-in_err-put : goal.returns-in_err-put
returns-in_err-put c =
    let m = c.args.arena.now in
    let rs = c.args.values.now in
    let i = c.loop-value.value-index in
    let r = c.value-item.result in
    let P : Result (Unit {0}) Fault → Type 0 = λ x. Writes {U = Unit {0}} (spaced_in m.store (all_of m rs)) (spaced_bytes m.store (all_of m rs)) c.args.out.now c.put.new.out x in
    passed c.from_residual.result P NoMemory c.from_residual.ensures.1
    (space_lacks m.store (all_of m (take i rs)) (value_of m r) (all_of m (drop (suc i) rs)) (all_of m rs) (all_parts m rs i r c.loop-value-test.true c.value-item.is) c.loop-value.invariant c.in_err-put.ensures.err)

pub add_str-requires : goal.add_str-requires
add_str-requires c =
    let m = c.args.arena.now in
    subst (Lies m) (sym c.value-item.is) (lies_at m c.args.values.now c.loop-value.value-index c.value-item.result c.requires c.loop-value-test.true)

pub returns-in_err-add_str : goal.returns-in_err-add_str
returns-in_err-add_str c =
    let m = c.args.arena.now in
    let rs = c.args.values.now in
    let i = c.loop-value.value-index in
    let r = c.value-item.result in
    let f = c.in_err-add_str.field-0.0 in
    let P : Result (Unit {0}) Fault → Type 0 = λ x. Writes {U = Unit {0}} (spaced_in m.store (all_of m rs)) (spaced_bytes m.store (all_of m rs)) c.args.out.now c.add_str.new.out x in
    passed c.from_residual-in_err-add_str.result P f c.from_residual-in_err-add_str.ensures.1
    (next_refused (Unit {0}) m.store (all_of m (take i rs)) (value_of m r) (all_of m (drop (suc i) rs)) (all_of m rs) c.args.out.now c.loop-value.out c.put.new.out c.add_str.new.out f (all_parts m rs i r c.loop-value-test.true c.value-item.is) c.loop-value.invariant c.in_ok-put.ensures.ok c.in_err-add_str.ensures)

pub loop-value-preserved : goal.loop-value-preserved
loop-value-preserved c =
    let m = c.args.arena.now in
    let rs = c.args.values.now in
    let i = c.loop-value.value-index in
    let r = c.value-item.result in
    next_goes m.store (all_of m (take i rs)) (value_of m r) (all_of m (take (i + 1) rs)) (one_more m rs i r c.loop-value-test.true c.value-item.is) c.loop-value.invariant c.in_ok-put.ensures.ok
    (went_from (Unit {0}) (str_in m.store (value_of m r)) (spelled (str_of max_nested m.store (value_of m r))) c.put.new.out c.add_str.new.out c.in_ok-add_str.field-0 c.in_ok-add_str.ensures)
