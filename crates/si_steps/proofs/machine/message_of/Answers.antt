use Rattle.std.proofs.Common.{◌≡◌, IfOk, subst}
use Rattle.si_semantics.specs.Value.{Text, Address}
use Rattle.si_semantics.specs.Text.{str_in, str_of, max_nested}
use Rattle.si_ops.specs.Writing.{spelled}
use Rattle.si_steps.proofs.Told.{written_message, refused_message}
use Rattle.si_steps.proofs.machine.message_of.Goals as goal

pub returns-in-Ok : goal.returns-in-Ok
returns-in-Ok c =
    let h = c.in-Ok.ensures in
    let p = str_in c.args.arena.now.store (Address c.args.address) in
    let P : Text → Type 0 = λ x. IfOk c.from_str.result (λ text. text ≡ x) in
    subst P (written_message p c.new-message.result c.push_str.new.out c.as_str.result.now h.0 c.new-message.ensures.bytes h.1 h.2 c.as_str.ensures.value) c.from_str.ensures

pub returns-in-Err-Raises : goal.returns-in-Err-Raises
returns-in-Err-Raises c =
    let p = str_in c.args.arena.now.store (Address c.args.address) in
    let P : Text → Type 0 = λ x. IfOk c.from_str-in-Err-Raises.result (λ text. text ≡ x) in
    let m = c.args.arena.now in
    subst P (refused_message (Unit {0}) p (spelled (str_of max_nested m.store (Address c.args.address))) c.new-message.result c.push_str.new.out c.in-Err-Raises.field-0 c.in-Err-Raises.field-0-0 c.in-Err-Raises.ensures c.in-Err-Raises.field-0-is) c.from_str-in-Err-Raises.ensures
