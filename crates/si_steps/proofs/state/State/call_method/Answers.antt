use Rattle.std.proofs.Common.{◌≡◌, ◌≢◌, ◌∙◌, None, Some, length, sym}
use Rattle.std.proofs.lemmas.Bool.{eqb-true, eqb-false}
use Rattle.si_semantics.specs.Attributes as attributes
use Rattle.si_arena.specs.Memory.{value_of}
use Rattle.si_methods.specs.Methods.{method_in}
use Rattle.si_slots.specs.Views.{target_of, text_at}
use Rattle.si_steps.proofs.Lines.{alike}
use Rattle.si_steps.proofs.Callees.{is_callee}
use Rattle.si_steps.proofs.Asked.{method_called, is_method_call, found_method, ready_call, ready_by_name}
use Rattle.si_steps.proofs.state.State.call_method.Goals as goal

pub method-requires : goal.method-requires
method-requires g c =
    let s = c.args.self.now in
    let x = text_at s.table.names c.args.slot in
    let h = c.requires.0 in
    let is = is_callee c.args.at c.args.count s g.p c.temporary-object.result h.at c.temporary-object.ensures (method_called (target_of c.args.target) c.args.at c.args.count x c.args.names.now s g.p h) in
    record { lies = is.lies; sound = h.at.1.sound; there = c.requires.1 }

pub call_found-requires : goal.call_found-requires
call_found-requires g c =
    let s = c.args.self.now in
    let x = text_at s.table.names c.args.slot in
    let h = c.requires.0 in
    let t = target_of c.args.target in
    let r = c.temporary-object.result in
    let is = is_callee c.args.at c.args.count s g.p r h.at c.temporary-object.ensures (method_called t c.args.at c.args.count x c.args.names.now s g.p h) in
    is_method_call t c.args.at c.args.count x c.args.names.now s g.p r h is

pub call_any-requires : goal.call_any-requires
call_any-requires g c =
    let s = c.args.self.now in
    let x = text_at s.table.names c.args.slot in
    let h = c.requires.0 in
    let t = target_of c.args.target in
    let r = c.temporary-object.result in
    let is = is_callee c.args.at c.args.count s g.p r h.at c.temporary-object.ensures (method_called t c.args.at c.args.count x c.args.names.now s g.p h) in
    let found : None ≡ attributes.method_of (value_of s.arena r) x g.p.w = c.in-None.ensures g.p.w h.at.1.store in
    let none : length c.args.names.now ≡ 0 = eqb-true (length c.args.names.now) 0 (sym c.is_empty.ensures ∙ c.if-is_empty.true) in
    (ready_call t c.args.at c.args.count x c.args.names.now s g.p r none h is found).0

pub call_by_name-requires : goal.call_by_name-requires
call_by_name-requires g c =
    let s = c.args.self.now in
    let x = text_at s.table.names c.args.slot in
    let h = c.requires.0 in
    let t = target_of c.args.target in
    let r = c.temporary-object.result in
    let is = is_callee c.args.at c.args.count s g.p r h.at c.temporary-object.ensures (method_called t c.args.at c.args.count x c.args.names.now s g.p h) in
    let found : None ≡ attributes.method_of (value_of s.arena r) x g.p.w = c.in-None.ensures g.p.w h.at.1.store in
    let some : length c.args.names.now ≢ 0 = eqb-false (length c.args.names.now) 0 (sym c.is_empty.ensures ∙ c.if-is_empty.false) in
    (ready_by_name t c.args.at c.args.count x c.args.names.now s g.p r some h is found).0

pub returns-in-Some : goal.returns-in-Some
returns-in-Some g c =
    let s = c.args.self.now in
    let x = text_at s.table.names c.args.slot in
    let h = c.requires.0 in
    let t = target_of c.args.target in
    let r = c.temporary-object.result in
    let m = c.in-Some.method in
    let is = is_callee c.args.at c.args.count s g.p r h.at c.temporary-object.ensures (method_called t c.args.at c.args.count x c.args.names.now s g.p h) in
    let found : Some (method_in m) ≡ attributes.method_of (value_of s.arena r) x g.p.w = c.in-Some.ensures g.p.w h.at.1.store in
    alike _ _ g.p s c.call_found.new.self c.call_found.result (found_method t c.args.at c.args.count x c.args.names.now s g.p r m h is found) c.call_found.ensures

pub returns-then-is_empty : goal.returns-then-is_empty
returns-then-is_empty g c =
    let s = c.args.self.now in
    let x = text_at s.table.names c.args.slot in
    let h = c.requires.0 in
    let t = target_of c.args.target in
    let r = c.temporary-object.result in
    let is = is_callee c.args.at c.args.count s g.p r h.at c.temporary-object.ensures (method_called t c.args.at c.args.count x c.args.names.now s g.p h) in
    let found : None ≡ attributes.method_of (value_of s.arena r) x g.p.w = c.in-None.ensures g.p.w h.at.1.store in
    let none : length c.args.names.now ≡ 0 = eqb-true (length c.args.names.now) 0 (sym c.is_empty.ensures ∙ c.if-is_empty.true) in
    alike _ _ g.p s c.call_any.new.self c.call_any.result (ready_call t c.args.at c.args.count x c.args.names.now s g.p r none h is found).1 c.call_any.ensures

pub returns-else-is_empty : goal.returns-else-is_empty
returns-else-is_empty g c =
    let s = c.args.self.now in
    let x = text_at s.table.names c.args.slot in
    let h = c.requires.0 in
    let t = target_of c.args.target in
    let r = c.temporary-object.result in
    let is = is_callee c.args.at c.args.count s g.p r h.at c.temporary-object.ensures (method_called t c.args.at c.args.count x c.args.names.now s g.p h) in
    let found : None ≡ attributes.method_of (value_of s.arena r) x g.p.w = c.in-None.ensures g.p.w h.at.1.store in
    let some : length c.args.names.now ≢ 0 = eqb-false (length c.args.names.now) 0 (sym c.is_empty.ensures ∙ c.if-is_empty.false) in
    alike _ _ g.p s c.call_by_name.new.self c.call_by_name.result (ready_by_name t c.args.at c.args.count x c.args.names.now s g.p r some h is found).1 c.call_by_name.ensures
