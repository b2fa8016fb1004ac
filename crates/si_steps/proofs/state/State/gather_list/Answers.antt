use Rattle.std.proofs.Common.{◌+◌, ◌<◌, ◌^◌, ◌∙◌, sym, subst, take}
use Rattle.si_semantics.specs.Operations.{list_within}
use Rattle.si_arena.specs.Memory.{all_of}
use Rattle.si_slots.specs.Views.{target_of}
use Rattle.si_stacks.proofs.Keeping.{keeps_fewer}
use Rattle.si_steps.proofs.Lines.{alike, where_ok}
use Rattle.si_steps.proofs.Operands.{room_at}
use Rattle.si_steps.proofs.Made.{can_conclude, concluded_did, short_with_room}
use Rattle.si_steps.proofs.Displayed.{items_there, items_lie, display_is}
use Rattle.si_steps.proofs.state.State.gather_list.Goals as goal

pub arguments-elements-requires : goal.arguments-elements-requires
arguments-elements-requires g c =
    let s = c.args.self.now in
    let mid = c.make_room.new.self in
    let room = where_ok c.make_room.result (sym c.is_err.ensures.value ∙ c.if-is_err.false) c.make_room.ensures.ok in
    items_there list_within (target_of c.args.target) c.args.at c.args.count (s.pc + 1) mid g.p (room_at c.args.target s mid g.p c.requires.at room) c.requires.open_line

pub make_list-made-requires : goal.make_list-made-requires
make_list-made-requires g c =
    let s = c.args.self.now in
    let mid = c.make_room.new.self in
    let room = where_ok c.make_room.result (sym c.is_err.ensures.value ∙ c.if-is_err.false) c.make_room.ensures.ok in
    items_lie list_within (target_of c.args.target) c.args.at c.args.count (s.pc + 1) mid g.p c.arguments-elements.result.now (room_at c.args.target s mid g.p c.requires.at room) c.requires.open_line c.arguments-elements.ensures

pub conclude-requires : goal.conclude-requires
conclude-requires g c =
    let s = c.args.self.now in
    let mid = c.make_room.new.self in
    let room = where_ok c.make_room.result (sym c.is_err.ensures.value ∙ c.if-is_err.false) c.make_room.ensures.ok in (
      subst (λ n. n < 2 ^ 63) (sym (short_with_room c.args.target s mid room)) c.requires.place,
      can_conclude c.args.target (λ w. list_within (all_of mid.arena c.arguments-elements.result.now) w) c.make_list-made.result g.p s mid c.make_list-made.new.arena c.requires.at c.requires.running room c.make_list-made.ensures,
    )

pub returns : goal.returns
returns g c =
    let s = c.args.self.now in
    let mid = c.make_room.new.self in
    let rs = c.arguments-elements.result.now in
    let room = where_ok c.make_room.result (sym c.is_err.ensures.value ∙ c.if-is_err.false) c.make_room.ensures.ok in
    alike _ _ g.p s c.conclude.new.self c.conclude.result (display_is list_within (target_of c.args.target) c.args.at c.args.count (s.pc + 1) mid g.p rs (room_at c.args.target s mid g.p c.requires.at room) c.requires.open_line c.arguments-elements.ensures)
    (concluded_did c.args.target (λ w. list_within (all_of mid.arena rs) w) c.make_list-made.result g.p (take c.args.at g.p.ts) s mid c.conclude.new.self c.make_list-made.new.arena c.conclude.result c.requires.at c.requires.running room
    (keeps_fewer s.arena s.frames.temporaries g.p.ts c.args.at c.requires.at.0.temporaries) c.make_list-made.ensures c.conclude.ensures)
