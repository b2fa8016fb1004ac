-- What may cross threads: all that interpreters and hubs own, since it does so of parcels.
use Rattle.std.specs.Thread.{IsSend, IsSync}
use mathlib.Core.List.{[], ◌∷◌}
use mir.Syntax.{Sym}
use denote.RattleType.{RattleType}
use denote.Struct.Tuple.{type_at, TupleAt}
use denote.Struct.Field.{row_field}
use denote.Param.Send.{sendable, view_send}
use denote.Param.SendFields.{as_row_send, as_row_sync, declared_send, declared_sync, variants_send}
use Rattle.std.proofs.vec.Vec.TheSendSync as vec
use Rattle.std.proofs.boxed.Box.TheSendSync as box
use Rattle.std.proofs.collections.VecDeque.TheSendSync as deque
use Rattle.std.proofs.alloc.Global.TheSendSync as global
use Rattle.std.below.std_heap.proofs.GlobalAllocator.TheSendSync as allocator
use Rattle.si_plain.proofs.text.Text.TheSendSync as text
use Rattle.si_plain.proofs.octets.Octets.TheSendSync as octets
use Rattle.si_plain.proofs.limits.Limits.TheSendSync as limits
use Rattle.si_parcel.proofs.boxed_text.BoxedText.TheSendSync as boxed_text
use Rattle.si_parcel.proofs.ids.Ids.TheSendSync as ids
use Rattle.si_parcel.proofs.outcome.Outcome.TheSendSync as outcome
use Rattle.si_parcel.specs.contracts.parcel.Parcel as parcel
use Rattle.si_parcel.specs.contracts.binds.Binds as binds
use Rattle.si_parcel.specs.contracts.job.Job as job
use Rattle.si_parcel.specs.contracts.action.Action as action
use Rattle.si_parcel.specs.contracts.answer.Answer as answer
use Rattle.si_hub.specs.contracts.hub.Call as call
use Rattle.si_queues.specs.contracts.queue.Queue as queue
use Rattle.si_queues.specs.contracts.queues.Queues as queues
use Rattle.si_registry.proofs.interpreter.Standing.TheSendSync as standing
use Rattle.si_registry.proofs.run.Run.TheSendSync as run
use Rattle.si_registry.specs.contracts.interpreter.Waiting as waiting
use Rattle.si_registry.specs.contracts.interpreter.Interpreter as interpreter
use Rattle.si_registry.specs.contracts.registry.Registry as registry
use Rattle.si_hub.specs.contracts.shared.Shared as shared
use Rattle.si_hub.specs.contracts.hub.Hub as hub
use Rattle.si_interp.specs.contracts.interp.Logged as logged
use Rattle.si_interp.specs.contracts.interp.Interp as interp
use Rattle.si_steps.specs.contracts.machine.Machine as machine
use Rattle.si_steps.specs.contracts.state.State as state
use Rattle.si_steps.proofs.state.Standing.TheSendSync as steps_standing
use Rattle.si_steps.proofs.step.Exit.TheSendSync as exit
use Rattle.si_methods.proofs.request.Awaited.TheSendSync as awaited
use Rattle.si_methods.proofs.method.MethodName.TheSendSync as method_name
use Rattle.si_slots.proofs.operand.Target.TheSendSync as target
use Rattle.si_slots.proofs.table.CodeTable.TheSendSync as table
use Rattle.si_arena.proofs.arena.Arena.TheSendSync as arena
use Rattle.si_ops.proofs.items.Items.TheSendSync as items
use Rattle.si_arena.proofs.value.Ref.TheSendSync as ref
use Rattle.si_stacks.proofs.frames.Frames.TheSendSync as frames
use Rattle.si_stacks.proofs.blocks.Blocks.TheSendSync as blocks
use Rattle.si_stacks.proofs.trace.Trace.TheSendSync as trace
use Rattle.std.proofs.string.String.TheSendSync as string
use Rattle.std.proofs.option.Option.TheSendSync as option
use Rattle.si_interp.proofs.interp.State.TheSendSync as interp_state
use Rattle.si_interp.proofs.origins.Origins.TheSendSync as origins
use Rattle.si_parcel.proofs.parcel.Parcel.TheLaws.TheKnot.{send-Parcel}
use Rattle.std.proofs.sync.Mutex.TheSendSync as mutex
use Rattle.std.proofs.sync.Condvar.TheSendSync as condvar
use Rattle.si_workers.proofs.Read.{boxed, reading_send, row}
use Rattle.si_workers.specs.contracts.page.Doing as doing
use Rattle.si_workers.specs.contracts.page.Page as page
use Rattle.si_workers.specs.contracts.book.Book as book
use Rattle.si_workers.specs.contracts.sleepers.Sleepers as sleepers
use Rattle.si_workers.specs.contracts.worked.Worked as worked
use Rattle.si_workers.specs.contracts.running.Shared as held
use Rattle.si_workers.specs.contracts.running.Desk as desk

pub parcel_send : IsSend parcel.the_row
parcel_send =
    send-Parcel (search (sendable, as_row_send)) (search (sendable, as_row_send)) (search (sendable, as_row_send, boxed_text.the_send)) (search (sendable, as_row_send, octets.the_send))
    (search (sendable, as_row_send)) (search (sendable, as_row_send)) (search (sendable, as_row_send)) (λ h s. boxed _ (row h s))

pub binds_send : IsSend binds.the_row
binds_send = view_send _ _ _ _ _ (declared_send binds.TheInside.the_type (search (sendable, as_row_send, parcel_send, text.the_send, box.the_send, vec.the_send, global.the_send, allocator.the_frees) depth 20))

pub job_send : IsSend job.the_row
job_send = variants_send job.enum (search (sendable, as_row_send, binds_send, boxed_text.the_send) depth 20)

pub action_send : IsSend action.the_row
action_send = variants_send action.enum (search (sendable, as_row_send, parcel_send, binds_send, boxed_text.the_send, outcome.the_field_send) depth 60)

pub answer_send : IsSend answer.the_row
answer_send = variants_send answer.enum (search (sendable, as_row_send, parcel_send, job_send, ids.the_send, outcome.the_field_send) depth 60)

pub call_send : IsSend call.the_row
call_send = view_send _ _ _ _ _ (declared_send call.TheInside.the_type (search (sendable, as_row_send, action_send, answer_send) depth 20))

pub queue_send : IsSend queue.the_row
queue_send = view_send _ _ _ _ _ (declared_send queue.TheInside.the_type (search (sendable, as_row_send, parcel_send, deque.the_send, global.the_send, allocator.the_frees) depth 20))

pub queues_send : IsSend queues.the_row
queues_send = view_send _ _ _ _ _ (declared_send queues.TheInside.the_type (search (sendable, as_row_send, queue_send, vec.the_send, global.the_send, allocator.the_frees) depth 20))

pub waiting_send : IsSend waiting.the_row
waiting_send = view_send _ _ _ _ _ (declared_send waiting.TheInside.the_type (search (sendable, as_row_send, job_send) depth 20))

pub interpreter_send : IsSend interpreter.the_row
interpreter_send = view_send _ _ _ _ _ (declared_send interpreter.TheInside.the_type (search (sendable, as_row_send, waiting_send, standing.the_field_send, standing.the_send, deque.the_send, global.the_send, allocator.the_frees) depth 20))

pub registry_send : IsSend registry.the_row
registry_send = view_send _ _ _ _ _ (declared_send registry.TheInside.the_type (search (sendable, as_row_send, interpreter_send, run.the_send, vec.the_send, global.the_send, allocator.the_frees) depth 20))

pub shared_send : IsSend shared.the_row
shared_send = view_send _ _ _ _ _ (declared_send shared.TheInside.the_type (search (sendable, as_row_send, registry_send, queues_send, global.the_send) depth 20))

pub hub_send : IsSend hub.the_row
hub_send = view_send _ _ _ _ _ (declared_send hub.TheInside.the_type (search (sendable, as_row_send, shared_send, call_send, text.the_send, limits.the_send, vec.the_send, global.the_send, allocator.the_frees) depth 20))

pub logged_send : IsSend logged.the_row
logged_send = view_send _ _ _ _ _ (declared_send logged.TheInside.the_type (search (sendable, as_row_send, action_send, answer_send) depth 20))

pub state_send : IsSend state.the_row
state_send = declared_send state.the_type (search (sendable, as_row_send, steps_standing.the_field_send, exit.the_field_send, awaited.the_field_send, target.the_field_send, method_name.the_send, option.the_field_send, option.the_send, action_send, table.the_send, arena.the_send, ref.the_field_send, frames.the_send, blocks.the_send, trace.the_send, items.the_send, target.the_send, string.the_send, vec.the_send, global.the_send, allocator.the_frees) depth 60 fits 20000)

pub machine_send : IsSend machine.the_row
machine_send = view_send _ _ _ _ _ (declared_send machine.TheInside.the_type (search (sendable, as_row_send, state_send) depth 20))

pub interp_send : IsSend interp.the_row
interp_send = view_send _ _ _ _ _ (declared_send interp.TheInside.the_type (search (sendable, as_row_send, machine_send, logged_send, reading_send, origins.the_send, interp_state.the_field_send, option.the_field_send, action_send, vec.the_send, global.the_send, allocator.the_frees) depth 40))

pub worked_send : IsSend worked.the_row
worked_send = view_send _ _ _ _ _ (declared_send worked.TheInside.the_type (search (sendable, as_row_send, interp_send) depth 20))

doing_send : IsSend doing.the_row
doing_send = variants_send doing.enum (search (sendable, as_row_send, action_send) depth 20)

page_send : IsSend page.the_row
page_send = view_send _ _ _ _ _ (declared_send page.TheInside.the_type (search (sendable, as_row_send, doing_send) depth 20))

book_send : IsSend book.the_row
book_send = view_send _ _ _ _ _ (declared_send book.TheInside.the_type (search (sendable, as_row_send, hub_send, page_send, vec.the_send, global.the_send, allocator.the_frees) depth 20))

sleepers_send : IsSend sleepers.the_row
sleepers_send = view_send _ _ _ _ _ (declared_send sleepers.TheInside.the_type (search (sendable, as_row_send, vec.the_send, global.the_send, allocator.the_frees) depth 20))

held_send : IsSend held.the_row
held_send = declared_send held.the_type (search (sendable, as_row_send, book_send, sleepers_send) depth 20)

pub desk_sync : IsSync desk.the_row
desk_sync = declared_sync desk.the_type (search (sendable, as_row_sync, mutex.the_sync, held_send, condvar.the_sync) depth 20)

-- a closure with five captures may cross where each of them may
pub five_send : (ν : Sym) (A B C D E : RattleType) → IsSend A → IsSend B → IsSend C → IsSend D → IsSend E → IsSend (TupleAt ν (A ∷ B ∷ C ∷ D ∷ E ∷ []))
five_send ν A B C D E a b c d e =
    declared_send (type_at ν (A ∷ B ∷ C ∷ D ∷ E ∷ []))
    (as_row_send (row_field A) a, (as_row_send (row_field B) b, (as_row_send (row_field C) c, (as_row_send (row_field D) d, (as_row_send (row_field E) e, tt)))))
