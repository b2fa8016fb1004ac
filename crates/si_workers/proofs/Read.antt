-- A text that was read may cross threads, since its tree does: a statement, an expression and a target do when all else that stands in
-- them does, as their knots say.
use Rattle.std.specs.Thread.{IsSend}
use mathlib.Core.List.{[], ◌∷◌}
use mir.Syntax.{Sym}
use denote.RattleType.{RattleType}
use denote.Struct.Tuple.{type_at, TupleAt}
use denote.Struct.Field.{row_field}
use denote.Param.Send.{sendable, view_send}
use denote.Param.SendFields.{as_row_send, declared_send}
use Rattle.std.proofs.vec.Vec.TheSendSync as vec
use Rattle.std.proofs.boxed.Box.TheSendSync as box
use Rattle.std.proofs.string.String.TheSendSync as string
use Rattle.std.proofs.alloc.Global.TheSendSync as global
use Rattle.std.below.std_heap.proofs.GlobalAllocator.TheSendSync as allocator
use Rattle.std.specs.contracts.boxed.Box as box_row
use Rattle.std.specs.contracts.vec.Vec as vec_row
use Rattle.std.specs.contracts.alloc.Global as global_row
use Rattle.std.specs.contracts.impls.GlobalAllocator.TheImpl.{ghosts}
use Rattle.si_plain.proofs.text.Text.TheSendSync as text
use Rattle.si_plain.proofs.octets.Octets.TheSendSync as octets
use Rattle.si_plain.proofs.operators.UnaryOperator.TheSendSync as unary
use Rattle.si_plain.proofs.operators.BinaryOperator.TheSendSync as binary
use Rattle.si_plain.proofs.operators.BooleanOperator.TheSendSync as boolean
use Rattle.si_plain.proofs.operators.ComparisonOperator.TheSendSync as comparison
use Rattle.si_syntax.proofs.expr.CallNames.TheSendSync as call_names
use Rattle.si_syntax.proofs.expr.Expr.TheLaws.TheKnot.{send-Expr}
use Rattle.si_syntax.proofs.stmt.Stmt.TheLaws.TheKnot.{send-Stmt}
use Rattle.si_syntax.proofs.target.Target.TheLaws.TheKnot.{send-Target}
use Rattle.si_syntax.specs.contracts.expr.Expr as expr
use Rattle.si_syntax.specs.contracts.target.Target as target
use Rattle.si_syntax.specs.contracts.target.Item as item
use Rattle.si_syntax.specs.contracts.stmt.Assign as assign
use Rattle.si_syntax.specs.contracts.stmt.Augment as augment
use Rattle.si_syntax.specs.contracts.stmt.AugmentItem as augment_item
use Rattle.si_syntax.specs.contracts.modules.Module as tree
use Rattle.si_scope.specs.contracts.scoped.Scoped as scoped
use Rattle.si_plain.proofs.names.Names.TheSendSync as names
use Rattle.si_reading.specs.contracts.reading.Reading as reading
use Rattle.si_plain.proofs.modules.ModuleName.TheSendSync as module_name
use Rattle.std.proofs.option.Option.TheSendSync as option
use Rattle.std.specs.contracts.string.String as string_row
use Rattle.std.specs.contracts.option.Option as option_row
use Rattle.si_syntax.specs.contracts.stmt.Stmt as stmt

pub boxed : (h : RattleType) → IsSend h → IsSend (box_row.the_row h global_row.the_row ghosts)
boxed h s = box.the_send h global_row.the_row ghosts s global.the_send allocator.the_frees

pub row : (h : RattleType) → IsSend h → IsSend (vec_row.the_row h global_row.the_row ghosts)
row h s = vec.the_send h global_row.the_row ghosts s global.the_send allocator.the_frees

pair_send : (ν : Sym) (A B : RattleType) → IsSend A → IsSend B → IsSend (TupleAt ν (A ∷ B ∷ []))
pair_send ν A B a b = declared_send (type_at ν (A ∷ B ∷ [])) (as_row_send (row_field A) a, (as_row_send (row_field B) b, tt))

text_send : IsSend (string_row.the_row global_row.the_row ghosts)
text_send = string.the_send global_row.the_row ghosts global.the_send allocator.the_frees

name_send : IsSend (string_row.the_field global_row.the_row ghosts).row
name_send = search (sendable, vec.the_send, global.the_send, allocator.the_frees) depth 20

expr_part : IsSend (expr.the_field).row
expr_part =
    send-Expr name_send (search sendable) (search sendable) (search (sendable, text.the_send))
    (search (sendable, octets.the_send)) (search sendable depth 30) boxed (search sendable depth 30)
    (boxed _ call_names.the_send) row (search sendable depth 30) (λ h s. row _ (pair_send _ _ h comparison.the_send s))

expr_send : IsSend expr.the_row
expr_send = as_row_send expr.the_field expr_part

item_part : IsSend (item.the_field).row
item_part = search (sendable, boxed, expr_send) depth 20

item_send : IsSend item.the_row
item_send = as_row_send item.the_field item_part

target_part : IsSend (target.the_field).row
target_part = send-Target name_send item_part row

target_send : IsSend target.the_row
target_send = as_row_send target.the_field target_part

assign_part : IsSend (assign.the_field).row
assign_part = search (sendable, row, target_send, expr_part) depth 20

augment_part : IsSend (augment.the_field).row
augment_part = search (sendable, name_send, expr_part) depth 20

augment_item_part : IsSend (augment_item.the_field).row
augment_item_part = search (sendable, item_part, expr_part) depth 20

stmt_part : IsSend (stmt.the_field).row
stmt_part =
    send-Stmt expr_part assign_part augment_part augment_item_part item_part boxed (search sendable) (search (sendable, expr_send) depth 20)
    (row _ text_send) (search sendable depth 30) row (search (sendable, text_send) depth 20) name_send target_part

stmt_send : IsSend stmt.the_row
stmt_send = as_row_send stmt.the_field stmt_part

tree_send : IsSend tree.the_row
tree_send = declared_send tree.the_type (search (sendable, as_row_send, row, stmt_send) depth 20)

scoped_send : IsSend scoped.the_row
scoped_send = declared_send scoped.the_type (search (sendable, as_row_send, row, tree_send, names.the_send) depth 20)

pub reading_send : IsSend reading.the_row
reading_send = view_send _ _ _ _ _ (declared_send reading.TheInside.the_type (search (sendable, text_send, scoped_send) depth 20))
