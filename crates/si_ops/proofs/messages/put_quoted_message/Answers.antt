use Rattle.si_arena.specs.Causes.{message_of}
use Rattle.si_ops.proofs.messages.put_quoted_message.Goals as goal

pub returns-clause-ok : goal.returns-clause-ok
returns-clause-ok c = c.put_quoted_parts.ensures.ok (message_of c.args.arena.now.names c.args.cause) c.parts_of-message.ensures

pub returns-clause-err : goal.returns-clause-err
returns-clause-err c = c.put_quoted_parts.ensures.err (message_of c.args.arena.now.names c.args.cause) c.parts_of-message.ensures
