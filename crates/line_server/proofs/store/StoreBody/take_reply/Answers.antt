use Rattle.line_server.proofs.store.StoreBody.take_reply.Goals as goal
use Rattle.std.proofs.Common.{rules}

pub returns-then-was_replied : goal.returns-then-was_replied
returns-then-was_replied c = search rules
