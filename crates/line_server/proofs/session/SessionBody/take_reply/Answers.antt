use Rattle.line_server.proofs.session.SessionBody.take_reply.Goals as goal
use Rattle.std.proofs.Common.{rules}

pub returns-in-Refused : goal.returns-in-Refused
returns-in-Refused c = search rules
