use Rattle.line_server.proofs.command.command_in.Goals as goal
use Rattle.std.proofs.Common.{rules}

pub returns-then-len-lt1 : goal.returns-then-len-lt1
returns-then-len-lt1 c = search rules
