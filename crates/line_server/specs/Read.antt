-- A command as the code reads it, without a copy of its key and value.
use Rattle.line_server.specs.Commands.{Command, Del, Get, Put}
use Rattle.line_server.specs.declared.command.Asked.{Asked}
use Rattle.line_server.specs.declared.command.Asked.TheVariants as asked

-- the command that was read
abbrev pub read_command : Asked → Command
read_command (asked.Put key value) = Put key.now value.now
read_command (asked.Get key) = Get key.now
read_command (asked.Del key) = Del key.now
