use Rattle.std.proofs.Common.{◌≡◌, ◌++◌}
use Rattle.lwp_serve.specs.Maker.Made.{each, client_line}
use Rattle.lwp_serve.proofs.maker.script.add_client_lines.Given as goal

abbrev pub invariant-loop-client : goal.invariant-loop-client
invariant-loop-client l = l.out.items ≡ l.initial.out.items ++ each (client_line l.line) l.client
