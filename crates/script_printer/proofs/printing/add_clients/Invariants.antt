use Rattle.std.proofs.Common.{◌≡◌, ◌++◌, drop}
use Rattle.script_text.specs.Grammar.{spelling}
use Rattle.script_printer.specs.Printing.{client_lines}
use Rattle.script_printer.proofs.printing.add_clients.Given as goal

abbrev pub invariant-loop-client : goal.invariant-loop-client
invariant-loop-client l = l.out.items ++ spelling (client_lines l.client (drop l.client l.events)) ≡ l.initial.out.items ++ spelling (client_lines 0 l.events)
