use Rattle.std.proofs.Common.{◌≡◌, ◌++◌, drop}
use Rattle.std.specs.List.{flat_map}
use Rattle.script_text.specs.Grammar.{spelling}
use Rattle.script_printer.specs.Printing.{proc_lines}
use Rattle.script_printer.proofs.printing.add_procs.Given as goal

abbrev pub invariant-loop-proc : goal.invariant-loop-proc
invariant-loop-proc l = l.out.items ++ spelling (flat_map (proc_lines l.names l.texts) (drop l.proc-index l.procs))
    ≡ l.initial.out.items ++ spelling (flat_map (proc_lines l.names l.texts) l.procs)
