use Rattle.std.proofs.Common.{◌≡◌, ◌++◌, drop, map}
use Rattle.script_text.specs.Grammar.{spelling}
use Rattle.script_printer.specs.Printing.{stmt_line}
use Rattle.script_printer.proofs.printing.add_statements.Given as goal

abbrev pub invariant-loop-stmt : goal.invariant-loop-stmt
invariant-loop-stmt l = l.out.items ++ spelling (map (stmt_line l.names l.texts) (drop l.stmt-index l.stmts))
    ≡ l.initial.out.items ++ spelling (map (stmt_line l.names l.texts) l.stmts)
