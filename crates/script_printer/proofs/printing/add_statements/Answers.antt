use Rattle.script_printer.proofs.LineLoops.{no_line_more, one_line_more}
use Rattle.script_printer.proofs.printing.add_statements.Goals as goal
use Rattle.script_printer.specs.Printing.{stmt_line}

pub loop-stmt-preserved : goal.loop-stmt-preserved
loop-stmt-preserved c =
    one_line_more (stmt_line c.args.names.now c.args.texts.now) c.loop-stmt.out.items _ c.args.stmts.now c.loop-stmt.stmt-index
    c.loop-stmt.invariant c.add_line.new.out.items _ c.loop-stmt-test.true (rw c.stmt_line.ensures at c.in_ok-add_line.ensures)

pub returns : goal.returns
returns c = no_line_more (stmt_line c.args.names.now c.args.texts.now) c.loop-stmt.out.items _ c.args.stmts.now c.loop-stmt.stmt-index
    c.loop-stmt.invariant c.loop-stmt-test.false
