use Rattle.script_printer.proofs.LineLoops.{no_line_more, one_line_more}
use Rattle.script_printer.proofs.printing.add_natives.Goals as goal
use Rattle.script_printer.specs.Printing.{native_line}

pub loop-native-preserved : goal.loop-native-preserved
loop-native-preserved c =
    one_line_more (native_line c.args.names.now) c.loop-native.out.items _ c.args.natives.now c.loop-native.native-index
    c.loop-native.invariant c.add_line.new.out.items _ c.loop-native-test.true (rw c.native_line.ensures at c.in_ok-add_line.ensures)

pub returns : goal.returns
returns c = no_line_more (native_line c.args.names.now) c.loop-native.out.items _ c.args.natives.now c.loop-native.native-index
    c.loop-native.invariant c.loop-native-test.false
