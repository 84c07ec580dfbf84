use Rattle.std.proofs.Common.{◌≡◌, ◌++◌, drop, map}
use Rattle.script_text.specs.Grammar.{spelling}
use Rattle.script_printer.specs.Printing.{native_line}
use Rattle.script_printer.proofs.printing.add_natives.Given as goal

abbrev pub invariant-loop-native : goal.invariant-loop-native
invariant-loop-native l = l.out.items ++ spelling (map (native_line l.names) (drop l.native-index l.natives))
    ≡ l.initial.out.items ++ spelling (map (native_line l.names) l.natives)
