use Rattle.std.proofs.Common.{◌≡◌, ◌++◌, drop}
use Rattle.std.specs.List.{flat_map}
use Rattle.script_lines.specs.Line.{slot_text}
use Rattle.script_printer.proofs.line_text.add_slots.Given as goal

abbrev pub invariant-loop-kind : goal.invariant-loop-kind
invariant-loop-kind l = l.out.items ++ flat_map (slot_text l.phrase) (drop l.kind-index l.kinds) ≡ l.initial.out.items ++ flat_map (slot_text l.phrase) l.kinds
