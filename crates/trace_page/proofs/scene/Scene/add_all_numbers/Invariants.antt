use Rattle.std.proofs.Common.{◌≡◌, ◌++◌, ◌-◌}
use Rattle.trace_page.specs.Frame.{number_text, tenths}
use Rattle.trace_page.specs.Waits.{each_from}
use Rattle.trace_page.proofs.scene.Scene.add_all_numbers.Given as goal

abbrev pub invariant-loop-n : goal.invariant-loop-n
invariant-loop-n l = l.out.items ++ each_from (number_text l.self) l.n (l.count - l.n) ≡ l.initial.out.items ++ each_from (number_text l.self) 0 (tenths l.self)
