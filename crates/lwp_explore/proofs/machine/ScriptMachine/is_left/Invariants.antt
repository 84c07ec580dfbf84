use Rattle.lwp_explore.proofs.machine.ScriptMachine.is_left.Given as goal
use Rattle.lwp_explore.specs.Kinds.{left_from}
use Rattle.lwp_explore.specs.Sessions.{world_of}
use Rattle.lwp_explore.specs.Standing.{core_now}
use Rattle.std.proofs.Common.{false, take, ◌≡◌}
use Rattle.std.specs.List.{list_any}
use Rattle.std.specs.Prelude.{nat_lt}

abbrev pub invariant-loop-client : goal.invariant-loop-client
invariant-loop-client l = list_any (λ n. nat_lt 0 n) (left_from (world_of l.self.script) (core_now l.self) 0 (take l.client l.self.script.clients)) ≡ false
