use Rattle.lwp_explore.proofs.machine.ScriptMachine.takeable.Given as goal
use Rattle.lwp_explore.specs.Cores.{takes_from}
use Rattle.lwp_explore.specs.Sessions.{world_of}
use Rattle.lwp_explore.specs.Standing.{core_now}
use Rattle.std.proofs.Common.{length, take, ◌≡◌, ◌≤◌}

abbrev pub invariant-loop-client : goal.invariant-loop-client
invariant-loop-client l = (l.count ≤ l.client)
    × (l.count ≡ length (takes_from (world_of l.self.script) (core_now l.self) 0 (take l.client l.self.script.clients)))
