use Rattle.lwp_explore.proofs.TakeCounts.{any_at, any_more}
use Rattle.lwp_explore.proofs.machine.ScriptMachine.is_left.Goals as goal
use Rattle.lwp_explore.specs.Sessions.{world_of}
use Rattle.lwp_explore.specs.Standing.{core_now}
use Rattle.std.proofs.Common.{arith, length, sym, ◌<◌, ◌∙◌}

pub returns-then-has_left : goal.returns-then-has_left
returns-then-has_left c =
    let s = c.args.self.now in
    let within : c.loop-client.client < length s.script.clients =
    rw (← c.self.view_is) (omega (arith, c.loop-client-test.true, c.clients-client-end.ensures)) in
    sym (any_at (world_of s.script) (core_now s) c.loop-client.client within c.loop-client.invariant (sym c.has_left.ensures ∙ c.if-has_left.true))

pub loop-client-preserved : goal.loop-client-preserved
loop-client-preserved c =
    let s = c.args.self.now in
    let within : c.loop-client.client < length s.script.clients =
    rw (← c.self.view_is) (omega (arith, c.loop-client-test.true, c.clients-client-end.ensures)) in
    any_more (world_of s.script) (core_now s) c.loop-client.client within c.loop-client.invariant ∙ sym c.has_left.ensures ∙ c.if-has_left.false
