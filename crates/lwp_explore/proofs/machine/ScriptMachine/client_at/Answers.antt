use Rattle.lwp_explore.proofs.TakeCounts.{count_more, one_on}
use Rattle.lwp_explore.proofs.machine.ScriptMachine.client_at.Goals as goal
use Rattle.lwp_explore.proofs.machine.ScriptMachine.client_at.Goals.{else-is_takeable, then-is_takeable+else-before-number}
use Rattle.lwp_explore.specs.Sessions.{world_of}
use Rattle.lwp_explore.specs.Standing.{core_now}
use Rattle.lwp_types.specs.CountLaws.{one}
use Rattle.std.proofs.Common.{ap, arith, length, sym, ◌<◌, ◌∙◌}

pub loop-client-preserved : goal.loop-client-preserved
loop-client-preserved c =
    let s = c.args.self.now in
    let within : c.loop-client.client < length s.script.clients =
    rw (← c.self.view_is) (omega (arith, c.loop-client-test.true, c.clients-client-end.ensures)) in
    let more = count_more (world_of s.script) (core_now s) c.loop-client.client within in
    elim c.if-is_takeable.branch [
      | then-is_takeable+else-before-number w ↦ (
        omega (arith, w.before-is, one_on c.loop-client.before c.args.number c.loop-client.invariant.0 w.if-before-number.false),
        omega (arith, w.before-is, c.loop-client.invariant.1, more, ap one (sym c.is_takeable.ensures ∙ w.if-is_takeable.true)),
      )
      | else-is_takeable w ↦ (
        omega (arith, w.before-is, c.loop-client.invariant.0),
        omega (arith, w.before-is, c.loop-client.invariant.1, more, ap one (sym c.is_takeable.ensures ∙ w.if-is_takeable.false)),
      )
    ]
