use Rattle.pod_events.proofs.Reports.{rites_left, rites_put}
use Rattle.pod_events.proofs.rites.tell_as_rites.Goals as goal
use Rattle.pod_events.proofs.rites.tell_as_rites.Goals.{in-Some, in_default}
use Rattle.std.proofs.Common.{arith, sym, ◌+◌, ◌<◌, ◌∙◌, length}

pub loop-i-preserved : goal.loop-i-preserved
loop-i-preserved c =
    let low : c.loop-i.i < length c.args.effects.now = omega (arith, c.loop-i-test.true, c.len-i-end.ensures) in
    elim c.match-agent_reached.branch [
      | in-Some w
          ↦ w.effects-is ∙ w.set.ensures
          ∙ rites_put c.args.dead c.loop-i.i (c.loop-i.i + 1) (omega arith) c.args.effects.now c.loop-i.effects c.loop-i.invariant
          c.get.result.now c.get.ensures low w.in-Some.agent (sym c.agent_reached.ensures ∙ w.in-Some.is)
      | in_default w
          ↦ w.effects-is
          ∙ rites_left c.args.dead c.loop-i.i (c.loop-i.i + 1) (omega arith) c.args.effects.now c.loop-i.effects c.loop-i.invariant
          c.get.result.now c.get.ensures low (sym c.agent_reached.ensures ∙ w.in_default.is)
    ]
