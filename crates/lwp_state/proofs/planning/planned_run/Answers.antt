use Rattle.lwp_state.proofs.PlanLaws.{came-to, goes-on-from}
use Rattle.lwp_state.proofs.planning.planned_run.Goals as goal

pub returns-in-Ok-clause-sound : goal.returns-in-Ok-clause-sound
returns-in-Ok-clause-sound c = c.in-Ok.ensures.does.ran.sound

pub returns-in-Ok-clause-plays : goal.returns-in-Ok-clause-plays
returns-in-Ok-clause-plays c =
    goes-on-from c.args.script.now c.args.calls c.in_ok-played.played c.run.new.run c.in_ok-played.ensures c.in-Ok.ensures.does.ran.same

pub returns-in-Ok-clause-takes : goal.returns-in-Ok-clause-takes
returns-in-Ok-clause-takes c = (came-to c.args.script.now c.args.calls c.in_ok-played.played c.run.new.run c.in_ok-gate.gate c.run.new.gate
    c.in_ok-played.ensures c.in_ok-gate.ensures c.in-Ok.ensures.eager).0

pub returns-in-Ok-clause-calls : goal.returns-in-Ok-clause-calls
returns-in-Ok-clause-calls c = (came-to c.args.script.now c.args.calls c.in_ok-played.played c.run.new.run c.in_ok-gate.gate c.run.new.gate
    c.in_ok-played.ensures c.in_ok-gate.ensures c.in-Ok.ensures.eager).1
