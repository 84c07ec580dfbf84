use Rattle.lwp_explore.proofs.AlongLaws.{going_end, going_first, going_more, going_within}
use Rattle.lwp_explore.proofs.along.go_along.Goals as goal
use Rattle.pod_runner.proofs.Appends.{writes_none, writes_then}

pub loop-step-init : goal.loop-step-init
loop-step-init g c = (going_first c.args.machine.now c.args.path.now c.requires.sound, writes_none _ _)

pub go-requires-clause-sound : goal.go-requires-clause-sound
go-requires-clause-sound g c = c.loop-step.invariant.0.sound

pub go-requires-clause-step : goal.go-requires-clause-step
go-requires-clause-step g c = going_within c.args.machine.now c.loop-step.machine c.args.path.now c.loop-step.step-index
    c.loop-step-test.true c.loop-step.invariant.0 c.requires.leads

pub loop-step-preserved : goal.loop-step-preserved
loop-step-preserved g c = (
  going_more c.args.machine.now c.loop-step.machine c.args.path.now c.loop-step.step-index c.loop-step-test.true c.loop-step.invariant.0
      c.go.new.self c.go.ensures.further c.in-Ok.ensures.sound c.in-Ok.ensures.step c.in-Ok.ensures.counted c.in-Ok.ensures.there,
  writes_then c.loop-step.invariant.1 c.in-Ok.ensures.told.0,
)

pub returns-clause-along : goal.returns-clause-along
returns-clause-along g c = going_end c.args.machine.now c.loop-step.machine c.args.path.now c.loop-step.step-index
    c.loop-step-test.false c.loop-step.invariant.0

pub returns-clause-told : goal.returns-clause-told
returns-clause-told g c = c.loop-step.invariant.1
