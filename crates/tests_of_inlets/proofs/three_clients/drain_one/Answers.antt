use Rattle.script_run.proofs.Draining.{gave_none, gave_nothing}
use Rattle.tests_of_inlets.proofs.three_clients.drain_one.Goals as goal
use Rattle.script_run.specs.Ties.{any_intake}

pub loop-init : goal.loop-init
loop-init g c = (tt, tt, gave_none (any_intake c.args.inlet.now))

pub returns-in_default : goal.returns-in_default
returns-in_default g c =
    gave_nothing (any_intake c.args.inlet.now) (any_intake c.loop.inlet) (any_intake c.take.new.self) c.loop.invariant.2 c.in_default.ensures.nothing
