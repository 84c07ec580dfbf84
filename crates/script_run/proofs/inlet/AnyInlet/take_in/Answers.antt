use Rattle.lanes.specs.Ends.{lane_intake}
use Rattle.script_run.proofs.Sound.{takes_first, takes_none}
use Rattle.script_run.proofs.inlet.AnyInlet.take_in.Goals as goal

pub invariant_of-self : goal.invariant_of-self
invariant_of-self c =
    let u = lane_intake c.take_in.new.self in
    let told = c.take_in.ensures in
    record { first = takes_first u told.lines told.queued; none = takes_none u told.lines told.queued }
