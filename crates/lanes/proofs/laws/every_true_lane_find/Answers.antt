use Rattle.lanes.proofs.Steps.{lane_finds_are_true}
use Rattle.lanes.proofs.laws.every_true_lane_find.Goals as goal

pub returns : goal.returns
returns c = lane_finds_are_true
