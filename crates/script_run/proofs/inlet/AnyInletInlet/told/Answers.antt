use Rattle.script_run.proofs.inlet.AnyInletInlet.told.Goals as goal
use Rattle.std.proofs.Common.{rules}

pub returns-in-Lane : goal.returns-in-Lane
returns-in-Lane c = search rules
