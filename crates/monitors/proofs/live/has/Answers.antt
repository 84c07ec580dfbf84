use Rattle.monitors.proofs.LiveLaws.{found_is_member}
use Rattle.monitors.proofs.live.has.Goals as goal
use Rattle.std.proofs.Common.{◌∙◌}

pub returns : goal.returns
returns c = c.is_some.ensures ∙ found_is_member c.args.live.now c.args.mon c.place_of.result c.place_of.ensures.none c.place_of.ensures.some
