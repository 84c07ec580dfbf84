use Rattle.replay.proofs.AheadLaws.{passes}
use Rattle.std.proofs.Common.{arith}
use Rattle.std.proofs.lemmas.Grind.{common_steps}
use Rattle.std.proofs.lemmas.List.{nil_from_length}
use Rattle.replay.proofs.follower.Follower.pass.Goals as goal

pub returns : goal.returns
returns c =
    let f = c.self.inside in
    let empty = c.if-not-is_empty.ensures in
    let none = nil_from_length f.unlike.items (grind (arith, common_steps)) in
    passes c.args.self.now f.recorded.now f.unlike.items f.at f.ahead f.ticks f.faults c.self.view_is none c.self.invariant.0
