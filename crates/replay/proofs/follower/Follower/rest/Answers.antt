use Rattle.replay.proofs.AheadLaws.{count-front}
use Rattle.replay.specs.Following.{Following}
use Rattle.std.proofs.Common.{ap, arith, drop, length, length-drop, length-take, ◌-◌}
use Rattle.replay.proofs.follower.Follower.rest.Goals as goal

pub returns-clause-small : goal.returns-clause-small
returns-clause-small c =
    let recorded = c.self.inside.recorded.now in
    let at = c.self.inside.at in
    omega (
      arith,
      ap (λ (f : Following). f.lines) c.self.view_is,
      count-front recorded at,
      length-take (length recorded - at) (drop at recorded),
      length-drop at recorded,
      c.self.invariant.0,
    )
