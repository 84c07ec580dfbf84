use Rattle.replay.proofs.AheadLaws.{count-front}
use Rattle.replay.specs.Following.{Following}
use Rattle.std.proofs.Common.{ap, arith, drop, length, length-drop, ◌∙◌}
use Rattle.replay.proofs.follower.Follower.lines.Goals as goal

pub returns-clause-same : goal.returns-clause-same
returns-clause-same c = c.line_count.ensures ∙ ap (λ (f : Following). f.lines) c.self.view_is

pub returns-clause-small : goal.returns-clause-small
returns-clause-small c = omega (
  arith,
  c.line_count.ensures,
  ap (λ (f : Following). length (drop f.at f.recorded)) c.self.view_is,
  count-front c.self.inside.recorded.now c.self.inside.at,
  length-drop c.self.inside.at c.self.inside.recorded.now,
  c.self.invariant.0,
)
