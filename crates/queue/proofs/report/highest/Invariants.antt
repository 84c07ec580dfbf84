use Rattle.std.proofs.Common.{drop, max, ◌≡◌, ◌≤◌}
use Rattle.std.specs.List.{fold}
use Rattle.queue.proofs.report.highest.Given as goal

abbrev pub invariant-loop-bar : goal.invariant-loop-bar
invariant-loop-bar l = (1 ≤ l.most) × (fold max l.most (drop l.bar-index l.bars) ≡ fold max 1 l.bars)
