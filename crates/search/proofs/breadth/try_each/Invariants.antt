use Rattle.search.specs.Known.{AreStanding, Grows, Knows}
use Rattle.std.proofs.Common.{◌-◌, ◌≡◌, ◌≤◌}
use Rattle.search.proofs.breadth.try_each.Given as goal

abbrev pub invariant-loop-step : goal.invariant-loop-step
invariant-loop-step g l = record {
  knows : Knows (g.M.Machine.moves l.here) l.search.rows.items l.search.seen l.search.whole l.search.marked l.fn.search.limits.cores l.at l.step;
  grows : Grows (g.M.Machine.moves l.here) l.fn.search.limits.cores l.fn.search.rows.items l.search.rows.items;
  standing : AreStanding (g.M.Machine.moves l.here) g.M.Machine.moves g.M.Machine.core l.search.rows.items l.search.waiting.items;
  limits : l.search.limits ≡ l.fn.search.limits;
  lasts : l.search.lasts.items ≡ l.fn.search.lasts.items;
  few : l.step ≤ l.count - 1;
}
