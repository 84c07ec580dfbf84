use Rattle.search.specs.Known.{AreStanding, Exploring}
use Rattle.std.proofs.Common.{max, ◌-◌, ◌≡◌}
use Rattle.search.proofs.breadth.explore.Given as goal

abbrev pub invariant-loop-alloc : goal.invariant-loop-alloc
invariant-loop-alloc g l = record {
  exploring : Exploring (g.M.Machine.moves l.machine) l.search.rows.items l.search.seen l.search.whole l.search.marked l.search.lasts.items
      l.fn.limits.cores l.at l.tried;
  standing : AreStanding (g.M.Machine.moves l.machine) g.M.Machine.moves g.M.Machine.core l.search.rows.items l.search.waiting.items;
  limits : l.search.limits ≡ l.fn.limits;
}

abbrev pub decreases-loop-alloc : goal.decreases-loop-alloc
decreases-loop-alloc g l = max 1 l.fn.limits.cores - l.at
