use Rattle.search.proofs.Steps.{same_grows}
use Rattle.search.proofs.Tries.{last_settles, next_knows, none_settles}
use Rattle.search.specs.Known.{Knows}
use Rattle.std.proofs.Common.{refl, rules, subst, sym}
use Rattle.search.proofs.breadth.try_all.Goals as goal

pub returns-then-count-eq0 : goal.returns-then-count-eq0
returns-then-count-eq0 g c =
    let moves = g.M.Machine.moves c.args.here in
    let old = c.args.search.now in
    record {
      knows = next_knows moves old.rows.items old.limits.cores c.args.at c.args.count (g.M.Machine.core c.args.here) c.requires.count
          old.seen old.whole old.marked c.requires.here
          (subst (λ n. Knows moves old.rows.items old.seen old.whole old.marked old.limits.cores c.args.at n) (sym c.if-count-eq0.true) c.requires.knows);
      grows = same_grows moves old.limits.cores old.rows.items;
      standing = c.requires.standing;
      settled = none_settles moves old.rows.items old.limits.cores c.args.at c.args.count (g.M.Machine.core c.args.here) c.requires.count
          c.if-count-eq0.true;
      limits = refl;
      lasts = refl;
    }

pub try_each-requires-clause-some : goal.try_each-requires-clause-some
try_each-requires-clause-some g c = search rules

pub returns : goal.returns
returns g c =
    let moves = g.M.Machine.moves c.args.here in
    let old = c.args.search.now in
    let new = c.try_each.new.search in
    let after = c.in_ok-last.ensures in
    record {
      knows = next_knows moves new.rows.items old.limits.cores c.args.at c.args.count (g.M.Machine.core c.args.here) c.requires.count
          new.seen new.whole new.marked (after.grows.keeps.cores c.args.at (g.M.Machine.core c.args.here) c.requires.here) after.knows;
      grows = after.grows;
      standing = after.standing;
      settled = last_settles moves new.rows.items old.limits.cores c.args.at c.args.count (g.M.Machine.core c.args.here) c.requires.count
          c.in_ok-last.last after.leads;
      limits = after.limits;
      lasts = after.lasts;
    }
