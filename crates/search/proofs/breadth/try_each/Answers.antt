use Rattle.search.proofs.Steps.{grows_trans, same_grows}
use Rattle.search.specs.Known.{Grows, Knows, LeadsTo}
use Rattle.std.proofs.Common.{arith, refl, subst, sym, ◌+◌, ◌-◌, ◌∙◌, ◌≡◌}
use Rattle.search.proofs.breadth.try_each.Goals as goal

pub loop-step-init : goal.loop-step-init
loop-step-init g c = record {
  knows = c.requires.knows;
  grows = same_grows (g.M.Machine.moves c.args.here) c.args.search.now.limits.cores c.args.search.now.rows.items;
  standing = c.requires.standing;
  limits = refl;
  lasts = refl;
  few = omega arith;
}

pub try_copy-requires-clause-knows : goal.try_copy-requires-clause-knows
try_copy-requires-clause-knows g c = subst (λ l. Knows (g.M.Machine.moves c.args.here) c.loop-step.search.rows.items c.loop-step.search.seen
    c.loop-step.search.whole c.loop-step.search.marked l.cores c.args.at c.loop-step.step) (sym c.loop-step.invariant.limits)
    c.loop-step.invariant.knows

pub try_copy-requires-clause-here : goal.try_copy-requires-clause-here
try_copy-requires-clause-here g c = c.loop-step.invariant.grows.keeps.cores c.args.at (g.M.Machine.core c.args.here) c.requires.here

pub try_copy-requires-clause-step : goal.try_copy-requires-clause-step
try_copy-requires-clause-step g c = omega (arith, c.loop-step-test.true, c.requires.count)

pub loop-step-preserved : goal.loop-step-preserved
loop-step-preserved g c =
    let before = c.loop-step.invariant in
    let after = c.in_ok-try_copy.ensures in
    let new = c.try_copy.new.search in
    let moves = g.M.Machine.moves c.args.here in
    let limit = c.args.search.now.limits.cores in
    record {
      knows = subst (λ l. Knows moves new.rows.items new.seen new.whole new.marked l.cores c.args.at (c.loop-step.step + 1)) before.limits after.knows;
      grows = grows_trans moves limit c.args.search.now.rows.items c.loop-step.search.rows.items new.rows.items before.grows
          (subst (λ l. Grows moves l.cores c.loop-step.search.rows.items new.rows.items) before.limits after.grows);
      standing = after.standing;
      limits = after.limits ∙ before.limits;
      lasts = after.lasts ∙ before.lasts;
      few = omega (arith, c.loop-step-test.true);
    }

pub try_step-requires-clause-knows : goal.try_step-requires-clause-knows
try_step-requires-clause-knows g c =
    let all : c.loop-step.step ≡ c.args.count - 1 = omega (arith, c.loop-step-test.false, c.loop-step.invariant.few) in
    subst (λ l. Knows (g.M.Machine.moves c.args.here) c.loop-step.search.rows.items c.loop-step.search.seen
    c.loop-step.search.whole c.loop-step.search.marked l.cores c.args.at (c.args.count - 1)) (sym c.loop-step.invariant.limits)
    (subst (λ n. Knows (g.M.Machine.moves c.args.here) c.loop-step.search.rows.items c.loop-step.search.seen
    c.loop-step.search.whole c.loop-step.search.marked c.args.search.now.limits.cores c.args.at n) all c.loop-step.invariant.knows)

pub try_step-requires-clause-here : goal.try_step-requires-clause-here
try_step-requires-clause-here g c = c.loop-step.invariant.grows.keeps.cores c.args.at (g.M.Machine.core c.args.here) c.requires.here

pub try_step-requires-clause-step : goal.try_step-requires-clause-step
try_step-requires-clause-step g c = omega (arith, c.requires.some, c.requires.count)

pub returns : goal.returns
returns g c =
    let before = c.loop-step.invariant in
    let after = c.in_ok-last.ensures in
    let new = c.try_step.new.search in
    let moves = g.M.Machine.moves c.args.here in
    let limit = c.args.search.now.limits.cores in
    let all : c.args.count - 1 + 1 ≡ c.args.count = omega (arith, c.requires.some) in
    record {
      knows = subst (λ n. Knows moves new.rows.items new.seen new.whole new.marked limit c.args.at n) all
          (subst (λ l. Knows moves new.rows.items new.seen new.whole new.marked l.cores c.args.at (c.args.count - 1 + 1)) before.limits after.knows);
      grows = grows_trans moves limit c.args.search.now.rows.items c.loop-step.search.rows.items new.rows.items before.grows
          (subst (λ l. Grows moves l.cores c.loop-step.search.rows.items new.rows.items) before.limits after.grows);
      standing = after.standing;
      leads = subst (λ l. LeadsTo moves new.rows.items l.cores (g.M.Machine.core c.args.here) (c.args.count - 1) c.in_ok-last.last) before.limits
          after.leads;
      limits = after.limits ∙ before.limits;
      lasts = after.lasts ∙ before.lasts;
    }
