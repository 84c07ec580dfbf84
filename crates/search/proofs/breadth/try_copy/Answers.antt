use Rattle.search.specs.Found.{cores_of}
use Rattle.search.specs.Known.{AreStanding, Grows, Knows}
use Rattle.std.proofs.Common.{Some, ap, length, subst, sym, ◌+◌, ◌<◌, ◌∙◌, ◌≡◌}
use Rattle.std.specs.Prelude.{slice_get}
use Rattle.search.proofs.breadth.try_copy.Goals as goal

pub try_step-requires-clause-knows : goal.try_step-requires-clause-knows
try_step-requires-clause-knows g c = subst (λ m. Knows m c.args.search.now.rows.items c.args.search.now.seen c.args.search.now.whole
    c.args.search.now.marked c.args.search.now.limits.cores c.args.at c.args.step) (sym c.in_ok-copy.ensures.same) c.requires.knows

pub try_step-requires-clause-here : goal.try_step-requires-clause-here
try_step-requires-clause-here g c = subst (λ m. slice_get (cores_of m c.args.search.now.rows.items) c.args.at
    ≡ Some (g.M.Machine.core c.in_ok-copy.copy)) (sym c.in_ok-copy.ensures.same) (c.requires.here ∙ ap (λ x. Some x) (sym c.in_ok-copy.ensures.there))

pub try_step-requires-clause-step : goal.try_step-requires-clause-step
try_step-requires-clause-step g c = subst (λ m. c.args.step < length (m.after (g.M.Machine.core c.in_ok-copy.copy))) (sym c.in_ok-copy.ensures.same)
    (subst (λ x. c.args.step < length ((g.M.Machine.moves c.args.here.now).after x)) (sym c.in_ok-copy.ensures.there) c.requires.step)

pub try_step-requires-clause-standing : goal.try_step-requires-clause-standing
try_step-requires-clause-standing g c = subst (λ m. AreStanding m g.M.Machine.moves g.M.Machine.core c.args.search.now.rows.items
    c.args.search.now.waiting.items) (sym c.in_ok-copy.ensures.same) c.requires.standing

pub returns : goal.returns
returns g c =
    let new = c.try_step.new.search in
    let after = c.in_ok-try_step.ensures in
    record {
      knows = subst (λ m. Knows m new.rows.items new.seen new.whole new.marked c.args.search.now.limits.cores c.args.at (c.args.step + 1))
          c.in_ok-copy.ensures.same after.knows;
      grows = subst (λ m. Grows m c.args.search.now.limits.cores c.args.search.now.rows.items new.rows.items) c.in_ok-copy.ensures.same after.grows;
      standing = subst (λ m. AreStanding m g.M.Machine.moves g.M.Machine.core new.rows.items new.waiting.items) c.in_ok-copy.ensures.same after.standing;
      limits = after.limits;
      lasts = after.lasts;
    }
