use Rattle.death_cleanup.proofs.Firsts.{reached-first, reached-less, reached-none}
use Rattle.death_cleanup.proofs.Orders.{gap-next}
use Rattle.death_cleanup.proofs.named.first_in.Goals as goal
use Rattle.death_cleanup.specs.Named.{run_number}
use Rattle.std.proofs.Common.{refl, sym, ◌∙◌}

pub loop-wait-init : goal.loop-wait-init
loop-wait-init c = record { reached = record { ordered = c.requires.ordered; noted = c.requires.noted; gap = c.requires.start }; capacity = refl }

pub returns-then-goes_on-clause-value : goal.returns-then-goes_on-clause-value
returns-then-goes_on-clause-value c =
    reached-first c.args.what c.args.tid c.args.ids.now.live c.goes_on.ensures.rising c.loop-wait.waits.items c.args.at
    c.loop-wait.invariant.reached c.in-Some.wait c.in-Some.ensures.some (sym c.goes_on.ensures.value ∙ c.if-goes_on.true)

pub loop-wait-preserved : goal.loop-wait-preserved
loop-wait-preserved c =
    let off = sym c.goes_on.ensures.value ∙ c.if-goes_on.false in
    record {
      reached = rw c.take_at.ensures.items (reached-less c.args.what c.args.tid c.args.ids.now.live c.goes_on.ensures.rising
          c.loop-wait.waits.items c.args.at c.loop-wait.invariant.reached c.in-Some.wait c.in-Some.ensures.some off);
      capacity = c.take_at.ensures.capacity ∙ c.loop-wait.invariant.capacity;
    }

pub returns-clause-value : goal.returns-clause-value
returns-clause-value c =
    reached-none c.args.what c.args.tid c.args.ids.now.live c.loop-wait.waits.items c.args.at c.loop-wait.invariant.reached c.in_default.ensures.none

pub returns-clause-next : goal.returns-clause-next
returns-clause-next c = gap-next c.loop-wait.waits.items (run_number c.args.what c.args.tid) c.args.at c.loop-wait.invariant.reached.ordered
    c.loop-wait.invariant.reached.gap c.in_default.ensures.none
