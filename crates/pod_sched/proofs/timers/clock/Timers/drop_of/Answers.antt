use Rattle.lwp_types.specs.Unblock.{is_timer_of}
use Rattle.std.proofs.Common.{ap, refl, sym, ◌∙◌}
use Rattle.pod_sched.proofs.TimerLaws.ClockLemmas.{dropped_leaf, leaf_in, timed}
use Rattle.pod_sched.proofs.TimerLaws.LeavesLemmas.{living-unfound}
use Rattle.pod_sched.proofs.timers.clock.Timers.drop_of.Goals as goal

pub take-requires : goal.take-requires
take-requires c = leaf_in c.self.inside.shelf.leaves c.in-Some.leaf (is_timer_of c.args.tid) (sym c.leaf_of.ensures ∙ c.in-Some.is)

pub returns-in-Some : goal.returns-in-Some
returns-in-Some c =
    let gone = dropped_leaf c.self.inside.shelf.leaves c.in-Some.leaf c.take.ensures.once c.args.tid (sym c.leaf_of.ensures ∙ c.in-Some.is) in
    rw (c.take.ensures.after, ← c.self.view_is) (ap (timed c.self.inside.now c.self.inside.places) gone)

pub returns-in_default : goal.returns-in_default
returns-in_default c =
    let same = living-unfound c.args.tid c.self.inside.shelf.leaves (sym c.leaf_of.ensures ∙ c.in_default.is) in
    rw (← c.self.view_is, same) refl
