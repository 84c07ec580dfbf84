use Rattle.lwp_types.specs.declared.rows.TimerRow.{TimerRow}
use Rattle.std.proofs.Common.{List, [], ap, ◌++◌, ◌∙◌, ◌∷◌}
use Rattle.pod_sched.proofs.TimerLaws.ClockLemmas.{timed}
use Rattle.pod_sched.proofs.TimerLaws.LeavesLemmas.{living-push}
use Rattle.pod_sched.proofs.timers.clock.Timers.set.Goals as goal
use Rattle.pod_sched.specs.Timers.Leaves.{timer_leaf}

pub returns : goal.returns
returns c =
    let pushed = living-push c.make_room.new.self.leaves (timer_leaf c.args.tid c.args.due) in
    let kept = ap (λ (timers : List TimerRow). timers ++ record { tid = c.args.tid; due = c.args.due } ∷ []) c.make_room.ensures.timers in
    rw (c.add.ensures, ← c.self.view_is) (ap (timed c.self.inside.now c.self.inside.places) (pushed ∙ kept))
