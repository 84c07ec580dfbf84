use Rattle.death_cleanup.proofs.CopiedRows.{copied-thread, passed-agent}
use Rattle.death_cleanup.proofs.copies.threads.Goals as goal
use Rattle.death_cleanup.proofs.copies.threads.Goals.{in-Agent, in-Thread+in_ok-thread_copy-in-Thread+in_ok-push-in-Thread}
use Rattle.death_cleanup.specs.View.{rows_of, state_of}
use Rattle.snapshots.specs.Copies.{row_in}
use Rattle.std.proofs.Common.{ap, drop, map, ◌+◌, ◌++◌, ◌∙◌}

pub loop-i-preserved : goal.loop-i-preserved
loop-i-preserved c =
    let p = c.args.parts.now.last_prio in
    let known = c.args.parts.now.sched.threads in
    let living = c.args.parts.now.ids.live in
    let later = rows_of p known (drop (c.loop-i.i + 1) living) in
    elim c.match-kind.branch [
      | in-Thread+in_ok-thread_copy-in-Thread+in_ok-push-in-Thread w ↦
          ap (λ copies. map row_in copies ++ later) (w.copies-is ∙ w.in_ok-push-in-Thread.ensures.ok)
          ∙ copied-thread p known living c.loop-i.i c.nth_of-tid.result.0 c.nth_of-tid.result.1.now c.nth_of-tid.ensures _ w.in-Thread.is _
          w.in_ok-thread_copy-in-Thread.ensures c.loop-i.copies (state_of c.args.parts.now).threads c.loop-i.invariant
      | in-Agent w ↦
          ap (λ copies. map row_in copies ++ later) w.copies-is
          ∙ passed-agent p known living c.loop-i.i c.nth_of-tid.result.0 c.nth_of-tid.result.1.now c.nth_of-tid.ensures w.in-Agent.is
          c.loop-i.copies (state_of c.args.parts.now).threads c.loop-i.invariant
    ]
