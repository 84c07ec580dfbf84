use Rattle.death_cleanup.specs.View.{rows_of, state_of}
use Rattle.lwp_calls.proofs.Lists.{listed-agent, listed-thread}
use Rattle.lwp_calls.proofs.asks.threads.Goals as goal
use Rattle.lwp_calls.proofs.asks.threads.Goals.{in-Agent, in-Thread+in_ok-push-in-Thread}
use Rattle.lwp_types.specs.State.{numbers}
use Rattle.std.proofs.Common.{[], ap, drop, ◌+◌, ◌++◌, ◌∙◌, ◌∷◌}

pub loop-i-preserved : goal.loop-i-preserved
loop-i-preserved c =
    let p = c.args.parts.now.last_prio in
    let known = c.args.parts.now.sched.threads in
    let living = c.args.parts.now.ids.live in
    elim c.match-kind.branch [
      | in-Thread+in_ok-push-in-Thread w ↦
          ap (λ ids. ids ++ numbers (rows_of p known (drop (c.loop-i.i + 1) living))) (w.list-is ∙ w.in_ok-push-in-Thread.ensures.ok)
          ∙ ap (λ n. (c.loop-i.list ++ n ∷ []) ++ numbers (rows_of p known (drop (c.loop-i.i + 1) living))) c.tid.view_is
          ∙ listed-thread p known living c.loop-i.i c.nth_of-tid.result.0 c.nth_of-tid.result.1.now c.nth_of-tid.ensures _ w.in-Thread.is
          c.loop-i.list (numbers (state_of c.args.parts.now).threads) c.loop-i.invariant
      | in-Agent w ↦
          ap (λ ids. ids ++ numbers (rows_of p known (drop (c.loop-i.i + 1) living))) w.list-is
          ∙ listed-agent p known living c.loop-i.i c.nth_of-tid.result.0 c.nth_of-tid.result.1.now c.nth_of-tid.ensures w.in-Agent.is
          c.loop-i.list (numbers (state_of c.args.parts.now).threads) c.loop-i.invariant
    ]
