use Rattle.death_cleanup.specs.View.{rows_of, state_of}
use Rattle.lwp_calls.proofs.Lists.{listed-other, listed-waiter}
use Rattle.lwp_calls.proofs.asks.receivers.Goals as goal
use Rattle.lwp_calls.proofs.asks.receivers.Goals.{else-waits_for, then-waits_for+in_ok-push}
use Rattle.lwp_types.specs.Messages.{awaits, receivers_of}
use Rattle.lwp_types.specs.State.{numbers}
use Rattle.std.proofs.Common.{[], ap, drop, sym, ◌+◌, ◌++◌, ◌∙◌, ◌∷◌}
use Rattle.std.specs.List.{filter}

pub loop-i-preserved : goal.loop-i-preserved
loop-i-preserved c =
    let p = c.args.parts.now.last_prio in
    let known = c.args.parts.now.sched.threads in
    let living = c.args.parts.now.ids.live in
    elim c.if-waits_for.branch [
      | then-waits_for+in_ok-push w ↦
          ap (λ ids. ids ++ numbers (filter (λ row. awaits c.args.from row.block) (rows_of p known (drop (c.loop-i.i + 1) living))))
          (w.list-is ∙ w.in_ok-push.ensures.ok)
          ∙ ap
          (λ n. (c.loop-i.list ++ n ∷ []) ++ numbers (filter (λ row. awaits c.args.from row.block) (rows_of p known (drop (c.loop-i.i + 1) living))))
          c.tid.view_is
          ∙ listed-waiter p known living c.loop-i.i c.nth_of-tid.result.0 c.nth_of-tid.result.1.now c.nth_of-tid.ensures c.args.from
          (sym c.waits_for.ensures ∙ w.if-waits_for.true) c.loop-i.list (receivers_of (state_of c.args.parts.now) c.args.from) c.loop-i.invariant
      | else-waits_for w ↦
          ap (λ ids. ids ++ numbers (filter (λ row. awaits c.args.from row.block) (rows_of p known (drop (c.loop-i.i + 1) living)))) w.list-is
          ∙ listed-other p known living c.loop-i.i c.nth_of-tid.result.0 c.nth_of-tid.result.1.now c.nth_of-tid.ensures c.args.from
          (sym c.waits_for.ensures ∙ w.if-waits_for.false) c.loop-i.list (receivers_of (state_of c.args.parts.now) c.args.from) c.loop-i.invariant
    ]
