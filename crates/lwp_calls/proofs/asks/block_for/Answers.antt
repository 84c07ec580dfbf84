use Rattle.death_cleanup.specs.View.{state_of}
use Rattle.lwp_calls.proofs.Places.{nine}
use Rattle.lwp_calls.proofs.Sleeping.{blocked_now, untimed}
use Rattle.lwp_calls.proofs.Waiting.{running}
use Rattle.lwp_calls.proofs.asks.block_for.Goals as goal
use Rattle.lwp_types.specs.State.{State, is_blocked_in, is_not_blocked}
use Rattle.lwp_types.specs.Unblock.{is_timer_of}
use Rattle.std.proofs.Common.{ap, not, ◌∙◌}
use Rattle.std.proofs.lemmas.Bool.{and_parts}
use Rattle.std.specs.List.{list_any}

pub set_timer-requires-clause-waits : goal.set_timer-requires-clause-waits
set_timer-requires-clause-waits c =
    let who = running (state_of c.args.parts.now) c.args.tid c.requires.may_run in
    c.block.ensures.step.tied.waits c.args.tid ∙ ap (λ (s : State). is_blocked_in s c.args.tid) c.block.ensures.state
    ∙ blocked_now (state_of c.args.parts.now) c.args.tid who.row who.known c.args.why c.requires.waits

pub set_timer-requires-clause-new : goal.set_timer-requires-clause-new
set_timer-requires-clause-new c =
    let who = running (state_of c.args.parts.now) c.args.tid c.requires.may_run in
    ap (λ (s : State). list_any (is_timer_of c.args.tid) s.timers) c.block.ensures.state
    ∙ untimed (state_of c.args.parts.now) c.args.tid who.row who.known (nine c.args.parts.now c.requires.lawful c.requires.alone)
    (and_parts (not who.row.suspended) (is_not_blocked who.row.block) who.runs).1
