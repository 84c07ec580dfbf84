use Rattle.death_cleanup.proofs.Outcomes.{came_as}
use Rattle.death_cleanup.specs.View.{state_of}
use Rattle.lwp_calls.proofs.Entering.{asks_nowhere, asks_room, enter-absent, enter-other, enter-own}
use Rattle.lwp_calls.proofs.Made.{ComesTo-answers, ComesTo-is}
use Rattle.lwp_calls.proofs.monitor_calls.enter.Goals as goal
use Rattle.lwp_types.specs.Case.{silent_case}
use Rattle.lwp_types.specs.Monitors.{enter}
use Rattle.lwp_types.specs.State.{State, still}
use Rattle.lwp_types.specs.Unblock.{after_block}
use Rattle.lwp_types.specs.declared.rows.Block.TheVariants as block
use Rattle.monitors.proofs.Machine.{waits_agree}
use Rattle.std.proofs.Common.{ap, refl, sym, ◌∙◌, ◌≡◌}

pub returns-then-not-is_live : goal.returns-then-not-is_live
returns-then-not-is_live c =
    ComesTo-is (enter-absent (state_of c.args.parts.now) c.args.caller c.args.mon (sym c.if-not-is_live.ensures)) c.requires.lawful.step refl

pub returns-then-not-is_others : goal.returns-then-not-is_others
returns-then-not-is_others c =
    rw (enter-own (state_of c.args.parts.now) c.args.caller c.args.mon (sym c.if-not-is_live.ensures) (sym c.if-not-is_others.ensures))
    (ComesTo-answers c.go_in.ensures)

pub request-requires-clause-waits_nowhere : goal.request-requires-clause-waits_nowhere
request-requires-clause-waits_nowhere c = asks_nowhere c.args.parts.now c.requires.lawful c.args.caller c.requires.may_run

pub request-requires-clause-room : goal.request-requires-clause-room
request-requires-clause-room c = asks_room c.args.parts.now c.requires.lawful c.args.caller c.requires.may_run

pub returns : goal.returns
returns c =
    let is : enter (state_of c.args.parts.now) c.args.caller c.args.mon
    ≡ silent_case (still (after_block (state_of (record c.args.parts.now { mons = c.request.new.self })) c.args.caller (block.Entering c.args.mon))) =
    rw c.request.ensures (enter-other (state_of c.args.parts.now) c.args.caller c.args.mon (sym c.if-not-is_live.ensures) (sym c.if-not-is_others.ensures)
    ∙ ap (λ (s : State). silent_case (still s))
    (waits_agree c.args.parts.now.mons (state_of c.args.parts.now) c.args.caller c.args.mon c.prio_of-prio.result)) in
    rw is (record { came = came_as _ _ _ _ _ _ _ c.block.ensures refl refl; own = refl })
