use Rattle.death_cleanup.proofs.Locking.{InStep-monitors}
use Rattle.death_cleanup.proofs.Outcomes.{answers_refused}
use Rattle.death_cleanup.specs.View.{state_of}
use Rattle.lwp_calls.proofs.Compare.{le-false, le-true}
use Rattle.lwp_calls.proofs.Entering.{deepest-is, in-deep, in-once}
use Rattle.lwp_calls.proofs.Made.{Answers-is}
use Rattle.lwp_calls.proofs.monitor_calls.go_in.Goals as goal
use Rattle.lwp_types.specs.Monitors.{depth_in}
use Rattle.lwp_types.specs.declared.call.LwpErr.TheVariants as error
use Rattle.monitors.specs.MonitorTable as mon
use Rattle.std.proofs.Common.{[], arith, of_z, pos, refl, rules, to_z, w64, ◌∙◌, ◌≡◌}

pub returns-then-depth-ge-MOST_DEPTH : goal.returns-then-depth-ge-MOST_DEPTH
returns-then-depth-ge-MOST_DEPTH c = answers_refused c.args.parts.now [] _ error.NoRoom c.requires.step
    (in-deep (state_of c.args.parts.now) c.args.tid c.args.mon (deepest-is (state_of c.args.parts.now) c.args.tid c.args.mon c.requires.open
    ∙ le-true 65535 (depth_in c.args.parts.now.mons.locks c.args.mon) (omega (arith, c.depth.ensures, c.if-depth-ge-MOST_DEPTH.true))))

pub returns : goal.returns
returns c =
    let same : to_z w64 (of_z w64 c.from.result) ≡ pos (depth_in c.args.parts.now.mons.locks c.args.mon) = search rules in
    rw (c.enter.ensures.after, same)
    (Answers-is (in-once (state_of c.args.parts.now) c.args.tid c.args.mon (deepest-is (state_of c.args.parts.now) c.args.tid c.args.mon c.requires.open
    ∙ le-false 65535 (depth_in c.args.parts.now.mons.locks c.args.mon) (omega (arith, c.depth.ensures, c.if-depth-ge-MOST_DEPTH.false))))
    (InStep-monitors c.args.parts.now c.requires.step (mon.after_enter c.args.parts.now.mons c.args.tid c.args.mon) c.requires.step.ranked.requests refl refl)
    refl)
