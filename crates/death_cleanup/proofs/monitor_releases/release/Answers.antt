use Rattle.death_cleanup.proofs.Locking.{InStep-released, owner-waits, released-is}
use Rattle.death_cleanup.proofs.Outcomes.{came_as}
use Rattle.death_cleanup.proofs.monitor_releases.release.Goals as goal
use Rattle.death_cleanup.specs.View.{state_of}
use Rattle.lwp_types.specs.MonitorRelease.{release}
use Rattle.monitors.specs.Machine.{with_owner}
use Rattle.std.proofs.Common.{refl, ◌≡◌}

pub go_on-requires-clause-step : goal.go_on-requires-clause-step
go_on-requires-clause-step c = rw c.break_lock-next.ensures.after (InStep-released c.args.parts.now c.requires.lawful.step c.args.mon)

pub go_on-requires-clause-waits : goal.go_on-requires-clause-waits
go_on-requires-clause-waits c = owner-waits c.args.parts.now c.requires.lawful c.args.mon c.break_lock-next.result c.break_lock-next.ensures.value

pub returns : goal.returns
returns c =
    let is : release c.args.mon (state_of c.args.parts.now)
    ≡ with_owner c.break_lock-next.result (state_of (record c.args.parts.now { mons = c.break_lock-next.new.self })) =
    rw c.break_lock-next.ensures.after
    (released-is c.args.parts.now c.requires.lawful.step c.args.mon c.break_lock-next.result c.break_lock-next.ensures.value) in
    record { came = came_as _ _ _ _ _ _ _ c.go_on.ensures.came refl is }
