use Rattle.death_cleanup.proofs.Outcomes.{came_quietly}
use Rattle.death_cleanup.proofs.monitor_releases.go_on.Goals as goal
use Rattle.std.proofs.Common.{refl}

pub returns-in_default : goal.returns-in_default
returns-in_default c = record { came = rw c.in_default.is (came_quietly c.args.parts.now c.args.parts.now c.args.effects.now _ c.requires.step refl refl) }

pub returns : goal.returns
returns c = record { came = rw c.in-Some.is c.wake_done.ensures.came }
