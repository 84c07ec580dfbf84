use Rattle.death_cleanup.proofs.Draining.{starts}
use Rattle.death_cleanup.proofs.Releases.{Keeps, list, lock_fewer, lock_held, lock_lawful, lock_on, lock_room, locks_over}
use Rattle.death_cleanup.proofs.waiters.release_all.Goals as goal
use Rattle.lwp_types.specs.MonitorRelease.{release}
use Rattle.std.proofs.Common.{sym, ◌∙◌}

pub loop-mon-init : goal.loop-mon-init
loop-mon-init c = starts (Keeps c.args.tid) (list c.args.tid) release 1 c.args.parts.now c.args.effects.now
    (rw c.requires.dying at c.requires.lawful.nine) c.requires.lawful.step c.requires.room

pub release-requires-clause-lawful : goal.release-requires-clause-lawful
release-requires-clause-lawful c =
    lock_lawful c.args.tid c.args.parts.now c.args.effects.now c.loop-mon.parts c.loop-mon.effects c.requires.dying c.loop-mon.invariant

pub release-requires-clause-held : goal.release-requires-clause-held
release-requires-clause-held c = lock_held c.args.tid c.args.parts.now c.args.effects.now c.loop-mon.parts c.loop-mon.effects
    c.requires.dying c.loop-mon.invariant c.in-Some.mon (sym c.last_held.ensures.value ∙ c.in-Some.is)

pub release-requires-clause-room : goal.release-requires-clause-room
release-requires-clause-room c = lock_room c.args.tid c.args.parts.now c.args.effects.now c.loop-mon.parts c.loop-mon.effects
    c.requires.dying c.loop-mon.invariant c.in-Some.mon (sym c.last_held.ensures.value ∙ c.in-Some.is)

pub loop-mon-smaller : goal.loop-mon-smaller
loop-mon-smaller c = lock_fewer c.args.tid c.args.parts.now c.args.effects.now c.loop-mon.parts c.loop-mon.effects c.requires.dying
    c.loop-mon.invariant c.in-Some.mon (sym c.last_held.ensures.value ∙ c.in-Some.is) c.release.new.parts c.release.new.effects c.release.ensures.came

pub loop-mon-preserved : goal.loop-mon-preserved
loop-mon-preserved c = lock_on c.args.tid c.args.parts.now c.args.effects.now c.loop-mon.parts c.loop-mon.effects c.requires.dying
    c.loop-mon.invariant c.in-Some.mon (sym c.last_held.ensures.value ∙ c.in-Some.is) c.release.new.parts c.release.new.effects c.release.ensures.came

pub returns : goal.returns
returns c = record {
  came = locks_over c.args.tid c.args.parts.now c.args.effects.now c.loop-mon.parts c.loop-mon.effects c.requires.dying c.loop-mon.invariant
      (sym c.last_held.ensures.value ∙ c.in_default.is);
}
