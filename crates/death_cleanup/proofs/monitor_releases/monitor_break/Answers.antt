use Rattle.death_cleanup.proofs.Locking.{break-absent, break-free, break-held, free-is}
use Rattle.death_cleanup.proofs.Outcomes.{answers_refused, answers_zero}
use Rattle.death_cleanup.proofs.monitor_releases.monitor_break.Goals as goal
use Rattle.death_cleanup.specs.View.{state_of}
use Rattle.lwp_types.specs.MonitorRelease.{release}
use Rattle.lwp_types.specs.declared.call.LwpErr.TheVariants as error
use Rattle.std.proofs.Common.{false, sym, true}

pub returns-then-not-is_live : goal.returns-then-not-is_live
returns-then-not-is_live c = record {
  answers = answers_refused c.args.parts.now c.args.effects.now _ error.NonExist c.requires.lawful.step
      (break-absent (state_of c.args.parts.now) c.args.mon (sym c.if-not-is_live.ensures));
}

pub returns-then-is_none : goal.returns-then-is_none
returns-then-is_none c = record {
  answers = answers_refused c.args.parts.now c.args.effects.now _ error.NotOwned c.requires.lawful.step
      (break-free (state_of c.args.parts.now) c.args.mon (sym c.if-not-is_live.ensures)
      (free-is c.args.parts.now.mons.locks c.args.mon c.owner.result false c.owner.ensures c.if-is_none.ensures));
}

pub release-requires-clause-held : goal.release-requires-clause-held
release-requires-clause-held c = free-is c.args.parts.now.mons.locks c.args.mon c.owner.result true c.owner.ensures c.if-is_none.ensures

pub returns : goal.returns
returns c = record {
  answers = answers_zero _ _ _ _ (release c.args.mon (state_of c.args.parts.now)) _ c.release.ensures.came
      (break-held (state_of c.args.parts.now) c.args.mon (sym c.if-not-is_live.ensures)
      (free-is c.args.parts.now.mons.locks c.args.mon c.owner.result true c.owner.ensures c.if-is_none.ensures));
}
