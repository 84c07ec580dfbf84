use Rattle.std.proofs.Common.{◌≡◌, ◌∙◌, arith, refl}
use Rattle.lwp_types.specs.Names.{null_names}
use Rattle.pod_runner.specs.Session.{Setting}
use Rattle.pod_runner.proofs.TimedRuns.{keeps-opening}
use Rattle.pod_runner.proofs.virtual_time.TimedRun.new.Goals as goal

pub invariant_of-result : goal.invariant_of-result
invariant_of-result g c =
    let same : c.args.env
    ≡ null_names c.thread_count-threads.result c.mon_count-mons.result c.cond_count-conds.result = c.requires.names
    ∙ rw (← c.thread_count-threads.ensures, ← c.mon_count-mons.ensures, ← c.cond_count-conds.ensures) refl in
    let setting : Setting _ = record {
      next = g.B.Body.next;
      bodies = g.P.Program.bodies c.args.program;
      params = c.args.params;
      names = null_names c.thread_count-threads.result c.mon_count-mons.result c.cond_count-conds.result;
    } in
    keeps-opening setting _ c.args.turns (omega (arith, c.ranges.turns.fits)) (c.in_ok-parts.ensures.live ∙ rw same refl)
