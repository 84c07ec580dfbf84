use Rattle.std.proofs.Common.{arith, false, ◌≡◌}
use Rattle.lwp_types.specs.Names.{null_names}
use Rattle.pod_runner.specs.RunParts.{live_of}
use Rattle.pod_runner.specs.Session.{Setting}
use Rattle.pod_runner.specs.Virtual.{live_after}
use Rattle.pod_runner.proofs.TimedRuns.{keeps-turn}
use Rattle.pod_runner.proofs.Turns.{room-turn}
use Rattle.pod_runner.proofs.virtual_time.TimedRun.turn.Goals as goal

pub overflow_add-self : goal.overflow_add-self
overflow_add-self g c =
    let setting : Setting _ = record {
      next = g.B.Body.next;
      bodies = g.P.Program.bodies c.self.inside.program;
      params = c.self.inside.params;
      names = null_names c.self.inside.threads c.self.inside.mons c.self.inside.conds;
    } in
    let due = rw (← c.self.view_is) at c.requires.due in
    omega (arith, c.self.invariant.few, room-turn (live_after setting c.self.inside.calls).pod.state c.self.inside.turns c.self.inside.calls due)

pub invariant_of-self-2 : goal.invariant_of-self-2
invariant_of-self-2 g c =
    let setting : Setting _ = record {
      next = g.B.Body.next;
      bodies = g.P.Program.bodies c.self.inside.program;
      params = c.self.inside.params;
      names = null_names c.self.inside.threads c.self.inside.mons c.self.inside.conds;
    } in
    let sound : c.self.inside.failed ≡ false = rw (← c.self.view_is) at c.requires.sound in
    let due = rw (← c.self.view_is) at c.requires.due in
    keeps-turn setting (live_of c.self.inside.parts) (live_of c.turn_untold.new.self) (live_of c.catch_up.new.self) c.self.inside.calls
    c.self.inside.turns c.self.inside.failed c.self.invariant sound due c.in_ok-turn_untold.ensures c.in_ok-catch_up.ensures.live
    c.in_ok-catch_up.ensures.still
