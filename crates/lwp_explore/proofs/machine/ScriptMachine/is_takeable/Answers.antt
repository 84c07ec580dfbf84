use Rattle.lwp_explore.proofs.StandingLaws.{session_same}
use Rattle.lwp_explore.proofs.machine.ScriptMachine.is_takeable.Goals as goal
use Rattle.lwp_explore.specs.Standing.{core_now}
use Rattle.pod_events.specs.Events.{is_takeable}
use Rattle.pod_runner.specs.Run as run
use Rattle.pod_runner.specs.Run.{Played}
use Rattle.script_body.specs.Bodies.{bodies_of, body_next}
use Rattle.script_text.specs.declared.script.Script.{Script}
use Rattle.std.proofs.Common.{ap, sym, ◌∙◌, ◌≡◌}
use Rattle.std.specs.Prelude.{slice_index, ◌&&◌}

pub returns-then-has_left : goal.returns-then-has_left
returns-then-has_left c =
    let s = c.args.self.now in
    let may = is_takeable (core_now s).pod (slice_index s.script.clients c.args.client) in
    let armed : c.wants.result ≡ may =
    c.wants.ensures.armed
    ∙ ap (λ (r : Played Script). is_takeable (run.session_of body_next bodies_of r).live.pod c.event.result) c.deref.ensures
    ∙ rw (← c.self.view_is) (λ i. is_takeable (session_same c.self.invariant.0 i).live.pod (c.event.ensures i)) in
    armed ∙ ap (λ b. b && may) (sym c.if-has_left.true ∙ c.has_left.ensures)
