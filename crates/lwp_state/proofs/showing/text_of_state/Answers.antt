use Rattle.std.proofs.Common.{ap, length, subst, ◌∙◌}
use Rattle.pod_runner.specs.Run.{session_of}
use Rattle.pod_runner.specs.Snapshots.{IsSnapshot}
use Rattle.script_body.specs.Bodies.{bodies_of, body_next}
use Rattle.script_text.specs.Script.{proc_names}
use Rattle.state_text.specs.Text.{state_text}
use Rattle.lwp_state.proofs.PlanLaws.{shows-of}
use Rattle.lwp_state.proofs.showing.text_of_state.Goals as goal

pub returns : goal.returns
returns c = record {
  snap = c.in_ok-snap.snap;
  shows = shows-of c.args.script.now c.args.run.now (length c.args.script.now.clients) c.in_ok-snap.snap c.requires.plays
      (subst
      (λ n. IsSnapshot n c.args.run.now.takes c.args.run.now.calls (session_of body_next bodies_of c.args.run.now).live c.in_ok-snap.snap)
      c.len.ensures c.in_ok-snap.ensures);
  said = c.in_ok-text.ensures ∙ ap (λ names. state_text c.args.whole names c.deref.result.now c.in_ok-snap.snap) c.in_ok-names.ensures
      ∙ ap (λ clients. state_text c.args.whole (proc_names c.args.script.now) clients c.in_ok-snap.snap) (c.deref.ensures.value ∙ c.in_ok-clients.ensures);
}
