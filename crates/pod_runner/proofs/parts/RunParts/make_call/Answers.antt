use Rattle.lwp_types.specs.Choice.{choice}
use Rattle.lwp_types.specs.declared.call.Call.{Call}
use Rattle.lwp_types.specs.declared.call.Effect.{Effect}
use Rattle.pod_events.specs.Events.{EventState}
use Rattle.pod_events.specs.Step.{event_step, leads, leads_if}
use Rattle.pod_events.specs.Traps.{lead}
use Rattle.pod_runner.specs.Calls.{caller_of, with_call_by}
use Rattle.pod_runner.specs.RunParts.{live_of}
use Rattle.pod_runner.specs.Polls.{Rows}
use Rattle.pod_runner.specs.Session.{after_settle, proc_of}
use Rattle.pod_runner.specs.declared.session.Row.{Row}
use Rattle.pod_runner.proofs.Moves.{chosen_from, first_told, moves_at, settled-lead}
use Rattle.pod_runner.proofs.Results.{on_ok}
use Rattle.pod_runner.proofs.parts.RunParts.make_call.Goals as goal
use Rattle.std.proofs.Common.{List, None, Option, Some, ap, refl, subst, sym, ◌++◌, ◌∙◌, ◌≡◌, ℕ}

-- the call itself stands before the effects, unless a trap is raised before it
led : (pending : Option ℕ) (t : ℕ) (call : Call) (effects : List Effect) → with_call_by (caller_of pending t) call effects ≡ lead pending t call ++ effects
led None t call effects = refl
led (Some e) t call effects = refl

pub returns : goal.returns
returns g c =
    let es = c.args.self.now.pod in
    let chosen = chosen_from es.state c.args.tid c.requires.current in
    let bodies = g.P.Program.bodies c.args.program.now in
    let seen = c.call_at-call.result.now in
    let call = c.poll_at.new.self.call in
    let is : seen ≡ call = c.call_at-call.ensures seen ∙ c.poll_at.ensures.call seen in
    let told = first_told es c.args.tid seen c.carry_out.new.effects chosen c.in_ok-caller.ensures.effects in
    let effects = lead es.pending c.args.tid seen ++ c.carry_out.new.effects in
    on_ok c.settle.result
    (λ settled.
    let rows = ap (λ (r : Rows _). r.rows) settled
    ∙ settled-lead bodies c.proc_of-born.result es.pending c.args.tid seen c.carry_out.new.effects c.poll_at.new.self.rows in
    let kept : c.settle.new.rows.call ≡ seen = ap (λ (r : Rows _). r.call) settled ∙ sym is in
    let m = moves_at g.B.Body.next bodies c.args.names.now (live_of c.args.self.now) c.args.tid c.args.i c.set_me.new.self call
    c.carry_out.new.pod effects c.poll_at.new.self.rows c.settle.new.rows.rows c.poll_at.new.env c.carry_out.new.out c.proc_of-born.result
    chosen c.requires.place c.requires.within c.set_me.ensures c.in_ok-poll_at.ensures.polls
    (c.in_ok-caller.ensures.after ∙ ap (λ k. (event_step es k).after) is) (told ∙ ap (λ k. (event_step es k).effects) is)
    (c.proc_of-born.ensures ∙ ap proc_of is) rows c.in_ok-caller.ensures.lines in
    record {
      live = m.live;
      effects = ap (λ who. with_call_by who c.settle.new.rows.call c.carry_out.new.effects) c.in_ok-caller.ensures.caller
          ∙ ap (λ k. with_call_by (caller_of es.pending c.args.tid) k c.carry_out.new.effects) kept
          ∙ led es.pending c.args.tid seen c.carry_out.new.effects ∙ m.effects;
      lines = m.lines;
    })
    c.settle.ensures
