use Rattle.lwp_serve.specs.Plan.Planned.{calls_of, takes_of}
use Rattle.lwp_state.specs.Shown.{IsToldBy}
use Rattle.pod_runner.specs.declared.session.Took.{Took}
use Rattle.script_session.specs.declared.session.SessionEnd.{SessionEnd}
use Rattle.std.proofs.Common.{List, inl, inr, refl, subst, ℕ}
use Rattle.streams.specs.Streams.{sides}
use Rattle.lwp_state.proofs.planning.show_plan.Goals as goal

pub returns-in-Ok : goal.returns-in-Ok
returns-in-Ok g c =
    let sink = sides g.K.Sink.written g.K.Sink.faults c.args.sink.now c.write_told.new.sink in
    let text = c.in-Ok.told.text.items in
    let takes = takes_of c.args.script.now c.args.calls in
    let made = calls_of c.args.script.now c.args.calls in
    inr (
      text,
      c.in-Ok.ensures.state,
      subst (λ (e : SessionEnd). IsToldBy e takes made text sink c.write_told.result) c.in-Ok.ensures.end
          (subst (λ (ts : List Took). IsToldBy c.in-Ok.told.end ts made text sink c.write_told.result) c.in-Ok.ensures.takes
          (subst (λ (n : ℕ). IsToldBy c.in-Ok.told.end c.in-Ok.told.taken n text sink c.write_told.result) c.in-Ok.ensures.calls c.write_told.ensures)),
    )

pub returns-in-Err : goal.returns-in-Err
returns-in-Err g c = inl (c.unread.ensures, (refl, refl))
