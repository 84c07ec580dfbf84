-- What a walk keeps from step to step.
use Rattle.lwp_types.specs.Poll.{Next}
use Rattle.lwp_types.specs.declared.call.Line.{Line}
use Rattle.pod_runner.specs.Run.{GoesOn, Played}
use Rattle.replay.specs.Asked.{Asked}
use Rattle.replay.specs.Following.{Following}
use Rattle.replay.specs.Replayed.{Says, asked_of, moment_of}
use Rattle.replay.specs.Says.{Stepped}
use Rattle.replay.specs.Walk.{ClientsLeft, Going, IsFit, Speaks}
use Rattle.replay.specs.declared.verdict.Verdict.{Verdict}
use Rattle.pod_runner.specs.declared.session.Took.{Took}
use Rattle.std.proofs.Common.{List, [], ap, arith, false, length, subst, sym, ℕ, ◌<◌, ◌∙◌, ◌≡◌, ◌≤◌}

module _ {B P : Type 0} (next : Next B) (bodies : P → List B) (names : P → List (List ℕ)) where
  pub asked-same : (run new : Played P) (cs ds : List ℕ) (ps qs : List Line) → GoesOn run new → ds ≡ cs → qs ≡ ps
      → asked_of next bodies names new ds qs ≡ asked_of next bodies names run cs ps
  asked-same run new cs ds ps qs on same_clients same_posts = λ i. record {
    setting = record { next = next; bodies = bodies (on.program i); params = on.params i; names = on.names i };
    procs = names (on.program i);
    clients = same_clients i;
    posts = same_posts i;
    turns = on.turns i;
  }

  -- so far
  pub record Walks (run0 run : Played P) (lines0 lines : ClientsLeft) (posts0 posts : List Line) (f0 f : Following) : Type 0 where
    pub on : GoesOn run0 run
    pub sound : run.failed ≡ false
    pub clean : f.step ≡ []
    pub recorded : f.recorded ≡ f0.recorded
    pub same_clients : lines.clients ≡ lines0.clients
    pub same_posts : posts ≡ posts0
    pub going : Going (asked_of next bodies names run0 lines0.clients posts0) f0.recorded (moment_of run) lines f.at f.lines f.ticks

  module _ (run0 run : Played P) (lines0 lines : ClientsLeft) (posts0 posts : List Line) (f0 f : Following)
      (h : Walks run0 run lines0 lines posts0 posts f0 f) where
    abbrev now : Asked B
    now = asked_of next bodies names run lines.clients posts

    abbrev first : Asked B
    first = asked_of next bodies names run0 lines0.clients posts0

    pub is-first : now ≡ first
    is-first = asked-same run0 run lines0.clients lines.clients posts0 posts h.on h.same_clients h.same_posts

    pub going-now : Going now f.recorded (moment_of run) lines f.at f.lines f.ticks
    going-now = subst (λ a. Going a f.recorded (moment_of run) lines f.at f.lines f.ticks) (sym is-first)
        (subst (λ b. Going first b (moment_of run) lines f.at f.lines f.ticks) (sym h.recorded) h.going)

    pub fit-now : IsFit first → IsFit now
    fit-now fit = subst (λ a. IsFit a) (sym is-first) fit

    pub speaks-now : Speaks first → Speaks now
    speaks-now speaks = subst (λ a. Speaks a) (sym is-first) speaks

    pub says-now : (v : Verdict) (takes : List Took) (calls : ℕ) → Says now f.recorded v takes calls → Says first f0.recorded v takes calls
    says-now v takes calls says = subst (λ a. Says a f0.recorded v takes calls) is-first (subst (λ b. Says now b v takes calls) h.recorded says)

    pub walks-on : (next_run : Played P) (next_lines : ClientsLeft) (next_posts : List Line) (g : Following) → GoesOn run next_run
        → next_run.failed ≡ false → next_lines.clients ≡ lines.clients → next_posts ≡ posts
        → Stepped now f next_run next_lines g → Walks run0 next_run lines0 next_lines posts0 next_posts f0 g
    walks-on next_run next_lines next_posts g on sound clients same step = record {
      on = record { program = on.program ∙ h.on.program; params = on.params ∙ h.on.params; names = on.names ∙ h.on.names; turns = on.turns ∙ h.on.turns };
      sound = sound;
      clean = step.clean;
      recorded = step.recorded ∙ h.recorded;
      same_clients = clients ∙ h.same_clients;
      same_posts = same ∙ h.same_posts;
      going = subst (λ a. Going a f0.recorded (moment_of next_run) next_lines g.at g.lines g.ticks) is-first
          (subst (λ b. Going now b (moment_of next_run) next_lines g.at g.lines g.ticks) h.recorded step.going);
    }

    pub walks-less : (next_run : Played P) (next_lines : ClientsLeft) (g : Following) → Stepped now f next_run next_lines g
        → (f.at < g.at) × (g.at ≤ length f0.recorded)
    walks-less next_run next_lines g step = (step.further, omega (arith, step.within, ap length step.recorded, ap length h.recorded))
