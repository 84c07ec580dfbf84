use Rattle.std.proofs.Common.{ap, refl, subst, sym, true, ◌<◌, ◌∙◌, ◌≡◌}
use Rattle.pod_events.specs.Events.{is_takeable}
use Rattle.pod_runner.specs.RunParts.{live_of}
use Rattle.pod_runner.specs.Session.{Live}
use Rattle.pod_runner.specs.Virtual.{caught_up, jumped, ticked, ticks_left}
use Rattle.pod_runner.proofs.Timing.{idle-due, jumped-idle, on-round, round-later, takeable-idle, ticks_over}
use Rattle.pod_runner.proofs.parts.RunParts.catch_up.Goals as goal

pub tick-requires : goal.tick-requires
tick-requires g c =
    let live = live_of c.loop-self.self in
    let idle = idle-due live (sym c.is_tick_due.ensures ∙ c.loop-self-test.true) in
    λ k. (
      (refl, tt),
      subst (λ (l : Live _). is_takeable l.pod 0 ≡ true) (sym c.jump.ensures.live)
          (takeable-idle (jumped live) (jumped-idle (g.P.Program.bodies c.args.program.now) 0 live idle c.jump.ensures.early)),
    )

pub loop-self-preserved : goal.loop-self-preserved
loop-self-preserved g c calls =
    let bodies = g.P.Program.bodies c.args.program.now in
    let live = live_of c.loop-self.self in
    let idle = idle-due live (sym c.is_tick_due.ensures ∙ c.loop-self-test.true) in
    c.loop-self.invariant calls ∙ on-round bodies calls live idle c.jump.ensures.early
    ∙ ap (λ l. caught_up bodies calls (ticked bodies calls l)) (sym c.jump.ensures.live) ∙ ap (caught_up bodies calls) (sym (c.in_ok-tick.ensures calls))

pub loop-self-smaller : goal.loop-self-smaller
loop-self-smaller g c =
    let bodies = g.P.Program.bodies c.args.program.now in
    let live = live_of c.loop-self.self in
    let idle = idle-due live (sym c.is_tick_due.ensures ∙ c.loop-self-test.true) in
    let same : ticks_left (live_of c.tick.new.self)
    ≡ ticks_left (ticked bodies 0 (jumped live)) =
    ap (λ (l : Live _). ticks_left l) (c.in_ok-tick.ensures 0 ∙ ap (λ (l : Live _). ticked bodies 0 l) c.jump.ensures.live) in
    subst (λ n. n < ticks_left live) (sym same) (round-later bodies 0 live idle c.jump.ensures.early)

pub returns-clause-live : goal.returns-clause-live
returns-clause-live g c calls =
    sym (c.loop-self.invariant calls
    ∙ ticks_over (g.P.Program.bodies c.args.program.now) calls (ticks_left (live_of c.loop-self.self)) (live_of c.loop-self.self)
    (sym c.is_tick_due.ensures ∙ c.loop-self-test.false))
