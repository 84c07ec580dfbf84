use Rattle.std.proofs.Common.{ap, arith, option_map, sym, ◌∙◌}
use Rattle.pod_runner.specs.Run.{session_of}
use Rattle.replay.proofs.GivenLaws.{in-events-none, in-events-some}
use Rattle.replay.proofs.replaying.lowest_take.Goals as goal

pub returns-in-Some : goal.returns-in-Some
returns-in-Some g c = sym (in-events-some (g.C.Posted.lines c.args.lines.now)
    (session_of g.B.Body.next g.P.Program.bodies c.args.run.now).live.pod c.loop-event.event c.in-Some.line.items
    (omega (arith, c.loop-event-test.true)) c.loop-event.invariant (sym c.in_ok-line.ensures ∙ ap (option_map (λ v. v.items)) c.in-Some.is))

pub returns : goal.returns
returns g c = sym (in-events-none (g.C.Posted.lines c.args.lines.now) (session_of g.B.Body.next g.P.Program.bodies c.args.run.now).live.pod c.loop-event.event
    (omega (arith, c.loop-event-test.false)) c.loop-event.invariant)
