use Rattle.death_cleanup.specs.View.{state_of}
use Rattle.lwp_calls.proofs.Pods.{deliver-agent, deliver-clock}
use Rattle.lwp_calls.proofs.pod.deliver.Goals as goal
use Rattle.std.proofs.lemmas.Bool.{eq-eqb, ne_eqb}

pub returns-then-event-eq-CLOCK : goal.returns-then-event-eq-CLOCK
returns-then-event-eq-CLOCK c =
    rw (deliver-clock (state_of c.args.parts.now) c.args.event c.args.text (eq-eqb c.args.event 0 c.if-event-eq-CLOCK.true)) c.tick.ensures

pub returns-else-event-eq-CLOCK : goal.returns-else-event-eq-CLOCK
returns-else-event-eq-CLOCK c =
    rw (deliver-agent (state_of c.args.parts.now) c.args.event c.args.text (ne_eqb c.args.event 0 c.if-event-eq-CLOCK.false)) c.deliver_to_agents.ensures
