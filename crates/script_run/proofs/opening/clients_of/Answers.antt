use Rattle.event_gate.specs.Shelves.{event_of}
use Rattle.script_run.proofs.Seats.{no_more, one_more}
use Rattle.script_run.proofs.opening.clients_of.Goals as goal
use Rattle.script_run.proofs.opening.clients_of.Goals.{else-events-client, then-events-client+in_ok-push}
use Rattle.std.proofs.Common.{ap, eq-eqb, eqb, ne_eqb, ◌∙◌}

pub loop-client-preserved : goal.loop-client-preserved
loop-client-preserved c = elim c.if-events-client.branch [
  | then-events-client+in_ok-push w
      ↦ ap (λ v. v.items) w.clients-is ∙ w.in_ok-push.ensures.items
      ∙ one_more (λ b. eqb (event_of c.args.events.now b) c.args.event) c.loop-client.client c.loop-client.clients.items
      c.loop-client.invariant (eq-eqb (event_of c.args.events.now c.loop-client.client) c.args.event w.if-events-client.true)
  | else-events-client w
      ↦ ap (λ v. v.items) w.clients-is
      ∙ no_more (λ b. eqb (event_of c.args.events.now b) c.args.event) c.loop-client.client c.loop-client.clients.items
      c.loop-client.invariant (ne_eqb (event_of c.args.events.now c.loop-client.client) c.args.event w.if-events-client.false)
]
