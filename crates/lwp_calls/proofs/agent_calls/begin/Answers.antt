use Rattle.death_cleanup.specs.declared.rows.Kind.TheVariants as kind
use Rattle.lwp_calls.proofs.Agency.{came_agent}
use Rattle.lwp_calls.proofs.Results.{on_ok}
use Rattle.lwp_calls.proofs.agent_calls.begin.Goals as goal
use Rattle.stale_ids.specs.Register.{after_insert}
use Rattle.std.proofs.Common.{arith, ◌≡◌}

pub returns-clause-came : goal.returns-clause-came
returns-clause-came c =
    let born : c.insert.new.self ≡ after_insert c.args.parts.now.ids kind.Agent =
    on_ok c.insert.result (c.insert.new.self ≡ after_insert c.args.parts.now.ids kind.Agent) c.insert.ensures.ok
    (λ e. omega (arith, c.insert.ensures.at_limit.0 e, c.requires.births)) in
    rw (born, c.create.ensures, c.births-number.ensures.value) (came_agent c.args.parts.now c.args.event c.args.caller c.requires.lawful.step c.requires.places)
