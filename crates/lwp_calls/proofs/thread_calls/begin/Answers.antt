use Rattle.death_cleanup.specs.declared.rows.Kind.TheVariants as kind
use Rattle.lwp_calls.proofs.Results.{on_ok}
use Rattle.lwp_calls.proofs.ThreadAndAgentBirths.{came_begun, unknown}
use Rattle.lwp_calls.proofs.thread_calls.begin.Goals as goal
use Rattle.lwp_types.specs.declared.rows.Block.TheVariants as block
use Rattle.stale_ids.specs.Register.{after_insert}
use Rattle.std.proofs.Common.{arith, ◌≡◌}

pub admit-requires-clause-new : goal.admit-requires-clause-new
admit-requires-clause-new c = rw c.births-number.ensures.value (unknown c.args.parts.now c.requires.lawful c.requires.alone)

pub returns-clause-came : goal.returns-clause-came
returns-clause-came c =
    let born : c.insert.new.self ≡ after_insert c.args.parts.now.ids (kind.Thread (record { flags = c.args.flags; block = block.Not; stack = c.args.stack })) =
    on_ok c.insert.result (c.insert.new.self
    ≡ after_insert c.args.parts.now.ids (kind.Thread (record { flags = c.args.flags; block = block.Not; stack = c.args.stack })))
    c.insert.ensures.ok (λ e. omega (arith, c.insert.ensures.at_limit.0 e, c.requires.births)) in
    rw (born, c.admit.ensures, c.requires.frame, c.births-number.ensures.value)
    (came_begun c.args.parts.now c.requires.lawful c.requires.alone c.args.prio c.args.flags c.births-number.ensures.born c.requires.places)
