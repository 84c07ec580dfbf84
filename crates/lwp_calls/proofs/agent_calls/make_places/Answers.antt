use Rattle.lwp_calls.proofs.Places.{came_agents_grown}
use Rattle.lwp_calls.proofs.Results.{either_way, ok_then}
use Rattle.lwp_calls.proofs.agent_calls.make_places.Goals as goal
use Rattle.std.proofs.Common.{arith, max, ◌+◌}

pub returns-clause-as_before : goal.returns-clause-as_before
returns-clause-as_before c =
    let was = c.args.parts.now in
    let agents = c.len-agents.result + 1 in
    rw (c.in-Ok.ensures.ok, c.in_ok-reserve.ensures.ok)
    (either_way c.reserve-3.result c.reserve-3.ensures.ok c.reserve-3.ensures.err
    (λ last. rw last (came_agents_grown was c.requires.lawful.step (max was.ids.places c.next_count-living.result)
    (max was.agents.places agents) (max was.mail.places (c.thread_count-threads.result + agents)) (omega arith)))
    (λ last. rw last (came_agents_grown was c.requires.lawful.step (max was.ids.places c.next_count-living.result)
    (max was.agents.places agents) was.mail.places (omega arith))))

pub returns-clause-ok : goal.returns-clause-ok
returns-clause-ok c =
    ok_then c.reserve-3.result c.reserve-3.ensures.ok (λ last. rw (c.in-Ok.ensures.ok, c.in_ok-reserve.ensures.ok, last) (record {
      living = omega (arith, c.next_count-living.ensures);
      agents = omega (arith, c.len-agents.ensures);
      letters = omega (arith, c.thread_count-threads.ensures.value, c.len-agents.ensures);
    }))

pub returns-in_default-clause-as_before : goal.returns-in_default-clause-as_before
returns-in_default-clause-as_before c =
    let was = c.args.parts.now in
    rw (c.in_default.ensures.err)
    (came_agents_grown was c.requires.lawful.step was.ids.places was.agents.places was.mail.places (omega arith))

pub returns-in_err-reserve-clause-as_before : goal.returns-in_err-reserve-clause-as_before
returns-in_err-reserve-clause-as_before c =
    let was = c.args.parts.now in
    rw (c.in-Ok.ensures.ok, c.in_err-reserve.ensures.err)
    (came_agents_grown was c.requires.lawful.step (max was.ids.places c.next_count-living.result) was.agents.places was.mail.places (omega arith))
