use Rattle.lwp_calls.proofs.Places.{came_grown}
use Rattle.lwp_calls.proofs.Results.{either_way, ok_then}
use Rattle.lwp_calls.proofs.thread_calls.make_places.Goals as goal
use Rattle.std.proofs.Common.{arith, max, ◌*◌, ◌+◌}

pub returns-clause-ok : goal.returns-clause-ok
returns-clause-ok c =
    ok_then c.reserve-6.result c.reserve-6.ensures.ok (λ last. rw
    (c.in-Ok.ensures.ok, c.in_ok-reserve.ensures.ok, c.in_ok-reserve-2.ensures.ok, c.in_ok-reserve-3.ensures.ok, c.in_ok-reserve-4.ensures.ok, last)
    (record {
      living = omega (arith, c.next_count-living.ensures);
      letters = omega (arith, c.thread_count-count.ensures.value, c.len-agents.ensures);
      threads = omega (arith, c.thread_count-count.ensures.value);
      known = omega (arith, c.thread_count-count.ensures.known);
      requests = omega (arith, c.thread_count-count.ensures.value);
      waits = omega (arith, c.thread_count-count.ensures.value);
      names = omega (arith, c.thread_count-count.ensures.value);
    }))

pub returns-clause-as_before : goal.returns-clause-as_before
returns-clause-as_before c =
    let was = c.args.parts.now in
    let count = c.thread_count-count.result + 1 in
    rw (c.in-Ok.ensures.ok, c.in_ok-reserve.ensures.ok, c.in_ok-reserve-2.ensures.ok, c.in_ok-reserve-3.ensures.ok, c.in_ok-reserve-4.ensures.ok)
    (either_way c.reserve-6.result c.reserve-6.ensures.ok c.reserve-6.ensures.err
    (λ last. rw last (came_grown was c.requires.lawful.step (max was.ids.places c.next_count-living.result) (max was.sched.places count)
    (max was.mail.places (count + c.len-agents.result)) (max was.mons.places count) (max was.conds.places count)
    (max was.named.places (2 * count)) (omega arith) (omega arith) (omega arith) (omega arith) (omega arith)))
    (λ last. rw last (came_grown was c.requires.lawful.step (max was.ids.places c.next_count-living.result) (max was.sched.places count)
    (max was.mail.places (count + c.len-agents.result)) (max was.mons.places count) was.conds.places (max was.named.places (2 * count))
    (omega arith) (omega arith) (omega arith) (omega arith) (omega arith))))

pub returns-in_default-clause-as_before : goal.returns-in_default-clause-as_before
returns-in_default-clause-as_before c =
    let was = c.args.parts.now in
    rw (c.in_default.ensures.err)
    (came_grown was c.requires.lawful.step was.ids.places was.sched.places was.mail.places was.mons.places was.conds.places was.named.places
    (omega arith) (omega arith) (omega arith) (omega arith) (omega arith))

pub returns-in_err-reserve-clause-as_before : goal.returns-in_err-reserve-clause-as_before
returns-in_err-reserve-clause-as_before c =
    let was = c.args.parts.now in
    rw (c.in-Ok.ensures.ok, c.in_err-reserve.ensures.err)
    (came_grown was c.requires.lawful.step (max was.ids.places c.next_count-living.result) was.sched.places was.mail.places was.mons.places
    was.conds.places was.named.places (omega arith) (omega arith) (omega arith) (omega arith) (omega arith))

pub returns-in_err-reserve-2-clause-as_before : goal.returns-in_err-reserve-2-clause-as_before
returns-in_err-reserve-2-clause-as_before c =
    let was = c.args.parts.now in
    let count = c.thread_count-count.result + 1 in
    rw (c.in-Ok.ensures.ok, c.in_ok-reserve.ensures.ok, c.in_err-reserve-2.ensures.err)
    (came_grown was c.requires.lawful.step (max was.ids.places c.next_count-living.result) (max was.sched.places count) was.mail.places
    was.mons.places was.conds.places was.named.places (omega arith) (omega arith) (omega arith) (omega arith) (omega arith))

pub returns-in_err-reserve-3-clause-as_before : goal.returns-in_err-reserve-3-clause-as_before
returns-in_err-reserve-3-clause-as_before c =
    let was = c.args.parts.now in
    let count = c.thread_count-count.result + 1 in
    rw (c.in-Ok.ensures.ok, c.in_ok-reserve.ensures.ok, c.in_ok-reserve-2.ensures.ok, c.in_err-reserve-3.ensures.err)
    (came_grown was c.requires.lawful.step (max was.ids.places c.next_count-living.result) (max was.sched.places count)
    (max was.mail.places (count + c.len-agents.result)) was.mons.places was.conds.places was.named.places (omega arith) (omega arith)
    (omega arith) (omega arith) (omega arith))

pub returns-in_err-reserve-4-clause-as_before : goal.returns-in_err-reserve-4-clause-as_before
returns-in_err-reserve-4-clause-as_before c =
    let was = c.args.parts.now in
    let count = c.thread_count-count.result + 1 in
    rw (c.in-Ok.ensures.ok, c.in_ok-reserve.ensures.ok, c.in_ok-reserve-2.ensures.ok, c.in_ok-reserve-3.ensures.ok, c.in_err-reserve-4.ensures.err)
    (came_grown was c.requires.lawful.step (max was.ids.places c.next_count-living.result) (max was.sched.places count)
    (max was.mail.places (count + c.len-agents.result)) (max was.mons.places count) was.conds.places was.named.places (omega arith)
    (omega arith) (omega arith) (omega arith) (omega arith))
