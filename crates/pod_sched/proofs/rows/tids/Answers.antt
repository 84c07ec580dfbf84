use Rattle.pod_sched.proofs.WalkLemmas.{cut, ends, goes_on, has_row, smaller, starts}
use Rattle.pod_sched.proofs.rows.tids.Goals as goal
use Rattle.pod_sched.specs.Held.{tid_at}
use Rattle.std.proofs.Common.{[], ap, drop, length, suc, take, ◌++◌, ◌∙◌, ◌∷◌}

pub loop-next-init : goal.loop-next-init
loop-next-init c =
    let f = tid_at c.args.rows.now.items in
    starts f c.args.order.now.order c.new-ids.result c.first_key-next.result c.new-ids.ensures c.first_key-next.ensures

pub tid_at-requires-clause-is_slot : goal.tid_at-requires-clause-is_slot
tid_at-requires-clause-is_slot c =
    let f = tid_at c.args.rows.now.items in
    let l = c.loop-next in
    (has_row f c.args.order.now.order l.ids l.next c.in-Some.slot l.invariant c.in-Some.is c.args.rows.now.items c.args.order.now c.requires).is_slot

pub tid_at-requires-clause-in_range : goal.tid_at-requires-clause-in_range
tid_at-requires-clause-in_range c =
    let f = tid_at c.args.rows.now.items in
    let l = c.loop-next in
    (has_row f c.args.order.now.order l.ids l.next c.in-Some.slot l.invariant c.in-Some.is c.args.rows.now.items c.args.order.now c.requires).in_rows

pub key_after-next-requires : goal.key_after-next-requires
key_after-next-requires c =
    let f = tid_at c.args.rows.now.items in
    let order = c.args.order.now in
    let l = c.loop-next in
    record { in_limit = (has_row f order.order l.ids l.next c.in-Some.slot l.invariant c.in-Some.is c.args.rows.now.items order c.requires).in_keys }

pub loop-next-smaller : goal.loop-next-smaller
loop-next-smaller c =
    let f = tid_at c.args.rows.now.items in
    let l = c.loop-next in
    let more = c.in_ok-push.ensures.ok ∙ ap (λ n. l.ids ++ n ∷ []) c.tid_at.ensures in
    smaller f c.args.order.now.order l.ids l.next c.in-Some.slot l.invariant c.in-Some.is c.push.new.self more

pub loop-next-preserved : goal.loop-next-preserved
loop-next-preserved c =
    let f = tid_at c.args.rows.now.items in
    let keys = c.args.order.now.order in
    let l = c.loop-next in
    let split = cut f keys l.ids l.next c.in-Some.slot l.invariant c.in-Some.is in
    let more = c.in_ok-push.ensures.ok ∙ ap (λ n. l.ids ++ n ∷ []) c.tid_at.ensures in
    let after = c.key_after-next.ensures (take (length l.ids) keys) (drop (suc (length l.ids)) keys) split in
    goes_on f keys l.ids l.next c.in-Some.slot l.invariant c.in-Some.is c.push.new.self more c.key_after-next.result after

pub returns : goal.returns
returns c = ends (tid_at c.args.rows.now.items) c.args.order.now.order c.loop-next.ids c.loop-next.next c.loop-next.invariant c.in_default.is
