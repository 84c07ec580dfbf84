use Rattle.script_run.proofs.outside.Outside.start.Given as goal
use Rattle.script_run.specs.Opening.{HaveSeatsFrom}
use Rattle.script_run.specs.Ties.{IsOut, any_intake}
use Rattle.script_run.specs.declared.outside.Client.{Client}
use Rattle.std.proofs.Common.{length, map, slice_index_or, vec_capacity, vec_len, ℕ, ◌+◌, ◌<◌, ◌≡◌, ◌≤◌}

abbrev pub invariant-loop-seat : goal.invariant-loop-seat
invariant-loop-seat g l =
    (goal.iterator-loop-seat g).can_next l.seat-iterator
    × (goal.iterator-loop-seat g).is_finite l.seat-iterator
    × HaveSeatsFrom l.fn.events (map (λ v. length v.items) l.fn.texts) (map any_intake l.inlets.items) (vec_len l.out) l.seat-iterator.rest.items
    × (vec_len l.out + length l.seat-iterator.rest.items ≡ length l.fn.events)
    × (length l.seat-iterator.rest.items ≤ length l.gates.rest.items)
    × (length l.fn.events ≤ vec_capacity l.out)
    × ((c : ℕ) (d : Client) → c < vec_len l.out
    → IsOut l.fn.events (map (λ v. v.items) l.fn.texts) (map any_intake l.inlets.items) c (slice_index_or l.out.items c d))
