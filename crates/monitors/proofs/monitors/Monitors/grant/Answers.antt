use Rattle.lwp_types.specs.FirstLaws.{best_passes, finds_best}
use Rattle.lwp_types.specs.MonitorRelease.{locks_on}
use Rattle.lwp_types.specs.declared.rows.Lock.{Lock}
use Rattle.monitors.proofs.KeptLemmas.{IsKept-taken, held_free, room_free}
use Rattle.monitors.proofs.Lines.{left-line, next-line}
use Rattle.monitors.proofs.monitors.Monitors.grant.Goals as goal
use Rattle.monitors.specs.MonitorTable.{requests_of, with_grant}
use Rattle.monitors.specs.Requests.{request_of}
use Rattle.monitors.specs.declared.requests.EntryRequest.{EntryRequest}
use Rattle.std.proofs.Common.{[], ap, map, sym, ◌++◌, ◌∙◌, ◌∷◌}
use Rattle.std.proofs.lemmas.Bool.{eqb-true}
use Rattle.std.specs.Prelude.{option_map}
use Rattle.lists.specs.Living.{living}
use Rattle.lists.specs.WaitingList.Line.{is_for}

pub returns-in_err-next-clause-value : goal.returns-in_err-next-clause-value
returns-in_err-next-clause-value c =
    let none = next-line c.args.mon c.self.inside.requests.waiting ∙ ap (λ o. option_map request_of o) (sym (rw c.mon.view_is at c.in_err-next.ensures)) in
    rw (← c.self.view_is) (c.from_residual.ensures ∙ ap (λ o. option_map (λ (r : EntryRequest). r.tid) o) (sym none))

pub returns-in_err-next-clause-after : goal.returns-in_err-next-clause-after
returns-in_err-next-clause-after c =
    let s = c.self.inside in
    let none = next-line c.args.mon s.requests.waiting ∙ ap (λ o. option_map request_of o) (sym (rw c.mon.view_is at c.in_err-next.ensures)) in
    rw (← c.self.view_is) (ap (λ o. with_grant (record {
      monitors = s.live.items;
      births = s.births;
      limit = s.limit;
      locks = living s.locks.slots.items;
      requests = map request_of s.requests.waiting;
      places = s.requests.places;
    }) o) (sym none))

pub returns-in_err-next-clause-first_best : goal.returns-in_err-next-clause-first_best
returns-in_err-next-clause-first_best c = finds_best {A = EntryRequest} (λ r. r.prio) (requests_of c.args.self.now c.args.mon)

pub acquire-requires-clause-free : goal.acquire-requires-clause-free
acquire-requires-clause-free c =
    let s = c.self.inside in
    let its = eqb-true c.in_ok-next.next.what c.args.mon
    (best_passes (λ w. w.prio) (is_for c.args.mon) s.requests.waiting c.in_ok-next.next (sym (rw c.mon.view_is at c.in_ok-next.ensures))) in
    ap (locks_on (living s.locks.slots.items)) its
    ∙ held_free (record {
      monitors = s.live.items;
      births = s.births;
      limit = s.limit;
      locks = living s.locks.slots.items;
      requests = map request_of s.requests.waiting;
      places = s.requests.places;
    })
    c.args.mon (rw (← c.self.view_is) at c.requires.free)

pub acquire-requires-clause-few : goal.acquire-requires-clause-few
acquire-requires-clause-few c = room_free c.self.invariant.kept c.args.mon (rw (← c.self.view_is) at c.requires.live) (rw (← c.self.view_is) at c.requires.free)

pub invariant_of-self : goal.invariant_of-self
invariant_of-self c =
    let next = c.in_ok-next.next in
    let its = eqb-true next.what c.args.mon
    (best_passes (λ w. w.prio) (is_for c.args.mon) c.self.inside.requests.waiting next (sym (rw c.mon.view_is at c.in_ok-next.ensures))) in
    let live = rw (← c.self.view_is) at c.requires.live in
    let free = rw (← c.self.view_is) at c.requires.free in
    let lock : Lock = record { mon = next.what; owner = next.tid; depth = next.depth } in
    let kept = IsKept-taken c.self.invariant.kept c.args.mon live free lock its in
    rw c.acquire.ensures.locks
    (record {
      kept = rw c.acquire.ensures.room
          (record { held_once = kept.held_once; held_live = kept.held_live; locks_fit = kept.locks_fit; rising = kept.rising; born = kept.born });
      tied = c.acquire.ensures.tied;
    })

pub returns-clause-value : goal.returns-clause-value
returns-clause-value c =
    let some = next-line c.args.mon c.self.inside.requests.waiting ∙ ap (λ o. option_map request_of o) (sym (rw c.mon.view_is at c.in_ok-next.ensures)) in
    rw (← c.self.view_is) (ap (λ o. option_map (λ (r : EntryRequest). r.tid) o) (sym some))

pub returns-clause-after : goal.returns-clause-after
returns-clause-after c =
    let s = c.self.inside in
    let next = c.in_ok-next.next in
    let some = next-line c.args.mon s.requests.waiting ∙ ap (λ o. option_map request_of o) (sym (rw c.mon.view_is at c.in_ok-next.ensures)) in
    rw (← c.self.view_is, c.acquire.ensures.locks, c.leave.ensures)
    (ap
    (λ rs. record {
      monitors = s.live.items;
      births = s.births;
      limit = s.limit;
      locks = living s.locks.slots.items ++ record { mon = next.what; owner = next.tid; depth = next.depth } ∷ [];
      requests = rs;
      places = s.requests.places;
    })
    (left-line next.tid s.requests.waiting)
    ∙ ap (λ o. with_grant (record {
      monitors = s.live.items;
      births = s.births;
      limit = s.limit;
      locks = living s.locks.slots.items;
      requests = map request_of s.requests.waiting;
      places = s.requests.places;
    }) o)
    (sym some))

pub returns-clause-first_best : goal.returns-clause-first_best
returns-clause-first_best c = finds_best {A = EntryRequest} (λ r. r.prio) (requests_of c.args.self.now c.args.mon)
