use Rattle.lwp_types.specs.CountLaws.{count_not_found}
use Rattle.lwp_types.specs.MonitorRelease.{is_lock}
use Rattle.monitors.proofs.KeptLemmas.{IsKept-deepened, IsKept-taken, room_free}
use Rattle.monitors.proofs.monitors.Monitors.enter.Goals as goal
use Rattle.std.proofs.Common.{ap, is_none, refl, sym, ◌+◌, ◌∙◌}

pub acquire-requires-clause-free : goal.acquire-requires-clause-free
acquire-requires-clause-free c = count_not_found (is_lock c.args.mon) _ (sym c.in-None.ensures)

pub acquire-requires-clause-few : goal.acquire-requires-clause-few
acquire-requires-clause-few c =
    let free = ap is_none (sym c.lock_of.ensures ∙ c.in-None.is) in
    room_free c.self.invariant.kept c.args.mon (rw (← c.self.view_is) at c.requires.live) free

pub invariant_of-self : goal.invariant_of-self
invariant_of-self c =
    let free = ap is_none (sym c.lock_of.ensures ∙ c.in-None.is) in
    let live = rw (← c.self.view_is) at c.requires.live in
    rw c.acquire.ensures.locks
    (record {
      kept = rw c.acquire.ensures.room (IsKept-taken c.self.invariant.kept c.args.mon live free _ refl);
      tied = c.acquire.ensures.tied;
    })

pub invariant_of-self-in-Some : goal.invariant_of-self-in-Some
invariant_of-self-in-Some c =
    rw c.set_depth.ensures.locks
    (record {
      kept = rw c.set_depth.ensures.room (IsKept-deepened c.self.invariant.kept c.args.mon (c.in-Some.lock.depth + 1));
      tied = c.set_depth.ensures.tied;
    })
