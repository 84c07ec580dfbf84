use Rattle.std.proofs.Common.{ap, arith, get_or, map, sym, ◌∙◌}
use Rattle.lists.proofs.WaitingLaws.EntryLaws.{any_default, no_entry}
use Rattle.lists.proofs.WaitingLaws.KeptLaws.{IsKept-prioritized, none_prioritized, prioritized_there}
use Rattle.lists.proofs.waiting_list.line.WaitingList.set_prio.Goals as goal
use Rattle.lists.specs.WaitingList.Entries.{waiting_of}

pub returns-in_default : goal.returns-in_default
returns-in_default c =
    rw (← c.self.view_is) (ap (λ ws. record { waiting = ws; places = c.self.inside.places })
    (sym (none_prioritized c.args.tid c.args.prio c.self.inside.entries.items c.in_default.ensures.none)))

pub invariant_of-self : goal.invariant_of-self
invariant_of-self c =
    let es = c.self.inside.entries.items in
    let there = c.in-Some.ensures.some in
    let e = get_or es c.in-Some.at no_entry in
    let here = any_default es c.in-Some.at no_entry e there.within in
    let was = c.self.invariant in
    let after = c.prioritize.ensures in
    rw (after.changed e here, after.room)
    (IsKept-prioritized es _ _ _ _ _ _ _ was c.args.tid c.in-Some.at e there here c.args.prio _ _ _ _ _
    (rw (after.changed e here) at after.sorted)
    (omega (arith, after.rank_room, was.ranks_fit))
    (omega (arith, after.arrived_room, was.arrived_fit)))

pub returns : goal.returns
returns c =
    let es = c.self.inside.entries.items in
    let there = c.in-Some.ensures.some in
    let e = get_or es c.in-Some.at no_entry in
    let here = any_default es c.in-Some.at no_entry e there.within in
    let after = ap (map waiting_of) (c.prioritize.ensures.changed e here)
    ∙ prioritized_there es _ _ _ _ _ _ _ c.self.invariant c.args.tid c.in-Some.at e there here c.args.prio _ in
    rw (← c.self.view_is) (ap (λ ws. record { waiting = ws; places = c.self.inside.places }) after)
