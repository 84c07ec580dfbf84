use Rattle.std.proofs.Common.{ap, arith, get_or, sym}
use Rattle.lists.proofs.WaitingLaws.KeptLaws.{IsKept-left, left_there, none_left, thread_known}
use Rattle.lists.proofs.waiting_list.line.WaitingList.leave.Goals as goal
use Rattle.lists.proofs.WaitingLaws.EntryLaws.{any_default, no_entry}

pub returns-in_default : goal.returns-in_default
returns-in_default c =
    rw (← c.self.view_is) (ap (λ ws. record { waiting = ws; places = c.self.inside.places })
    (sym (none_left c.args.tid c.self.inside.entries.items c.in_default.ensures.none)))

pub dismiss-requires-clause-known : goal.dismiss-requires-clause-known
dismiss-requires-clause-known c =
    let es = c.self.inside.entries.items in
    let there = c.in-Some.ensures.some in
    let e = get_or es c.in-Some.at no_entry in
    let here = any_default es c.in-Some.at no_entry e there.within in
    thread_known es _ _ _ _ _ _ _ c.self.invariant c.args.tid c.in-Some.at e there here

pub invariant_of-self : goal.invariant_of-self
invariant_of-self c =
    let es = c.self.inside.entries.items in
    let there = c.in-Some.ensures.some in
    let e = get_or es c.in-Some.at no_entry in
    let here = any_default es c.in-Some.at no_entry e there.within in
    let was = c.self.invariant in
    let after = c.dismiss.ensures in
    rw (after.items, after.room)
    (IsKept-left es _ _ _ _ _ _ _ was c.args.tid c.in-Some.at e there here _ _ _ _ _
    (rw after.items at after.sorted) after.puts after.count
    (omega (arith, after.rank_room, was.ranks_fit)) (omega (arith, after.arrived_room, was.arrived_fit))
    (omega (arith, after.width, was.cells)) (omega (arith, after.width, after.index_room, was.index_room)))

pub returns : goal.returns
returns c =
    let es = c.self.inside.entries.items in
    let there = c.in-Some.ensures.some in
    let e = get_or es c.in-Some.at no_entry in
    let here = any_default es c.in-Some.at no_entry e there.within in
    rw (← c.self.view_is, c.dismiss.ensures.items) (ap (λ ws. record { waiting = ws; places = c.self.inside.places })
    (left_there es _ _ _ _ _ _ _ c.self.invariant c.args.tid c.in-Some.at e there here))
