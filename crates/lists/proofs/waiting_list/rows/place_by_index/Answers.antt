use Rattle.std.proofs.Common.{subst, sym, ◌∙◌}
use Rattle.lists.proofs.WaitingLaws.EntryLaws.{thread_at, thread_not_missed}
use Rattle.lists.proofs.WaitingLaws.LineLaws.{if_none, if_some}
use Rattle.lists.proofs.waiting_list.rows.place_by_index.Goals as goal
use Rattle.lists.specs.WaitingList.Entries.{IsArrivalOf}

pub returns-in_err-arrival-clause-none : goal.returns-in_err-arrival-clause-none
returns-in_err-arrival-clause-none c =
    rw c.from_residual.ensures (subst (IsArrivalOf c.args.entries.now.items c.args.tid) (sym c.place_of.ensures ∙ c.in_err-arrival.was)
    (c.requires.known.each c.args.tid))

pub returns-clause-none : goal.returns-clause-none
returns-clause-none c =
    let some = subst (IsArrivalOf c.args.entries.now.items c.args.tid) (sym c.place_of.ensures ∙ c.in_ok-arrival.was) (c.requires.known.each c.args.tid) in
    if_none c.place_of-2.result _ _ c.place_of-2.ensures.none
    (λ none. absurd (thread_not_missed c.args.entries.now.items c.args.tid c.in_ok-arrival.arrival some none))

pub returns-clause-some : goal.returns-clause-some
returns-clause-some c =
    let some = subst (IsArrivalOf c.args.entries.now.items c.args.tid) (sym c.place_of.ensures ∙ c.in_ok-arrival.was) (c.requires.known.each c.args.tid) in
    if_some c.place_of-2.result _ _ c.place_of-2.ensures.some
    (λ at here. thread_at c.args.entries.now.items c.args.tid c.in_ok-arrival.arrival some c.requires.rising at here)
