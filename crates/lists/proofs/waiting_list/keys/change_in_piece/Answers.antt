use Rattle.lists.proofs.WaitingLaws.KeyLaws.{IsSorted-remove, IsSorted-set, set_counts}
use Rattle.lists.proofs.waiting_list.keys.change_in_piece.Goals as goal

pub returns-in-Ok-clause-sorted : goal.returns-in-Ok-clause-sorted
returns-in-Ok-clause-sorted c =
    let went = c.in-Ok.ensures.walked in
    let fit = c.in-Ok.ensures.ok in
    IsSorted-set c.walk.new.keys.items c.in-Ok.place c.args.after
    (rw went.rest (IsSorted-remove c.args.keys.now.items c.args.at c.requires.sorted)) went.within fit.behind fit.ahead

pub returns-in-Ok-clause-counts : goal.returns-in-Ok-clause-counts
returns-in-Ok-clause-counts c =
    let went = c.in-Ok.ensures.walked in
    λ k. rw (← went.rest) (set_counts c.walk.new.keys.items c.in-Ok.place c.args.after k went.within)

pub replace-requires-clause-within : goal.replace-requires-clause-within
replace-requires-clause-within c = c.in-Err.ensures.walked.within

pub replace-requires-clause-sorted : goal.replace-requires-clause-sorted
replace-requires-clause-sorted c = rw c.in-Err.ensures.walked.rest (IsSorted-remove c.args.keys.now.items c.args.at c.requires.sorted)

pub returns-in-Err-clause-counts : goal.returns-in-Err-clause-counts
returns-in-Err-clause-counts c = λ k. rw c.in-Err.ensures.walked.rest at (c.replace.ensures.counts k)
