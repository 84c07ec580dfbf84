use Rattle.std.proofs.Common.{rules}
use Rattle.std.proofs.lemmas.List.Sorted.{IsPartitionPoint-from_clause, IsPartitionedBy-ltb}
use Rattle.std.specs.Prelude.{nat_lt}
use Rattle.lists.proofs.WaitingLaws.EntryLaws.{never_falls, no_entry}
use Rattle.lists.proofs.WaitingLaws.SearchLaws.{none_there}
use Rattle.lists.proofs.waiting_list.rows.place_by_halves.Goals as goal
use Rattle.lists.specs.declared.waiting_list.rows.Entry.{Entry}

pub returns-in_default-clause-none : goal.returns-in_default-clause-none
returns-in_default-clause-none c =
    let es = c.args.entries.now.items in
    let n = c.args.arrival in
    let at = c.partition_point-at.result in
    let point = IsPartitionPoint-from_clause (λ (e : Entry). nat_lt e.arrival n) es at c.partition_point-at.ensures.partitioned
    (IsPartitionedBy-ltb (λ (e : Entry). e.arrival) es n (never_falls es c.requires)) (λ a r f called. (search rules, search rules)) in
    let here = c.in-Some.ensures.lookup in
    none_there (λ (e : Entry). e.arrival) n es at c.in-Some.entry.now (never_falls es c.requires) point
    (λ within same. c.if-entry-arrival.false (rw (← here) at same))

pub returns-in_default-2-clause-none : goal.returns-in_default-2-clause-none
returns-in_default-2-clause-none c =
    let es = c.args.entries.now.items in
    let n = c.args.arrival in
    let at = c.partition_point-at.result in
    let point = IsPartitionPoint-from_clause (λ (e : Entry). nat_lt e.arrival n) es at c.partition_point-at.ensures.partitioned
    (IsPartitionedBy-ltb (λ (e : Entry). e.arrival) es n (never_falls es c.requires)) (λ a r f called. (search rules, search rules)) in
    none_there (λ (e : Entry). e.arrival) n es at no_entry (never_falls es c.requires) point (λ within same. search rules)
