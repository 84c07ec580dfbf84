use Rattle.conditions.proofs.RowLaws.{never_falls, no_row}
use Rattle.conditions.proofs.rows.place_by_halves.Goals as goal
use Rattle.lwp_types.specs.declared.rows.CondRow.{CondRow}
use Rattle.std.proofs.Common.{ap, rules, sym, ◌∙◌}
use Rattle.std.proofs.lemmas.Bool.{eqb-false}
use Rattle.std.proofs.lemmas.List.Sorted.{IsPartitionPoint-from_clause, IsPartitionedBy-ltb}
use Rattle.std.specs.Prelude.{nat_lt}
use Rattle.lists.proofs.WaitingLaws.SearchLaws.{none_there}

pub returns-in_default-clause-none : goal.returns-in_default-clause-none
returns-in_default-clause-none c =
    let rows = c.args.rows.now in
    let n = c.args.cond in
    let at = c.partition_point-at.result in
    let point = IsPartitionPoint-from_clause (λ (row : CondRow). nat_lt row.number n) rows at c.partition_point-at.ensures.partitioned
    (IsPartitionedBy-ltb (λ (row : CondRow). row.number) rows n (never_falls rows c.requires)) (λ a r f called. (search rules, search rules)) in
    let here = c.in-Some.ensures.lookup in
    none_there (λ (row : CondRow). row.number) n rows at c.in-Some.row.now (never_falls rows c.requires) point
    (λ within same. eqb-false c.in-Some.row.now.number c.args.cond (sym c.if-eq.ensures) (ap (λ (row : CondRow). row.number) here.1 ∙ same))

pub returns-in_default-2-clause-none : goal.returns-in_default-2-clause-none
returns-in_default-2-clause-none c =
    let rows = c.args.rows.now in
    let n = c.args.cond in
    let at = c.partition_point-at.result in
    let point = IsPartitionPoint-from_clause (λ (row : CondRow). nat_lt row.number n) rows at c.partition_point-at.ensures.partitioned
    (IsPartitionedBy-ltb (λ (row : CondRow). row.number) rows n (never_falls rows c.requires)) (λ a r f called. (search rules, search rules)) in
    none_there (λ (row : CondRow). row.number) n rows at no_row (never_falls rows c.requires) point (λ within same. search rules)
