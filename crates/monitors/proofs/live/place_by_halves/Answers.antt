use Rattle.monitors.proofs.LiveLaws.{never_falls}
use Rattle.monitors.proofs.live.place_by_halves.Goals as goal
use Rattle.std.proofs.Common.{rules, sym, ◌∙◌}
use Rattle.std.proofs.lemmas.Bool.{eqb-false}
use Rattle.std.proofs.lemmas.List.Sorted.{IsPartitionPoint-from_clause, IsPartitionedBy-ltb}
use Rattle.std.specs.Prelude.{nat_lt, ℕ}
use Rattle.lists.proofs.WaitingLaws.SearchLaws.{none_there}

pub returns-in_default-clause-none : goal.returns-in_default-clause-none
returns-in_default-clause-none c =
    let ns = c.args.live.now in
    let n = c.args.mon in
    let at = c.partition_point-at.result in
    let point = IsPartitionPoint-from_clause (λ (m : ℕ). nat_lt m n) ns at c.partition_point-at.ensures.partitioned
    (IsPartitionedBy-ltb (λ (m : ℕ). m) ns n (never_falls ns c.requires)) (λ a r f called. (search rules, search rules)) in
    let here = c.in-Some.ensures.lookup in
    none_there (λ (m : ℕ). m) n ns at c.in-Some.other.now (never_falls ns c.requires) point
    (λ within same. eqb-false c.in-Some.other.now c.args.mon (sym c.if-eq.ensures) (here.1 ∙ same))

pub returns-in_default-2-clause-none : goal.returns-in_default-2-clause-none
returns-in_default-2-clause-none c =
    let ns = c.args.live.now in
    let n = c.args.mon in
    let at = c.partition_point-at.result in
    let point = IsPartitionPoint-from_clause (λ (m : ℕ). nat_lt m n) ns at c.partition_point-at.ensures.partitioned
    (IsPartitionedBy-ltb (λ (m : ℕ). m) ns n (never_falls ns c.requires)) (λ a r f called. (search rules, search rules)) in
    none_there (λ (m : ℕ). m) n ns at 0 (never_falls ns c.requires) point (λ within same. search rules)
