use Rattle.std.proofs.Common.{arith, rules}
use Rattle.std.proofs.lemmas.List.Sorted.{IsPartitionPoint-from_clause, IsPartitionedBy-leb}
use Rattle.std.specs.Prelude.{nat_le}
use Rattle.lists.proofs.WaitingLaws.KeyLaws.{end_from, parted_by_what}
use Rattle.lists.proofs.waiting_list.keys.end_of.Goals as goal
use Rattle.lists.specs.declared.waiting_list.keys.Key.{Key}

pub returns : goal.returns
returns c =
    let ks = c.args.keys.now.items in
    let n = c.args.what in
    let facts = c.partition_point.ensures in
    end_from n ks _ (omega (arith, facts.bound, c.args.keys.now.ok.0)) (IsPartitionPoint-from_clause (λ (k : Key). nat_le k.what n) ks _
    facts.partitioned (IsPartitionedBy-leb (λ (k : Key). k.what) ks n (parted_by_what ks c.requires)) (λ a r f called. (search rules, search rules)))
