use Rattle.std.proofs.Common.{arith, rules}
use Rattle.std.proofs.lemmas.List.Sorted.{IsPartitionPoint-from_clause}
use Rattle.lists.proofs.WaitingLaws.KeyLaws.{parted_by_key, place_from}
use Rattle.lists.proofs.waiting_list.keys.place_by_halves.Goals as goal
use Rattle.lists.specs.WaitingList.Keys.{is_before}

pub returns-in-Some : goal.returns-in-Some
returns-in-Some c =
    let ks = c.in-Some.piece.now in
    let facts = c.partition_point.ensures in
    rw c.in-Some.ensures at (place_from c.args.key ks _ facts.bound (IsPartitionPoint-from_clause (λ l. is_before l c.args.key) ks _
    facts.partitioned (parted_by_key c.args.key ks (rw c.in-Some.ensures c.requires)) (λ a r f called. (search rules, search rules))))

pub returns-in-None : goal.returns-in-None
returns-in-None c =
    let ks = c.args.keys.now.items in
    let facts = c.partition_point-in-None.ensures in
    place_from c.args.key ks _ (omega (arith, facts.bound, c.args.keys.now.ok.0)) (IsPartitionPoint-from_clause
    (λ l. is_before l c.args.key) ks _ facts.partitioned (parted_by_key c.args.key ks c.requires) (λ a r f called. (search rules, search rules)))
