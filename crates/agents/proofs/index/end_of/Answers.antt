use Rattle.agents.proofs.IndexLemmas.{up_to_down, cut, parted}
use Rattle.agents.proofs.index.end_of.Goals as goal
use Rattle.agents.specs.Index.{is_up_to}
use Rattle.std.proofs.Common.{rules}
use Rattle.std.proofs.lemmas.List.Sorted.{IsPartitionPoint-from_clause}

pub returns : goal.returns
returns c =
    let p = is_up_to c.args.key in
    let es = c.args.entries.now in
    cut p es _ c.partition_point.ensures.bound (IsPartitionPoint-from_clause p es _ c.partition_point.ensures.partitioned
    (parted p (up_to_down c.args.key) es c.requires) (λ a r f called. (search rules, search rules)))
