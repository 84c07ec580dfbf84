use Rattle.agents.proofs.IndexLemmas.{below_down, cut, parted}
use Rattle.agents.proofs.index.start_by_halves.Goals as goal
use Rattle.agents.specs.Index.{is_below}
use Rattle.std.proofs.Common.{rules}
use Rattle.std.proofs.lemmas.List.Sorted.{IsPartitionPoint-from_clause}

pub returns : goal.returns
returns c =
    let p = is_below c.args.key in
    let es = c.args.entries.now in
    cut p es _ c.partition_point.ensures.bound (IsPartitionPoint-from_clause p es _ c.partition_point.ensures.partitioned
    (parted p (below_down c.args.key) es c.requires) (λ a r f called. (search rules, search rules)))
