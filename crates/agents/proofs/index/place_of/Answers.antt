use Rattle.agents.proofs.IndexLemmas.{before_down, cut, parted}
use Rattle.agents.proofs.index.place_of.Goals as goal
use Rattle.agents.specs.Index.{is_before}
use Rattle.std.proofs.Common.{rules}
use Rattle.std.proofs.lemmas.List.Sorted.{IsPartitionPoint-from_clause}

pub returns : goal.returns
returns c =
    let p = is_before c.args.key c.args.number in
    let es = c.args.entries.now in
    cut p es _ c.partition_point.ensures.bound (IsPartitionPoint-from_clause p es _ c.partition_point.ensures.partitioned
    (parted p (before_down c.args.key c.args.number) es c.requires) (λ a r f called. (search rules, search rules)))
