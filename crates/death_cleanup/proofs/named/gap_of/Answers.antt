use Rattle.death_cleanup.proofs.Orders.{parted}
use Rattle.death_cleanup.proofs.named.gap_of.Goals as goal
use Rattle.death_cleanup.specs.Named.{is_before, run_of}
use Rattle.std.proofs.Common.{arith, rules}
use Rattle.std.proofs.lemmas.List.Sorted.{IsPartitionPoint-from_clause}

pub returns : goal.returns
returns c =
    let test = is_before (run_of c.args.wait.now) c.args.wait.now.tid in
    let point = IsPartitionPoint-from_clause test _ _ c.partition_point.ensures.partitioned
    (parted c.args.waits.now (run_of c.args.wait.now) c.args.wait.now.tid c.requires) (λ a r q k. search rules) in
    record {
      within = c.partition_point.ensures.bound;
      below = λ j d lt. point.0 j d (omega arith) lt;
      above = λ j d ge lt. point.1 j d ge lt;
    }
