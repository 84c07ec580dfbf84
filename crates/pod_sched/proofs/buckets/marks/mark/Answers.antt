use Rattle.pod_sched.proofs.BucketLaws.Bits.{Marks-written}
use Rattle.pod_sched.proofs.buckets.marks.mark.Goals as goal
use Rattle.std.proofs.Common.{get_or, length, rules, ℕ, ◌%◌, ◌/◌, ◌<◌, ◌≡◌, ◌≢◌}
use Rattle.std.specs.Int.{bit_at}

pub returns : goal.returns
returns c =
    let long : length c.args.words.now ≡ 4 = search rules in
    let others : (i : ℕ) → i < 64 → i ≢ c.args.number % 64
    → bit_at c.with_bit.result i ≡ bit_at (get_or c.args.words.now (c.args.number / 64) 0) i = c.with_bit.ensures.others in
    Marks-written c.args.words.now c.args.number c.with_bit.result _ c.requires long c.with_bit.ensures.here others
