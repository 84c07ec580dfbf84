use Rattle.state_text.proofs.KeyLaws.{are_codes, put_back}
use Rattle.state_text.specs.Keys.{codes_from}
use Rattle.std.proofs.Common.{arith, ap, length, ℕ, ◌≡◌, ◌≤◌}
use Rattle.std.proofs.lemmas.List.Sorted.{IsNonDecreasingBy-from_sort}
use Rattle.std.specs.List.Sorted.{IsNonDecreasing, IsPermutation}
use Rattle.state_text.proofs.keys.Keys.of.Goals as goal

pub invariant_of-result : goal.invariant_of-result
invariant_of-result c =
    let codes = c.in_ok-codes.codes.items in
    let ys = c.sort_unstable.new.self in
    let keys = c.args.keys.items in
    let same : codes ≡ codes_from 0 keys = rw c.deref.ensures.value at c.in_ok-codes.ensures.same in
    let moved : IsPermutation (codes_from 0 keys) ys = rw (c.as_mut_slice.ensures.value, same) at c.sort_unstable.ensures.permutation in
    let rise : IsNonDecreasing ys = IsNonDecreasingBy-from_sort (λ (x : ℕ). x) ys c.sort_unstable.ensures.sorted in
    let few : length keys ≤ 18446744073709551616 = rw c.deref.ensures.value at c.codes_of.ensures.few in
    let long : length ys ≡ length codes = rw c.as_mut_slice.ensures.value at c.sort_unstable.ensures.len in
    rw (put_back c.in_ok-codes.codes.len ys codes (omega (arith, long)) (omega (arith, long, c.in_ok-codes.codes.ok))) (are_codes keys ys few moved rise)
