-- Tests of numbers, by what is known of the numbers.
use Rattle.std.proofs.Common.{◌≡◌, ◌≢◌, ℕ, ◌<◌, ◌≤◌, true, false, not, arith}
use Rattle.std.specs.Prelude.{nat_lt, nat_le, ◌==◌, ◌||◌}
use Rattle.std.proofs.lemmas.Bool.{ne_eqb}
use Rattle.std.proofs.lemmas.Bool.Decides.{nat_tests}

pub lt-true : (m n : ℕ) → m < n → nat_lt m n ≡ true
lt-true m n h = grind (arith, nat_tests)

pub lt-false : (m n : ℕ) → n ≤ m → nat_lt m n ≡ false
lt-false m n h = grind (arith, nat_tests)

pub le-true : (m n : ℕ) → m ≤ n → nat_le m n ≡ true
le-true m n h = grind (arith, nat_tests)

pub le-false : (m n : ℕ) → n < m → nat_le m n ≡ false
le-false m n h = grind (arith, nat_tests)

-- a comparison with a number that another one is
pub le-true-at : (m n k : ℕ) → m ≤ n → n ≡ k → nat_le m k ≡ true
le-true-at m n k h same = le-true m k (omega arith)

pub le-false-at : (m n k : ℕ) → n < m → n ≡ k → nat_le m k ≡ false
le-false-at m n k h same = le-false m k (omega arith)

pub no_priority : (p most : ℕ) → most < p → ((p == 0) || nat_lt most p) ≡ true
no_priority p most h = grind (arith, nat_tests)

pub zero_priority : (p most : ℕ) → p ≡ 0 → ((p == 0) || nat_lt most p) ≡ true
zero_priority p most h = grind (arith, nat_tests)

pub a_priority : (p most : ℕ) → 0 < p → p ≤ most → ((p == 0) || nat_lt most p) ≡ false
a_priority p most h k = grind (arith, nat_tests)

pub differ : (m n : ℕ) → m ≢ n → (m == n) ≡ false
differ m n h = ne_eqb m n h

-- a test the other way round
pub le-not-lt : (m n : ℕ) → nat_le n m ≡ not (nat_lt m n)
le-not-lt m n = grind (arith, nat_tests)
