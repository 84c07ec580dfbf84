-- Bytes tell apart what numbers do.
use Rattle.keys.specs.Numbers.{IsCode}
use Rattle.keys.specs.Spelling.{bytes_within, number_bytes, numbers_in, spelt, with_low}
use Rattle.std.proofs.Common.{List, [], ap, append_assoc, append-nil, arith, false, if◌then◌else◌, nat_lt, refl, suc}
use Rattle.std.proofs.Common.{sym, true, zero, ℕ, ◌%◌, ◌*◌, ◌++◌, ◌+◌, ◌-◌, ◌/◌, ◌<◌, ◌∙◌, ◌∷◌, ◌≡◌, ◌≤◌, Bool}
use Rattle.std.proofs.lemmas.Bool.Decides.{nat_tests}
use Rattle.std.proofs.lemmas.List.{append_cancel_left}
use Rattle.std.specs.List.{AllByRecursion}

below : (n : ℕ) → n < 128 → nat_lt n 128 ≡ true
below n few = grind (arith, nat_tests)

not_below : (k : ℕ) → nat_lt (128 + k) 128 ≡ false
not_below k = grind (arith, nat_tests)

at_least : (n : ℕ) → nat_lt n 128 ≡ false → 128 ≤ n
at_least n e = grind (arith, nat_tests)

above : (n : ℕ) → 128 ≤ n → nat_lt n 128 ≡ false
above n many = grind (arith, nat_tests)

whole : (n : ℕ) → 128 + n % 128 - 128 + 128 * (n / 128) ≡ n
whole n = omega arith

-- a number is read back from its bytes, and what follows is read by itself
within_reads : (most n : ℕ) (more : List ℕ) → n ≤ most → numbers_in (bytes_within most n ++ more) ≡ n ∷ numbers_in more
unfolding numbers_in
within_reads zero n more few = rw (below n (omega (arith, few))) refl
within_reads (suc most) n more few = by_size (nat_lt n 128) refl (λ fewer. within_reads most (n / 128) more fewer) where
  by_size : (small : Bool) → nat_lt n 128 ≡ small → (n / 128 ≤ most → numbers_in (bytes_within most (n / 128) ++ more) ≡ n / 128 ∷ numbers_in more)
      → numbers_in ((if small then n ∷ [] else (128 + n % 128) ∷ bytes_within most (n / 128)) ++ more) ≡ n ∷ numbers_in more
  by_size true e later = rw e refl
  by_size false e later =
      rw (not_below (n % 128)) (ap (with_low (128 + n % 128 - 128)) (later (omega (arith, few, at_least n e)))
      ∙ ap (λ m. m ∷ numbers_in more) (whole n))

pub number_reads : (n : ℕ) (more : List ℕ) → numbers_in (number_bytes n ++ more) ≡ n ∷ numbers_in more
unfolding number_bytes
number_reads n more = within_reads n n more (omega arith)

-- so are numbers
pub spelt_reads : (ns more : List ℕ) → numbers_in (spelt ns ++ more) ≡ ns ++ numbers_in more
spelt_reads [] more = refl
spelt_reads (n ∷ ns) more =
    ap numbers_in (append_assoc (number_bytes n) (spelt ns) more) ∙ number_reads n (spelt ns ++ more) ∙ ap (λ l. n ∷ l) (spelt_reads ns more)

pub reads_nothing : numbers_in [] ≡ []
unfolding numbers_in
reads_nothing = refl

-- numbers are read back from their bytes
pub spelt_reads_back : (ns : List ℕ) → numbers_in (spelt ns) ≡ ns
spelt_reads_back ns = ap numbers_in (sym (append-nil (spelt ns))) ∙ spelt_reads ns [] ∙ ap (λ l. ns ++ l) reads_nothing ∙ append-nil ns

-- numbers with the same bytes are the same
pub spelt_same : (ns ms : List ℕ) → spelt ns ≡ spelt ms → ns ≡ ms
spelt_same ns ms e = sym (spelt_reads_back ns) ∙ ap numbers_in e ∙ spelt_reads_back ms

-- the bytes of values have the law that their numbers have
pub spelt_is_code : {A : Type 0} (is_value : A → Type 0) (code : A → List ℕ) → IsCode is_value code → IsCode is_value (λ x. spelt (code x))
spelt_is_code is_value code is_code a b more others ha hb e =
    let same = is_code a b (numbers_in more) (numbers_in others) ha hb
    (sym (spelt_reads (code a) more) ∙ ap numbers_in e ∙ spelt_reads (code b) others) in
    (same.0, append_cancel_left (spelt (code a)) more others (e ∙ ap (λ x. spelt (code x) ++ others) (sym same.0)))

-- ---- for the code

-- a number below 128 is a byte
pub byte_small : (n : ℕ) → n < 128 → number_bytes n ≡ n ∷ []
unfolding number_bytes
byte_small zero few = refl
byte_small (suc n) few = rw (below (suc n) few) refl

-- as many bytes more as there may be change nothing
within_same : (most less n : ℕ) → n ≤ most → n ≤ less → bytes_within most n ≡ bytes_within less n
within_same zero zero n few fewer = refl
within_same zero (suc less) n few fewer = rw (below n (omega (arith, few))) refl
within_same (suc most) zero n few fewer = rw (below n (omega (arith, fewer))) refl
within_same (suc most) (suc less) n few fewer =
    by_size (nat_lt n 128) refl (λ some fewest. within_same most less (n / 128) some fewest) where
      by_size : (small : Bool) → nat_lt n 128 ≡ small → (n / 128 ≤ most → n / 128 ≤ less → bytes_within most (n / 128) ≡ bytes_within less (n / 128))
          → (if small then n ∷ [] else (128 + n % 128) ∷ bytes_within most (n / 128))
          ≡ (if small then n ∷ [] else (128 + n % 128) ∷ bytes_within less (n / 128))
      by_size true e later = refl
      by_size false e later =
          ap (λ l. (128 + n % 128) ∷ l) (later (omega (arith, few, at_least n e)) (omega (arith, fewer, at_least n e)))

-- of any other the first byte has 7 bits
pub byte_first : (n : ℕ) → 128 ≤ n → number_bytes n ≡ (128 + n % 128) ∷ number_bytes (n / 128)
unfolding number_bytes
byte_first zero many = absurd (omega (arith, many))
byte_first (suc n) many =
    rw (above (suc n) many) (ap (λ l. (128 + suc n % 128) ∷ l) (within_same n (suc n / 128) (suc n / 128) (omega (arith, many)) (omega arith)))

-- bytes that spell numbers, and one more
pub spelt_more : (ns ms : List ℕ) → spelt (ns ++ ms) ≡ spelt ns ++ spelt ms
spelt_more [] ms = refl
spelt_more (n ∷ ns) ms = ap (λ l. number_bytes n ++ l) (spelt_more ns ms) ∙ sym (append_assoc (number_bytes n) (spelt ns) (spelt ms))

-- the view of a key, after bytes that spell numbers were added
pub reads_more : (bytes ns : List ℕ) → bytes ≡ spelt (numbers_in bytes) → numbers_in (bytes ++ spelt ns) ≡ numbers_in bytes ++ ns
reads_more bytes ns is =
    ap (λ l. numbers_in (l ++ spelt ns)) is ∙ spelt_reads (numbers_in bytes) (spelt ns) ∙ ap (λ l. numbers_in bytes ++ l) (spelt_reads_back ns)

-- they spell numbers still
pub spells_more : (bytes ns : List ℕ) → bytes ≡ spelt (numbers_in bytes) → bytes ++ spelt ns ≡ spelt (numbers_in (bytes ++ spelt ns))
spells_more bytes ns is =
    ap (λ l. l ++ spelt ns) is ∙ sym (spelt_more (numbers_in bytes) ns) ∙ ap spelt (sym (reads_more bytes ns is))

-- the bytes of one number
pub spelt_one : (n : ℕ) → spelt (n ∷ []) ≡ number_bytes n
spelt_one n = append-nil (number_bytes n)

-- bytes below 128 spell themselves
pub spelt_plain : (bytes : List ℕ) → AllByRecursion (λ b. b < 128) bytes → spelt bytes ≡ bytes
spelt_plain [] few = refl
spelt_plain (b ∷ bytes) few =
    ap (λ l. l ++ spelt bytes) (byte_small b few.0) ∙ ap (λ l. b ∷ l) (spelt_plain bytes few.1)

-- after bytes that spell these numbers
pub reads_after : (bytes ns after : List ℕ) → bytes ≡ spelt (numbers_in bytes) → after ≡ bytes ++ spelt ns
    → numbers_in after ≡ numbers_in bytes ++ ns
reads_after bytes ns after is e = ap numbers_in e ∙ reads_more bytes ns is

pub spells_after : (bytes ns after : List ℕ) → bytes ≡ spelt (numbers_in bytes) → after ≡ bytes ++ spelt ns
    → after ≡ spelt (numbers_in after)
spells_after bytes ns after is e = e ∙ spells_more bytes ns is ∙ ap (λ l. spelt (numbers_in l)) (sym e)
