-- What is known of cycles while they are looked for: which least threads are found, and whom they answer for.
use Rattle.lwp_types.specs.State.{member}
use Rattle.state_text.specs.Keys.{key_at}
use Rattle.state_text.specs.Waiting.{round}
use Rattle.std.specs.Prelude.{Bool, List, MatchOption, Option, false, is_some, length, slice_index_or, true, ℕ, ◌<◌, ◌==◌, ◌≡◌, ◌≤◌}

-- from here on m comes within n steps, and nobody on the way is less than m
abbrev pub comes : (ℕ → Option ℕ) → ℕ → ℕ → ℕ → Bool
comes next m n here = is_some (round next m n here)

-- the least thread of a cycle that one comes into from here is found already
abbrev pub IsCovered : (ℕ → Option ℕ) → ℕ → List ℕ → ℕ → Type 0
IsCovered next many found here = (m n : ℕ) → n ≤ many → comes next m many m ≡ true → comes next m n here ≡ true
    → member m found ≡ true

-- nobody has seen the thread at this place yet
abbrev pub is_unseen : List ℕ → ℕ → Bool
is_unseen colours p = slice_index_or colours p 0 == 0

-- it is so from each thread that was seen
abbrev pub AreCovered : (ℕ → Option ℕ) → ℕ → List ℕ → List ℕ → List ℕ → Type 0
AreCovered next many keys colours found = (p : ℕ) → p < length colours → is_unseen colours p ≡ false
    → IsCovered next many found (key_at keys p)

-- it is so from each that was seen, and from this one
abbrev pub AreDone : (ℕ → Option ℕ) → ℕ → List ℕ → ℕ → List ℕ → List ℕ → Type 0
AreDone next many keys start colours found = AreCovered next many keys colours found × IsCovered next many found start

-- those have all of these
abbrev pub HasAll : List ℕ → List ℕ → Type 0
HasAll more found = (m : ℕ) → member m found ≡ true → member m more ≡ true

-- once it is so from whom it led back to, it is so from all
abbrev pub Leads : (ℕ → Option ℕ) → ℕ → List ℕ → List ℕ → List ℕ → ℕ → ℕ → Type 0
Leads next many keys old new start to = (found more : List ℕ) → AreCovered next many keys old found → HasAll more found
    → IsCovered next many more to → AreDone next many keys start new more

-- a way from one thread has ended: where it led back to somebody, his cycle is still to be found
abbrev pub HasFollowed : (ℕ → Option ℕ) → ℕ → List ℕ → List ℕ → List ℕ → ℕ → Option ℕ → Type 0
HasFollowed next many keys old new start end = MatchOption end
    ((found : List ℕ) → AreCovered next many keys old found → AreDone next many keys start new found)
    (Leads next many keys old new start)

-- the least of each cycle that one comes into from here
abbrev pub IsLeastFrom : (ℕ → Option ℕ) → ℕ → ℕ → ℕ → Type 0
IsLeastFrom next many start least = (m n : ℕ) → n ≤ many → comes next m many m ≡ true → comes next m n start ≡ true
    → least ≡ m
