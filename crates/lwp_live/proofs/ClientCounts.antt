-- How many lines of each client are counted.
use Rattle.event_gate.proofs.Lines.{cond_other, cond_same, same_or}
use Rattle.lwp_live.specs.Ends.{arrival_of}
use Rattle.lwp_live.specs.Input.{counted}
use Rattle.lwp_live.specs.Reading.{texts_by}
use Rattle.lwp_live.specs.Recorded.{counts_by, counts_in}
use Rattle.lwp_live.specs.declared.arrival.Arrival.{Arrival}
use Rattle.script_text.specs.declared.script.Post.{Post}
use Rattle.script_text.specs.declared.script.Script.{Script}
use Rattle.std.proofs.Common.{Bool, List, [], arith, cond, eqb, false, filter, fold, length, map, refl, replicate, slice_index_or, suc, true, zero, ℕ}
use Rattle.std.proofs.Common.{ap, ⊎_elim, ◌+◌, ◌<◌, ◌∙◌, ◌∷◌, ◌≡◌, ◌≢◌}
use Rattle.std.proofs.lemmas.List.{length-replicate}

pub counted_size : (c : ℕ) (ns : List ℕ) → length (counted c ns) ≡ length ns
counted_size c [] = refl
counted_size zero (n ∷ ns) = refl
counted_size (suc c) (n ∷ ns) = let h = counted_size c ns in omega (arith, h)

size_on : (arrivals : List Arrival) (ns : List ℕ) → length (fold (λ counts (a : Arrival). counted a.client counts) ns arrivals) ≡ length ns
size_on [] ns = refl
size_on (a ∷ arrivals) ns = size_on arrivals (counted a.client ns) ∙ counted_size a.client ns

-- one for each client
pub counts_size : (n : ℕ) (arrivals : List Arrival) → length (counts_by n arrivals) ≡ n
counts_size n arrivals = size_on arrivals (replicate n 0) ∙ length-replicate {A = ℕ} n 0

counted_same : (c : ℕ) (ns : List ℕ) → c < length ns → slice_index_or (counted c ns) c 0 ≡ slice_index_or ns c 0 + 1
counted_same c [] low = absurd (omega (arith, low))
counted_same zero (n ∷ ns) low = omega arith
counted_same (suc c) (n ∷ ns) low = counted_same c ns (omega (arith, low))

counted_other : (d c : ℕ) (ns : List ℕ) → d ≢ c → slice_index_or (counted d ns) c 0 ≡ slice_index_or ns c 0
counted_other d c [] apart = refl
counted_other zero zero (n ∷ ns) apart = absurd (apart refl)
counted_other zero (suc c) (n ∷ ns) apart = refl
counted_other (suc d) zero (n ∷ ns) apart = refl
counted_other (suc d) (suc c) (n ∷ ns) apart = counted_other d c ns (λ e. apart (ap suc e))

pub counted_at : (d c : ℕ) (ns : List ℕ) → c < length ns → slice_index_or (counted d ns) c 0 ≡ slice_index_or ns c 0 + cond (eqb d c) 1 0
counted_at d c ns low = ⊎_elim
    (λ (e : d ≡ c).
    let here = ap (λ k. slice_index_or (counted k ns) c 0) e in
    let more = counted_same c ns low in
    let one : ◌≡◌ {A = ℕ} (cond (eqb d c) 1 0) 1 = cond_same d c 1 0 e in
    omega (arith, here, more, one))
    (λ (apart : d ≢ c).
    let same = counted_other d c ns apart in
    let none : ◌≡◌ {A = ℕ} (cond (eqb d c) 1 0) 0 = cond_other d c 1 0 apart in
    omega (arith, same, none))
    (same_or d c)

one_more : (b : Bool) (a : Arrival) (those : List Arrival) → length (map (λ (x : Arrival). x.text) (cond b (a ∷ those) those))
    ≡ cond b 1 0 + length (map (λ (x : Arrival). x.text) those)
one_more true a those = omega arith
one_more false a those = omega arith

at_on : (c : ℕ) (arrivals : List Arrival) (ns : List ℕ) → c < length ns
    → slice_index_or (fold (λ counts (a : Arrival). counted a.client counts) ns arrivals) c 0 ≡ slice_index_or ns c 0 + length (texts_by c arrivals)
at_on c [] ns low = omega arith
at_on c (a ∷ arrivals) ns low =
    let size = counted_size a.client ns in
    let later = at_on c arrivals (counted a.client ns) (omega (arith, size, low)) in
    let here = counted_at a.client c ns low in
    let more = one_more (eqb a.client c) a (filter (λ (x : Arrival). eqb x.client c) arrivals) in
    omega (arith, later, here, more)

zero_at : (n c : ℕ) → ◌≡◌ {A = ℕ} (slice_index_or (replicate n 0) c 0) 0
zero_at zero c = refl
zero_at (suc n) zero = refl
zero_at (suc n) (suc c) = zero_at n c

-- each client has as many as it has texts
pub counts_at : (n c : ℕ) (arrivals : List Arrival) → c < n → slice_index_or (counts_by n arrivals) c 0 ≡ length (texts_by c arrivals)
counts_at n c arrivals low =
    let size = length-replicate {A = ℕ} n 0 in
    let h = at_on c arrivals (replicate n 0) (omega (arith, size, low)) in
    let none = zero_at n c in
    omega (arith, h, none)

-- ---- the lines of a script

-- one line more of its client
abbrev pub count_post : List ℕ → Post → List ℕ
count_post counts p = counted p.client counts

pub counts_on : (texts : List (List ℕ)) (posts : List Post) (ns : List ℕ)
    → fold count_post ns posts ≡ fold (λ counts (a : Arrival). counted a.client counts) ns (map (arrival_of texts) posts)
counts_on texts [] ns = refl
counts_on texts (p ∷ posts) ns = counts_on texts posts (counted p.client ns)

pub counts_are : (script : Script) → counts_in script ≡ counts_by (length script.clients) (map (arrival_of script.texts) script.posts)
counts_are script = counts_on script.texts script.posts (replicate (length script.clients) 0)
