-- Rings of places, as functions: how they change where two places are crossed, and how a walk finds them.
use Rattle.lists.specs.ChainLinks.{Crosses, IsWound, Spells, walk}
use Rattle.lists.specs.ChainLists.{before, without}
use Rattle.std.proofs.Common.{Bool, List, [], ap, arith, cond, eqb, false, inl, inr, length, not, refl, subst, suc, sym, true, zero, ℕ, ◌++◌, ◌<◌}
use Rattle.std.proofs.Common.{◌∙◌, ◌∷◌, ◌≡◌, ◌≢◌, ◌≤◌, ◌⊎◌}
use Rattle.std.proofs.lemmas.Bool.{cases_eq, eq-eqb, eqb-false, eqb-true, false≢true, ne_eqb, or_cases}
use Rattle.std.proofs.lemmas.Map.Steps.{length-le_from_distinct_below}
use Rattle.std.specs.List.{AllByRecursion, IsDistinct, list_any}

-- either of the two numbers for the other
pub exchange : ℕ → ℕ → ℕ → ℕ
exchange a b x = cond (eqb x a) b (cond (eqb x b) a x)

abbrev IsBound : (ℕ → ℕ) → ℕ → Type 0
IsBound f limit = (x : ℕ) → x < limit → f x < limit

module _ (a b : ℕ) where
  exchange-first : exchange a b a ≡ b
  unfolding exchange
  exchange-first = rw (eq-eqb a a refl) refl

  exchange-second : exchange a b b ≡ a
  unfolding exchange
  exchange-second = by_test (eqb b a) refl
    where
      by_test : (t : Bool) → eqb b a ≡ t → cond t b (cond (eqb b b) a b) ≡ a
      by_test true e = eqb-true b a e
      by_test false e = rw (eq-eqb b b refl) refl

  exchange-other : (x : ℕ) → x ≢ a → x ≢ b → exchange a b x ≡ x
  unfolding exchange
  exchange-other x not_a not_b = rw (ne_eqb x a not_a, ne_eqb x b not_b) refl

  -- the three cases of a number
  Cases : ℕ → Type 0
  Cases x = (x ≡ a) ⊎ ((x ≡ b) ⊎ ((x ≢ a) × (x ≢ b)))

  cases : (x : ℕ) → Cases x
  unfolding Cases
  cases x = elim (cases_eq x a) [
    | inl is_a ↦ inl is_a
    | inr not_a ↦ elim (cases_eq x b) [ inl is_b ↦ inr (inl is_b) | inr not_b ↦ inr (inr (not_a, not_b)) ]
  ]

  exchange-twice : (x : ℕ) → exchange a b (exchange a b x) ≡ x
  unfolding Cases
  exchange-twice x = elim (cases x) [
    | inl is_a ↦ rw (is_a, exchange-first) exchange-second
    | inr (inl is_b) ↦ rw (is_b, exchange-second) exchange-first
    | inr (inr others) ↦ let same = exchange-other x others.0 others.1 in ap (exchange a b) same ∙ same
  ]

  exchange_in : (limit : ℕ) → a < limit → b < limit → (x : ℕ) → x < limit → exchange a b x < limit
  unfolding Cases
  exchange_in limit a_in b_in x x_in = elim (cases x) [
    | inl is_a ↦ rw (is_a, exchange-first) b_in
    | inr (inl is_b) ↦ rw (is_b, exchange-second) a_in
    | inr (inr others) ↦ rw (exchange-other x others.0 others.1) x_in
  ]

module _ (next prev next' prev' : ℕ → ℕ) (a b limit : ℕ) (wound : IsWound next prev limit) (crosses : Crosses next prev next' prev' a b)
    (a_in : a < limit) (b_in : b < limit) where
  pub crossed_next : (x : ℕ) → next' x ≡ next (exchange a b x)
  unfolding Cases
  crossed_next x = elim (cases a b x) [
    | inl is_a ↦ rw (is_a, exchange-first a b) crosses.first
    | inr (inl is_b) ↦ rw (is_b, exchange-second a b) crosses.second
    | inr (inr others) ↦ rw (exchange-other a b x others.0 others.1) (crosses.others x others.0 others.1)
  ]

  crossed_prev : (x : ℕ) → x < limit → prev' x ≡ exchange a b (prev x)
  crossed_prev x x_in = elim (cases_eq x (next a)) [
    | inl after_a ↦ rw (after_a, wound.there a a_in, exchange-first a b) crosses.back_second
    | inr not_after_a ↦ elim (cases_eq x (next b)) [
      | inl after_b ↦ rw (after_b, wound.there b b_in, exchange-second a b) (crosses.back_first (λ same. not_after_a (after_b ∙ same)))
      | inr not_after_b ↦
          crosses.back_others x not_after_a not_after_b
          ∙ sym (exchange-other a b (prev x) (λ is_a. not_after_a (sym (wound.back x x_in) ∙ ap next is_a))
          (λ is_b. not_after_b (sym (wound.back x x_in) ∙ ap next is_b)))
    ]
  ]

  pub IsWound-crossed : IsWound next' prev' limit
  IsWound-crossed = record {
    next_in = λ x x_in. rw (crossed_next x) (wound.next_in _ (exchange_in a b limit a_in b_in x x_in));
    prev_in = λ x x_in. rw (crossed_prev x x_in) (exchange_in a b limit a_in b_in _ (wound.prev_in x x_in));
    there = λ x x_in.
        let y_in = exchange_in a b limit a_in b_in x x_in in
        ap prev' (crossed_next x) ∙ crossed_prev _ (wound.next_in _ y_in) ∙ ap (exchange a b) (wound.there _ y_in) ∙ exchange-twice a b x;
    back = λ x x_in.
        ap next' (crossed_prev x x_in) ∙ crossed_next _ ∙ ap next (exchange-twice a b (prev x)) ∙ wound.back x x_in;
  }

-- one number in the place of another
pub instead : ℕ → ℕ → ℕ → ℕ
instead this that y = cond (eqb y this) that y

instead-same : (this that y : ℕ) → y ≡ this → instead this that y ≡ that
unfolding instead
instead-same this that y same = rw (eq-eqb y this same) refl

instead-other : (this that y : ℕ) → y ≢ this → instead this that y ≡ y
unfolding instead
instead-other this that y differs = rw (ne_eqb y this differs) refl

-- a key is crossed with the place before it: it is by itself, and the one that led to it now leads past it
module _ (next prev next' prev' : ℕ → ℕ) (key limit : ℕ) (wound : IsWound next prev limit)
    (crosses : Crosses next prev next' prev' key (prev key)) (key_in : key < limit) where
  pub alone : next' key ≡ key
  alone = crosses.first ∙ wound.back key key_in

  pub past_step : (x : ℕ) → x < limit → x ≢ key → next' x ≡ instead key (next key) (next x)
  past_step x x_in differs = elim (cases_eq x (prev key)) [
    | inl here ↦
        let leads : next x ≡ key = ap next here ∙ wound.back key key_in in
        rw here crosses.second ∙ sym (instead-same key (next key) (next x) leads)
    | inr away ↦
        crosses.others x differs away
        ∙ sym (instead-other key (next key) (next x) (λ leads. away (sym (wound.there x x_in) ∙ ap prev leads)))
  ]

  past_again : instead key (next key) (next key) ≡ next key
  past_again = elim (cases_eq (next key) key) [
    | inl same ↦ instead-same key (next key) (next key) same
    | inr differs ↦ instead-other key (next key) (next key) differs
  ]

  pub Spells-without : (at : ℕ) (keys : List ℕ) (end : ℕ) → at < limit → end ≢ key → Spells next at keys end
      → Spells next' (instead key (next key) at) (without key keys) end
  Spells-without at [] end at_in not_end spells =
      instead-other key (next key) at (λ same. not_end (sym spells ∙ same)) ∙ spells
  Spells-without at (k ∷ keys) end at_in not_end spells =
      by_test (eqb k key) refl (Spells-without (next k) keys end (wound.next_in k (rw (← spells.0) at_in)) not_end spells.1)
    where
      by_test : (t : Bool) → eqb k key ≡ t → Spells next' (instead key (next key) (next k)) (without key keys) end
          → Spells next' (instead key (next key) at) (cond (not t) (k ∷ without key keys) (without key keys)) end
      by_test true e rest =
          let same : k ≡ key = eqb-true k key e in
          let here : instead key (next key) at ≡ next key = instead-same key (next key) at (spells.0 ∙ same) in
          let there : instead key (next key) (next k) ≡ next key = ap (λ y. instead key (next key) (next y)) same ∙ past_again in
          subst (λ y. Spells next' y (without key keys) end) (there ∙ sym here) rest
      by_test false e rest =
          let differs : k ≢ key = eqb-false k key e in
          (instead-other key (next key) at (λ same. differs (sym spells.0 ∙ same)) ∙ spells.0, rw (past_step k (rw (← spells.0) at_in) differs) rest)

-- a key that is by itself is crossed with the place before another: it stands right before that one
module _ (next prev next' prev' : ℕ → ℕ) (key other limit : ℕ) (wound : IsWound next prev limit)
    (crosses : Crosses next prev next' prev' key (prev other)) (key_in : key < limit) (other_in : other < limit) (by_itself : next key ≡ key) where
  pub to_other : next' key ≡ other
  to_other = crosses.first ∙ wound.back other other_in

  pub toward_step : (x : ℕ) → x < limit → x ≢ key → next' x ≡ instead other key (next x)
  toward_step x x_in differs = elim (cases_eq x (prev other)) [
    | inl here ↦
        let leads : next x ≡ other = ap next here ∙ wound.back other other_in in
        rw here crosses.second ∙ by_itself ∙ sym (instead-same other key (next x) leads)
    | inr away ↦
        crosses.others x differs away
        ∙ sym (instead-other other key (next x) (λ leads. away (sym (wound.there x x_in) ∙ ap prev leads)))
  ]

  pub Spells-before : (at : ℕ) (keys : List ℕ) (end : ℕ) → at < limit → end ≢ other → AllByRecursion (λ k. k ≢ key) keys
      → Spells next at keys end → Spells next' (instead other key at) (before key other keys) end
  Spells-before at [] end at_in not_end apart spells = instead-other other key at (λ same. not_end (sym spells ∙ same)) ∙ spells
  Spells-before at (k ∷ keys) end at_in not_end apart spells =
      by_test (eqb k other) refl (rw (toward_step k k_in apart.0) (Spells-before (next k) keys end (wound.next_in k k_in) not_end apart.1 spells.1))
    where
      k_in : k < limit
      k_in = rw (← spells.0) at_in

      by_test : (t : Bool) → eqb k other ≡ t → Spells next' (next' k) (before key other keys) end
          → Spells next' (instead other key at) (cond t (key ∷ k ∷ before key other keys) (k ∷ before key other keys)) end
      by_test true e rest =
          let same : k ≡ other = eqb-true k other e in
          (instead-same other key at (spells.0 ∙ same), (to_other ∙ sym same, rest))
      by_test false e rest =
          let differs : k ≢ other = eqb-false k other e in
          (instead-other other key at (λ same. differs (sym spells.0 ∙ same)) ∙ spells.0, rest)

  pub Spells-push : (at : ℕ) (keys : List ℕ) → at < limit → AllByRecursion (λ k. k ≢ key) keys → AllByRecursion (λ k. k ≢ other) keys
      → Spells next at keys other → Spells next' (instead other key at) (keys ++ key ∷ []) other
  Spells-push at [] at_in apart away spells = (instead-same other key at spells, to_other)
  Spells-push at (k ∷ keys) at_in apart away spells =
      let k_in : k < limit = rw (← spells.0) at_in in (
        instead-other other key at (λ same. away.0 (sym spells.0 ∙ same)) ∙ spells.0,
        rw (toward_step k k_in apart.0) (Spells-push (next k) keys (wound.next_in k k_in) apart.1 away.1 spells.1),
      )

-- ---- what a walk finds

pub walk_spelled : (next : ℕ → ℕ) (steps at : ℕ) (keys : List ℕ) (end : ℕ) → length keys ≤ steps → AllByRecursion (λ k. k ≢ end) keys
    → Spells next at keys end → walk next steps at end ≡ keys
walk_spelled next zero at [] end enough away spells = refl
walk_spelled next zero at (k ∷ keys) end enough away spells = absurd (omega arith)
walk_spelled next (suc steps) at [] end enough away spells = rw (eq-eqb at end spells) refl
walk_spelled next (suc steps) at (k ∷ keys) end enough away spells =
    let differs : eqb at end ≡ false = ne_eqb at end (λ same. away.0 (sym spells.0 ∙ same)) in
    rw (differs, spells.0) (ap (λ ks. k ∷ ks) (walk_spelled next steps (next k) keys end (omega arith) away.1 spells.1))

-- ---- no place comes twice on the way to an end that isn't on it

module _ (next : ℕ → ℕ) (end : ℕ) where
  same_length : (at : ℕ) (xs ys : List ℕ) → AllByRecursion (λ k. k ≢ end) xs → AllByRecursion (λ k. k ≢ end) ys → Spells next at xs end
      → Spells next at ys end → length xs ≡ length ys
  same_length at [] [] xs_away ys_away xs_spells ys_spells = refl
  same_length at [] (y ∷ ys) xs_away ys_away xs_spells ys_spells = absurd (ys_away.0 (sym ys_spells.0 ∙ xs_spells))
  same_length at (x ∷ xs) [] xs_away ys_away xs_spells ys_spells = absurd (xs_away.0 (sym xs_spells.0 ∙ ys_spells))
  same_length at (x ∷ xs) (y ∷ ys) xs_away ys_away xs_spells ys_spells =
      let same : y ≡ x = sym ys_spells.0 ∙ xs_spells.0 in
      ap suc (same_length (next x) xs ys xs_away.1 ys_away.1 xs_spells.1 (subst (λ k. Spells next (next k) ys end) same ys_spells.1))

  -- the place is on no shorter way
  not_on : (z : ℕ) (whole : List ℕ) → AllByRecursion (λ k. k ≢ end) whole → Spells next (next z) whole end → (at : ℕ) (rest : List ℕ)
      → length rest ≤ length whole → AllByRecursion (λ k. k ≢ end) rest → Spells next at rest end → AllByRecursion (λ y. eqb z y ≡ false) rest
  not_on z whole whole_away whole_spells at [] shorter away spells = tt
  not_on z whole whole_away whole_spells at (y ∷ rest) shorter away spells = (
    ne_eqb z y (λ same.
        let as_long = same_length (next z) whole rest whole_away away.1 whole_spells (subst (λ k. Spells next (next k) rest end) (sym same) spells.1) in
        let longer : suc (length rest) ≤ length whole = shorter in
        absurd (omega (arith, as_long, longer))),
    not_on z whole whole_away whole_spells (next y) rest (omega (arith, shorter)) away.1 spells.1,
  )

  IsDistinct-spelled : (at : ℕ) (keys : List ℕ) → AllByRecursion (λ k. k ≢ end) keys → Spells next at keys end → IsDistinct eqb keys
  unfolding IsDistinct
  IsDistinct-spelled at [] away spells = tt
  IsDistinct-spelled at (k ∷ keys) away spells =
      (not_on k keys away.1 spells.1 (next k) keys (omega arith) away.1 spells.1, IsDistinct-spelled (next k) keys away.1 spells.1)

  module _ (limit : ℕ) (bound : (x : ℕ) → x < limit → next x < limit) where
    below : (q at : ℕ) (keys : List ℕ) → at < limit → Spells next at keys end → list_any (eqb q) keys ≡ true → q < limit
    below q at [] at_in spells found = absurd (false≢true found)
    below q at (k ∷ keys) at_in spells found =
        let k_in : k < limit = rw (← spells.0) at_in in
        elim (or_cases (eqb q k) (list_any (eqb q) keys) found) [
          | inl here ↦ rw (eqb-true q k here) k_in
          | inr later ↦ below q (next k) keys (bound k k_in) spells.1 later
        ]

    -- so the way is no longer than there are places
    pub length-spelled : (at : ℕ) (keys : List ℕ) → at < limit → AllByRecursion (λ k. k ≢ end) keys → Spells next at keys end → length keys ≤ limit
    length-spelled at keys at_in away spells =
        length-le_from_distinct_below keys limit (IsDistinct-spelled at keys away spells) (λ q found. below q at keys at_in spells found)

    pub walk_all : (at : ℕ) (keys : List ℕ) → at < limit → AllByRecursion (λ k. k ≢ end) keys → Spells next at keys end → walk next limit at end ≡ keys
    walk_all at keys at_in away spells = walk_spelled next limit at keys end (length-spelled at keys at_in away spells) away spells
