-- The first of those that a list has of a kind.
use Rattle.death_cleanup.specs.View.{known_of, row_of, row_onto, rows_of}
use Rattle.death_cleanup.specs.Waits.{block_waits, first_waiting, waiting, waits_for}
use Rattle.death_cleanup.specs.declared.rows.Awaited.{Awaited}
use Rattle.death_cleanup.specs.declared.rows.Kind.{Kind}
use Rattle.death_cleanup.specs.declared.rows.Kind.TheVariants as kind
use Rattle.lwp_types.specs.State.{ThreadRow}
use Rattle.pod_sched.specs.declared.rows.Known.{Known}
use Rattle.std.proofs.Common.{Bool, List, None, Some, [], ap, cond, false, map, refl, true, ℕ, ◌∷◌, ◌≡◌}
use Rattle.std.specs.List.{filter, find}
use Rattle.std.specs.Prelude.{option_map}

-- the first of the list, and the others
pub record Front (xs : List ℕ) (x : ℕ) : Type 0 where
  pub rest : List ℕ
  pub is : xs ≡ x ∷ rest

module _ {X : Type 0} (key : X → ℕ) (p : X → Bool) where
  pub found_first : (xs : List X) (k : ℕ) → option_map key (find p xs) ≡ Some k → Front (map key (filter p xs)) k
  found_first [] k found = absurd (cc)
  found_first (x ∷ xs) k found = by_test (p x) (found_first xs k) found
    where
      by_test : (c : Bool) → (option_map key (find p xs) ≡ Some k → Front (map key (filter p xs)) k)
          → option_map key (cond c (Some x) (find p xs)) ≡ Some k → Front (map key (cond c (x ∷ filter p xs) (filter p xs))) k
      by_test true rest here = let same : key x ≡ k = cc in record { rest = map key (filter p xs); is = ap (λ y. y ∷ map key (filter p xs)) same }
      by_test false rest later = rest later

  pub found_none : (xs : List X) → option_map key (find p xs) ≡ None → map key (filter p xs) ≡ []
  found_none [] none = refl
  found_none (x ∷ xs) none = by_test (p x) (found_none xs) none
    where
      by_test : (c : Bool) → (option_map key (find p xs) ≡ None → map key (filter p xs) ≡ [])
          → option_map key (cond c (Some x) (find p xs)) ≡ None → map key (cond c (x ∷ filter p xs) (filter p xs)) ≡ []
      by_test true rest here = absurd (cc)
      by_test false rest later = rest later

module _ (what : Awaited) (t p : ℕ) (known : List Known) where
  -- the oldest of the living that waits is the first of all that do
  pub waiting_first : (living : List (ℕ × Kind)) (u : ℕ) → first_waiting what t living ≡ Some u → Front (waiting what t (rows_of p known living)) u
  waiting_first [] u found = absurd (cc)
  waiting_first (live ∷ living) u found = by_kind live.0 live.1 (waiting_first living u) found
    where
      by_kind : (n : ℕ) (k : Kind) → (first_waiting what t living ≡ Some u → Front (waiting what t (rows_of p known living)) u)
          → option_map (λ (l : ℕ × Kind). l.0) (cond (waits_for what t k) (Some (n, k)) (find (λ (l : ℕ × Kind). waits_for what t l.1) living)) ≡ Some u
          → Front (waiting what t (row_onto (known_of p known n) n k (rows_of p known living))) u
      by_kind n kind.Agent rest found = rest found
      by_kind n (kind.Thread rec) rest found = by_test (waits_for what t (kind.Thread rec)) rest found
        where
          by_test : (c : Bool) → (first_waiting what t living ≡ Some u → Front (waiting what t (rows_of p known living)) u)
              → option_map (λ (l : ℕ × Kind). l.0) (cond c (Some (n, kind.Thread rec)) (find (λ (l : ℕ × Kind). waits_for what t l.1) living)) ≡ Some u
              → Front
              (map (λ (row : ThreadRow). row.number)
              (cond c (row_of (known_of p known n) n rec ∷ filter (λ (row : ThreadRow). block_waits what t row.block) (rows_of p known living)) (filter
              (λ (row : ThreadRow). block_waits what t row.block) (rows_of p known living))))
              u
          by_test true rest here = let same : n ≡ u = cc in record {
            rest = waiting what t (rows_of p known living);
            is = ap (λ y. y ∷ waiting what t (rows_of p known living)) same;
          }
          by_test false rest later = rest later

  pub waiting_none : (living : List (ℕ × Kind)) → first_waiting what t living ≡ None → waiting what t (rows_of p known living) ≡ []
  waiting_none [] none = refl
  waiting_none (live ∷ living) none = by_kind live.0 live.1 (waiting_none living) none
    where
      by_kind : (n : ℕ) (k : Kind) → (first_waiting what t living ≡ None → waiting what t (rows_of p known living) ≡ [])
          → option_map (λ (l : ℕ × Kind). l.0) (cond (waits_for what t k) (Some (n, k)) (find (λ (l : ℕ × Kind). waits_for what t l.1) living)) ≡ None
          → waiting what t (row_onto (known_of p known n) n k (rows_of p known living)) ≡ []
      by_kind n kind.Agent rest none = rest none
      by_kind n (kind.Thread rec) rest none = by_test (waits_for what t (kind.Thread rec)) rest none
        where
          by_test : (c : Bool) → (first_waiting what t living ≡ None → waiting what t (rows_of p known living) ≡ [])
              → option_map (λ (l : ℕ × Kind). l.0) (cond c (Some (n, kind.Thread rec)) (find (λ (l : ℕ × Kind). waits_for what t l.1) living)) ≡ None
              → map (λ (row : ThreadRow). row.number)
              (cond c (row_of (known_of p known n) n rec ∷ filter (λ (row : ThreadRow). block_waits what t row.block) (rows_of p known living)) (filter
              (λ (row : ThreadRow). block_waits what t row.block) (rows_of p known living)))
              ≡ []
          by_test true rest here = absurd (cc)
          by_test false rest later = rest later
