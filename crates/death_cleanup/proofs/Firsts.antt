-- The oldest of those that are noted is the oldest of all.
use Rattle.death_cleanup.proofs.Living.{later-absent}
use Rattle.death_cleanup.proofs.Notes.{looked, named-by, noted-left}
use Rattle.death_cleanup.proofs.Orders.{AreOrdered-removed, any-place, any-removed, before-not, before-says, ordered-at, same-run}
use Rattle.death_cleanup.specs.Named.{AreOrdered, HasNoWaiter, HasWaiter, IsGap, are_all_noted, covers, is_before}
use Rattle.death_cleanup.specs.Named.{is_on, is_wait, kind_name, run_number, run_of, waits_at}
use Rattle.death_cleanup.specs.Waits.{first_waiting, waits_for}
use Rattle.death_cleanup.specs.declared.rows.Awaited.{Awaited}
use Rattle.death_cleanup.specs.declared.rows.Kind.{Kind}
use Rattle.death_cleanup.specs.declared.rows.NamedWait.{NamedWait}
use Rattle.lwp_types.specs.State.{passes}
use Rattle.stale_ids.specs.Register.{AreRising, value_of}
use Rattle.std.proofs.Common.{Bool, List, None, Option, Some, [], ap, arith, cond, eqb, false, get_or, inl}
use Rattle.std.proofs.Common.{inr, length, refl, sym, true, ℕ, ◌+◌, ◌<◌, ◌∙◌, ◌∷◌, ◌≡◌, ◌≤◌, ◌⊎◌}
use Rattle.std.proofs.lemmas.Bool.{and_parts, cases_eq, cases_lt, cases_order, eq-eqb, eqb-true, ne_eqb}
use Rattle.std.proofs.lemmas.List.Edits.{get_or-remove_above, get_or-remove_below, length-remove}
use Rattle.std.specs.List.{AllByRecursion, find, list_all, list_any, remove}
use Rattle.std.specs.Prelude.{option_map}

-- one was found, and it isn't younger than n
pub record AtMost (o : Option ℕ) (n : ℕ) : Type 0 where
  pub found : ℕ
  pub is : o ≡ Some found
  pub low : found ≤ n

-- the first among the living, if one passes that isn't younger than any that passes
first-is : (p : Kind → Bool) (o : Option ℕ) (living : List (ℕ × Kind)) → AreRising living → ((m : ℕ) → o ≡ Some m → passes p (value_of m living) ≡ true)
    → ((n : ℕ) (k : Kind) → value_of n living ≡ Some k → p k ≡ true → AtMost o n)
    → o ≡ option_map (λ (live : ℕ × Kind). live.0) (find (λ live. p live.1) living)
first-is p None [] rising sound most = refl
first-is p (Some m) [] rising sound most = absurd (let no : false ≡ true = sound m refl in cc)
first-is p o (live ∷ living) rising sound most = by_test (p live.1) refl (λ later most_later. first-is p o living rising.1 later most_later)
  where
    below-absent : (m : ℕ) → m < live.0 → (ls : List (ℕ × Kind)) → AllByRecursion (λ (l : ℕ × Kind). live.0 < l.0) ls → value_of m ls ≡ None
    below-absent m low [] above = refl
    below-absent m low (l ∷ ls) above = rw (ne_eqb l.0 m (λ e. let up : live.0 < l.0 = above.0 in omega arith)) (below-absent m low ls above.1)

    by_order : (m : ℕ) → p live.1 ≡ true → passes p (value_of m (live ∷ living)) ≡ true → m ≤ live.0 → (m ≡ live.0) ⊎ ((m < live.0) ⊎ (live.0 < m)) → m ≡ live.0
    by_order m e found low (inl same) = same
    by_order m e found low (inr (inr above)) = absurd (omega arith)
    by_order m e found low (inr (inl below)) = absurd (
        let none : value_of m (live ∷ living) ≡ None = rw (ne_eqb live.0 m (λ same. omega arith)) (below-absent m below living rising.0) in
        let no : false ≡ true = ap (passes p) (sym none) ∙ found in cc)

    elsewhere : (m : ℕ) → p live.1 ≡ false → passes p (value_of m (live ∷ living)) ≡ true → (live.0 ≡ m) ⊎ (live.0 ≡ m → ⊥)
        → passes p (value_of m living) ≡ true
    elsewhere m e found (inl same) = absurd (let here : p live.1 ≡ true = (rw (eq-eqb live.0 m same) at found) in let no : false ≡ true = sym e ∙ here in cc)
    elsewhere m e found (inr away) = (rw (ne_eqb live.0 m away) at found)

    later_number : (n : ℕ) (k : Kind) → value_of n living ≡ Some k → live.0 ≡ n → ⊥
    later_number n k is same = let none : value_of n living ≡ None = later-absent n living (rw (sym same) rising.0) in
        let no : None ≡ Some k = sym none ∙ is in absurd (cc)

    by_test : (c : Bool) → p live.1 ≡ c
        → (((m : ℕ) → o ≡ Some m → passes p (value_of m living) ≡ true)
        → ((n : ℕ) (k : Kind) → value_of n living ≡ Some k → p k ≡ true → AtMost o n) → o ≡ option_map (λ (l : ℕ × Kind). l.0) (find (λ l. p l.1) living))
        → o ≡ option_map (λ (l : ℕ × Kind). l.0) (cond c (Some live) (find (λ l. p l.1) living))
    by_test true e later =
        let at = most live.0 live.1 (rw (eq-eqb live.0 live.0 refl) refl) e in
        at.is ∙ ap (λ n. Some n) (by_order at.found e (sound at.found at.is) at.low (cases_order at.found live.0))
    by_test false e later = later (λ m is. elsewhere m e (sound m is) (cases_eq live.0 m))
        (λ n k is here. most n k (rw (ne_eqb live.0 n (λ same. later_number n k is same)) is) here)

-- this place is where the waits for this of t begin
pub record Reached (what : Awaited) (t : ℕ) (living : List (ℕ × Kind)) (waits : List NamedWait) (at : ℕ) : Type 0 where
  pub ordered : AreOrdered waits
  pub noted : are_all_noted waits living ≡ true
  pub gap : IsGap (run_number what t) 0 waits at

module _ (what : Awaited) (t : ℕ) (living : List (ℕ × Kind)) (waits : List NamedWait) (at : ℕ) (reached : Reached what t living waits at) where
  -- a wait of thread n for this of t stands from this place on
  abbrev Ahead : ℕ → NamedWait → Type 0
  Ahead n d = record {
    place : ℕ;
    from : at ≤ place;
    within : place < length waits;
    tid : (get_or waits place d).tid ≡ n;
    own : run_of (get_or waits place d) ≡ run_number what t;
  }

  -- the wait of a thread that waits for t so and is noted does
  covered-ahead : (n : ℕ) (k : Kind) (d : NamedWait) → covers waits n (kind_name k) ≡ true → waits_for what t k ≡ true → Ahead n d
  covered-ahead n k d covered here =
      let some : list_any (is_wait (run_number what t) n) waits ≡ true = (rw (named-by what t k here) at covered) in
      let there = any-place (is_wait (run_number what t) n) waits d some in
      let both = and_parts (eqb (get_or waits there.place d).tid n) (eqb (run_of (get_or waits there.place d)) (run_number what t)) there.passes in
      let own = eqb-true _ _ both.1 in
      record {
        place = there.place;
        from = elim (cases_lt there.place at) [
          | inl before ↦
              let says = before-says (get_or waits there.place d) (run_number what t) 0 (reached.gap.below there.place d before) in
              let low : (get_or waits there.place d).tid < 0 = says.1 own in
              absurd (omega (arith, low))
          | inr from ↦ from
        ];
        within = there.within;
        tid = eqb-true _ _ both.0;
        own = own;
      }

  -- where they end nobody waits so who is noted
  none-at : HasNoWaiter (run_number what t) waits at → (n : ℕ) (k : Kind) → covers waits n (kind_name k) ≡ true → waits_for what t k ≡ true → ⊥
  none-at none n k covered here =
      let d : NamedWait = record { what = what; of = t; tid = n } in
      let ahead = covered-ahead n k d covered here in
      let first : at < length waits = omega (arith, ahead.from, ahead.within) in
      let least : run_number what t
      ≤ run_of (get_or waits at d) = (before-not (get_or waits at d) (run_number what t) 0 (reached.gap.above at d (omega arith) first)).0 in
      elim (cases_lt at ahead.place) [
        | inl later ↦ none d first (omega (arith, least, (ordered-at waits at ahead.place d reached.ordered later ahead.within).low, ahead.own))
        | inr same ↦ none d first (ap (λ i. run_of (get_or waits i d)) (let e : at ≡ ahead.place = omega (arith, same, ahead.from) in e) ∙ ahead.own)
      ]

  none-first : HasNoWaiter (run_number what t) waits at → (ls : List (ℕ × Kind))
      → list_all (λ live. covers waits live.0 (kind_name live.1)) ls ≡ true
      → None ≡ option_map (λ (live : ℕ × Kind). live.0) (find (λ live. waits_for what t live.1) ls)
  none-first none [] all = refl
  none-first none (live ∷ ls) all =
      let parts = and_parts (covers waits live.0 (kind_name live.1)) (list_all (λ l. covers waits l.0 (kind_name l.1)) ls) all in
      by_test (waits_for what t live.1) refl parts.0 (none-first none ls parts.1)
    where
      by_test : (c : Bool) → waits_for what t live.1 ≡ c → covers waits live.0 (kind_name live.1) ≡ true
          → None ≡ option_map (λ (l : ℕ × Kind). l.0) (find (λ l. waits_for what t l.1) ls)
          → None ≡ option_map (λ (l : ℕ × Kind). l.0) (cond c (Some live) (find (λ l. waits_for what t l.1) ls))
      by_test true e covered later = absurd (none-at none live.0 live.1 covered e)
      by_test false e covered later = later

  -- nobody is found where they end
  pub reached-none : HasNoWaiter (run_number what t) waits at → None ≡ first_waiting what t living
  reached-none none = none-first none living reached.noted

module _ (what : Awaited) (t : ℕ) (living : List (ℕ × Kind)) (rising : AreRising living) (waits : List NamedWait) (at : ℕ)
    (reached : Reached what t living waits at) where
  -- a thread that waits for t so is noted from this place on
  noted-ahead : (n : ℕ) (k : Kind) (d : NamedWait) → value_of n living ≡ Some k → waits_for what t k ≡ true → Ahead what t living waits at reached n d
  noted-ahead n k d is here = covered-ahead what t living waits at reached n k d (looked (λ m l. covers waits m (kind_name l)) living reached.noted n k is) here

  module _ (w : NamedWait) (here : HasWaiter (run_number what t) w waits at) where
    for-this : (w.what ≡ what) × (w.of ≡ t)
    for-this = same-run w.what what w.of t here.own

    -- else the one there, if it goes on
    pub reached-first : is_on living w ≡ true → Some w.tid ≡ first_waiting what t living
    reached-first on = first-is (waits_for what t) (Some w.tid) living rising
        (λ m is. let same : w.tid ≡ m = cc in ap (waits_at what t living) (sym same) ∙ waits-so) (λ n k is passes.
        let ahead = noted-ahead n k w is passes in
        record {
          found = w.tid;
          is = refl;
          low = elim (cases_lt at ahead.place) [
            | inl later ↦
                let order = ordered-at waits at ahead.place w reached.ordered later ahead.within in
                let own : (get_or waits at w).tid ≡ w.tid = ap (λ (v : NamedWait). v.tid) (here.here w) in
                let same : run_of (get_or waits at w) ≡ run_of (get_or waits ahead.place w) = ap run_of (here.here w) ∙ here.own ∙ sym ahead.own in
                omega (arith, order.tid same, own, ahead.tid)
            | inr same ↦
                let e : at ≡ ahead.place = omega (arith, same, ahead.from) in
                let tids : w.tid ≡ n = sym (ap (λ (v : NamedWait). v.tid) (here.here w)) ∙ ap (λ i. (get_or waits i w).tid) e ∙ ahead.tid in
                omega (arith, tids)
          ];
        })
      where
        waits-so : waits_at what t living w.tid ≡ true
        waits-so = (rw (for-this.0, for-this.1) at on)

    -- one that waits no longer goes
    pub reached-less : is_on living w ≡ false → Reached what t living (remove waits at) at
    reached-less off = record {
      ordered = AreOrdered-removed waits at here.within reached.ordered;
      noted = noted-left waits (remove waits at) w living rising off
          (λ r n other some. any-removed (is_wait r n) waits at w here.within (ap (is_wait r n) (here.here w) ∙ other) some) reached.noted;
      gap = record {
        within = omega (arith, length-remove waits at here.within, here.within);
        below = λ j d lt. ap (is_before (run_number what t) 0) (get_or-remove_below waits at d j lt here.within) ∙ reached.gap.below j d lt;
        above = λ j d ge lt. ap (is_before (run_number what t) 0) (get_or-remove_above waits at d j ge here.within)
            ∙ reached.gap.above (j + 1) d (omega (arith, ge)) (omega (arith, lt, length-remove waits at here.within));
      };
    }
