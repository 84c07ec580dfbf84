-- How cycles are found: each thread is followed once.
use Rattle.lwp_types.specs.State.{member}
use Rattle.state_text.specs.Covers.{AreCovered, AreDone, HasAll, IsCovered, IsLeastFrom, Leads, comes, is_unseen}
use Rattle.state_text.specs.Keys.{key_at}
use Rattle.state_text.specs.Waiting.{round, round_by}
use Rattle.std.proofs.Common.{Bool, List, None, Option, Some, [], ap, arith, cond, eqb, false, get_or, inl, inr, length, ltb}
use Rattle.std.proofs.Common.{refl, replicate, set, suc, sym, true, zero, ℕ, ◌++◌, ◌+◌, ◌<◌, ◌∙◌, ◌∷◌, ◌||◌, ◌≡◌, ◌⊎◌, ◌≤◌}
use Rattle.std.proofs.lemmas.Bool.{cases_lt, eq-eqb, eqb-true, false≢true, ltb-false}
use Rattle.std.proofs.lemmas.Bool.Decides.{eqb_tells}
use Rattle.std.proofs.lemmas.List.{get_or-replicate, get_or-set_other, get_or-set_same, length-replicate, length-set}
use Rattle.std.specs.List.{list_any}
use Rattle.std.specs.Prelude.{Err, IfOk, Ok, Result, is_some, min, option_map}

mapped : {A B : Type 0} (f : A → B) (o : Option A) → is_some (option_map f o) ≡ true → is_some o ≡ true
mapped f None h = absurd (false≢true h)
mapped f (Some x) h = refl

-- a thread that m comes from goes on to m, or to another that m comes from
pub record Step (next : ℕ → Option ℕ) (m n here u : ℕ) : Type 0 where
  pub left : ℕ
  pub is : suc left ≡ n
  pub least : m ≤ here
  pub goes : (u ≡ m) ⊎ (comes next m left u ≡ true)

-- m comes from here, sooner or later
pub record Comes (next : ℕ → Option ℕ) (m here : ℕ) : Type 0 where
  pub steps : ℕ
  pub so : comes next m steps here ≡ true

module _ (next : ℕ → Option ℕ) where
  -- nobody comes from where nobody is waited for
  pub ends_here : (m n here : ℕ) → next here ≡ None → comes next m n here ≡ true → ⊥
  ends_here m zero here none h = false≢true h
  ends_here m (suc n) here none h = by_less (ltb here m) (rw none at h)
    where
      by_less : (b : Bool) → is_some (cond b None (round_by (round next m n) m here None)) ≡ true → ⊥
      by_less true g = false≢true g
      by_less false g = false≢true g

  pub goes_on : (m n here u : ℕ) → next here ≡ Some u → comes next m n here ≡ true → Step next m n here u
  goes_on m zero here u is h = absurd (false≢true h)
  goes_on m (suc n) here u is h = by_less (ltb here m) refl (rw is at h)
    where
      by_same : (b : Bool) → eqb u m ≡ b → is_some (cond b (Some (here ∷ [])) (option_map (λ us. here ∷ us) (round next m n u))) ≡ true
          → (u ≡ m) ⊎ (comes next m n u ≡ true)
      by_same true e g = inl (eqb-true u m e)
      by_same false e g = inr (mapped (λ us. here ∷ us) (round next m n u) g)

      by_less : (b : Bool) → ltb here m ≡ b → is_some (cond b None (round_by (round next m n) m here (Some u))) ≡ true → Step next m (suc n) here u
      by_less true e g = absurd (false≢true g)
      by_less false e g = record { left = n; is = refl; least = ltb-false here m e; goes = by_same (eqb u m) refl g }

  -- m is not greater than one that it comes from
  pub not_less : (m n here : ℕ) → comes next m n here ≡ true → m ≤ here
  not_less m zero here h = absurd (false≢true h)
  not_less m (suc n) here h = by_less (ltb here m) refl h
    where
      by_less : (b : Bool) → ltb here m ≡ b → is_some (cond b None (round_by (round next m n) m here (next here))) ≡ true → m ≤ here
      by_less true e g = absurd (false≢true g)
      by_less false e g = ltb-false here m e

  module _ (many : ℕ) where
    -- it is so from one that goes on to another from which it is so
    pub covers_back : (found : List ℕ) (here u : ℕ) → next here ≡ Some u → IsCovered next many found u → IsCovered next many found here
    covers_back found here u is covered m n few back h =
        let step = goes_on m n here u is h in
        elim step.goes [
          | inl same ↦ covered m many (omega arith) back (ap (comes next m many) same ∙ back)
          | inr more ↦ covered m step.left (omega (arith, few, step.is)) back more
        ]

    pub covers_end : (found : List ℕ) (here : ℕ) → next here ≡ None → IsCovered next many found here
    covers_end found here none m n few back h = absurd (ends_here m n here none h)

    pub covers_more : (found more : List ℕ) → HasAll more found → (here : ℕ) → IsCovered next many found here → IsCovered next many more here
    covers_more found more all here covered m n few back h = all m (covered m n few back h)

    module _ (keys : List ℕ) where
      -- a way begins
      pub leads_on : (colours : List ℕ) (start : ℕ) → Leads next many keys colours colours start start
      leads_on colours start found more was all covered = ((λ p lt seen. covers_more found more all (key_at keys p) (was p lt seen)), covered)

      module _ (old new : List ℕ) (start here place colour : ℕ) (leads : Leads next many keys old new start here) (at : key_at keys place ≡ here) where
        set_seen : (found : List ℕ) → IsCovered next many found here → AreCovered next many keys new found
            → AreCovered next many keys (set new place colour) found
        set_seen found covered was p lt seen = elim (eqb_tells p place) [
          | inl same ↦ ap_to (sym at ∙ ap (λ q. key_at keys q) (sym same.1)) covered
          | inr other ↦ was p (omega (arith, lt, length-set new place colour)) (ap (λ c. eqb c 0) (sym (get_or-set_other new place p colour 0 other.1)) ∙ seen)
        ]
          where
            ap_to : {a b : ℕ} → a ≡ b → IsCovered next many found a → IsCovered next many found b
            ap_to e c = rw (← e) c

        -- one more on the way is seen, and nobody is waited for there
        pub leads_end : next here ≡ None → (found : List ℕ) → AreCovered next many keys old found → AreDone next many keys start (set new place colour) found
        leads_end none found was =
            let done = leads found found was (λ m h. h) (covers_end found here none) in
            (set_seen found (covers_end found here none) done.0, done.1)

        -- one more is seen, and it goes on
        pub leads_further : (u : ℕ) → next here ≡ Some u → Leads next many keys old (set new place colour) start u
        leads_further u is found more was all covered =
            let back = covers_back more here u is covered in
            let done = leads found more was all back in
            (set_seen more back done.0, done.1)

    -- the least of a cycle: what is known on the way
    pub record Least (start i here least : ℕ) : Type 0 where
      pub starts : least ≤ start
      pub misses : (m n : ℕ) → n ≤ many → comes next m n start ≡ true → (least ≤ m) ⊎ ((k : ℕ) × (k + i ≡ n) × (comes next m k here ≡ true))
      pub holds : (m n : ℕ) → comes next m many m ≡ true → comes next m n start ≡ true → (m ≤ least) × Comes next m here

    pub least_starts : (start : ℕ) → Least start 0 start start
    least_starts start = record {
      starts = omega arith;
      misses = λ m n few h. inr (n, omega arith, h);
      holds = λ m n back h. (not_less m n start h, record { steps = n; so = h });
    }

    module _ (start i here least : ℕ) (was : Least start i here least) where
      pub least_on : (u : ℕ) → next here ≡ Some u → Least start (i + 1) u (min least u)
      least_on u is = record {
        starts = omega (arith, was.starts);
        misses = λ m n few h. elim (was.misses m n few h) [
          | inl less ↦ inl (omega (arith, less))
          | inr far ↦
              let step = goes_on m far.0 here u is far.2 in
              elim step.goes [
                | inl same ↦ inl (omega (arith, same))
                | inr more ↦ inr (step.left, omega (arith, step.is, far.1), more)
              ]
        ];
        holds = λ m n back h.
            let far = was.holds m n back h in
            let step = goes_on m far.1.steps here u is far.1.so in
            elim step.goes [
              | inl same ↦ (omega (arith, same, far.0), record { steps = many; so = ap (comes next m many) same ∙ back })
              | inr more ↦ (omega (arith, far.0, not_less m step.left u more), record { steps = step.left; so = more })
            ];
      }

      pub least_ends : next here ≡ None → IsLeastFrom next many start least
      least_ends none m n few back h =
          let far = was.holds m n back h in
          absurd (ends_here m far.1.steps here none far.1.so)

      pub least_spent : many ≤ i → IsLeastFrom next many start least
      least_spent over m n few back h = elim (was.misses m n few h) [
        | inl less ↦ omega (arith, less, (was.holds m n back h).0)
        | inr far ↦
            let none : far.0 ≡ 0 = omega (arith, over, few, far.1) in
            absurd (false≢true (ap (λ k. comes next m k here) (sym none) ∙ far.2))
      ]

      module _ (closes : next here ≡ Some start) where
        no_more : (fuel m n : ℕ) → n ≤ fuel → n ≤ many → comes next m n start ≡ true → least ≤ m
        no_more zero m n le few h =
            let none : n ≡ 0 = omega (arith, le) in
            absurd (false≢true (ap (λ k. comes next m k start) (sym none) ∙ h))
        no_more (suc fuel) m n le few h = elim (was.misses m n few h) [
          | inl less ↦ less
          | inr far ↦
              let step = goes_on m far.0 here start closes far.2 in
              elim step.goes [
                | inl same ↦ omega (arith, same, was.starts)
                | inr more ↦ no_more fuel m step.left (omega (arith, le, step.is, far.1)) (omega (arith, few, step.is, far.1)) more
              ]
        ]

        pub least_closes : IsLeastFrom next many start least
        least_closes m n few back h = omega (arith, no_more n m n (omega arith) few h, (was.holds m n back h).0)

    -- one more is found: the least of the cycle that one comes into from here
    pub found_least : (found : List ℕ) (start least : ℕ) → IsLeastFrom next many start least → IsCovered next many (found ++ least ∷ []) start
    found_least found start least is m n few back h = pushed found m least (is m n few back h)
      where
        pushed : (xs : List ℕ) (m x : ℕ) → x ≡ m → member m (xs ++ x ∷ []) ≡ true
        pushed [] m x e = rw (eq-eqb x m e) refl
        pushed (y ∷ ys) m x e = by_test (eqb y m) (pushed ys m x e)
          where
            by_test : (b : Bool) → member m (ys ++ x ∷ []) ≡ true → b || member m (ys ++ x ∷ []) ≡ true
            by_test true rest = refl
            by_test false rest = rest

    pub keeps_all : (found : List ℕ) (x : ℕ) → HasAll (found ++ x ∷ []) found
    keeps_all [] x m h = absurd (false≢true h)
    keeps_all (y ∷ ys) x m h = by_test (eqb y m) h (keeps_all ys x m)
      where
        by_test : (b : Bool) → b || member m ys ≡ true → (member m ys ≡ true → member m (ys ++ x ∷ []) ≡ true) → b || member m (ys ++ x ∷ []) ≡ true
        by_test true was rest = refl
        by_test false was rest = rest was

-- a way is being followed
pub record Following (next : ℕ → Option ℕ) (many : ℕ) (keys old new : List ℕ) (colour start here : ℕ) : Type 0 where
  pub places : length new ≡ length old
  -- it is so from each that had been seen before
  pub before : (found : List ℕ) → AreCovered next many keys old found → (p : ℕ) → p < length new → is_unseen new p ≡ false
      → eqb (get_or new p 0) colour ≡ false → IsCovered next many found (key_at keys p)
  pub leads : Leads next many keys old new start here

module _ (next : ℕ → Option ℕ) (many : ℕ) (keys old : List ℕ) (colour start : ℕ) where
  pub begins : Following next many keys old old colour start start
  begins = record {
    places = refl;
    before = λ found was p lt seen other. was p lt seen;
    leads = leads_on next many keys old start;
  }

  module _ (new : List ℕ) (here : ℕ) (way : Following next many keys old new colour start here) where
    -- nobody is waited for
    pub stops : next here ≡ None → (found : List ℕ) → AreCovered next many keys old found → AreDone next many keys start new found
    stops none found was = way.leads found found was (λ m h. h) (covers_end next many found here none)

    module _ (place : ℕ) (within : place < length new) (at : key_at keys place ≡ here) where
      -- one comes to somebody who had been seen before
      pub meets : is_unseen new place ≡ false → eqb (get_or new place 0) colour ≡ false → (found : List ℕ)
          → AreCovered next many keys old found → AreDone next many keys start new found
      meets seen other found was =
          let here_covered : IsCovered next many found here = rw (← at) (way.before found was place within seen other) in
          way.leads found found was (λ m h. h) here_covered

      -- one more is seen, and it goes on
      pub further : (u : ℕ) → next here ≡ Some u → Following next many keys old (set new place colour) colour start u
      further u is = record {
        places = length-set new place colour ∙ way.places;
        before = λ found was p lt seen other. elim (eqb_tells p place) [
          | inl same
              ↦ absurd (false≢true (sym other
              ∙ eq-eqb (get_or (set new place colour) p 0) colour
              (ap (λ q. get_or (set new place colour) q 0) same.1 ∙ get_or-set_same new place colour 0 within)))
          | inr apart ↦
              let kept = get_or-set_other new place p colour 0 apart.1 in
              way.before found was p (omega (arith, lt, length-set new place colour)) (ap (λ c. eqb c 0) (sym kept) ∙ seen)
              (ap (λ c. eqb c colour) (sym kept) ∙ other)
        ];
        leads = leads_further next many keys old new start here place colour way.leads at u is;
      }

-- all threads up to a place were followed
pub record Found (next : ℕ → Option ℕ) (many : ℕ) (keys : List ℕ) (i : ℕ) (colours found : List ℕ) : Type 0 where
  pub places : length colours ≡ many
  pub covered : AreCovered next many keys colours found
  pub done : (j : ℕ) → j < i → IsCovered next many found (key_at keys j)

module _ (next : ℕ → Option ℕ) (many : ℕ) (keys : List ℕ) where
  -- at first nobody is seen
  pub none_found : Found next many keys 0 (replicate many 0) []
  none_found = record {
    places = length-replicate {A = ℕ} many 0;
    covered = λ p lt seen.
        absurd (false≢true (sym seen ∙ ap (λ c. eqb c 0) (get_or-replicate many p 0 0 (omega (arith, lt, length-replicate {A = ℕ} many 0)))));
    done = λ j lt. absurd (omega (arith, lt));
  }

  module _ (i : ℕ) (colours found : List ℕ) (was : Found next many keys i colours found) (start : ℕ) (at : key_at keys i ≡ start)
      (new : List ℕ) (kept : length new ≡ length colours) where
    done_next : (more : List ℕ) → HasAll more found → IsCovered next many more start → (j : ℕ) → j < i + 1 → IsCovered next many more (key_at keys j)
    done_next more all covered j lt = elim (cases_lt j i) [
      | inl before ↦ covers_more next many found more all (key_at keys j) (was.done j before)
      | inr after ↦
          let same : j ≡ i = omega (arith, lt, after) in
          rw (same, at) covered
    ]

    -- a way led to nothing that is not known
    pub nothing_new : ((found : List ℕ) → AreCovered next many keys colours found → AreDone next many keys start new found)
        → Found next many keys (i + 1) new found
    nothing_new done =
        let all = done found was.covered in
        record { places = kept ∙ was.places; covered = all.0; done = done_next found (λ m h. h) all.1 }

    -- a way led into a cycle, of which the least is found
    pub one_new : (to least : ℕ) → Leads next many keys colours new start to → IsLeastFrom next many to least
        → Found next many keys (i + 1) new (found ++ least ∷ [])
    one_new to least leads is =
        let more = found ++ least ∷ [] in
        let all = leads found more was.covered (keeps_all next many found least) (found_least next many found to least is) in
        record { places = kept ∙ was.places; covered = all.0; done = done_next more (keeps_all next many found least) all.1 }

-- what follows of a value that is there
pub if_ok : {A E : Type 0} (P Q : A → Type 0) (r : Result A E) → IfOk r P → ((a : A) → P a → Q a) → IfOk r Q
if_ok P Q (Ok a) h more = more a h
if_ok P Q (Err e) h more = tt
