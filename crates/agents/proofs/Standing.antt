-- One agent among the others: where it stands, and what a change of it does to the list.
use Rattle.agents.specs.Kept.{IsAgentAt}
use Rattle.lwp_types.specs.Agents.{without_agent}
use Rattle.lwp_types.specs.CountLaws.{count-cons, one}
use Rattle.lwp_types.specs.Messages.{agent_with_holding, with_holding}
use Rattle.lwp_types.specs.State.{agent_numbers, agent_of, is_agent_row, member, rises, without}
use Rattle.lwp_types.specs.declared.rows.AgentRow.{AgentRow}
use Rattle.std.proofs.Common.{Bool, Err, IfNone, IfSome, List, None, Ok, Result, Some, [], ap, arith, cond, count_by, eqb, false, get_or}
use Rattle.std.proofs.Common.{inl, inr, length, ltb, not, refl, set, suc, sym, true, zero, ℕ, ◌++◌, ◌+◌, ◌<◌, ◌∙◌, ◌∷◌, ◌≡◌, ◌≢◌, ◌≤◌}
use Rattle.std.proofs.lemmas.Bool.{and_parts, cases_lt, eq-eqb, eqb-true, ltb-true, ne_eqb, or_right}
use Rattle.std.proofs.lemmas.Bool.Decides.{nat_tests}
use Rattle.std.proofs.lemmas.Cmp.{ranked}
use Rattle.std.specs.List.{filter, list_all, remove}
use Rattle.std.specs.List.Sorted.{IsBinarySearchResult, IsNonDecreasingBy, IsSearchInRange}
use Rattle.std.specs.Ordering.{nat_cmp, ordering_index}
use Rattle.std.specs.Result.{result_ok}

-- what all numbers pass, that at a place passes
number_at : (test : ℕ → Bool) (rows : List AgentRow) (i : ℕ) (d : AgentRow) → list_all test (agent_numbers rows) ≡ true → i < length rows
    → test (get_or rows i d).number ≡ true
number_at test [] i d all within = absurd (omega arith)
number_at test (row ∷ rows) zero d all within = (and_parts (test row.number) (list_all test (agent_numbers rows)) all).0
number_at test (row ∷ rows) (suc i) d all within =
    number_at test rows i d (and_parts (test row.number) (list_all test (agent_numbers rows)) all).1 (omega arith)

-- of agents in birth order: the first, and those after it, which are born later
module _ (row : AgentRow) (rows : List AgentRow) (up : rises (agent_numbers (row ∷ rows)) ≡ true) where
  pub behind_rise : rises (agent_numbers rows) ≡ true
  behind_rise = (and_parts (list_all (λ n. ltb row.number n) (agent_numbers rows)) (rises (agent_numbers rows)) up).1

  pub all_later : list_all (λ n. ltb row.number n) (agent_numbers rows) ≡ true
  all_later = (and_parts (list_all (λ n. ltb row.number n) (agent_numbers rows)) (rises (agent_numbers rows)) up).0

  later_at : (i : ℕ) (d : AgentRow) → i < length rows → row.number < (get_or rows i d).number
  later_at i d within = ltb-true row.number (get_or rows i d).number (number_at (λ n. ltb row.number n) rows i d all_later within)

  -- an agent that has the number of the first
  pub later_than : (a : ℕ) → row.number ≡ a → list_all (λ n. ltb a n) (agent_numbers rows) ≡ true
  later_than a same = ap (λ m. list_all (λ n. ltb m n) (agent_numbers rows)) (sym same) ∙ all_later

-- of two agents the later in the list has the greater number
rising : (rows : List AgentRow) (i j : ℕ) (d : AgentRow) → rises (agent_numbers rows) ≡ true → i < j → j < length rows
    → (get_or rows i d).number < (get_or rows j d).number
rising [] i j d up lt within = absurd (omega arith)
rising (row ∷ rows) zero zero d up lt within = absurd (omega arith)
rising (row ∷ rows) zero (suc j) d up lt within = later_at row rows up j d (omega arith)
rising (row ∷ rows) (suc i) zero d up lt within = absurd (omega arith)
rising (row ∷ rows) (suc i) (suc j) d up lt within = rising rows i j d (behind_rise row rows up) (omega arith) (omega arith)

absent : (a : ℕ) (rows : List AgentRow) → ((i : ℕ) (d : AgentRow) → i < length rows → (get_or rows i d).number ≢ a) → agent_of rows a ≡ None
absent a [] nowhere = refl
absent a (row ∷ rows) nowhere = rw (ne_eqb row.number a (nowhere 0 row (omega arith))) (absent a rows (λ i d within. nowhere (suc i) d (omega arith)))

module _ (rows : List AgentRow) (up : rises (agent_numbers rows) ≡ true) (a : ℕ) where
  -- the agents are sorted by the comparison of their numbers with a
  sorted : IsNonDecreasingBy (λ (row : AgentRow). ordering_index (nat_cmp row.number a)) rows
  sorted i j d le within =
      let numbers_rise : (get_or rows i d).number
      ≤ (get_or rows j d).number = grind (arith, rising rows i j d up, λ (same : i ≡ j). ap (λ k. (get_or rows k d).number) same) in
      grind (arith, nat_tests)

  -- what the search answers: where the agent stands, or that there is none
  pub searched : (r : Result ℕ ℕ) → IsSearchInRange r (length rows) → IsBinarySearchResult (λ (row : AgentRow). nat_cmp row.number a) rows r
      → record { absent : IfNone (result_ok r) (agent_of rows a ≡ None); found : IfSome (result_ok r) (IsAgentAt a rows) }
  searched (Ok at) within equal = record { absent = tt; found = record { within = within; number = λ d. ranked _ a _ (sym (equal d)) } }
  searched (Err at) within parted =
      let smaller = (parted sorted).0 in
      let greater = (parted sorted).1 in
      record {
        absent = absent a rows (λ i d lt same. elim (cases_lt i at) [
          | inl below ↦ omega (arith, ranked _ a _ (sym (smaller i d (omega arith) below)))
          | inr above ↦ omega (arith, ranked _ a _ (sym (greater i d above lt)))
        ]);
        found = tt;
      }

-- ---- nobody of that number

module _ (a : ℕ) where
  later_held : (b : Bool) (rows : List AgentRow) → list_all (λ n. ltb a n) (agent_numbers rows) ≡ true → with_holding a b rows ≡ rows
  later_held b [] all = refl
  later_held b (row ∷ rows) all =
      let parts = and_parts (ltb a row.number) (list_all (λ n. ltb a n) (agent_numbers rows)) all in
      let above : a < row.number = ltb-true a row.number parts.0 in
      rw (ne_eqb row.number a (λ same. omega (arith, same, above)), later_held b rows parts.1) refl

  pub later_kept : (rows : List AgentRow) → list_all (λ n. ltb a n) (agent_numbers rows) ≡ true → without_agent a rows ≡ rows
  later_kept [] all = refl
  later_kept (row ∷ rows) all =
      let parts = and_parts (ltb a row.number) (list_all (λ n. ltb a n) (agent_numbers rows)) all in
      let above : a < row.number = ltb-true a row.number parts.0 in
      rw (ne_eqb row.number a (λ same. omega (arith, same, above))) (ap (λ rest. row ∷ rest) (later_kept rows parts.1))

  pub absent_held : (b : Bool) (rows : List AgentRow) → agent_of rows a ≡ None → rows ≡ with_holding a b rows
  absent_held b [] none = refl
  absent_held b (row ∷ rows) none = by_test (is_agent_row a row) none (absent_held b rows)
    where
      by_test : (t : Bool) → cond t (Some row) (agent_of rows a) ≡ None → (agent_of rows a ≡ None → rows ≡ with_holding a b rows)
          → row ∷ rows ≡ record row { holding = cond t b row.holding } ∷ with_holding a b rows
      by_test true here rest = absurd (cc)
      by_test false other rest = ap (λ ys. row ∷ ys) (rest other)

  pub absent_kept : (rows : List AgentRow) → agent_of rows a ≡ None → rows ≡ without_agent a rows
  absent_kept [] none = refl
  absent_kept (row ∷ rows) none = by_test (is_agent_row a row) none (absent_kept rows)
    where
      by_test : (t : Bool) → cond t (Some row) (agent_of rows a) ≡ None → (agent_of rows a ≡ None → rows ≡ without_agent a rows)
          → row ∷ rows ≡ cond (not t) (row ∷ without_agent a rows) (without_agent a rows)
      by_test true here rest = absurd (cc)
      by_test false other rest = ap (λ ys. row ∷ ys) (rest other)

-- ---- the agent that stands there

pub agent_there : (a : ℕ) (rows : List AgentRow) (i : ℕ) (d : AgentRow) → rises (agent_numbers rows) ≡ true → i < length rows
    → (get_or rows i d).number ≡ a → Some (get_or rows i d) ≡ agent_of rows a
agent_there a [] i d up within here = absurd (omega arith)
agent_there a (row ∷ rows) zero d up within here = rw (eq-eqb row.number a here) refl
agent_there a (row ∷ rows) (suc i) d up within here =
    let later = later_at row rows up i d (omega arith) in
    rw (ne_eqb row.number a (λ same. omega (arith, same, here, later))) (agent_there a rows i d (behind_rise row rows up) (omega arith) here)

pub held_there : (a : ℕ) (b : Bool) (rows : List AgentRow) (i : ℕ) (d : AgentRow) → rises (agent_numbers rows) ≡ true → i < length rows
    → (get_or rows i d).number ≡ a → set rows i (record (get_or rows i d) { holding = b }) ≡ with_holding a b rows
held_there a b [] i d up within here = absurd (omega arith)
held_there a b (row ∷ rows) zero d up within here = rw (eq-eqb row.number a here, later_held a b rows (later_than row rows up a here)) refl
held_there a b (row ∷ rows) (suc i) d up within here =
    let later = later_at row rows up i d (omega arith) in
    rw (ne_eqb row.number a (λ same. omega (arith, same, here, later)))
    (ap (λ rest. row ∷ rest) (held_there a b rows i d (behind_rise row rows up) (omega arith) here))

pub removed_there : (a : ℕ) (rows : List AgentRow) (i : ℕ) (d : AgentRow) → rises (agent_numbers rows) ≡ true → i < length rows
    → (get_or rows i d).number ≡ a → remove rows i ≡ without_agent a rows
removed_there a [] i d up within here = absurd (omega arith)
removed_there a (row ∷ rows) zero d up within here = rw (eq-eqb row.number a here) (sym (later_kept a rows (later_than row rows up a here)))
removed_there a (row ∷ rows) (suc i) d up within here =
    let later = later_at row rows up i d (omega arith) in
    rw (ne_eqb row.number a (λ same. omega (arith, same, here, later)))
    (ap (λ rest. row ∷ rest) (removed_there a rows i d (behind_rise row rows up) (omega arith) here))

-- ---- what counts

module _ (p : AgentRow → Bool) (a : ℕ) where
  -- the agent counts as it is now, where it counted as it was
  pub count-holding : (b : Bool) (rows : List AgentRow) (row : AgentRow) → rises (agent_numbers rows) ≡ true → agent_of rows a ≡ Some row
      → count_by p (with_holding a b rows) + one (p row) ≡ count_by p rows + one (p (record row { holding = b }))
  count-holding b [] row up found = absurd (cc)
  count-holding b (r ∷ rows) row up found = by_test (is_agent_row a r) refl found (count-holding b rows row (behind_rise r rows up))
    where
      by_test : (t : Bool) → is_agent_row a r ≡ t → cond t (Some r) (agent_of rows a) ≡ Some row
          → (agent_of rows a ≡ Some row → count_by p (with_holding a b rows) + one (p row) ≡ count_by p rows + one (p (record row { holding = b })))
          → count_by p (agent_with_holding a b r ∷ with_holding a b rows) + one (p row) ≡ count_by p (r ∷ rows) + one (p (record row { holding = b }))
      by_test true here found rest =
          let first : r ≡ row = cc in
          let set : agent_with_holding a b r ≡ record row { holding = b } = rw (here, first) refl in
          let others = later_held a b rows (later_than r rows up a (eqb-true r.number a here)) in
          omega (
            arith,
            count-cons p (agent_with_holding a b r) (with_holding a b rows),
            count-cons p r rows,
            ap (λ x. one (p x)) set,
            ap (λ x. one (p x)) first,
            ap (count_by p) others,
          )
      by_test false here found rest =
          let set : agent_with_holding a b r ≡ r = rw here refl in
          omega (arith, count-cons p (agent_with_holding a b r) (with_holding a b rows), count-cons p r rows, ap (λ x. one (p x)) set, rest found)

  -- the agent that is gone counts no more
  pub count-without : (rows : List AgentRow) (row : AgentRow) → rises (agent_numbers rows) ≡ true → agent_of rows a ≡ Some row
      → count_by p (without_agent a rows) + one (p row) ≡ count_by p rows
  count-without [] row up found = absurd (cc)
  count-without (r ∷ rows) row up found = by_test (is_agent_row a r) refl found (count-without rows row (behind_rise r rows up))
    where
      by_test : (t : Bool) → is_agent_row a r ≡ t → cond t (Some r) (agent_of rows a) ≡ Some row
          → (agent_of rows a ≡ Some row → count_by p (without_agent a rows) + one (p row) ≡ count_by p rows)
          → count_by p (cond (not t) (r ∷ without_agent a rows) (without_agent a rows)) + one (p row) ≡ count_by p (r ∷ rows)
      by_test true here found rest =
          let first : r ≡ row = cc in
          let others = later_kept a rows (later_than r rows up a (eqb-true r.number a here)) in
          omega (arith, count-cons p r rows, ap (λ x. one (p x)) first, ap (count_by p) others)
      by_test false here found rest = omega (arith, count-cons p r (without_agent a rows), count-cons p r rows, rest found)

-- ---- the numbers of the agents that pass a test

pub numbers-push : (q : AgentRow → Bool) (rows : List AgentRow) (newest : AgentRow)
    → agent_numbers (filter q (rows ++ newest ∷ [])) ≡ agent_numbers (filter q rows) ++ cond (q newest) (newest.number ∷ []) []
numbers-push q [] newest = by_test (q newest)
  where
    by_test : (t : Bool) → agent_numbers (cond t (newest ∷ []) []) ≡ cond t (newest.number ∷ []) []
    by_test true = refl
    by_test false = refl
numbers-push q (row ∷ rows) newest = by_test (q row) (numbers-push q rows newest)
  where
    by_test : (t : Bool) → agent_numbers (filter q (rows ++ newest ∷ [])) ≡ agent_numbers (filter q rows) ++ cond (q newest) (newest.number ∷ []) []
        → agent_numbers (cond t (row ∷ filter q (rows ++ newest ∷ [])) (filter q (rows ++ newest ∷ [])))
        ≡ agent_numbers (cond t (row ∷ filter q rows) (filter q rows)) ++ cond (q newest) (newest.number ∷ []) []
    by_test true rest = ap (λ ns. row.number ∷ ns) rest
    by_test false rest = rest

-- the test doesn't look at whether an agent holds a message
pub numbers-holding : (q : AgentRow → Bool) (a : ℕ) (b : Bool) → ((row : AgentRow) → q (agent_with_holding a b row) ≡ q row)
    → (rows : List AgentRow) → agent_numbers (filter q (with_holding a b rows)) ≡ agent_numbers (filter q rows)
numbers-holding q a b same [] = refl
numbers-holding q a b same (row ∷ rows) = rw (same row) (by_test (q row) (numbers-holding q a b same rows))
  where
    by_test : (t : Bool) → agent_numbers (filter q (with_holding a b rows)) ≡ agent_numbers (filter q rows)
        → agent_numbers (cond t (agent_with_holding a b row ∷ filter q (with_holding a b rows)) (filter q (with_holding a b rows)))
        ≡ agent_numbers (cond t (row ∷ filter q rows) (filter q rows))
    by_test true rest = ap (λ ns. row.number ∷ ns) rest
    by_test false rest = rest

pub numbers-without : (q : AgentRow → Bool) (a : ℕ) (rows : List AgentRow)
    → agent_numbers (filter q (without_agent a rows)) ≡ without a (agent_numbers (filter q rows))
numbers-without q a [] = refl
numbers-without q a (row ∷ rows) = by_tests (is_agent_row a row) refl (q row) refl (numbers-without q a rows)
  where
    by_tests : (k : Bool) → is_agent_row a row ≡ k → (t : Bool) → q row ≡ t
        → agent_numbers (filter q (without_agent a rows)) ≡ without a (agent_numbers (filter q rows))
        → agent_numbers (filter q (cond (not k) (row ∷ without_agent a rows) (without_agent a rows)))
        ≡ without a (agent_numbers (cond t (row ∷ filter q rows) (filter q rows)))
    by_tests true its true f h = rw its h
    by_tests true its false f h = h
    by_tests false its true f h = rw (f, its) (ap (λ ns. row.number ∷ ns) h)
    by_tests false its false f h = rw f h

-- the agent that is gone didn't pass the test
pub numbers-others : (q : AgentRow → Bool) (a : ℕ) (rows : List AgentRow) (row : AgentRow) → rises (agent_numbers rows) ≡ true
    → agent_of rows a ≡ Some row → q row ≡ false → agent_numbers (filter q (without_agent a rows)) ≡ agent_numbers (filter q rows)
numbers-others q a [] row up found fails = refl
numbers-others q a (r ∷ rows) row up found fails = by_test (is_agent_row a r) refl found (numbers-others q a rows row (behind_rise r rows up))
  where
    by_kept : (t : Bool) → agent_numbers (filter q (without_agent a rows)) ≡ agent_numbers (filter q rows)
        → agent_numbers (cond t (r ∷ filter q (without_agent a rows)) (filter q (without_agent a rows)))
        ≡ agent_numbers (cond t (r ∷ filter q rows) (filter q rows))
    by_kept true rest = ap (λ ns. r.number ∷ ns) rest
    by_kept false rest = rest

    by_test : (t : Bool) → is_agent_row a r ≡ t → cond t (Some r) (agent_of rows a) ≡ Some row
        → (agent_of rows a ≡ Some row → q row ≡ false → agent_numbers (filter q (without_agent a rows)) ≡ agent_numbers (filter q rows))
        → agent_numbers (filter q (cond (not t) (r ∷ without_agent a rows) (without_agent a rows))) ≡ agent_numbers (filter q (r ∷ rows))
    by_test true here found rest =
        let first : r ≡ row = cc in
        rw (ap q first ∙ fails, later_kept a rows (later_than r rows up a (eqb-true r.number a here))) refl
    by_test false here found rest = by_kept (q r) (rest found fails)

-- an agent that was found passes the test: its number is among those that do
pub listed_under : (q : AgentRow → Bool) (a : ℕ) (rows : List AgentRow) (row : AgentRow) → agent_of rows a ≡ Some row → q row ≡ true
    → member a (agent_numbers (filter q rows)) ≡ true
listed_under q a [] row found passed = absurd (cc)
listed_under q a (r ∷ rows) row found passed = by_test (is_agent_row a r) refl found (listed_under q a rows row)
  where
    by_kept : (t : Bool) → member a (agent_numbers (filter q rows)) ≡ true → member a (agent_numbers (cond t (r ∷ filter q rows) (filter q rows))) ≡ true
    by_kept true rest = or_right (eqb r.number a) _ rest
    by_kept false rest = rest

    by_test : (t : Bool) → is_agent_row a r ≡ t → cond t (Some r) (agent_of rows a) ≡ Some row
        → (agent_of rows a ≡ Some row → q row ≡ true → member a (agent_numbers (filter q rows)) ≡ true) → member a (agent_numbers (filter q (r ∷ rows))) ≡ true
    by_test true here found rest =
        let first : r ≡ row = cc in
        rw (ap q first ∙ passed, here) refl
    by_test false here found rest = by_kept (q r) (rest found passed)
