-- Loops that tell what a list holds, one by one.
use Rattle.lwp_types.specs.Choice.{better_by}
use Rattle.lwp_types.specs.State.{State, member}
use Rattle.snapshots.specs.Copies.{row_in, state_in}
use Rattle.snapshots.specs.declared.pod.StateCopy.{StateCopy}
use Rattle.snapshots.specs.declared.pod.ThreadCopy.{ThreadCopy}
use Rattle.pod_events.specs.Events.{EventState, is_takeable}
use Rattle.state_text.specs.Covers.{IsCovered}
use Rattle.state_text.specs.Keys.{IsAbsent}
use Rattle.state_text.specs.Text.{is_wanted, taken_of}
use Rattle.state_text.specs.Waiting.{cycle_from, cycles, next_of}
use Rattle.state_text.specs.declared.clients.ClientLines.{ClientLines}
use Rattle.std.proofs.Common.{Bool, List, None, Option, Some, [], ap, append-nil, append_assoc, arith, cond, drop, false, get_or}
use Rattle.std.proofs.Common.{length, ltb, map, refl, suc, sym, true, ℕ, ◌&&◌, ◌++◌, ◌+◌, ◌<◌, ◌∙◌, ◌∷◌, ◌||◌, ◌≡◌, ◌≤◌}
use Rattle.std.proofs.lemmas.Bool.{false≢true}
use Rattle.std.proofs.lemmas.List.{at_drop_all, at_drop_more, length-map}
use Rattle.std.proofs.lemmas.List.Folds.{flat_map-map}
use Rattle.std.specs.List.{flat_map, fold}
use Rattle.std.specs.Prelude.{is_some, option_to_list}

-- a list whose entries are told with their places
module _ {X A : Type 0} (F : ℕ → List X → List A) (g : ℕ → X → List A) (none : (n : ℕ) → F n [] ≡ [])
    (one : (n : ℕ) (x : X) (xs : List X) → F n (x ∷ xs) ≡ g n x ++ F (n + 1) xs) (out end : List A) (xs : List X) (i : ℕ)
    (all : out ++ F i (drop i xs) ≡ end) where
  -- one more is told
  pub place_more : (next : List A) (d : X) → i < length xs → next ≡ out ++ g i (get_or xs i d) → next ++ F (i + 1) (drop (i + 1) xs) ≡ end
  place_more next d lt put =
      let rest = F (i + 1) (drop (i + 1) xs) in
      rw put
      (append_assoc out (g i (get_or xs i d)) rest
      ∙ ap (λ l. out ++ l) (sym (one i (get_or xs i d) (drop (i + 1) xs)))
      ∙ sym (at_drop_more (λ l. out ++ F i l) xs i d lt)
      ∙ all)

  -- there is no other
  pub place_all : length xs ≤ i → out ≡ end
  place_all ge = sym (append-nil out) ∙ ap (λ l. out ++ l) (sym (none i)) ∙ sym (at_drop_all (λ l. out ++ F i l) xs i ge) ∙ all

-- the best of a list
module _ (weight : ℕ → ℕ) (best end : Option ℕ) (ts : List ℕ) (i : ℕ) (all : fold (better_by weight) best (drop i ts) ≡ end) where
  pub best_more : (d next : ℕ) → i < length ts → Some next ≡ better_by weight best (get_or ts i d) → fold (better_by weight) (Some next) (drop (i + 1) ts) ≡ end
  best_more d next lt is = ap (λ b. fold (better_by weight) b (drop (i + 1) ts)) is ∙ sym (at_drop_more (λ l. fold (better_by weight) best l) ts i d lt) ∙ all

  pub best_all : length ts ≤ i → best ≡ end
  best_all ge = sym (at_drop_all (λ l. fold (better_by weight) best l) ts i ge) ∙ all

-- whether a client has a line that can be taken
module _ (es : EventState) (taken : List ℕ) (end : Bool) (clients : List ClientLines) (i : ℕ) (all : is_wanted es taken i (drop i clients) ≡ end) where
  abbrev wants : ClientLines → Bool
  wants client = ltb (taken_of taken i) client.posts && is_takeable es client.event

  split : (d : ClientLines) → i < length clients → wants (get_or clients i d) || is_wanted es taken (i + 1) (drop (i + 1) clients) ≡ end
  split d lt = sym (at_drop_more (λ l. is_wanted es taken i l) clients i d lt) ∙ all

  pub wanted_more : (d : ClientLines) → i < length clients → wants (get_or clients i d) ≡ false → is_wanted es taken (i + 1) (drop (i + 1) clients) ≡ end
  wanted_more d lt test = rw test at (split d lt)

  pub wanted_here : (d : ClientLines) → i < length clients → wants (get_or clients i d) ≡ true → true ≡ end
  wanted_here d lt test = rw test at (split d lt)

  pub wanted_all : length clients ≤ i → false ≡ end
  wanted_all ge = sym (at_drop_all (λ l. is_wanted es taken i l) clients i ge) ∙ all

-- the cycles that begin with these threads
abbrev pub cycles_from : State → List ThreadCopy → List (List ℕ)
cycles_from s rows = flat_map (λ row. option_to_list (cycle_from s row.number)) rows

pub cycles_of : (copy : StateCopy) → cycles (state_in copy) ≡ cycles_from (state_in copy) copy.threads
cycles_of copy = flat_map-map (λ row. option_to_list (cycle_from (state_in copy) row.number)) row_in copy.threads

-- a key that comes nowhere is no member
not_member : (found : List ℕ) (t : ℕ) → IsAbsent found t 0 (length found) → member t found ≡ false
not_member [] t absent = refl
not_member (x ∷ xs) t absent = rw (absent 0 (omega arith) (omega arith)) (not_member xs t (λ j ge lt. absent (suc j) (omega arith) (omega (arith, lt))))

pub as_many : (copy : StateCopy) → length (map row_in copy.threads) ≡ length copy.threads
as_many copy = length-map copy.threads row_in

module _ (copy : StateCopy) (found : List ℕ) (t : ℕ) (covered : IsCovered (next_of (state_in copy)) (length copy.threads) found t) where
  -- who is not among those found is the least of no cycle
  pub no_cycle : IsAbsent found t 0 (length found) → cycle_from (state_in copy) t ≡ None
  no_cycle absent = by_option (cycle_from (state_in copy) t)
      (λ h. false≢true (sym (not_member found t absent) ∙ covered t (length copy.threads) (omega arith) (rw (← as_many copy) h) (rw (← as_many copy) h)))
    where
      by_option : (o : Option (List ℕ)) → (is_some o ≡ true → ⊥) → o ≡ None
      by_option None no_such = refl
      by_option (Some us) no_such = absurd (no_such refl)

-- cycles, row by row
module _ (s : State) (found end : List (List ℕ)) (rows : List ThreadCopy) (i : ℕ) (all : found ++ cycles_from s (drop i rows) ≡ end) where
  -- no cycle begins with this thread
  pub cycle_none : (d : ThreadCopy) → i < length rows → cycle_from s (get_or rows i d).number ≡ None → found ++ cycles_from s (drop (i + 1) rows) ≡ end
  cycle_none d lt none =
      ap (λ o. found ++ (option_to_list o ++ cycles_from s (drop (i + 1) rows))) (sym none)
      ∙ sym (at_drop_more (λ l. found ++ cycles_from s l) rows i d lt)
      ∙ all

  -- a cycle begins with this thread
  pub cycle_one : (d : ThreadCopy) (cycle : List ℕ) (next : List (List ℕ)) → i < length rows
      → cycle_from s (get_or rows i d).number ≡ Some cycle → next ≡ found ++ cycle ∷ [] → next ++ cycles_from s (drop (i + 1) rows) ≡ end
  cycle_one d cycle next lt one put =
      let rest = cycles_from s (drop (i + 1) rows) in
      rw put
      (append_assoc found (cycle ∷ []) rest
      ∙ ap (λ o. found ++ (option_to_list o ++ rest)) (sym one)
      ∙ sym (at_drop_more (λ l. found ++ cycles_from s l) rows i d lt)
      ∙ all)

  pub cycle_all : length rows ≤ i → found ≡ end
  cycle_all ge = sym (append-nil found) ∙ sym (at_drop_all (λ l. found ++ cycles_from s l) rows i ge) ∙ all
