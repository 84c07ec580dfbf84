-- Each call keeps the invariant of the fields of `Agents`.
use Rattle.agents.proofs.Standing.{count-holding, count-without, listed_under, numbers-holding, numbers-others, numbers-push, numbers-without}
use Rattle.agents.proofs.Words.{tally-none}
use Rattle.agents.specs.Board.{is_ready, no_tally, tally_at}
use Rattle.agents.specs.Index.{Entries, Puts, numbers_under}
use Rattle.agents.specs.Kept.{IsIndexed, IsKept, IsTallied, holds_for, tally_in}
use Rattle.agents.specs.Roster.{Roster, after_create, after_destroy, after_hold, after_release, first_of, is_idle, is_listed, no_agents, without_found}
use Rattle.agents.specs.declared.board.Tally.{Tally}
use Rattle.agents.specs.declared.index.Entry.{Entry}
use Rattle.lwp_types.specs.Agents.{belongs_to, is_armed, is_for, new_agent, without_agent}
use Rattle.lwp_types.specs.CountLaws.{count-cons, count-push, count_found_by, count_not_found, one}
use Rattle.lwp_types.specs.Messages.{agent_with_holding, with_holding}
use Rattle.lwp_types.specs.State.{agent_numbers, agent_of, all_below, is_agent_row, is_empty, member, passes, rises, without}
use Rattle.lwp_types.specs.declared.rows.AgentRow.{AgentRow}
use Rattle.std.proofs.Common.{Bool, IfNone, IfSome, List, None, Option, Some, [], ap, arith, cond, count_by, eqb, false, inl, inr, is_some, length, ltb}
use Rattle.std.proofs.Common.{not, option_map, refl, replicate, set, slice_get, sym, true, ℕ, ◌&&◌, ◌++◌, ◌+◌, ◌-◌, ◌<◌, ◌∙◌, ◌∷◌, ◌≡◌, ◌≢◌, ◌≤◌, ◌⊎◌}
use Rattle.std.proofs.lemmas.Bool.{and_parts, cases_eq, cases_lt, eq-eqb, ne_eqb}
use Rattle.std.proofs.lemmas.List.{append-nil, get_or-set_other, get_or-set_same, get_or_past, length-map}
use Rattle.std.proofs.lemmas.List.{length-replicate, length-set, length_push, map-append}
use Rattle.std.proofs.lemmas.List.Folds.{list_all-append}
use Rattle.std.specs.List.{filter, find, list_all}
use Rattle.std.specs.Slice.Scan.{HoldsNowhere, IsFirstPlace}

-- ---- birth order

-- the numbers of some of the agents pass where those of all do
pub numbers-filter : (test : ℕ → Bool) (keeps : AgentRow → Bool) (rows : List AgentRow) → list_all test (agent_numbers rows) ≡ true
    → list_all test (agent_numbers (filter keeps rows)) ≡ true
numbers-filter test keeps [] all = refl
numbers-filter test keeps (row ∷ rows) all =
    let parts = and_parts (test row.number) (list_all test (agent_numbers rows)) all in
    by_test (keeps row) parts.0 (numbers-filter test keeps rows parts.1)
  where
    by_test : (b : Bool) → test row.number ≡ true → list_all test (agent_numbers (filter keeps rows)) ≡ true
        → list_all test (agent_numbers (cond b (row ∷ filter keeps rows) (filter keeps rows))) ≡ true
    by_test true here rest = rw here rest
    by_test false here rest = rest

rises-filter : (keeps : AgentRow → Bool) (rows : List AgentRow) → rises (agent_numbers rows) ≡ true → rises (agent_numbers (filter keeps rows)) ≡ true
rises-filter keeps [] up = refl
rises-filter keeps (row ∷ rows) up =
    let parts = and_parts (list_all (λ n. ltb row.number n) (agent_numbers rows)) (rises (agent_numbers rows)) up in
    by_test (keeps row) (numbers-filter (λ n. ltb row.number n) keeps rows parts.0) (rises-filter keeps rows parts.1)
  where
    by_test : (b : Bool) → list_all (λ n. ltb row.number n) (agent_numbers (filter keeps rows)) ≡ true
        → rises (agent_numbers (filter keeps rows)) ≡ true → rises (agent_numbers (cond b (row ∷ filter keeps rows) (filter keeps rows))) ≡ true
    by_test true above rest = rw above rest
    by_test false above rest = rest

rises-push : (ns : List ℕ) (n : ℕ) → rises ns ≡ true → all_below n ns ≡ true → rises (ns ++ n ∷ []) ≡ true
rises-push [] n up below = refl
rises-push (m ∷ ns) n up below =
    let parts = and_parts (list_all (λ k. ltb m k) ns) (rises ns) up in
    let under = and_parts (ltb m n) (all_below n ns) below in
    rw (list_all-append (λ k. ltb m k) ns (n ∷ []), parts.0, under.0) (rises-push ns n parts.1 under.1)

numbers-held : (a : ℕ) (b : Bool) (rows : List AgentRow) → agent_numbers (with_holding a b rows) ≡ agent_numbers rows
numbers-held a b [] = refl
numbers-held a b (row ∷ rows) = ap (λ ns. row.number ∷ ns) (numbers-held a b rows)

-- ---- the agents under a key

module _ (key : AgentRow → ℕ) {rows : List AgentRow} {es : List Entry} (was : IsIndexed key rows es) where
  pub IsIndexed-joined : (newest : AgentRow) (after : List Entry)
      → Puts es after (key newest) (numbers_under (key newest) es ++ newest.number ∷ []) → length after ≡ length es + 1
      → IsIndexed key (rows ++ newest ∷ []) after
  IsIndexed-joined newest after puts len = record {
    each = λ k. by_key k (cases_eq (key newest) k) ∙ sym (numbers-push (λ row. eqb (key row) k) rows newest);
    all = omega (arith, len, was.all, length_push rows newest);
  }
    where
      by_key : (k : ℕ) → (key newest ≡ k) ⊎ (key newest ≢ k)
          → numbers_under k after ≡ agent_numbers (filter (λ row. eqb (key row) k) rows) ++ cond (eqb (key newest) k) (newest.number ∷ []) []
      by_key k (inl same) = rw (eq-eqb (key newest) k same) (ap (λ j. numbers_under j after) (sym same) ∙ puts.here
          ∙ ap (λ j. numbers_under j es ++ newest.number ∷ []) same ∙ ap (λ ns. ns ++ newest.number ∷ []) (was.each k))
      by_key k (inr apart) = rw (ne_eqb (key newest) k apart)
          (puts.others k (λ same. apart (sym same)) ∙ was.each k ∙ sym (append-nil (agent_numbers (filter (λ row. eqb (key row) k) rows))))

  pub IsIndexed-left : (a : ℕ) (row : AgentRow) (after : List Entry) → rises (agent_numbers rows) ≡ true → agent_of rows a ≡ Some row
      → Puts es after (key row) (without a (numbers_under (key row) es)) → length after + 1 ≡ length es
      → length (without_agent a rows) + 1 ≡ length rows → IsIndexed key (without_agent a rows) after
  IsIndexed-left a row after up found puts len fewer = record {
    each = λ k. by_key k (cases_eq (key row) k);
    all = omega (arith, len, was.all, fewer);
  }
    where
      by_key : (k : ℕ) → (key row ≡ k) ⊎ (key row ≢ k) → numbers_under k after ≡ agent_numbers (filter (λ r. eqb (key r) k) (without_agent a rows))
      by_key k (inl same) =
          ap (λ j. numbers_under j after) (sym same) ∙ puts.here ∙ ap (λ j. without a (numbers_under j es)) same
          ∙ ap (without a) (was.each k) ∙ sym (numbers-without (λ r. eqb (key r) k) a rows)
      by_key k (inr apart) = puts.others k (λ same. apart (sym same)) ∙ was.each k
          ∙ sym (numbers-others (λ r. eqb (key r) k) a rows row up found (ne_eqb (key row) k apart))

  pub IsIndexed-holding : (a : ℕ) (b : Bool) → ((row : AgentRow) → key (agent_with_holding a b row) ≡ key row) → IsIndexed key (with_holding a b rows) es
  IsIndexed-holding a b same = record {
    each = λ k. was.each k ∙ sym (numbers-holding (λ row. eqb (key row) k) a b (λ row. ap (λ n. eqb n k) (same row)) rows);
    all = was.all ∙ sym (length-map rows (agent_with_holding a b));
  }

-- ---- the tallies

length_counted : (rows : List AgentRow) → count_by (λ (row : AgentRow). true) rows ≡ length rows
length_counted [] = refl
length_counted (row ∷ rows) = omega (arith, count-cons (λ (r : AgentRow). true) row rows, length_counted rows)

tally_same : (a b c d : ℕ) → a ≡ c → b ≡ d → ◌≡◌ {A = Tally} (record { agents = a; holding = b }) (record { agents = c; holding = d })
tally_same a b c d first second = cc

one_other : (e k : ℕ) (b : Bool) → e ≢ k → one (eqb e k && b) ≡ 0
one_other e k b apart = rw (ne_eqb e k apart) refl

-- the tally of one event changes, and those of the others stay
tallied-put : (rows now : List AgentRow) (board : List Tally) (e : ℕ) (tally : Tally) → IsTallied rows board → e < length board
    → tally ≡ tally_in now e → ((k : ℕ) → e ≢ k → tally_in now k ≡ tally_in rows k) → IsTallied now (set board e tally)
tallied-put rows now board e tally was within here others k = by_event (cases_eq e k)
  where
    by_event : (e ≡ k) ⊎ (e ≢ k) → tally_at (set board e tally) k ≡ tally_in now k
    by_event (inl same) = ap (tally_at (set board e tally)) (sym same) ∙ get_or-set_same board e tally no_tally within ∙ here ∙ ap (tally_in now) same
    by_event (inr apart) = get_or-set_other board e k tally no_tally (λ same. apart (sym same)) ∙ was k ∙ sym (others k apart)

low_found : (rows : List AgentRow) (board : List Tally) (a : ℕ) (row : AgentRow) → IsTallied rows board → agent_of rows a ≡ Some row → row.event < length board
low_found rows board a row was found = by_cases (cases_lt row.event (length board))
  where
    by_cases : (row.event < length board) ⊎ (length board ≤ row.event) → row.event < length board
    by_cases (inl low) = low
    by_cases (inr high) =
        let none : 0 ≡ count_by (is_for row.event) rows = ap (λ (t : Tally). t.agents) (sym (get_or_past board row.event no_tally high) ∙ was row.event) in
        let some = count_found_by (is_agent_row a) (is_for row.event) rows row found (eq-eqb row.event row.event refl) in
        absurd (omega (arith, none, some))

-- ---- what can be delivered

nothing_added : (n : ℕ) → n ≡ 0 + n
nothing_added n = omega arith

one_more : (n : ℕ) → eqb (1 + n) 0 ≡ false
one_more n = ne_eqb (1 + n) 0 (λ same. omega (arith, same))

some_pass : (p : AgentRow → Bool) (rows : List AgentRow) → not (is_empty (filter p rows)) ≡ not (eqb (count_by p rows) 0)
some_pass p [] = refl
some_pass p (row ∷ rows) = rw (count-cons p row rows) (by_test (p row) (some_pass p rows))
  where
    by_test : (b : Bool) → not (is_empty (filter p rows)) ≡ not (eqb (count_by p rows) 0)
        → not (is_empty (cond b (row ∷ filter p rows) (filter p rows))) ≡ not (eqb (one b + count_by p rows) 0)
    by_test true rest = sym (ap not (one_more (count_by p rows)))
    by_test false rest = rest ∙ ap (λ n. not (eqb n 0)) (nothing_added (count_by p rows))

none_holds : (p : AgentRow → Bool) (rows : List AgentRow)
    → list_all (λ (row : AgentRow). not row.holding) (filter p rows) ≡ eqb (count_by (λ (row : AgentRow). p row && row.holding) rows) 0
none_holds p [] = refl
none_holds p (row ∷ rows) = rw (count-cons (λ (r : AgentRow). p r && r.holding) row rows) (by_tests (p row) row.holding (none_holds p rows))
  where
    by_tests : (b holds : Bool) → list_all (λ (r : AgentRow). not r.holding) (filter p rows) ≡ eqb (count_by (λ (r : AgentRow). p r && r.holding) rows) 0
        → list_all (λ (r : AgentRow). not r.holding) (cond b (record row { holding = holds } ∷ filter p rows) (filter p rows))
        ≡ eqb (one (b && holds) + count_by (λ (r : AgentRow). p r && r.holding) rows) 0
    by_tests true true rest = sym (one_more (count_by (λ (r : AgentRow). p r && r.holding) rows))
    by_tests true false rest = rest ∙ ap (λ n. eqb n 0) (nothing_added (count_by (λ (r : AgentRow). p r && r.holding) rows))
    by_tests false holds rest = rest ∙ ap (λ n. eqb n 0) (nothing_added (count_by (λ (r : AgentRow). p r && r.holding) rows))

pub ready_armed : (rows : List AgentRow) (board : List Tally) → IsTallied rows board → (e : ℕ) → is_ready (tally_at board e) ≡ is_armed rows e
ready_armed rows board was e = rw (was e, some_pass (is_for e) rows, none_holds (is_for e) rows) refl

-- two tests that agree find the same places
module _ (p q : ℕ → Bool) (same : (e : ℕ) → p e ≡ q e) (from most : ℕ) where
  pub nowhere_same : (o : Option ℕ) → IfNone o (HoldsNowhere p from most) → IfNone o (HoldsNowhere q from most)
  nowhere_same None none = λ i least under. sym (same i) ∙ none i least under
  nowhere_same (Some e) none = tt

  pub first_same : (o : Option ℕ) → IfSome o (IsFirstPlace p from most) → IfSome o (IsFirstPlace q from most)
  first_same None first = tt
  first_same (Some e) first = record {
    low = first.low;
    high = first.high;
    before = λ i least under. sym (same i) ∙ first.before i least under;
    hit = λ within. sym (same e) ∙ first.hit within;
  }

-- ---- the first agent of a thread

first_number : (p : AgentRow → Bool) (rows : List AgentRow)
    → slice_get (agent_numbers (filter p rows)) 0 ≡ option_map (λ (row : AgentRow). row.number) (find p rows)
first_number p [] = refl
first_number p (row ∷ rows) = by_test (p row) (first_number p rows)
  where
    by_test : (b : Bool) → slice_get (agent_numbers (filter p rows)) 0 ≡ option_map (λ (r : AgentRow). r.number) (find p rows)
        → slice_get (agent_numbers (cond b (row ∷ filter p rows) (filter p rows))) 0 ≡ option_map (λ (r : AgentRow). r.number) (cond b (Some row) (find p rows))
    by_test true rest = refl
    by_test false rest = rest

-- what was found is listed
listed_found : (p : AgentRow → Bool) (rows : List AgentRow) (row : AgentRow) → find p rows ≡ Some row → is_listed rows row.number ≡ true
listed_found p rows row found = by_found (agent_of rows row.number) refl
  where
    by_found : (o : Option AgentRow) → agent_of rows row.number ≡ o → is_some o ≡ true
    by_found (Some x) e = refl
    by_found None e =
        let some = count_found_by p (is_agent_row row.number) rows row found (eq-eqb row.number row.number refl) in
        absurd (omega (arith, some, count_not_found (is_agent_row row.number) rows e))

module _ (rows : List AgentRow) (es : List Entry) (was : IsIndexed (λ row. row.owner) rows es) (t : ℕ) (answer : Option ℕ)
    (read : answer ≡ slice_get (numbers_under t es) 0) where
  pub first_read : answer ≡ option_map (λ (row : AgentRow). row.number) (first_of rows t)
  first_read = read ∙ ap (λ ns. slice_get ns 0) (was.each t) ∙ first_number (belongs_to t) rows

  pub none_left : answer ≡ None → rows ≡ without_found (first_of rows t) rows
  none_left none = by_found (first_of rows t) (sym first_read ∙ none)
    where
      by_found : (o : Option AgentRow) → option_map (λ (row : AgentRow). row.number) o ≡ None → rows ≡ without_found o rows
      by_found None e = refl
      by_found (Some row) e = absurd (cc)

  pub first_listed : (a : ℕ) → answer ≡ Some a → is_listed rows a ≡ true
  first_listed a some = by_found (first_of rows t) refl (sym first_read ∙ some)
    where
      by_found : (o : Option AgentRow) → first_of rows t ≡ o → option_map (λ (row : AgentRow). row.number) o ≡ Some a → is_listed rows a ≡ true
      by_found None found e = absurd (cc)
      by_found (Some row) found e =
          let same : row.number ≡ a = cc in
          ap (is_listed rows) (sym same) ∙ listed_found (belongs_to t) rows row found

  pub first_gone : (a : ℕ) → answer ≡ Some a → without_agent a rows ≡ without_found (first_of rows t) rows
  first_gone a some = by_found (first_of rows t) (sym first_read ∙ some)
    where
      by_found : (o : Option AgentRow) → option_map (λ (row : AgentRow). row.number) o ≡ Some a → without_agent a rows ≡ without_found o rows
      by_found None e = absurd (cc)
      by_found (Some row) e =
          let same : row.number ≡ a = cc in
          ap (λ n. without_agent n rows) (sym same)

-- ---- each call

-- the number is greater than those under a key, as it is greater than all
pub newest_under : (key : AgentRow → ℕ) (rows : List AgentRow) (es : List Entry) → IsIndexed key rows es → (a k : ℕ)
    → all_below a (agent_numbers rows) ≡ true → all_below a (numbers_under k es) ≡ true
newest_under key rows es was a k newest = ap (all_below a) (was.each k) ∙ numbers-filter (λ n. ltb n a) (λ row. eqb (key row) k) rows newest

-- the number stands under the agent's key
pub listed_key : (key : AgentRow → ℕ) (rows : List AgentRow) (es : List Entry) → IsIndexed key rows es → (a : ℕ) (row : AgentRow)
    → agent_of rows a ≡ Some row → member a (numbers_under (key row) es) ≡ true
listed_key key rows es was a row found = ap (member a) (was.each (key row))
    ∙ listed_under (λ r. eqb (key r) (key row)) a rows row found (eq-eqb (key row) (key row) refl)

pub idle_row : (rows : List AgentRow) (a : ℕ) (row : AgentRow) → agent_of rows a ≡ Some row → is_idle rows a ≡ true → row.holding ≡ false
idle_row rows a row found idle = by_test row.holding (sym (ap (passes (λ (r : AgentRow). not r.holding)) found) ∙ idle)
  where
    by_test : (b : Bool) → not b ≡ true → b ≡ false
    by_test true h = absurd (cc)
    by_test false h = refl

pub IsKept-none : {evs ows : Entries} → evs.entries ≡ [] → ows.entries ≡ [] → (room : ℕ) → IsKept no_agents room evs ows (replicate 33 no_tally)
IsKept-none none_of_events none_of_owners room = record {
  in_order = record { rises = refl };
  events = record { each = λ k. ap (numbers_under k) none_of_events; all = ap length none_of_events };
  owners = record { each = λ k. ap (numbers_under k) none_of_owners; all = ap length none_of_owners };
  tallied = tally-none 33;
  wide = length-replicate 33 no_tally;
  fits = omega arith;
  places_fit = omega arith;
  events_fit = omega arith;
  owners_fit = omega arith;
}

module _ {r : Roster} {room : ℕ} {evs ows : Entries} {board : List Tally} (was : IsKept r room evs ows board) where
  pub low_event : (a : ℕ) (row : AgentRow) → agent_of r.agents a ≡ Some row → row.event < 33
  low_event a row found = let low = low_found r.agents board a row was.tallied found in omega (arith, low, was.wide)

  pub IsKept-created : (a e t : ℕ) (evs_now ows_now : Entries) (tally : Tally) → all_below a (agent_numbers r.agents) ≡ true → e ≤ 32
      → length r.agents < r.places
      → Puts evs.entries evs_now.entries e (numbers_under e evs.entries ++ a ∷ []) → length evs_now.entries ≡ length evs.entries + 1 → evs_now.room ≡ evs.room
      → Puts ows.entries ows_now.entries t (numbers_under t ows.entries ++ a ∷ []) → length ows_now.entries ≡ length ows.entries + 1 → ows_now.room ≡ ows.room
      → tally ≡ tally_at board e
      → IsKept (after_create r a e t) room evs_now ows_now (set board e (record { agents = tally.agents + 1; holding = tally.holding }))
  IsKept-created a e t evs_now ows_now tally newest low free ev_puts ev_len ev_room ow_puts ow_len ow_room is =
      let added = new_agent a e t in
      let known : tally ≡ tally_in r.agents e = is ∙ was.tallied e in
      record {
        in_order = record {
          rises = ap rises (map-append (λ (row : AgentRow). row.number) r.agents (added ∷ []))
              ∙ rises-push (agent_numbers r.agents) a was.in_order.rises newest;
        };
        events = IsIndexed-joined (λ row. row.event) was.events added evs_now.entries ev_puts ev_len;
        owners = IsIndexed-joined (λ row. row.owner) was.owners added ows_now.entries ow_puts ow_len;
        tallied = tallied-put r.agents (r.agents ++ added ∷ []) board e _ was.tallied (omega (arith, low, was.wide))
            (tally_same _ _ _ _
            (omega (arith, ap (λ (x : Tally). x.agents) known, count-push (is_for e) r.agents added, ap one (eq-eqb e e refl)))
            (omega (arith, ap (λ (x : Tally). x.holding) known, count-push (holds_for e) r.agents added, holds_nothing e)))
            (λ k apart. tally_same _ _ _ _
            (omega (arith, count-push (is_for k) r.agents added, ap one (ne_eqb e k apart)))
            (omega (arith, count-push (holds_for k) r.agents added, holds_nothing k)));
        wide = length-set board e _ ∙ was.wide;
        fits = omega (arith, length_push r.agents added);
        places_fit = was.places_fit;
        events_fit = omega (arith, ev_room, was.events_fit);
        owners_fit = omega (arith, ow_room, was.owners_fit);
      }
    where
      holds_nothing : (k : ℕ) → one (eqb e k && false) ≡ 0
      holds_nothing k = by_test (eqb e k)
        where
          by_test : (b : Bool) → one (b && false) ≡ 0
          by_test true = refl
          by_test false = refl

  -- an agent holds a message or doesn't: the tally of its event follows
  IsKept-holding : (a : ℕ) (b : Bool) (row : AgentRow) (tally : Tally) → agent_of r.agents a ≡ Some row → tally ≡ tally_in (with_holding a b r.agents) row.event
      → IsKept (record r { agents = with_holding a b r.agents }) room evs ows (set board row.event tally)
  IsKept-holding a b row tally found is =
      record {
        in_order = record { rises = ap rises (numbers-held a b r.agents) ∙ was.in_order.rises };
        events = IsIndexed-holding (λ row. row.event) was.events a b (λ row. refl);
        owners = IsIndexed-holding (λ row. row.owner) was.owners a b (λ row. refl);
        tallied = tallied-put r.agents (with_holding a b r.agents) board row.event tally was.tallied (low_found r.agents board a row was.tallied found) is
            (λ k apart. tally_same _ _ _ _
            (omega (arith, count-holding (is_for k) a b r.agents row was.in_order.rises found))
            (omega (
              arith,
              count-holding (holds_for k) a b r.agents row was.in_order.rises found,
              one_other row.event k row.holding apart,
              one_other row.event k b apart,
            )));
        wide = length-set board row.event tally ∙ was.wide;
        fits = omega (arith, length-map r.agents (agent_with_holding a b), was.fits);
        places_fit = was.places_fit;
        events_fit = was.events_fit;
        owners_fit = was.owners_fit;
      }

  module _ (a : ℕ) (row : AgentRow) (found : agent_of r.agents a ≡ Some row) (tally : Tally) (is : tally ≡ tally_at board row.event) where
    known : tally ≡ tally_in r.agents row.event
    known = is ∙ was.tallied row.event

    holds_own : (b : Bool) → one (holds_for row.event (record row { holding = b })) ≡ one b
    holds_own b = rw (eq-eqb row.event row.event refl) refl

    pub IsKept-held : row.holding ≡ false
        → IsKept (after_hold r a) room evs ows (set board row.event (record { agents = tally.agents; holding = tally.holding + 1 }))
    IsKept-held idle = IsKept-holding a true row _ found (tally_same _ _ _ _
        (omega (arith, ap (λ (x : Tally). x.agents) known, count-holding (is_for row.event) a true r.agents row was.in_order.rises found))
        (omega (
          arith,
          ap (λ (x : Tally). x.holding) known,
          count-holding (holds_for row.event) a true r.agents row was.in_order.rises found,
          holds_own row.holding,
          holds_own true,
          ap one idle,
        )))

    -- those that hold one are counted with this one, if it does
    pub holding_counted : one row.holding ≤ tally.holding
    holding_counted = omega (
      arith,
      ap (λ (x : Tally). x.holding) known,
      count-holding (holds_for row.event) a false r.agents row was.in_order.rises found,
      holds_own row.holding,
      holds_own false,
    )

    pub IsKept-released : IsKept (after_release r a) room evs ows (set board row.event
        (record { agents = tally.agents; holding = tally.holding - one row.holding }))
    IsKept-released = IsKept-holding a false row _ found (tally_same _ _ _ _
        (omega (arith, ap (λ (x : Tally). x.agents) known, count-holding (is_for row.event) a false r.agents row was.in_order.rises found))
        (omega (
          arith,
          ap (λ (x : Tally). x.holding) known,
          count-holding (holds_for row.event) a false r.agents row was.in_order.rises found,
          holds_own row.holding,
          holds_own false,
        )))

    -- the agent itself is counted
    pub agent_counted : 1 ≤ tally.agents
    agent_counted = omega
        (arith, ap (λ (x : Tally). x.agents) known, count_found_by (is_agent_row a) (is_for row.event) r.agents row found (eq-eqb row.event row.event refl))

    pub IsKept-destroyed : (evs_now ows_now : Entries)
        → Puts evs.entries evs_now.entries row.event (without a (numbers_under row.event evs.entries))
        → length evs_now.entries + 1 ≡ length evs.entries → evs_now.room ≡ evs.room
        → Puts ows.entries ows_now.entries row.owner (without a (numbers_under row.owner ows.entries))
        → length ows_now.entries + 1 ≡ length ows.entries → ows_now.room ≡ ows.room
        → IsKept (after_destroy r a) room evs_now ows_now (set board row.event
        (record { agents = tally.agents - 1; holding = tally.holding - one row.holding }))
    IsKept-destroyed evs_now ows_now ev_puts ev_len ev_room ow_puts ow_len ow_room =
        let rest = without_agent a r.agents in
        record {
          in_order = record { rises = rises-filter (λ x. not (is_agent_row a x)) r.agents was.in_order.rises };
          events = IsIndexed-left (λ row. row.event) was.events a row evs_now.entries was.in_order.rises found ev_puts ev_len fewer;
          owners = IsIndexed-left (λ row. row.owner) was.owners a row ows_now.entries was.in_order.rises found ow_puts ow_len fewer;
          tallied = tallied-put r.agents rest board row.event _ was.tallied (low_found r.agents board a row was.tallied found)
              (tally_same _ _ _ _
              (omega (
                arith,
                ap (λ (x : Tally). x.agents) known,
                count-without (is_for row.event) a r.agents row was.in_order.rises found,
                ap one (eq-eqb row.event row.event refl),
              ))
              (omega (
                arith,
                ap (λ (x : Tally). x.holding) known,
                count-without (holds_for row.event) a r.agents row was.in_order.rises found,
                holds_own row.holding,
              )))
              (λ k apart. tally_same _ _ _ _
              (omega (arith, count-without (is_for k) a r.agents row was.in_order.rises found, ap one (ne_eqb row.event k apart)))
              (omega (arith, count-without (holds_for k) a r.agents row was.in_order.rises found, one_other row.event k row.holding apart)));
          wide = length-set board row.event _ ∙ was.wide;
          fits = omega (arith, fewer, was.fits);
          places_fit = was.places_fit;
          events_fit = omega (arith, ev_room, was.events_fit);
          owners_fit = omega (arith, ow_room, was.owners_fit);
        }
      where
        fewer : length (without_agent a r.agents) + 1 ≡ length r.agents
        fewer =
            omega (arith, count-without (λ x. true) a r.agents row was.in_order.rises found, length_counted (without_agent a r.agents), length_counted r.agents)
