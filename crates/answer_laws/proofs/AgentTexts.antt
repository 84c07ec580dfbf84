-- What a delivery does to an agent and to its owner.
use Rattle.answer_laws.proofs.AgentSights.{kept_post, other_of, seen_by}
use Rattle.answer_laws.proofs.Others.{none_all, tids_all}
use Rattle.answer_laws.proofs.Replies.{Never}
use Rattle.answer_laws.proofs.Sights.{Attends, answers_append, left_wake, pushed_own, sight_same}
use Rattle.answer_laws.specs.Agents.{DeliveriesPassOthersBy, DeliveriesReachAgents, IsHandedOn, IsPassedBy, IsReached}
use Rattle.answer_laws.specs.Agents.{Reaches, agent_sight, deliveries_to, is_busy, is_delivery_to}
use Rattle.answer_laws.specs.Sights.{IsLeft, answers_to, going_on, is_attentive, sight, sight_by}
use Rattle.lwp_types.specs.Agents.{deliver, deliver_to, event_agents, is_for, message}
use Rattle.lwp_types.specs.CountLaws.{count-append, count-cons, count-filter-le, one}
use Rattle.lwp_types.specs.Counts.{has_owner_and_event, is_between, timers_of}
use Rattle.lwp_types.specs.Lawful.{Lawful}
use Rattle.lwp_types.specs.Messages.{as_answer, as_received, agent_with_holding, is_letter_of, post, takes_from, with_holding}
use Rattle.lwp_types.specs.State.{Outcome, State, ThreadRow, agent_of, and_then, row_with_block, for_each, is_agent_row}
use Rattle.lwp_types.specs.State.{is_number, is_thread, passes, still, thread_of, with_block}
use Rattle.lwp_types.specs.Time.{after_tick, due_threads, is_due, tick, time_out}
use Rattle.lwp_types.specs.Unblock.{is_timer_of, unblock}
use Rattle.lwp_types.specs.declared.call.Answer.{Answer}
use Rattle.lwp_types.specs.declared.rows.AgentRow.{AgentRow}
use Rattle.lwp_types.specs.declared.rows.Block.{Block}
use Rattle.lwp_types.specs.declared.rows.Letter.{Letter}
use Rattle.pod_laws.proofs.Chosen.{living}
use Rattle.pod_laws.proofs.Elements.{all_filter, all_found, find_map, find_passes}
use Rattle.pod_laws.proofs.Holding.{no_thread}
use Rattle.pod_laws.proofs.LetterMoves.{no_rows}
use Rattle.pod_laws.proofs.Numbers.{keys_once}
use Rattle.std.proofs.Common.{Bool, List, None, Option, Some, [], ap, append-nil, arith, cond, count_by, eqb}
use Rattle.std.proofs.Common.{false, not, refl, subst, sym, true, ℕ, ◌++◌, ◌+◌, ◌∙◌, ◌∷◌, ◌≡◌, ◌≢◌, ◌≤◌}
use Rattle.std.proofs.lemmas.Bool.{and_from, and_parts, eq-eqb, eqb-true, leb-true, ne_eqb}
use Rattle.pod_laws.proofs.Rows.{find_rowed, number_known}
use Rattle.std.specs.List.{filter, filter_map, find, list_all}
use Rattle.std.specs.Prelude.{nat_le, option_map}
use Rattle.lwp_types.specs.declared.call.Answer.TheVariants as answer
use Rattle.lwp_types.specs.declared.call.Effect.TheVariants as effect
use Rattle.lwp_types.specs.declared.rows.Block.TheVariants as block

module _ (a : ℕ) where
  -- ---- whom a text passes by

  pub passed_then : (s : State) (first : Outcome) (more : State → Outcome) → IsPassedBy a s first
      → IsPassedBy a first.after (more first.after) → IsPassedBy a s (and_then first more)
  unfolding and_then
  passed_then s first more one two = record {
    seen = two.seen ∙ one.seen;
    none = omega (arith, one.none, two.none, count-append (is_delivery_to a) first.effects (more first.after).effects);
  }

  passed_still : (s : State) → IsPassedBy a s (still s)
  passed_still s = record { seen = refl; none = refl }

  passed_each : {A : Type 0} (p : A → Bool) (change : A → State → Outcome)
      → ((x : A) (s : State) → p x ≡ true → IsPassedBy a s (change x s)) → (xs : List A) → list_all p xs ≡ true → (s : State)
      → IsPassedBy a s (for_each change xs s)
  unfolding for_each
  passed_each p change passes [] all s = passed_still s
  passed_each p change passes (x ∷ xs) all s =
      let parts = and_parts (p x) (list_all p xs) all in
      passed_then s (change x s) (for_each change xs) (passes x s parts.0) (passed_each p change passes xs parts.1 (change x s).after)

  all_true : {A : Type 0} (xs : List A) → list_all (λ x. true) xs ≡ true
  all_true [] = refl
  all_true (x ∷ xs) = all_true xs

  passed_tick : (s : State) → IsPassedBy a s (tick s)
  passed_tick s = passed_then s (record { after = after_tick s; effects = effect.Ticked (s.now + 1) ∷ [] })
      (λ now. for_each time_out (due_threads now) now) (record { seen = refl; none = refl })
      (passed_each (λ v. true) time_out (λ v now h. record { seen = refl; none = refl }) (due_threads (after_tick s))
      (all_true (due_threads (after_tick s))) (after_tick s))

  -- a letter posted is no delivery
  post_none : (s : State) (letter : Letter) → deliveries_to a (post letter s).effects ≡ 0
  post_none s letter = by_test (passes (λ (row : ThreadRow). takes_from letter.from row.block) (thread_of s letter.to))
    where
      by_test : (b : Bool)
          → deliveries_to a (cond b (unblock (as_answer letter) letter.to (record s { letters = s.letters ++ as_received letter ∷ [] }))
          (still (record s { letters = s.letters ++ letter ∷ [] }))).effects
          ≡ 0
      by_test true = refl
      by_test false = refl

  -- another agent has a text
  pub passed_other : (text : List ℕ) (row : AgentRow) (s : State) → not (is_agent_row a row) ≡ true → IsPassedBy a s (deliver_to text row s)
  passed_other text row s h =
      let other = other_of a row.number h in
      let holds = record s { agents = with_holding row.number true s.agents } in
      passed_then s (record { after = holds; effects = effect.Delivered row.number row.event ∷ [] }) (post (message text row))
      (record { seen = λ i. seen_by (rows other i) (agent_sight s a).letters; none = omega (arith, ap one (ne_eqb row.number a other)) })
      (record { seen = kept_post a holds (message text row) other; none = post_none holds (message text row) })
    where
      unmoved : row.number ≢ a → (o : Option AgentRow) → find (is_agent_row a) s.agents ≡ o → option_map (agent_with_holding row.number true) o ≡ o
      unmoved other None e = refl
      unmoved other (Some found) e =
          ap Some (rw (ne_eqb found.number row.number (λ is. other (sym is ∙ eqb-true found.number a (find_passes (is_agent_row a) s.agents found e)))) refl)

      rows : row.number ≢ a → find (is_agent_row a) (with_holding row.number true s.agents) ≡ find (is_agent_row a) s.agents
      rows other = find_map (is_agent_row a) (is_agent_row a) (agent_with_holding row.number true) (λ row. refl) s.agents
          ∙ unmoved other (find (is_agent_row a) s.agents) refl

  pub passed_others : (text : List ℕ) (rows : List AgentRow) → list_all (λ row. not (is_agent_row a row)) rows ≡ true → (s : State)
      → IsPassedBy a s (for_each (deliver_to text) rows s)
  passed_others text rows all s = passed_each (λ row. not (is_agent_row a row)) (deliver_to text) (passed_other text) rows all s

-- ---- the agents of an event

none_in : (p q : AgentRow → Bool) (rows : List AgentRow) → count_by p rows ≡ 0 → list_all (λ row. not (p row)) (filter q rows) ≡ true
none_in p q [] none = refl
none_in p q (r ∷ rs) none = by_tests (p r) refl (q r) (none_in p q rs)
  where
    by_tests : (b : Bool) → p r ≡ b → (d : Bool) → (count_by p rs ≡ 0 → list_all (λ row. not (p row)) (filter q rs) ≡ true)
        → list_all (λ row. not (p row)) (cond d (r ∷ filter q rs) (filter q rs)) ≡ true
    by_tests true e d rest = absurd (omega (arith, none, count-cons p r rs, ap one e))
    by_tests false e true rest = and_from _ _ (ap not e) (rest (omega (arith, none, count-cons p r rs)))
    by_tests false e false rest = rest (omega (arith, none, count-cons p r rs))

others_of : (a e : ℕ) (rows : List AgentRow) → count_by (is_agent_row a) rows ≤ 1 → passes (is_for e) (find (is_agent_row a) rows) ≡ false
    → list_all (λ row. not (is_agent_row a row)) (filter (is_for e) rows) ≡ true
others_of a e [] few off = refl
others_of a e (r ∷ rs) few off = by_tests (is_agent_row a r) refl (is_for e r) refl off (others_of a e rs)
  where
    by_tests : (b : Bool) → is_agent_row a r ≡ b → (d : Bool) → is_for e r ≡ d → passes (is_for e) (cond b (Some r) (find (is_agent_row a) rs)) ≡ false
        → (count_by (is_agent_row a) rs ≤ 1 → passes (is_for e) (find (is_agent_row a) rs) ≡ false
        → list_all (λ row. not (is_agent_row a row)) (filter (is_for e) rs) ≡ true)
        → list_all (λ row. not (is_agent_row a row)) (cond d (r ∷ filter (is_for e) rs) (filter (is_for e) rs)) ≡ true
    by_tests true is true f h rest = absurd (let bad : true ≡ false = sym f ∙ h in cc)
    by_tests true is false f h rest = none_in (is_agent_row a) (is_for e) rs (omega (arith, few, count-cons (is_agent_row a) r rs, ap one is))
    by_tests false is true f h rest = and_from _ _ (ap not is) (rest (omega (arith, few, count-cons (is_agent_row a) r rs)) h)
    by_tests false is false f h rest = rest (omega (arith, few, count-cons (is_agent_row a) r rs)) h

pub found_in : (a e : ℕ) (rows : List AgentRow) (row : AgentRow) → find (is_agent_row a) rows ≡ Some row → is_for e row ≡ true
    → find (is_agent_row a) (filter (is_for e) rows) ≡ Some row
found_in a e [] row found is = absurd (cc)
found_in a e (r ∷ rs) row found is = by_tests (is_agent_row a r) refl (is_for e r) refl found (found_in a e rs row)
  where
    by_tests : (b : Bool) → is_agent_row a r ≡ b → (d : Bool) → is_for e r ≡ d → cond b (Some r) (find (is_agent_row a) rs) ≡ Some row
        → (find (is_agent_row a) rs ≡ Some row → is_for e row ≡ true → find (is_agent_row a) (filter (is_for e) rs) ≡ Some row)
        → find (is_agent_row a) (cond d (r ∷ filter (is_for e) rs) (filter (is_for e) rs)) ≡ Some row
    by_tests true its true f h rest = rw its h
    by_tests true its false f h rest = absurd (let same : r ≡ row = cc in let bad : true ≡ false = sym is ∙ sym (ap (is_for e) same) ∙ f in cc)
    by_tests false its true f h rest = rw its (rest h is)
    by_tests false its false f h rest = rest h is

pub deliveries_pass_others_by : DeliveriesPassOthersBy
unfolding deliver
deliveries_pass_others_by s was a e text off = by_clock (eqb e 0)
  where
    by_clock : (b : Bool) → IsPassedBy a s (cond b (tick s) (for_each (deliver_to text) (event_agents s.agents e) s))
    by_clock true = passed_tick a s
    by_clock false = passed_others a text (event_agents s.agents e)
        (others_of a e s.agents (keys_once (λ (row : AgentRow). row.number) s.agents was.nine.numbers.0.1 a) off) s

-- ---- its owner

pub filter_push_in : {X : Type 0} (p : X → Bool) (xs : List X) (x : X) → p x ≡ true → filter p (xs ++ x ∷ []) ≡ filter p xs ++ x ∷ []
filter_push_in p [] x e = rw e refl
filter_push_in p (y ∷ ys) x e = by_test (p y) (filter_push_in p ys x e)
  where
    by_test : (b : Bool) → filter p (ys ++ x ∷ []) ≡ filter p ys ++ x ∷ []
        → cond b (y ∷ filter p (ys ++ x ∷ [])) (filter p (ys ++ x ∷ [])) ≡ cond b (y ∷ filter p ys) (filter p ys) ++ x ∷ []
    by_test true rest = ap (λ zs. y ∷ zs) rest
    by_test false rest = rest

pub record At (s : State) (u : ℕ) (b : Block) : Type 0 where
  pub row : ThreadRow
  pub known : thread_of s u ≡ Some row
  pub waits : row.block ≡ b

pub at_of : (s : State) (u : ℕ) (b : Block) → (sight s u).waits ≡ Some b → At s u b
at_of s u b seen = by_row (thread_of s u) refl seen
  where
    by_row : (o : Option ThreadRow) → thread_of s u ≡ o → option_map (λ (row : ThreadRow). row.block) o ≡ Some b → At s u b
    by_row None e h = absurd (cc)
    by_row (Some row) e h = record { row = row; known = e; waits = cc h }

module _ (u : ℕ) where
  left_then : (s : State) (first : Outcome) (more : State → Outcome) → IsLeft u s first → IsLeft u first.after (more first.after)
      → IsLeft u s (and_then first more)
  unfolding and_then
  left_then s first more one two = record {
    same = two.same ∙ one.same;
    quiet = answers_append u first.effects (more first.after).effects ∙ ap (λ x. x ++ answers_to u (more first.after).effects) one.quiet ∙ two.quiet;
  }

  -- a letter that it doesn't wait for
  left_post : (s : State) (b : Block) → (sight s u).waits ≡ Some b → is_attentive b ≡ true → (letter : Letter) → letter.from ≢ u
      → takes_from letter.from b ≡ false → IsLeft u s (post letter s)
  left_post s b seen attends letter away off = by_test (passes takes (thread_of s letter.to)) refl
    where
      takes : ThreadRow → Bool
      takes row = takes_from letter.from row.block

      here : At s u b
      here = at_of s u b seen

      was : Attends u Never s
      was = record { row = here.row; known = here.known; attends = ap is_attentive here.waits ∙ attends }

      by_test : (c : Bool) → passes takes (thread_of s letter.to) ≡ c
          → IsLeft u s (cond c (unblock (as_answer letter) letter.to (record s { letters = s.letters ++ as_received letter ∷ [] }))
          (still (record s { letters = s.letters ++ letter ∷ [] })))
      by_test true e = left_wake u Never s was _ (as_answer letter) letter.to
          (λ same. let bad : true
          ≡ false = sym e ∙ ap (λ n. passes takes (thread_of s n)) same ∙ ap (passes takes) here.known ∙ ap (takes_from letter.from) here.waits ∙ off in
          cc)
          refl (pushed_own u Never (as_received letter) away s.letters) refl
      by_test false e = record {
        same = sight_same u Never s (record s { letters = s.letters ++ letter ∷ [] }) here.row here.known here.known (pushed_own u Never letter away s.letters);
        quiet = refl;
      }

  left_to : (text : List ℕ) (row : AgentRow) (s : State) (b : Block) → (sight s u).waits ≡ Some b → is_attentive b ≡ true → row.number ≢ u
      → takes_from row.number b ≡ false → IsLeft u s (deliver_to text row s)
  unfolding and_then
  left_to text row s b seen attends away off =
      let one = left_post (record s { agents = with_holding row.number true s.agents }) b seen attends (message text row) away off in
      record { same = one.same; quiet = one.quiet }

  left_all : (a : ℕ) (b : Block) → is_attentive b ≡ true → ((n : ℕ) → n ≢ a → takes_from n b ≡ false) → (text : List ℕ) (rows : List AgentRow)
      → list_all (λ row. not (is_agent_row a row)) rows ≡ true → list_all (λ row. not (is_agent_row u row)) rows ≡ true → (s : State)
      → (sight s u).waits ≡ Some b → IsLeft u s (for_each (deliver_to text) rows s)
  unfolding for_each
  left_all a b attends only text [] others away s seen = record { same = refl; quiet = refl }
  left_all a b attends only text (row ∷ rows) others away s seen =
      let x = and_parts (not (is_agent_row a row)) (list_all (λ row. not (is_agent_row a row)) rows) others in
      let y = and_parts (not (is_agent_row u row)) (list_all (λ row. not (is_agent_row u row)) rows) away in
      let one = left_to text row s b seen attends (other_of u row.number y.0) (only row.number (other_of a row.number x.0)) in
      left_then s (deliver_to text row s) (for_each (deliver_to text) rows) one
      (left_all a b attends only text rows x.1 y.1 (deliver_to text row s).after (ap (λ x. x.waits) one.same ∙ seen))

-- nor is it touched where the agent that it may wait for isn't reached
module _ (u : ℕ) (b : Block) (attends : is_attentive b ≡ true) where
  left_times : (vs : List ℕ) → list_all (λ v. not (eqb v u)) vs ≡ true → (s : State) → (sight s u).waits ≡ Some b → IsLeft u s (for_each time_out vs s)
  unfolding for_each
  left_times [] all s seen = record { same = refl; quiet = refl }
  left_times (v ∷ vs) all s seen =
      let parts = and_parts (not (eqb v u)) (list_all (λ v. not (eqb v u)) vs) all in
      let here = at_of s u b seen in
      let one = left_wake u Never s (record { row = here.row; known = here.known; attends = ap is_attentive here.waits ∙ attends })
      (time_out v s) _ v (other_of u v parts.0) refl refl refl in
      left_then u s (time_out v s) (for_each time_out vs) one (left_times vs parts.1 (time_out v s).after (ap (λ x. x.waits) one.same ∙ seen))

  left_tick : (s : State) → (sight s u).waits ≡ Some b → timers_of s.timers u ≡ 0 → IsLeft u s (tick s)
  left_tick s seen none = left_then u s (record { after = after_tick s; effects = effect.Ticked (s.now + 1) ∷ [] })
      (λ now. for_each time_out (due_threads now) now) (record { same = refl; quiet = refl })
      (left_times (due_threads (after_tick s))
      (tids_all u Never _ (all_filter _ _ (is_due (s.now + 1)) (λ row kept h. h) s.timers (none_all u Never (is_timer_of u) s.timers none)))
      (after_tick s) seen)

  pub left_deliver : (a : ℕ) → ((n : ℕ) → n ≢ a → takes_from n b ≡ false) → (s : State) → Lawful s None → (sight s u).waits ≡ Some b
      → timers_of s.timers u ≡ 0 → (e : ℕ) (text : List ℕ) → passes (is_for e) (agent_of s.agents a) ≡ false → IsLeft u s (deliver s e text)
  unfolding deliver
  left_deliver a only s was seen none e text off = by_clock (eqb e 0)
    where
      here : At s u b
      here = at_of s u b seen

      by_clock : (c : Bool) → IsLeft u s (cond c (tick s) (for_each (deliver_to text) (event_agents s.agents e) s))
      by_clock true = left_tick s seen none
      by_clock false = left_all u a b attends only text (event_agents s.agents e)
          (others_of a e s.agents (keys_once (λ (row : AgentRow). row.number) s.agents was.nine.numbers.0.1 a) off)
          (none_in (is_agent_row u) (is_for e) s.agents (no_rows s None was.nine u here.row here.known)) s seen

-- what the text comes to for the agent, and for its owner, who waits so at first and so afterwards
module _ (a u : ℕ) (row : AgentRow) (text : List ℕ) (received : Bool) (Own : State → Outcome → Type 0) (before after : Block)
    (attends : is_attentive before ≡ true) (attends_then : is_attentive after ≡ true)
    (only : (n : ℕ) → n ≢ a → takes_from n before ≡ false) (only_then : (n : ℕ) → n ≢ a → takes_from n after ≡ false)
    (own_first : (s : State) (first : Outcome) (more : State → Outcome) → IsLeft u s first → Own first.after (more first.after) → Own s (and_then first more))
    (own_last : (s : State) (first : Outcome) (more : State → Outcome) → Own s first → IsLeft u first.after (more first.after) → Own s (and_then first more))
    (own_waits : (s : State) (out : Outcome) → (sight s u).waits ≡ Some before → Own s out → (sight out.after u).waits ≡ Some after)
    (own_one : (s : State) → (sight s u).waits ≡ Some before → find (is_agent_row a) s.agents ≡ Some row
    → IsReached a row text received s (deliver_to text row s) × Own s (deliver_to text row s)) where
  reached_first : (s : State) (first : Outcome) (more : State → Outcome) → IsPassedBy a s first
      → IsReached a row text received first.after (more first.after) → IsReached a row text received s (and_then first more)
  unfolding and_then
  reached_first s first more one two = record {
    seen = two.seen
        ∙ ap (λ x. record { row = Some (record row { holding = true }); letters = x.letters ++ record (message text row) { received = received } ∷ [] })
        one.seen;
    once = omega (arith, one.none, two.once, count-append (is_delivery_to a) first.effects (more first.after).effects);
  }

  reached_last : (s : State) (first : Outcome) (more : State → Outcome) → IsReached a row text received s first
      → IsPassedBy a first.after (more first.after) → IsReached a row text received s (and_then first more)
  unfolding and_then
  reached_last s first more one two = record {
    seen = two.seen ∙ one.seen;
    once = omega (arith, one.once, two.none, count-append (is_delivery_to a) first.effects (more first.after).effects);
  }

  reached_all : (rows : List AgentRow) → find (is_agent_row a) rows ≡ Some row → count_by (is_agent_row a) rows ≤ 1
      → list_all (λ row. not (is_agent_row u row)) rows ≡ true
      → (s : State) → (sight s u).waits ≡ Some before → find (is_agent_row a) s.agents ≡ Some row
      → IsReached a row text received s (for_each (deliver_to text) rows s) × Own s (for_each (deliver_to text) rows s)
  unfolding for_each
  reached_all [] found few away s seen there = absurd (cc)
  reached_all (r ∷ rs) found few away s seen there =
      let y = and_parts (not (is_agent_row u r)) (list_all (λ row. not (is_agent_row u row)) rs) away in
      by_test y (λ few now seen there. reached_all rs few now y.1 (deliver_to text r s).after seen there) (is_agent_row a r) refl found
    where
      by_test : (not (is_agent_row u r) ≡ true) × (list_all (λ row. not (is_agent_row u row)) rs ≡ true)
          → (find (is_agent_row a) rs ≡ Some row → count_by (is_agent_row a) rs ≤ 1
          → (sight (deliver_to text r s).after u).waits ≡ Some before
          → find (is_agent_row a) (deliver_to text r s).after.agents ≡ Some row
          → IsReached a row text received (deliver_to text r s).after (for_each (deliver_to text) rs (deliver_to text r s).after)
          × Own (deliver_to text r s).after (for_each (deliver_to text) rs (deliver_to text r s).after))
          → (b : Bool) → is_agent_row a r ≡ b → cond b (Some r) (find (is_agent_row a) rs) ≡ Some row
          → IsReached a row text received s (and_then (deliver_to text r s) (for_each (deliver_to text) rs))
          × Own s (and_then (deliver_to text r s) (for_each (deliver_to text) rs))
      by_test y later true is found =
          let same : row ≡ r = cc in
          let rest = none_in (is_agent_row a) (λ row. true) rs (omega (arith, few, count-cons (is_agent_row a) r rs, ap one is)) in
          subst
          (λ r. IsReached a row text received s (and_then (deliver_to text r s) (for_each (deliver_to text) rs))
          × Own s (and_then (deliver_to text r s) (for_each (deliver_to text) rs)))
          same
          (let own = own_one s seen there in
          let others = kept_all rs rest in (
            reached_last s (deliver_to text row s) (for_each (deliver_to text) rs) own.0 (passed_others a text rs others (deliver_to text row s).after),
            own_last s (deliver_to text row s) (for_each (deliver_to text) rs) own.1
                (left_all u a after attends_then only_then text rs others y.1 (deliver_to text row s).after (own_waits s (deliver_to text row s) seen own.1)),
          ))
        where
          kept_all : (xs : List AgentRow) → list_all (λ row. not (is_agent_row a row)) (filter (λ row. true) xs) ≡ true
              → list_all (λ row. not (is_agent_row a row)) xs ≡ true
          kept_all [] h = refl
          kept_all (x ∷ xs) h = let w = and_parts (not (is_agent_row a x)) (list_all (λ row. not (is_agent_row a row)) (filter (λ row. true) xs)) h in
              and_from _ _ w.0 (kept_all xs w.1)
      by_test y later false is found =
          let passed = passed_other a text r s (ap not is) in
          let left = left_to u text r s before seen attends (other_of u r.number y.0) (only r.number (other_of a r.number (ap not is))) in
          let rest = later found (omega (arith, few, count-cons (is_agent_row a) r rs)) (ap (λ x. x.waits) left.same ∙ seen)
          (ap (λ x. x.row) passed.seen ∙ there) in (
            reached_first s (deliver_to text r s) (for_each (deliver_to text) rs) passed rest.0,
            own_first s (deliver_to text r s) (for_each (deliver_to text) rs) left rest.1,
          )

-- ---- its own text

module _ (row : AgentRow) (text : List ℕ) (away : row.number ≢ row.owner) where
  abbrev a : ℕ
  a = row.number

  abbrev u : ℕ
  u = row.owner

  abbrev posted : State → Bool → Outcome
  posted s b =
      cond b (unblock (as_answer (message text row)) u
      (record s { agents = with_holding a true s.agents; letters = s.letters ++ as_received (message text row) ∷ [] }))
      (still (record s { agents = with_holding a true s.agents; letters = s.letters ++ message text row ∷ [] }))

  abbrev told : State → Bool → Outcome
  told s b = record { after = (posted s b).after; effects = effect.Delivered a row.event ∷ (posted s b).effects }

  abbrev takes : State → Bool
  takes s = passes (λ (x : ThreadRow). takes_from a x.block) (thread_of s u)

  takes_at : (s : State) (b : Block) → (sight s u).waits ≡ Some b → passes (λ (x : ThreadRow). takes_from a x.block) (thread_of s u) ≡ takes_from a b
  takes_at s b seen = let here = at_of s u b seen in ap (passes (λ (x : ThreadRow). takes_from a x.block)) here.known ∙ ap (takes_from a) here.waits

  held_row : (s : State) → find (is_agent_row a) s.agents ≡ Some row
      → find (is_agent_row a) (with_holding a true s.agents) ≡ Some (record row { holding = true })
  held_row s there = find_map (is_agent_row a) (is_agent_row a) (agent_with_holding a true) (λ row. refl) s.agents
      ∙ ap (option_map (agent_with_holding a true)) there ∙ ap Some (rw (eq-eqb a a refl) refl)

  reached : (s : State) (b : Bool) → find (is_agent_row a) s.agents ≡ Some row → IsReached a row text b s (told s b)
  reached s true there = record {
    seen = λ i. seen_by (held_row s there i) (filter_push_in (is_letter_of a) s.letters (as_received (message text row)) (eq-eqb a a refl) i);
    once = omega (arith, ap one (eq-eqb a a refl));
  }
  reached s false there = record {
    seen = λ i. seen_by (held_row s there i) (filter_push_in (is_letter_of a) s.letters (message text row) (eq-eqb a a refl) i);
    once = omega (arith, ap one (eq-eqb a a refl));
  }

  handed : (s : State) → (sight s u).waits ≡ Some (block.Receiving (Some a)) → IsHandedOn u a text s (told s true)
  handed s seen = record {
    goes_on = (λ i. sight_by (now i) (pushed_own u Never (as_received (message text row)) away s.letters i))
        ∙ goes (is_number u here.row) (eq-eqb here.row.number u (number_known s.threads u here.row here.known));
    told = one_answer (eqb u u) (eq-eqb u u refl);
  }
    where
      here : At s u (block.Receiving (Some a))
      here = at_of s u (block.Receiving (Some a)) seen

      now : find (is_number u) (with_block u block.Not s.threads) ≡ Some (row_with_block u block.Not here.row)
      now = find_rowed (row_with_block u block.Not) (λ row. refl) s.threads u ∙ ap (option_map (row_with_block u block.Not)) here.known

      goes : (b : Bool) → b ≡ true
          → sight_by (Some (record here.row { block = cond b block.Not here.row.block })) (filter (is_letter_of u) s.letters) ≡ going_on (sight s u)
      goes true e = ap (λ o. going_on (sight_by o (filter (is_letter_of u) s.letters))) (sym here.known)
      goes false e = absurd (cc)

      one_answer : (b : Bool) → b ≡ true
          → filter_map (λ (o : Option Answer). o) (cond b (Some (as_answer (message text row))) None ∷ []) ≡ answer.Letter a text 240 ∷ []
      one_answer true e = refl
      one_answer false e = absurd (cc)

  is_told : (s : State) (b : Bool) → takes s ≡ b → deliver_to text row s ≡ told s b
  unfolding and_then
  is_told s b e = ap (told s) e

  awaited_one : (s : State) → (sight s u).waits ≡ Some (block.Receiving (Some a)) → find (is_agent_row a) s.agents ≡ Some row
      → IsReached a row text true s (deliver_to text row s) × IsHandedOn u a text s (deliver_to text row s)
  awaited_one s seen there = subst (λ out. IsReached a row text true s out × IsHandedOn u a text s out)
      (sym (is_told s true (takes_at s (block.Receiving (Some a)) seen ∙ eq-eqb a a refl))) (reached s true there, handed s seen)

  kept_one : (b : Block) → is_attentive b ≡ true → takes_from a b ≡ false → (s : State) → (sight s u).waits ≡ Some b
      → find (is_agent_row a) s.agents ≡ Some row → IsReached a row text false s (deliver_to text row s) × IsLeft u s (deliver_to text row s)
  kept_one b attends off s seen there = (
    subst (λ out. IsReached a row text false s out) (sym (is_told s false (takes_at s b seen ∙ off))) (reached s false there),
    left_to u text row s b seen attends away off,
  )

  handed_first : (s : State) (first : Outcome) (more : State → Outcome) → IsLeft u s first
      → IsHandedOn u a text first.after (more first.after) → IsHandedOn u a text s (and_then first more)
  unfolding and_then
  handed_first s first more one two = record {
    goes_on = two.goes_on ∙ ap going_on one.same;
    told = answers_append u first.effects (more first.after).effects ∙ ap (λ x. x ++ answers_to u (more first.after).effects) one.quiet ∙ two.told;
  }

  handed_last : (s : State) (first : Outcome) (more : State → Outcome) → IsHandedOn u a text s first
      → IsLeft u first.after (more first.after) → IsHandedOn u a text s (and_then first more)
  unfolding and_then
  handed_last s first more one two = record {
    goes_on = two.same ∙ one.goes_on;
    told = answers_append u first.effects (more first.after).effects ∙ ap (λ x. answers_to u first.effects ++ x) two.quiet
        ∙ append-nil (answers_to u first.effects) ∙ one.told;
  }

  module _ (s : State) (was : Lawful s None) (there : find (is_agent_row a) s.agents ≡ Some row) where
    abbrev its : List AgentRow
    its = event_agents s.agents row.event

    its_found : find (is_agent_row a) its ≡ Some row
    its_found = found_in a row.event s.agents row there (eq-eqb row.event row.event refl)

    its_once : count_by (is_agent_row a) its ≤ 1
    its_once =
        omega (arith, count-filter-le (is_agent_row a) (is_for row.event) s.agents, keys_once (λ (row : AgentRow). row.number) s.agents was.nine.numbers.0.1 a)

    well : has_owner_and_event s row ≡ true
    well = all_found (is_agent_row a) (has_owner_and_event s) s.agents row was.nine.owners.2 there

    its_away : list_all (λ row. not (is_agent_row u row)) its ≡ true
    its_away = let who = living s u (and_parts (is_thread s u) (is_between 1 32 row.event) well).0 in
        none_in (is_agent_row u) (is_for row.event) s.agents (no_rows s None was.nine u who.row who.known)

    no_clock : eqb row.event 0 ≡ false
    no_clock = ne_eqb row.event 0 (λ e.
        absurd (omega (
          arith,
          e,
          leb-true 1 row.event (and_parts (nat_le 1 row.event) (nat_le row.event 32) (and_parts (is_thread s u) (is_between 1 32 row.event) well).1).0,
        )))

    awaited_all : (sight s u).waits ≡ Some (block.Receiving (Some a))
        → IsReached a row text true s (for_each (deliver_to text) its s) × IsHandedOn u a text s (for_each (deliver_to text) its s)
    awaited_all seen = reached_all a u row text true (IsHandedOn u a text) (block.Receiving (Some a)) block.Not refl refl
        (λ n other. ne_eqb a n (λ e. other (sym e))) (λ n other. refl) handed_first handed_last
        (λ s out seen own. ap (λ x. x.waits) own.goes_on) awaited_one its its_found its_once its_away s seen there

    kept_all : (b : Block) → is_attentive b ≡ true → ((n : ℕ) → takes_from n b ≡ false) → (sight s u).waits ≡ Some b
        → IsReached a row text false s (for_each (deliver_to text) its s) × IsLeft u s (for_each (deliver_to text) its s)
    kept_all b attends off seen =
        reached_all a u row text false (IsLeft u) b b attends attends (λ n other. off n) (λ n other. off n) (left_then u) (left_then u)
        (λ s out seen own. ap (λ x. x.waits) own.same ∙ seen) (kept_one b attends (off a)) its its_found its_once its_away s seen there

    kept_busy : (o : Option Block) → (sight s u).waits ≡ o → is_busy o ≡ true
        → IsReached a row text false s (for_each (deliver_to text) its s) × IsLeft u s (for_each (deliver_to text) its s)
    kept_busy None seen busy = absurd (cc)
    kept_busy (Some block.Not) seen busy = kept_all block.Not refl (λ n. refl) seen
    kept_busy (Some block.Sending) seen busy = kept_all block.Sending refl (λ n. refl) seen
    kept_busy (Some (block.Joining v)) seen busy = absurd (cc)
    kept_busy (Some (block.Receiving from)) seen busy = absurd (cc)
    kept_busy (Some (block.Entering m)) seen busy = absurd (cc)
    kept_busy (Some (block.Waiting c)) seen busy = absurd (cc)
    kept_busy (Some block.Sleeping) seen busy = absurd (cc)

    delivered : deliver s row.event text ≡ for_each (deliver_to text) its s
    unfolding deliver
    delivered = by_clock (eqb row.event 0) no_clock
      where
        by_clock : (b : Bool) → b ≡ false → cond b (tick s) (for_each (deliver_to text) its s) ≡ for_each (deliver_to text) its s
        by_clock true e = absurd (cc)
        by_clock false e = refl

    reaches : Reaches s a row text (deliver s row.event text)
    reaches = subst (Reaches s a row text) (sym delivered) (record { awaited = awaited_all; kept = kept_busy (sight s u).waits refl })

pub deliveries_reach_agents : DeliveriesReachAgents
deliveries_reach_agents s was a row there text =
    subst (λ n. Reaches s n row text (deliver s row.event text)) number (reaches row text away s was (ap (λ n. find (is_agent_row n) s.agents) number ∙ there))
  where
    number : row.number ≡ a
    number = eqb-true row.number a (find_passes (is_agent_row a) s.agents row there)

    lives : is_thread s row.owner ≡ true
    lives = (and_parts (is_thread s row.owner) (is_between 1 32 row.event)
        (all_found (is_agent_row a) (has_owner_and_event s) s.agents row was.nine.owners.2 there)).0

    away : row.number ≢ row.owner
    away e = let bad : true ≡ false = sym lives ∙ ap (is_thread s) (sym e ∙ number) ∙ no_thread s None was.nine a row there in cc
