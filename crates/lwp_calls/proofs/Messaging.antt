-- Calls on messages, by cases.
use Rattle.death_cleanup.proofs.Crowds.{none_there}
use Rattle.death_cleanup.proofs.Looks.{row_under, rows-under, waits}
use Rattle.death_cleanup.specs.Comes.{CameTo}
use Rattle.death_cleanup.specs.View.{state_of}
use Rattle.death_cleanup.specs.declared.parts.Parts.{Parts}
use Rattle.death_cleanup.specs.declared.rows.Kind.{Kind}
use Rattle.lwp_calls.proofs.Counts.{as_long, length-keys, times-keys}
use Rattle.lwp_calls.specs.Asks.{first_refusal}
use Rattle.lwp_calls.specs.Comes.{ComesTo}
use Rattle.lwp_types.specs.Case.{Case, Check, refusal_case, silent_case, unless}
use Rattle.lwp_types.specs.Choice.{is_eligible}
use Rattle.lwp_types.specs.CountLaws.{count-append, count-filter, count_agree, count_and-le, count_found_and, count_not_found, one}
use Rattle.lwp_types.specs.Counts.{is_sending, sendings_of}
use Rattle.lwp_types.specs.Lawful.{NineParts}
use Rattle.lwp_types.specs.Messages.{as_answer, as_received, is_letter_of, with_reception, next_letter, post, receive_by, send, takes_from}
use Rattle.lwp_types.specs.State.{State, ThreadRow, agent_numbers, row_with_block, is_agent_row, is_not_blocked, is_number}
use Rattle.lwp_types.specs.State.{is_thread, numbers, passes, still, thread_of, times_in, with_block}
use Rattle.lwp_types.specs.Unblock.{after_block, after_block_for, unblock}
use Rattle.lwp_types.specs.declared.call.LwpErr.{LwpErr}
use Rattle.lwp_types.specs.declared.call.LwpErr.TheVariants as error
use Rattle.lwp_types.specs.declared.call.Mode.{Mode}
use Rattle.lwp_types.specs.declared.rows.AgentRow.{AgentRow}
use Rattle.lwp_types.specs.declared.rows.Block.{Block}
use Rattle.lwp_types.specs.declared.rows.Block.TheVariants as block
use Rattle.lwp_types.specs.declared.rows.Letter.{Letter}
use Rattle.pod_laws.proofs.Numbers.{once_rising}
use Rattle.lwp_types.specs.declared.call.Answer.TheVariants as answer
use Rattle.lwp_types.specs.declared.call.Mode.TheVariants as mode
use Rattle.rendezvous.specs.MessageTable.{MessageTable, after_take, has_letter_of, with_found_received}
use Rattle.stale_ids.specs.Register.{AreRising, value_of}
use Rattle.std.proofs.Common.{Bool, List, None, Option, Some, [], ap, arith, cond, eqb, false, length, length-append}
use Rattle.std.proofs.Common.{map, not, refl, subst, sym, true, ℕ, ◌&&◌, ◌+◌, ◌++◌, ◌<◌, ◌==◌, ◌∙◌, ◌∷◌, ◌≡◌, ◌≤◌}
use Rattle.std.proofs.lemmas.Bool.{eq-eqb, eqb-true, ne_eqb}
use Rattle.std.specs.List.{filter, find}
use Rattle.std.specs.Prelude.{is_some, option_map}

-- a call that is refused by the first of its checks that strikes, or isn't refused
pub unless_struck : (s : State) (checks : List Check) (otherwise : Case) (e : LwpErr) → first_refusal checks ≡ Some e
    → unless s checks otherwise ≡ refusal_case s e
unfolding unless
unless_struck s [] otherwise e struck = absurd (cc)
unless_struck s (check ∷ checks) otherwise e struck = by_check check.0 struck (unless_struck s checks otherwise e)
  where
    by_check : (b : Bool) → cond b (Some check.1) (first_refusal checks) ≡ Some e
        → (first_refusal checks ≡ Some e → unless s checks otherwise ≡ refusal_case s e)
        → cond b (refusal_case s check.1) (unless s checks otherwise) ≡ refusal_case s e
    by_check true h rest = let same : check.1 ≡ e = cc in ap (refusal_case s) same
    by_check false h rest = rest h

pub unless_passed : (s : State) (checks : List Check) (otherwise : Case) → first_refusal checks ≡ None → unless s checks otherwise ≡ otherwise
unfolding unless
unless_passed s [] otherwise passed = refl
unless_passed s (check ∷ checks) otherwise passed = by_check check.0 passed (unless_passed s checks otherwise)
  where
    by_check : (b : Bool) → cond b (Some check.1) (first_refusal checks) ≡ None
        → (first_refusal checks ≡ None → unless s checks otherwise ≡ otherwise) → cond b (refusal_case s check.1) (unless s checks otherwise) ≡ otherwise
    by_check true h rest = absurd (cc)
    by_check false h rest = rest h

-- what is asked of a thread, by who lives under its number
pub taking-under : (parts : Parts) (t sender : ℕ) (o : Option Kind) → AreRising parts.ids.live → value_of t parts.ids.live ≡ o
    → option_map (λ (row : ThreadRow). takes_from sender row.block) (thread_of (state_of parts) t)
    ≡ option_map (λ (row : ThreadRow). takes_from sender row.block) (row_under parts.last_prio parts.sched.threads t o)
taking-under parts t sender o rising e = ap (option_map (λ (row : ThreadRow). takes_from sender row.block))
    (rows-under parts.last_prio parts.sched.threads t parts.ids.live rising ∙ ap (row_under parts.last_prio parts.sched.threads t) e)

-- what is asked of who is there, and that nobody is there
module _ {A : Type 0} (q : A → Bool) where
  pub mapped-some : (o : Option A) (b : Bool) → option_map q o ≡ Some b → b ≡ passes q o
  mapped-some None b e = absurd (cc)
  mapped-some (Some x) b e = let is : Some (q x) ≡ Some b = e in cc

  pub mapped-there : (o : Option A) (b : Bool) → option_map q o ≡ Some b → is_some o ≡ true
  mapped-there None b e = absurd (cc)
  mapped-there (Some x) b e = refl

  pub mapped-none : (o : Option A) → option_map q o ≡ None → false ≡ passes q o
  mapped-none None e = refl
  mapped-none (Some x) e = absurd (cc)

  pub mapped-absent : (o : Option A) → option_map q o ≡ None → is_some o ≡ false
  mapped-absent None e = refl
  mapped-absent (Some x) e = absurd (cc)

-- another thread's row is as it was
row_kept : (t u : ℕ) → eqb t u ≡ false → (b : Block) (rows : List ThreadRow) → find (is_number u) (with_block t b rows) ≡ find (is_number u) rows
row_kept t u away b [] = refl
row_kept t u away b (row ∷ rows) = by_test (is_number u row) refl (row_kept t u away b rows)
  where
    other : eqb row.number u ≡ true → eqb row.number t ≡ false
    other e = ne_eqb row.number t (λ same. absurd (let no-way : false ≡ true = sym away ∙ eq-eqb t u (sym same ∙ eqb-true row.number u e) in cc))

    by_test : (c : Bool) → is_number u row ≡ c → find (is_number u) (with_block t b rows) ≡ find (is_number u) rows
        → cond c (Some (row_with_block t b row)) (find (is_number u) (with_block t b rows)) ≡ cond c (Some row) (find (is_number u) rows)
    by_test true e rest = rw (other e) refl
    by_test false e rest = rest

-- what another thread takes is what it took before the caller waited
pub taken-still : (s : State) (t u : ℕ) → eqb t u ≡ false → (b : Block)
    → passes (λ (row : ThreadRow). takes_from t row.block) (thread_of (after_block s t b) u)
    ≡ passes (λ (row : ThreadRow). takes_from t row.block) (thread_of s u)
taken-still s t u away b = ap (passes (λ (row : ThreadRow). takes_from t row.block)) (row_kept t u away b s.threads)

-- who takes a letter waits
pub taker-waits : (sender : ℕ) (o : Option ThreadRow) → passes (λ row. takes_from sender row.block) o ≡ true → passes waits o ≡ true
taker-waits sender None takes = absurd (cc)
taker-waits sender (Some row) takes = by_block row.block takes
  where
    by_block : (b : Block) → takes_from sender b ≡ true → not (is_not_blocked b) ≡ true
    by_block block.Not h = absurd (cc)
    by_block (block.Joining t) h = refl
    by_block block.Sending h = refl
    by_block (block.Receiving from) h = refl
    by_block (block.Entering m) h = refl
    by_block (block.Waiting c) h = refl
    by_block block.Sleeping h = refl

-- Send

module _ (s : State) (t to room : ℕ) (text : List ℕ) where
  pub send-absent : is_thread s to ≡ false → send s t to room text ≡ refusal_case s error.NonExist
  unfolding unless
  send-absent absent = rw absent refl

  pub send-self : is_thread s to ≡ true → eqb t to ≡ true → send s t to room text ≡ refusal_case s error.InvalidArg
  unfolding unless
  send-self there same = rw (there, same) refl

  pub send-made : is_thread s to ≡ true → eqb t to ≡ false
      → send s t to room text ≡ silent_case (post (record { from = t; to = to; text = text; room = room; received = false }) (after_block s t block.Sending))
  unfolding unless
  send-made there other = rw (there, other) refl

-- a letter that finds its taker, and one that doesn't
pub post-taken : (s : State) (letter : Letter) → passes (λ row. takes_from letter.from row.block) (thread_of s letter.to) ≡ true
    → post letter s ≡ unblock (as_answer letter) letter.to (record s { letters = s.letters ++ as_received letter ∷ [] })
post-taken s letter taken = rw taken refl

pub post-kept : (s : State) (letter : Letter) → passes (λ row. takes_from letter.from row.block) (thread_of s letter.to) ≡ false
    → post letter s ≡ still (record s { letters = s.letters ++ letter ∷ [] })
post-kept s letter kept = rw kept refl

-- how many letters there are

module _ (s : State) (was : NineParts s None) where
  -- all that should have a letter: threads that send, and agents that hold
  abbrev senders : List ℕ
  senders = numbers (filter (λ (row : ThreadRow). is_sending row.block) s.threads) ++ agent_numbers (filter (λ (row : AgentRow). row.holding) s.agents)

  swap : (a b : Bool) → (a && b) ≡ (b && a)
  swap true true = refl
  swap true false = refl
  swap false true = refl
  swap false false = refl

  times-senders : (n : ℕ) → times_in senders n ≡ sendings_of s n
  times-senders n = omega (
    arith,
    count-append (λ m. eqb m n) (numbers (filter (λ (row : ThreadRow). is_sending row.block) s.threads))
        (agent_numbers (filter (λ (row : AgentRow). row.holding) s.agents)),
    times-keys (λ (row : ThreadRow). row.number) (filter (λ (row : ThreadRow). is_sending row.block) s.threads) n,
    times-keys (λ (row : AgentRow). row.number) (filter (λ (row : AgentRow). row.holding) s.agents) n,
    count-filter (λ (row : ThreadRow). is_number n row) (λ (row : ThreadRow). is_sending row.block) s.threads,
    count-filter (λ (row : AgentRow). is_agent_row n row) (λ (row : AgentRow). row.holding) s.agents,
    count_agree (λ (row : ThreadRow). is_sending row.block && is_number n row)
        (λ (row : ThreadRow). is_number n row && is_sending row.block) (λ row. swap (is_sending row.block) (is_number n row)) s.threads,
    count_agree (λ (row : AgentRow). row.holding && is_agent_row n row) (λ (row : AgentRow). is_agent_row n row && row.holding)
        (λ row. swap row.holding (is_agent_row n row)) s.agents,
  )

  -- as many letters as senders
  pub letters-count : length s.letters
      ≡ length (filter (λ (row : ThreadRow). is_sending row.block) s.threads) + length (filter (λ (row : AgentRow). row.holding) s.agents)
  letters-count = omega (
    arith,
    length-keys (λ (letter : Letter). letter.from) s.letters,
    as_long (map (λ (letter : Letter). letter.from) s.letters) senders
        (λ n. times-keys (λ (letter : Letter). letter.from) s.letters n ∙ was.blocks.1 n ∙ sym (times-senders n)),
    length-append (numbers (filter (λ (row : ThreadRow). is_sending row.block) s.threads)) (agent_numbers (filter (λ (row : AgentRow). row.holding) s.agents)),
    length-keys (λ (row : ThreadRow). row.number) (filter (λ (row : ThreadRow). is_sending row.block) s.threads),
    length-keys (λ (row : AgentRow). row.number) (filter (λ (row : AgentRow). row.holding) s.agents),
  )

filter-le : {X : Type 0} (p : X → Bool) (xs : List X) → length (filter p xs) ≤ length xs
filter-le p [] = omega arith
filter-le p (x ∷ xs) = by_test (p x) (filter-le p xs)
  where
    by_test : (b : Bool) → length (filter p xs) ≤ length xs → length (cond b (x ∷ filter p xs) (filter p xs)) ≤ length (x ∷ xs)
    by_test true rest = omega (arith, rest)
    by_test false rest = omega (arith, rest)

-- where one of them fails, fewer than all pass
filter-less : {X : Type 0} (p q : X → Bool) (xs : List X) (x : X) → find q xs ≡ Some x → p x ≡ false → length (filter p xs) < length xs
filter-less p q [] x found fails = absurd (cc)
filter-less p q (y ∷ ys) x found fails = by_head (q y) found (λ later. filter-less p q ys x later fails)
  where
    by_test : (b : Bool) → length (filter p ys) < length ys → length (cond b (y ∷ filter p ys) (filter p ys)) < length (y ∷ ys)
    by_test true rest = omega (arith, rest)
    by_test false rest = omega (arith, rest)

    by_head : (c : Bool) → cond c (Some y) (find q ys) ≡ Some x → (find q ys ≡ Some x → length (filter p ys) < length ys)
        → length (filter p (y ∷ ys)) < length (y ∷ ys)
    by_head true here rest =
        let same : y ≡ x = cc in
        let out : p y ≡ false = ap p same ∙ fails in
        rw out (omega (arith, filter-le p ys))
    by_head false later rest = by_test (p y) (rest later)

-- a thread that may run
module _ (s : State) (was : NineParts s None) (t : ℕ) (row : ThreadRow) (known : thread_of s t ≡ Some row) (runs : is_eligible row ≡ true) where
  not_sending : is_sending row.block ≡ false
  not_sending = by_block row.suspended row.block runs
    where
      by_block : (c : Bool) (b : Block) → (not c && is_not_blocked b) ≡ true → is_sending b ≡ false
      by_block true b h = absurd (cc)
      by_block false block.Not h = refl
      by_block false (block.Joining u) h = absurd (cc)
      by_block false block.Sending h = absurd (cc)
      by_block false (block.Receiving from) h = absurd (cc)
      by_block false (block.Entering m) h = absurd (cc)
      by_block false (block.Waiting c) h = absurd (cc)
      by_block false block.Sleeping h = absurd (cc)

  -- there is a place for a letter of it
  pub place-left : length s.letters < length s.threads + length s.agents
  place-left = omega (
    arith,
    letters-count s was,
    filter-less (λ (r : ThreadRow). is_sending r.block) (is_number t) s.threads row known not_sending,
    filter-le (λ (r : AgentRow). r.holding) s.agents,
  )

  no_agent : find (is_agent_row t) s.agents ≡ None
  no_agent = by_found (find (is_agent_row t) s.agents) refl
    where
      by_found : (o : Option AgentRow) → find (is_agent_row t) s.agents ≡ o → o ≡ None
      by_found None e = refl
      by_found (Some a) e = absurd (let no : false ≡ true = rw (known, e) at (was.numbers.2 t) in cc)

  -- and it has none yet
  pub no_letter : has_letter_of s.letters t ≡ false
  no_letter = none_there (is_letter_of t) s.letters (omega (
    arith,
    was.blocks.1 t,
    count_found_and (is_number t) (λ (r : ThreadRow). is_sending r.block) s.threads row known
        (omega (arith, once_rising (numbers s.threads) was.numbers.0.0 t, times-keys (λ (r : ThreadRow). r.number) s.threads t)),
    ap one not_sending,
    count_and-le (is_agent_row t) (λ (r : AgentRow). r.holding) s.agents,
    count_not_found (is_agent_row t) s.agents no_agent,
  ))

-- an agent that holds nothing
module _ (s : State) (was : NineParts s None) (row : AgentRow) (own : find (is_agent_row row.number) s.agents ≡ Some row) (free : row.holding ≡ false) where
  -- there is a place for a letter of it
  pub agent-place : length s.letters < length s.threads + length s.agents
  agent-place = omega (
    arith,
    letters-count s was,
    filter-le (λ (r : ThreadRow). is_sending r.block) s.threads,
    filter-less (λ (r : AgentRow). r.holding) (is_agent_row row.number) s.agents row own free,
  )

  no_thread : find (is_number row.number) s.threads ≡ None
  no_thread = by_found (find (is_number row.number) s.threads) refl
    where
      by_found : (o : Option ThreadRow) → find (is_number row.number) s.threads ≡ o → o ≡ None
      by_found None e = refl
      by_found (Some r) e = absurd (let never : false ≡ true = rw (e, own) at (was.numbers.2 row.number) in cc)

  -- and it has none yet
  pub agent_no_letter : has_letter_of s.letters row.number ≡ false
  agent_no_letter = none_there (is_letter_of row.number) s.letters (omega (
    arith,
    was.blocks.1 row.number,
    count_and-le (is_number row.number) (λ (r : ThreadRow). is_sending r.block) s.threads,
    count_not_found (is_number row.number) s.threads no_thread,
    count_found_and (is_agent_row row.number) (λ (r : AgentRow). r.holding) s.agents row own
        (omega (arith, once_rising (agent_numbers s.agents) was.numbers.0.1 row.number, times-keys (λ (r : AgentRow). r.number) s.agents row.number)),
    ap one free,
  ))

-- what a receive comes to, by which letter is found
module _ (parts : Parts) (t : ℕ) (from : Option ℕ) where
  abbrev s : State
  s = state_of parts

  abbrev after : Parts
  after = record parts { mail = after_take parts.mail t from }

  pub received-is : (how : Mode) (letter : Letter) → option_map as_received (next_letter s.letters t from) ≡ Some letter
      → receive_by s t from how (next_letter s.letters t from)
      ≡ record { after = state_of after; others = []; own = Some (answer.Letter letter.from letter.text letter.room) }
  received-is how letter given = by_found (next_letter s.letters t from) refl given
    where
      by_found : (o : Option Letter) → next_letter s.letters t from ≡ o → option_map as_received o ≡ Some letter
          → receive_by s t from how o ≡ record { after = state_of after; others = []; own = Some (answer.Letter letter.from letter.text letter.room) }
      by_found None e h = absurd (cc)
      by_found (Some l) e h =
          let same : as_received l ≡ letter = (let k : Some (as_received l) ≡ Some letter = h in cc) in
          ap (λ (x : Letter).
          record { after = record s { letters = with_reception l.from s.letters }; others = []; own = Some (answer.Letter x.from x.text x.room) })
          same
          ∙ ap (λ o. record {
            after = record s { letters = with_found_received o s.letters };
            others = [];
            own = Some (answer.Letter letter.from letter.text letter.room);
          })
          (sym e)

  nothing : option_map as_received (next_letter s.letters t from) ≡ None → next_letter s.letters t from ≡ None
  nothing given = by_found (next_letter s.letters t from) given
    where
      by_found : (o : Option Letter) → option_map as_received o ≡ None → o ≡ None
      by_found None h = refl
      by_found (Some l) h = absurd (cc)

  -- the messages are as they were
  pub untouched : option_map as_received (next_letter s.letters t from) ≡ None → after_take parts.mail t from ≡ parts.mail
  untouched given = ap (λ o. record parts.mail { letters = with_found_received o parts.mail.letters }) (nothing given)

  pub polled-is : option_map as_received (next_letter s.letters t from) ≡ None
      → receive_by s t from mode.Poll (next_letter s.letters t from) ≡ refusal_case s error.Timeout
  polled-is given = ap (receive_by s t from mode.Poll) (nothing given)

  pub awaited-is : option_map as_received (next_letter s.letters t from) ≡ None
      → receive_by s t from mode.Block (next_letter s.letters t from) ≡ silent_case (still (after_block s t (block.Receiving from)))
  awaited-is given = ap (receive_by s t from mode.Block) (nothing given)

  timed-is : (ticks : ℕ) (b : Bool) → (ticks == 0) ≡ b → option_map as_received (next_letter s.letters t from) ≡ None
      → receive_by s t from (mode.Until ticks) (next_letter s.letters t from)
      ≡ cond b (refusal_case s error.Timeout) (silent_case (still (after_block_for s t (block.Receiving from) ticks)))
  timed-is ticks b test given = ap (receive_by s t from (mode.Until ticks)) (nothing given)
      ∙ ap (λ (x : Bool). cond x (refusal_case s error.Timeout) (silent_case (still (after_block_for s t (block.Receiving from) ticks)))) test

  pub timed_out-is : (ticks : ℕ) → ticks ≡ 0 → option_map as_received (next_letter s.letters t from) ≡ None
      → receive_by s t from (mode.Until ticks) (next_letter s.letters t from) ≡ refusal_case s error.Timeout
  timed_out-is ticks none given = timed-is ticks true (eq-eqb ticks 0 none) given

  pub timed_await-is : (ticks : ℕ) → (ticks ≡ 0 → ⊥) → option_map as_received (next_letter s.letters t from) ≡ None
      → receive_by s t from (mode.Until ticks) (next_letter s.letters t from) ≡ silent_case (still (after_block_for s t (block.Receiving from) ticks))
  timed_await-is ticks some given = timed-is ticks false (by_test (ticks == 0) refl) given
    where
      by_test : (b : Bool) → (ticks == 0) ≡ b → (ticks == 0) ≡ false
      by_test true e = absurd (some (eqb-true ticks 0 e))
      by_test false e = e

-- the caller waits for a letter
pub awaited_comes : (parts new : Parts) (t : ℕ) (from : Option ℕ) (mail : MessageTable) (made : Case) → mail ≡ parts.mail
    → CameTo (record parts { mail = mail }) new [] [] (still (after_block (state_of (record parts { mail = mail })) t (block.Receiving from)))
    → made ≡ silent_case (still (after_block (state_of parts) t (block.Receiving from))) → ComesTo parts new [] [] made None
awaited_comes parts new t from mail made same came is =
    let there : CameTo parts new [] [] (still (after_block (state_of parts) t (block.Receiving from))) =
    subst (λ (m : MessageTable).
    CameTo (record parts { mail = m }) new [] [] (still (after_block (state_of (record parts { mail = m })) t (block.Receiving from))))
    same came in
    rw is (record { came = there; own = refl })

-- and for no more than so many ticks
pub timed_comes : (parts new : Parts) (t : ℕ) (from : Option ℕ) (ticks : ℕ) (mail : MessageTable) (made : Case) → mail ≡ parts.mail
    → CameTo (record parts { mail = mail }) new [] [] (still (after_block_for (state_of (record parts { mail = mail })) t (block.Receiving from) ticks))
    → made ≡ silent_case (still (after_block_for (state_of parts) t (block.Receiving from) ticks)) → ComesTo parts new [] [] made None
timed_comes parts new t from ticks mail made same came is =
    let there : CameTo parts new [] [] (still (after_block_for (state_of parts) t (block.Receiving from) ticks)) =
    subst (λ (m : MessageTable).
    CameTo (record parts { mail = m }) new [] [] (still (after_block_for (state_of (record parts { mail = m })) t (block.Receiving from) ticks)))
    same came in
    rw is (record { came = there; own = refl })
