-- The calls that free only those who wait for the caller, or for nobody, leave all others as they are.
use Rattle.deadlock_laws.proofs.Frames.{Framed, framed_still, framed_then, framed_unless, letter_left, mapped_lists}
use Rattle.deadlock_laws.proofs.Frames.{other_block, owner_deepened, owner_pushed, same_threads}
use Rattle.deadlock_laws.proofs.Posting.{freed, not_taker, post_framed, taker}
use Rattle.lwp_types.specs.Choice.{best_by}
use Rattle.lwp_types.specs.Conditions.{after_wait, after_wake, after_wake_all, broadcast, cond_send, condition_of, notify, wait, waits_on}
use Rattle.lwp_types.specs.CountLaws.{count_found_and, count_found_by, one}
use Rattle.lwp_types.specs.Counts.{is_entering, is_requested_well, is_sending, is_waited_well, is_waiting, requests_by}
use Rattle.lwp_types.specs.First.{IsFirstBest}
use Rattle.lwp_types.specs.FirstLaws.{find-filter, finds_best}
use Rattle.lwp_types.specs.Lawful.{NineParts}
use Rattle.lwp_types.specs.Messages.{after_reply, is_letter_of, is_to, letters_of, received_letter, reply, send, with_holding, without_letter}
use Rattle.lwp_types.specs.MonitorRelease.{grant, is_owned_by, last_lock, lock_of, next_owner, release, requests_of, without_lock}
use Rattle.lwp_types.specs.Monitors.{after_exit, depth_in, is_owner, monitor_exit, with_depth}
use Rattle.lwp_types.specs.State.{State, ThreadRow, is_agent, passes, priority_in, row_with_block, still, thread_of}
use Rattle.lwp_types.specs.Unblock.{after_block, unblock}
use Rattle.lwp_types.specs.declared.rows.Block.{Block}
use Rattle.lwp_types.specs.declared.rows.CondRow.{CondRow}
use Rattle.lwp_types.specs.declared.rows.Letter.{Letter}
use Rattle.lwp_types.specs.declared.rows.Lock.{Lock}
use Rattle.lwp_types.specs.declared.rows.Request.{Request}
use Rattle.lwp_types.specs.declared.rows.WaitRow.{WaitRow}
use Rattle.pod_laws.proofs.Elements.{all_at, all_counted, all_filter, false_of, find_passes, not_of, true_of}
use Rattle.pod_laws.proofs.LetterMoves.{letters_counted}
use Rattle.pod_laws.proofs.LockLists.{dropped_other}
use Rattle.pod_laws.proofs.LockMoves.{other_waiter, requester_enters}
use Rattle.pod_laws.proofs.MessageCalls.{reply_sends, sender_row}
use Rattle.pod_laws.proofs.Waking.{last_owner}
use Rattle.state_text.specs.Waiting.{awaited_by, owner_of, receiver_of}
use Rattle.std.proofs.Common.{Bool, List, MatchOption, None, Option, Some, [], ap, arith, cond, count_by, eqb}
use Rattle.std.proofs.Common.{false, not, refl, sym, true, ℕ, ◌&&◌, ◌++◌, ◌-◌, ◌∙◌, ◌∷◌, ◌≡◌, ◌≢◌, ◌≤◌}
use Rattle.std.proofs.lemmas.Bool.{and_from, and_parts, eq-eqb, eqb-false, eqb-true, ne_eqb}
use Rattle.std.proofs.lemmas.Option.{none-some}
use Rattle.std.specs.List.{find, fold, list_all}
use Rattle.std.specs.Prelude.{is_none, nat_le, option_map, option_to_list}
use Rattle.lwp_types.specs.declared.call.Answer.TheVariants as answer
use Rattle.lwp_types.specs.declared.rows.Block.TheVariants as block

-- what all of a list pass, the best of them passes
best_all : {A : Type 0} (weight : A → ℕ) (q : A → Bool) (xs : List A) → list_all q xs ≡ true → (y : A) → best_by weight xs ≡ Some y → q y ≡ true
best_all weight q xs all y is = by_best (best_by weight xs) (finds_best weight xs) is
  where
    by_best : (o : Option _) → MatchOption o (xs ≡ []) (IsFirstBest weight xs) → o ≡ Some y → q y ≡ true
    by_best None best e = absurd (none-some y e)
    by_best (Some z) best e =
        let same : z ≡ y = cc in
        rw (← same) (all_at q best.before z best.after (ap (list_all q) (sym best.splits) ∙ all))

best_listed : {A : Type 0} (weight : A → ℕ) (q : A → Bool) (xs : List A) → list_all q xs ≡ true → list_all q (option_to_list (best_by weight xs)) ≡ true
best_listed weight q xs all = by_best (best_by weight xs) refl
  where
    by_best : (o : Option _) → best_by weight xs ≡ o → list_all q (option_to_list o) ≡ true
    by_best None e = refl
    by_best (Some y) e = and_from (q y) true (best_all weight q xs all y e) refl

away_from : (n h : ℕ) → not (eqb n h) ≡ true → h ≢ n
away_from n h e same = eqb-false n h (false_of _ e) (sym same)

module _ (s : State) (was : NineParts s None) (t h v : ℕ) (row : ThreadRow) (known : thread_of s h ≡ Some row)
    (waits : awaited_by s h row.block ≡ Some v) (other : h ≢ t) (apart : v ≢ t) where
  -- Send: a receiver of the caller's letter waits for the caller, or for nobody

  abbrev sending : State
  sending = after_block s t block.Sending

  sends : Framed h v s sending
  sends = mapped_lists h v s sending (row_with_block t block.Sending) (λ r. refl) (other_block h v t other block.Sending) refl refl refl

  pub send_framed : (u room : ℕ) (text : List ℕ) → Framed h v s (send s t u room text).after
  send_framed u room text = framed_unless h v s _ _
      (λ passed. framed_then h v s sending _ sends (post_framed h v (record { from = t; to = u; text = text; room = room; received = false }) sending
      (not_taker sending h t row.block (sends.block ∙ ap (option_map (λ (r : ThreadRow). r.block)) known)
      (λ takes. apart (taker s h v t row.block waits takes)) u)))

  -- Reply: the thread that it is for has sent to the caller

  sent_to : (b : Block) → b ≡ block.Sending → awaited_by s h b ≡ Some v → receiver_of s.letters h ≡ Some v
  sent_to b is e = ap (awaited_by s h) (sym is) ∙ e

  not_replied : (u : ℕ) → is_none (received_letter s.letters t u) ≡ false → h ≢ u
  not_replied u some same = by_letter (find (is_letter_of h) s.letters) refl
      (sent_to row.block (sender_row s None was h row known (omega (arith, reply_sends s t u some, ap (letters_of s.letters) same))) waits)
    where
      few : (b : Bool) → one b ≤ 1
      few true = omega arith
      few false = omega arith

      counted : 1 ≤ count_by (λ letter. is_letter_of h letter && is_to t letter) s.letters
      counted = by_found (received_letter s.letters t u) refl some
        where
          by_found : (o : Option Letter) → received_letter s.letters t u ≡ o → is_none o ≡ false
              → 1 ≤ count_by (λ letter. is_letter_of h letter && is_to t letter) s.letters
          by_found None e none = absurd (cc)
          by_found (Some l) e none =
              let inner = sym (find-filter (λ letter. letter.received && is_letter_of u letter) (is_to t) s.letters) ∙ e in
              let passed = and_parts (is_to t l) _ (find_passes (λ letter. is_to t letter && (letter.received && is_letter_of u letter)) s.letters l inner) in
              count_found_by (λ letter. is_to t letter && (letter.received && is_letter_of u letter))
              (λ letter. is_letter_of h letter && is_to t letter) s.letters l inner
              (and_from _ _ (ap (λ n. is_letter_of n l) same ∙ (and_parts l.received _ passed.1).1) passed.0)

      by_letter : (o : Option Letter) → find (is_letter_of h) s.letters ≡ o → option_map (λ (l : Letter). l.to) o ≡ Some v → ⊥
      by_letter None e is = none-some v is
      by_letter (Some l) e is =
          let to : l.to ≡ v = cc in
          by_test (is_to t l) refl to (omega (
            arith,
            counted,
            count_found_and (is_letter_of h) (is_to t) s.letters l e (omega (arith, letters_counted s None was h row known, few (is_sending row.block))),
          ))
        where
          by_test : (b : Bool) → is_to t l ≡ b → l.to ≡ v → 1 ≤ one b → ⊥
          by_test true e to some = apart (sym to ∙ eqb-true l.to t e)
          by_test false e to some = omega (arith, some)

  replied : (u : ℕ) (text : List ℕ) → h ≢ u → Framed h v s (after_reply u text s).after
  replied u text away = by_agent (is_agent s u)
    where
      by_agent : (b : Bool)
          → Framed h v s (cond b (still (record s { letters = without_letter u s.letters; agents = with_holding u false s.agents }))
          (unblock (answer.Reply text) u (record s { letters = without_letter u s.letters }))).after
      by_agent true = same_threads h v s _ refl (λ e. letter_left u s.letters h away ∙ e) (λ m e. e)
      by_agent false = freed h v s _ u away refl (λ e. letter_left u s.letters h away ∙ e) (λ m e. e)

  pub reply_framed : (u : ℕ) (text : List ℕ) → Framed h v s (reply s t u text).after
  reply_framed u text = framed_unless h v s _ _ (λ passed. replied u text (not_replied u passed.1.0))

  -- MonExit and Wait: a thread that waits for the monitor waits for the caller

  enters : (m : ℕ) (b : Block) → awaited_by s h b ≡ Some v → 1 ≤ one (is_entering m b) → owner_of s.locks m ≡ Some v
  enters m block.Not e some = absurd (omega (arith, some))
  enters m (block.Joining u) e some = absurd (omega (arith, some))
  enters m block.Sending e some = absurd (omega (arith, some))
  enters m (block.Receiving from) e some = absurd (omega (arith, some))
  enters m (block.Entering k) e some = by_test (eqb k m) refl some
    where
      by_test : (b : Bool) → eqb k m ≡ b → 1 ≤ one b → owner_of s.locks m ≡ Some v
      by_test true same some = ap (owner_of s.locks) (sym (eqb-true k m same)) ∙ e
      by_test false same some = absurd (omega (arith, some))
  enters m (block.Waiting c) e some = absurd (omega (arith, some))
  enters m block.Sleeping e some = absurd (omega (arith, some))

  owner_is : (m : ℕ) → owner_of s.locks m ≡ Some t → owner_of s.locks m ≡ Some v → ⊥
  owner_is m mine its =
      let both : Some t ≡ Some v = sym mine ∙ its in
      let same : t ≡ v = cc in
      apart (sym same)

  requests_apart : (m : ℕ) → owner_of s.locks m ≡ Some t → list_all (λ (r : Request). not (eqb r.tid h)) (requests_of s.requests m) ≡ true
  requests_apart m mine = all_filter (λ (r : Request). not (eqb r.tid h && eqb r.mon m)) (λ r. not (eqb r.tid h)) (λ r. eqb r.mon m)
      (λ r here e. left (eqb r.tid h) (eqb r.mon m) here e) s.requests
      (all_counted (λ (r q : Request). eqb q.tid r.tid && eqb q.mon r.mon) (λ r. and_from _ _ (eq-eqb r.tid r.tid refl) (eq-eqb r.mon r.mon refl))
      (is_requested_well s) (λ r. not (eqb r.tid h && eqb r.mon m)) s.requests
      (λ r some well. not_of _ (by_both (eqb r.tid h && eqb r.mon m) r refl some)) was.locks.2)
    where
      left : (a b : Bool) → b ≡ true → not (a && b) ≡ true → not a ≡ true
      left true true e h = h
      left true false e h = absurd (cc)
      left false b e h = refl

      by_both : (b : Bool) (r : Request) → (eqb r.tid h && eqb r.mon m) ≡ b → 1 ≤ requests_by s r.tid r.mon → b ≡ false
      by_both true r e some =
          let both = and_parts (eqb r.tid h) (eqb r.mon m) e in
          absurd (owner_is m mine (enters m row.block waits (omega (
            arith,
            some,
            ap (λ n. requests_by s n r.mon) (eqb-true r.tid h both.0),
            ap (requests_by s h) (eqb-true r.mon m both.1),
            requester_enters s None was h row known m,
          ))))
      by_both false r e some = refl

  owner_dropped : (m k : ℕ) → owner_of s.locks m ≡ Some t → owner_of s.locks k ≡ Some v → owner_of (without_lock m s.locks) k ≡ Some v
  owner_dropped m k mine its =
      ap (option_map (λ (l : Lock). l.owner)) (dropped_other m s.locks k (λ same. owner_is m mine (ap (owner_of s.locks) (sym same) ∙ its)))
      ∙ its

  -- of a state with these requests and locks
  released : (m : ℕ) (now : State) → now.locks ≡ s.locks → now.requests ≡ s.requests → owner_of s.locks m ≡ Some t → Framed h v now (release m now).after
  released m now locks requests mine = by_next (next_owner now m) refl
    where
      dropped : (k : ℕ) → owner_of now.locks k ≡ Some v → owner_of (without_lock m now.locks) k ≡ Some v
      dropped k its = ap (λ ls. owner_of (without_lock m ls) k) locks ∙ owner_dropped m k mine (ap (λ ls. owner_of ls k) (sym locks) ∙ its)

      by_next : (o : Option Request) → next_owner now m ≡ o → Framed h v now (grant o (record now { locks = without_lock m now.locks })).after
      by_next None e = same_threads h v now _ refl (λ e. e) dropped
      by_next (Some r) e = freed h v now _ r.tid
          (away_from r.tid h (best_all (λ (r : Request). priority_in now r.tid) (λ r. not (eqb r.tid h)) (requests_of now.requests m)
          (ap (λ rs. list_all (λ (r : Request). not (eqb r.tid h)) (requests_of rs m)) requests ∙ requests_apart m mine) r e))
          refl (λ e. e) (λ k its. owner_pushed (without_lock m now.locks) k v _ (dropped k its))

  owner_known : (m : ℕ) → is_owner s.locks t m ≡ true → owner_of s.locks m ≡ Some t
  owner_known m owns = by_lock (lock_of s.locks m) owns
    where
      by_lock : (o : Option Lock) → passes (is_owned_by t) o ≡ true → option_map (λ (l : Lock). l.owner) o ≡ Some t
      by_lock None e = absurd (cc)
      by_lock (Some lock) e = ap Some (eqb-true lock.owner t e)

  exited : (m : ℕ) → owner_of s.locks m ≡ Some t → Framed h v s (after_exit m s).after
  exited m mine = by_depth (nat_le (depth_in s.locks m) 1)
    where
      by_depth : (b : Bool) → Framed h v s (cond b (release m s) (still (record s { locks = with_depth m (depth_in s.locks m - 1) s.locks }))).after
      by_depth true = released m s refl refl mine
      by_depth false = same_threads h v s _ refl (λ e. e) (λ k e. owner_deepened m (depth_in s.locks m - 1) s.locks k ∙ e)

  pub monitor_exit_framed : (m : ℕ) → Framed h v s (monitor_exit s t m).after
  monitor_exit_framed m = framed_unless h v s _ _ (λ passed. exited m (owner_known m (true_of _ passed.1.0)))

  waited : (c : ℕ) (o : Option Lock) → last_lock s.locks t ≡ o → Framed h v s (after_wait t c o s).after
  waited c None e = framed_still h v s
  waited c (Some lock) e =
      let now = after_block (record s { waits = s.waits ++ record { cond = c; tid = t; depth = lock.depth } ∷ [] }) t (block.Waiting c) in
      framed_then h v s now _ (mapped_lists h v s now (row_with_block t (block.Waiting c)) (λ r. refl) (other_block h v t other (block.Waiting c))
      refl refl refl)
      (released lock.mon now refl refl
      (owner_known lock.mon (last_owner s None was t lock.mon (ap (passes (λ (l : Lock). eqb lock.mon l.mon)) e ∙ eq-eqb lock.mon lock.mon refl))))

  pub wait_framed : (c : ℕ) → Framed h v s (wait s t c).after
  wait_framed c = framed_unless h v s _ _ (λ passed. waited c (last_lock s.locks t) refl)

  -- who waits on a condition waits for no one thread

  on_none : (b : Block) → awaited_by s h b ≡ Some v → (c : ℕ) → is_waiting c b ≡ false
  on_none block.Not e c = refl
  on_none (block.Joining u) e c = refl
  on_none block.Sending e c = refl
  on_none (block.Receiving from) e c = refl
  on_none (block.Entering m) e c = refl
  on_none (block.Waiting k) e c = absurd (none-some v e)
  on_none block.Sleeping e c = refl

  waits_apart : list_all (λ (w : WaitRow). not (eqb w.tid h)) s.waits ≡ true
  waits_apart = all_counted (λ (w q : WaitRow). eqb q.tid w.tid && eqb q.cond w.cond)
      (λ w. and_from _ _ (eq-eqb w.tid w.tid refl) (eq-eqb w.cond w.cond refl)) (is_waited_well s) (λ w. not (eqb w.tid h)) s.waits
      (λ w some well. not_of _ (ne_eqb w.tid h (λ same. other_waiter s None was h row known (on_none row.block waits) w some (sym same)))) was.locks.3

  listed_apart : (c : ℕ) → list_all (λ (w : WaitRow). not (eqb w.tid h)) (waits_on s.waits c) ≡ true
  listed_apart c = all_filter (λ (w : WaitRow). not (eqb w.tid h)) (λ w. not (eqb w.tid h)) (λ w. eqb w.cond c) (λ w here e. e) s.waits waits_apart

  woken : (m : ℕ) (ws : List WaitRow) → list_all (λ (w : WaitRow). not (eqb w.tid h)) ws ≡ true → (now : State)
      → Framed h v now (fold (λ now w. after_wake m w now) now ws)
  woken m [] all now = framed_still h v now
  woken m (w ∷ ws) all now =
      let parts = and_parts _ _ all in
      framed_then h v now (after_wake m w now) _ (mapped_lists h v now (after_wake m w now) (row_with_block w.tid (block.Entering m)) (λ r. refl)
      (other_block h v w.tid (away_from w.tid h parts.0) (block.Entering m)) refl refl refl)
      (woken m ws parts.1 (after_wake m w now))

  woken_all : (o : Option CondRow) (ws : List WaitRow) → list_all (λ (w : WaitRow). not (eqb w.tid h)) ws ≡ true → Framed h v s (after_wake_all o ws s)
  woken_all None ws all = framed_still h v s
  woken_all (Some r) ws all = woken r.mon ws all s

  pub notify_framed : (c : ℕ) → Framed h v s (notify s t c).after
  notify_framed c = framed_unless h v s _ _ (λ passed. woken_all (condition_of s.conditions c) _
      (best_listed (λ (w : WaitRow). priority_in s w.tid) (λ w. not (eqb w.tid h)) (waits_on s.waits c) (listed_apart c)))

  pub broadcast_framed : (c : ℕ) → Framed h v s (broadcast s t c).after
  broadcast_framed c = framed_unless h v s _ _ (λ passed. woken_all (condition_of s.conditions c) _ (listed_apart c))

  pub cond_send_framed : (c u : ℕ) → Framed h v s (cond_send s t c u).after
  cond_send_framed c u = framed_unless h v s _ _ (λ passed. woken_all (condition_of s.conditions c) _
      (all_filter (λ (w : WaitRow). not (eqb w.tid h)) (λ w. not (eqb w.tid h)) (λ w. eqb w.tid u) (λ w here e. e) (waits_on s.waits c) (listed_apart c)))
