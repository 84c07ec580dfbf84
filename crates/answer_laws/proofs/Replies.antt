-- A letter is received by whom it was sent to, and its sender is answered what that one replies.
use Rattle.answer_laws.proofs.Others.{attends_of, finished_told}
use Rattle.answer_laws.proofs.Sights.{Attends, answers_append, blocked_other, left_wake, received_own, without_own}
use Rattle.answer_laws.specs.Replies.{Asks, EachHasOneLetter, IsReceived, IsReplied, ReadersLeaveTheRest}
use Rattle.answer_laws.specs.Replies.{ReceivesAreTheLetters, RepliesAreTheAnswers, takes_other}
use Rattle.answer_laws.specs.Sights.{IsLeft, answers_to, going_on, sight, sight_by}
use Rattle.lwp_types.specs.Case.{Case, Check, answer_case, is_no_id, refusal_case, silent_case, unless, with_zero}
use Rattle.lwp_types.specs.CountLaws.{one-le}
use Rattle.lwp_types.specs.FirstLaws.{find-filter}
use Rattle.lwp_types.specs.Lawful.{Lawful}
use Rattle.lwp_types.specs.Messages.{after_reply, as_answer, as_received, is_from, is_letter_of, is_no_source, is_open, is_to, with_reception}
use Rattle.lwp_types.specs.Messages.{next_letter, receive_by, received_letter, letter_with_reception, with_holding, without_letter}
use Rattle.lwp_types.specs.State.{State, ThreadRow, row_with_block, is_agent, is_id, is_number, is_thread, passes, still, thread_of, with_block}
use Rattle.lwp_types.specs.Step.{case_of, end_effects, ends, step, step_by, step_if, step_outcome}
use Rattle.lwp_types.specs.Unblock.{after_block, after_block_for, unblock}
use Rattle.lwp_types.specs.declared.call.Answer.{Answer}
use Rattle.lwp_types.specs.declared.call.Call.{Call}
use Rattle.lwp_types.specs.declared.call.Mode.{Mode}
use Rattle.lwp_types.specs.declared.rows.Block.{Block}
use Rattle.lwp_types.specs.declared.rows.Letter.{Letter}
use Rattle.lwp_types.specs.Counts.{goes_well, is_sending}
use Rattle.pod_laws.proofs.Checks.{Passed}
use Rattle.pod_laws.proofs.Chosen.{living}
use Rattle.pod_laws.proofs.Elements.{all_found, find_passes}
use Rattle.pod_laws.proofs.LetterMoves.{letters_counted, no_agent}
use Rattle.pod_laws.proofs.OnceExits.{of_case}
use Rattle.pod_laws.proofs.Rows.{find_rowed, number_known}
use Rattle.std.proofs.Common.{Bool, List, None, Option, Some, [], ap, arith, cond, eqb, false, length, not}
use Rattle.std.proofs.Common.{refl, subst, sym, true, ℕ, ◌&&◌, ◌++◌, ◌<◌, ◌||◌, ◌∙◌, ◌∷◌, ◌≡◌, ◌≢◌, ◌≤◌}
use Rattle.std.proofs.lemmas.Bool.{and_from, and_parts, eq-eqb, eqb-true, le-ltb, lt-ltb, ne_eqb}
use Rattle.std.proofs.lemmas.List.Sums.{length-filter}
use Rattle.std.specs.List.{filter, find}
use Rattle.std.specs.Prelude.{is_none, map, nat_lt, option_map}
use Rattle.lwp_types.specs.declared.call.Answer.TheVariants as answer
use Rattle.lwp_types.specs.declared.call.Call.TheVariants as call
use Rattle.lwp_types.specs.declared.call.Effect.TheVariants as effect
use Rattle.lwp_types.specs.declared.call.LwpErr.TheVariants as error
use Rattle.lwp_types.specs.declared.call.Mode.TheVariants as mode
use Rattle.lwp_types.specs.declared.rows.Block.TheVariants as block

-- nothing fits
abbrev pub Never : Option ℕ → Answer → Type 0
Never from heard = ⊥

-- ---- checks

pub unless_passed : (s : State) (checks : List Check) (otherwise : Case) → Passed checks → unless s checks otherwise ≡ otherwise
unfolding unless
unless_passed s [] otherwise h = refl
unless_passed s (check ∷ checks) otherwise h = by_test check.0 h.0 (unless_passed s checks otherwise h.1)
  where
    by_test : (b : Bool) → b ≡ false → unless s checks otherwise ≡ otherwise → cond b (refusal_case s check.1) (unless s checks otherwise) ≡ otherwise
    by_test true e rest = absurd (cc)
    by_test false e rest = rest

pub unless_struck : (s : State) (before : List Check) (check : Check) (otherwise : Case) → Passed before → check.0 ≡ true
    → unless s (before ++ check ∷ []) otherwise ≡ refusal_case s check.1
unfolding unless
unless_struck s [] check otherwise h e = by_test check.0 e
  where
    by_test : (b : Bool) → b ≡ true → cond b (refusal_case s check.1) otherwise ≡ refusal_case s check.1
    by_test true e = refl
    by_test false e = absurd (cc)
unless_struck s (first ∷ before) check otherwise h e = by_test first.0 h.0 (unless_struck s before check otherwise h.1 e)
  where
    by_test : (b : Bool) → b ≡ false → unless s (before ++ check ∷ []) otherwise ≡ refusal_case s check.1
        → cond b (refusal_case s first.1) (unless s (before ++ check ∷ []) otherwise) ≡ refusal_case s check.1
    by_test true e rest = absurd (cc)
    by_test false e rest = rest

-- ---- lists

module _ {X : Type 0} (p : X → Bool) where
  find_first : (xs : List X) (x : X) (ys : List X) → filter p xs ≡ x ∷ ys → find p xs ≡ Some x
  find_first [] x ys e = absurd (cc)
  find_first (z ∷ xs) x ys e = by_test (p z) e (find_first xs x ys)
    where
      by_test : (b : Bool) → cond b (z ∷ filter p xs) (filter p xs) ≡ x ∷ ys → (filter p xs ≡ x ∷ ys → find p xs ≡ Some x)
          → cond b (Some z) (find p xs) ≡ Some x
      by_test true h rest = cc h
      by_test false h rest = rest h

  pub filter_none : (xs : List X) → filter p (filter (λ x. not (p x)) xs) ≡ []
  filter_none [] = refl
  filter_none (x ∷ xs) = by_test (p x) refl (filter_none xs)
    where
      by_test : (b : Bool) → p x ≡ b → filter p (filter (λ x. not (p x)) xs) ≡ []
          → filter p (cond (not b) (x ∷ filter (λ x. not (p x)) xs) (filter (λ x. not (p x)) xs)) ≡ []
      by_test true e rest = rest
      by_test false e rest = rw e rest

  pub filter_mapped : (g : X → X) → ((x : X) → p (g x) ≡ p x) → (xs : List X) → filter p (map g xs) ≡ map g (filter p xs)
  filter_mapped g same [] = refl
  filter_mapped g same (x ∷ xs) = by_test (p x) refl (filter_mapped g same xs)
    where
      by_test : (b : Bool) → p x ≡ b → filter p (map g xs) ≡ map g (filter p xs)
          → cond (p (g x)) (g x ∷ filter p (map g xs)) (filter p (map g xs)) ≡ map g (cond b (x ∷ filter p xs) (filter p xs))
      by_test true e rest = rw (same x, e) (ap (λ ys. g x ∷ ys) rest)
      by_test false e rest = rw (same x, e) rest

-- ---- one letter

module _ (s : State) (was : Lawful s None) (t u : ℕ) (l : Letter) (asks : Asks s u t l) where
  abbrev row : ThreadRow
  row = (living s u asks.lives).row

  known : thread_of s u ≡ Some row
  known = (living s u asks.lives).known

  apart : t ≢ u
  apart e =
      let well = and_parts (is_thread s l.to) _
      (all_found (is_letter_of u) (goes_well s) s.letters l was.nine.letters (find_first (is_letter_of u) s.letters l [] asks.letters)) in
      let off = (and_parts (not (eqb l.from l.to)) _ well.1).0 in
      let bad : false ≡ true = sym (ap not (eq-eqb l.from l.to (asks.from ∙ sym e ∙ sym asks.to))) ∙ off in
      cc

  swapped : (a b c : Bool) → (a && (b && c)) ≡ (c && (b && a))
  swapped true true true = refl
  swapped true true false = refl
  swapped true false true = refl
  swapped true false false = refl
  swapped false true true = refl
  swapped false true false = refl
  swapped false false true = refl
  swapped false false false = refl

  -- it is found by whom it is for
  found : l.received ≡ true → received_letter s.letters t u ≡ Some l
  found h =
      find-filter (λ (x : Letter). x.received && is_letter_of u x) (is_to t) s.letters
      ∙ (λ i. find (λ (x : Letter). swapped (is_to t x) x.received (is_letter_of u x) i) s.letters)
      ∙ sym (find-filter (λ (x : Letter). x.received && is_to t x) (is_letter_of u) s.letters)
      ∙ ap (find (λ (x : Letter). x.received && is_to t x)) asks.letters
      ∙ by_test (l.received && is_to t l) (and_from _ _ h (eq-eqb l.to t asks.to))
    where
      by_test : (b : Bool) → b ≡ true → cond b (Some l) None ≡ Some l
      by_test true e = refl
      by_test false e = absurd (cc)

  is_there : is_id s u ≡ true
  is_there = by_thread (is_thread s u) asks.lives
    where
      by_thread : (b : Bool) → b ≡ true → (b || is_agent s u) ≡ true
      by_thread true e = refl
      by_thread false e = absurd (cc)

  -- ---- a reply

  module _ (received : l.received ≡ true) (text : List ℕ) where
    waits_none : is_none (received_letter s.letters t u) ≡ false
    waits_none = ap is_none (found received)

    too_long : passes (λ (letter : Letter). nat_lt letter.room (length text)) (received_letter s.letters t u) ≡ nat_lt l.room (length text)
    too_long = ap (passes (λ (letter : Letter). nat_lt letter.room (length text))) (found received)

    replied_so : after_reply u text s ≡ unblock (answer.Reply text) u (record s { letters = without_letter u s.letters })
    replied_so = by_agent (is_agent s u) (no_agent s None was.nine u row known)
      where
        by_agent : (b : Bool) → b ≡ false
            → cond b (still (record s { letters = without_letter u s.letters; agents = with_holding u false s.agents }))
            (unblock (answer.Reply text) u (record s { letters = without_letter u s.letters }))
            ≡ unblock (answer.Reply text) u (record s { letters = without_letter u s.letters })
        by_agent true e = absurd (cc)
        by_agent false e = refl

    made_fits : length text ≤ l.room
        → case_of s t (call.Reply u text) ≡ with_zero (unblock (answer.Reply text) u (record s { letters = without_letter u s.letters }))
    made_fits fits = unless_passed s _ _ (ap not is_there, (waits_none, (too_long ∙ le-ltb l.room (length text) fits, tt))) ∙ ap with_zero replied_so

    made_exceeds : l.room < length text → case_of s t (call.Reply u text) ≡ refusal_case s error.InvalidArg
    made_exceeds longer = unless_struck s (is_no_id s u ∷ (is_none (received_letter s.letters t u), error.NoWait) ∷ [])
        (passes (λ (letter : Letter). nat_lt letter.room (length text)) (received_letter s.letters t u), error.InvalidArg)
        (with_zero (after_reply u text s)) (ap not is_there, (waits_none, tt)) (too_long ∙ lt-ltb l.room (length text) longer)

    goes_now : sight (unblock (answer.Reply text) u (record s { letters = without_letter u s.letters })).after u
        ≡ record (going_on (sight s u)) { letters = [] }
    goes_now = (λ i. sight_by (now i) (filter_none (is_letter_of u) s.letters i))
        ∙ goes (is_number u row) (eq-eqb row.number u (number_known s.threads u row known))
      where
        now : find (is_number u) (with_block u block.Not s.threads) ≡ Some (row_with_block u block.Not row)
        now = find_rowed (row_with_block u block.Not) (λ row. refl) s.threads u ∙ ap (option_map (row_with_block u block.Not)) known

        goes : (b : Bool) → b ≡ true → sight_by (Some (record row { block = cond b block.Not row.block })) [] ≡ record (going_on (sight s u)) { letters = [] }
        goes true e = ap (λ o. record (going_on (sight_by o [])) { letters = [] }) (sym known)
        goes false e = absurd (cc)

    told_one : (a : Answer) → answers_to u (effect.Answered u a ∷ []) ≡ a ∷ []
    told_one a = rw (eq-eqb u u refl) refl

    is_replied : length text ≤ l.room → IsReplied u text s (step_outcome t (call.Reply u text) (case_of s t (call.Reply u text)))
    is_replied fits = subst (λ made. IsReplied u text s (step_outcome t (call.Reply u text) made)) (sym (made_fits fits)) (record {
      goes_on = goes_now;
      told = finished_told u t apart (call.Reply u text) (with_zero (unblock (answer.Reply text) u (record s { letters = without_letter u s.letters })))
          ∙ told_one (answer.Reply text);
    })

    is_left : l.room < length text → IsLeft u s (step_outcome t (call.Reply u text) (case_of s t (call.Reply u text)))
    is_left longer = subst (λ made. IsLeft u s (step_outcome t (call.Reply u text) made)) (sym (made_exceeds longer))
        (record { same = refl; quiet = finished_told u t apart (call.Reply u text) (refusal_case s error.InvalidArg) })

  -- ---- a receive

  module _ (from : Option ℕ) (how : Mode) (first : next_letter s.letters t from ≡ Some l) where
    named : (o : Option ℕ) → is_from o l ≡ true → ((is_no_source s o).0 ≡ false) × (passes (λ x. eqb x t) o ≡ false)
    named None h = (refl, refl)
    named (Some x) h =
        let same : x ≡ u = sym (eqb-true l.from x h) ∙ asks.from in
        (ap (λ n. not (is_id s n)) same ∙ ap not is_there, ap (λ n. eqb n t) same ∙ ne_eqb u t (λ e. apart (sym e)))

    checks : ((is_no_source s from).0 ≡ false) × (passes (λ x. eqb x t) from ≡ false)
    checks = named from (and_parts (not l.received) (is_from from l) (find_passes (is_open from) (filter (is_to t) s.letters) l first)).1

    made_received : case_of s t (call.Recv from how) ≡ answer_case (record s { letters = with_reception l.from s.letters }) (as_answer l)
    made_received = unless_passed s _ _ (checks.0, (checks.1, tt)) ∙ ap (receive_by s t from how) first

    marked : filter (is_letter_of u) (with_reception l.from s.letters) ≡ as_received l ∷ []
    marked = filter_mapped (is_letter_of u) (letter_with_reception l.from) (λ x. refl) s.letters
        ∙ ap (map (letter_with_reception l.from)) asks.letters ∙ by_test (eqb l.from l.from) (eq-eqb l.from l.from refl)
      where
        by_test : (b : Bool) → b ≡ true → record l { received = b || l.received } ∷ [] ≡ as_received l ∷ []
        by_test true e = refl
        by_test false e = absurd (cc)

    handed_one : (after : State) (a : Answer) → answers_to t (effect.Answered t a ∷ end_effects after) ≡ a ∷ []
    handed_one after a = answers_append t (effect.Answered t a ∷ []) (end_effects after) ∙ (λ i. own i ++ no_end (ends after) i)
      where
        own : answers_to t (effect.Answered t a ∷ []) ≡ a ∷ []
        own = rw (eq-eqb t t refl) refl

        no_end : (b : Bool) → answers_to t (cond b (effect.Ended after.status ∷ []) []) ≡ []
        no_end true = refl
        no_end false = refl

    is_received : IsReceived u t l s (step_outcome t (call.Recv from how) (case_of s t (call.Recv from how)))
    is_received =
        let after = record s { letters = with_reception l.from s.letters } in
        subst (λ made. IsReceived u t l s (step_outcome t (call.Recv from how) made)) (sym made_received) (record {
          seen = λ i. sight_by (thread_of s u) (marked i);
          quiet = finished_told u t apart (call.Recv from how) (answer_case after (as_answer l));
          handed = handed_one after (as_answer l);
        })

pub replies_are_the_answers : RepliesAreTheAnswers
unfolding step step_by
replies_are_the_answers s was t u turn l asks received text = record {
  fits = λ f. subst (λ o. IsReplied u text s (step_if s (call.Reply u text) o)) (sym turn) (is_replied s was t u l asks received text f);
  exceeds = λ f. subst (λ o. IsLeft u s (step_if s (call.Reply u text) o)) (sym turn) (is_left s was t u l asks received text f);
}

pub receives_are_the_letters : ReceivesAreTheLetters
unfolding step step_by
receives_are_the_letters s was t u turn l asks from how first =
    subst (λ o. IsReceived u t l s (step_if s (call.Recv from how) o)) (sym turn) (is_received s was t u l asks from how first)

pub each_has_one_letter : EachHasOneLetter
each_has_one_letter s was u lives =
    let who = living s u lives in
    omega (arith, length-filter (is_letter_of u) s.letters, letters_counted s None was.nine u who.row who.known, one-le (is_sending who.row.block))

-- ---- whom u has written to, as it deals with others

module _ (s : State) (t u : ℕ) (apart : t ≢ u) (here : Attends u Never s) where
  unless_left : (checks : List Check) (otherwise : Case) → IsLeft u s (of_case otherwise) → IsLeft u s (of_case (unless s checks otherwise))
  unfolding unless
  unless_left [] otherwise fine = fine
  unless_left (check ∷ checks) otherwise fine = by_test check.0 (unless_left checks otherwise fine)
    where
      by_test : (b : Bool) → IsLeft u s (of_case (unless s checks otherwise))
          → IsLeft u s (of_case (cond b (refusal_case s check.1) (unless s checks otherwise)))
      by_test true rest = record { same = refl; quiet = refl }
      by_test false rest = rest

  left_replied : (v : ℕ) (text : List ℕ) → v ≢ u → IsLeft u s (after_reply v text s)
  left_replied v text other = by_agent (is_agent s v)
    where
      by_agent : (b : Bool)
          → IsLeft u s (cond b (still (record s { letters = without_letter v s.letters; agents = with_holding v false s.agents }))
          (unblock (answer.Reply text) v (record s { letters = without_letter v s.letters })))
      by_agent true = record { same = λ i. sight_by (thread_of s u) (without_own u Never v other s.letters i); quiet = refl }
      by_agent false = left_wake u Never s here _ (answer.Reply text) v other refl (without_own u Never v other s.letters) refl

  blocked_left : (now : State) (b : Block) → now.threads ≡ with_block t b s.threads → now.letters ≡ s.letters
      → IsLeft u s (record { after = now; effects = [] })
  blocked_left now b threads letters = record {
    same = λ i. sight_by ((ap (find (is_number u)) threads ∙ blocked_other u Never s here t b apart) i) (filter (is_letter_of u) (letters i));
    quiet = refl;
  }

  left_received : (from : Option ℕ) (how : Mode) (o : Option Letter) → takes_other u o ≡ true → IsLeft u s (of_case (receive_by s t from how o))
  left_received from how (Some letter) h = record {
    same = λ i. sight_by (thread_of s u) (received_own u Never letter.from (not_is letter.from h) s.letters i);
    quiet = refl;
  }
    where
      not_is : (n : ℕ) → not (eqb n u) ≡ true → n ≢ u
      not_is n h e = let bad : false ≡ true = sym (ap not (eq-eqb n u e)) ∙ h in cc
  left_received from mode.Poll None h = record { same = refl; quiet = refl }
  left_received from mode.Block None h = blocked_left (after_block s t (block.Receiving from)) (block.Receiving from) refl refl
  left_received from (mode.Until ticks) None h = by_ticks (eqb ticks 0)
    where
      by_ticks : (b : Bool)
          → IsLeft u s (of_case (cond b (refusal_case s error.Timeout) (silent_case (still (after_block_for s t (block.Receiving from) ticks)))))
      by_ticks true = record { same = refl; quiet = refl }
      by_ticks false = blocked_left (after_block_for s t (block.Receiving from) ticks) (block.Receiving from) refl refl

  finished_left : (c : Call) → IsLeft u s (of_case (case_of s t c)) → IsLeft u s (step_outcome t c (case_of s t c))
  finished_left c left = record { same = left.same; quiet = finished_told u t apart c (case_of s t c) ∙ left.quiet }

pub readers_leave_the_rest : ReadersLeaveTheRest
unfolding step step_by
readers_leave_the_rest s t u turn other attentive = record {
  replies = λ v text h. subst (λ o. IsLeft u s (step_if s (call.Reply v text) o)) (sym turn) (finished_left s t u (differs t other) here
      (call.Reply v text) (unless_left s t u (differs t other) here _ _ (left_replied s t u (differs t other) here v text (differs v h))));
  receives = λ from how h.
      subst (λ o. IsLeft u s (step_if s (call.Recv from how) o)) (sym turn) (finished_left s t u (differs t other) here (call.Recv from how)
      (unless_left s t u (differs t other) here _ _ (left_received s t u (differs t other) here from how (next_letter s.letters t from) h)));
}
  where
    differs : (n : ℕ) → eqb n u ≡ false → n ≢ u
    differs n h e = let bad : true ≡ false = sym (eq-eqb n u e) ∙ h in cc

    here : Attends u Never s
    here = attends_of u Never s attentive
