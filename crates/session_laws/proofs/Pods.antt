-- What a call or a take of a pod with its own events does to exit procedures and to the dead: what one step of the
-- machine does at most, with a delivery after it.
use Rattle.lwp_types.specs.Agents.{deliver, is_event_armed}
use Rattle.lwp_types.specs.Case.{Case}
use Rattle.lwp_types.specs.Choice.{choice}
use Rattle.lwp_types.specs.CountLaws.{count-append, count-cons, count_never, one, one-le}
use Rattle.lwp_types.specs.Death.{death}
use Rattle.lwp_types.specs.Lawful.{Lawful}
use Rattle.lwp_types.specs.Names.{null_id}
use Rattle.lwp_types.specs.State.{State, ThreadRow, is_number, is_thread, marks_in, passes, thread_of}
use Rattle.lwp_types.specs.Step.{case_of, end_effects, ends, own_effects, step, step_by, step_if}
use Rattle.lwp_types.specs.declared.call.Answer.{Answer}
use Rattle.lwp_types.specs.declared.call.Call.{Call}
use Rattle.lwp_types.specs.declared.call.Effect.{Effect}
use Rattle.lwp_types.specs.declared.call.ExitCall.{ExitCall}
use Rattle.lwp_types.specs.declared.call.LwpErr.{LwpErr}
use Rattle.lwp_types.specs.declared.rows.Mark.{Mark}
use Rattle.pod_events.proofs.Mild.{mild_deliver}
use Rattle.pod_events.proofs.MildCalls.{case_toll, is_tame, mild_tame}
use Rattle.pod_events.specs.Events.{EventState, after_pass_on, after_take_trap, is_takeable, is_trapped, may_trap, rites_event, take_event}
use Rattle.pod_events.specs.Laws.{AsksForFates}
use Rattle.pod_events.specs.Rites.{after_first_report, as_rites, report_text, after_rites}
use Rattle.pod_events.specs.Step.{event_step, event_step_by, event_step_if}
use Rattle.pod_events.specs.Traps.{after_call, after_call_as, after_machine_step, after_trap, after_trap_and_call, agent_event_of}
use Rattle.pod_events.specs.Traps.{but_call, is_catch, is_given, notice, after_refusal, trap_of, trap_refusal}
use Rattle.pod_laws.proofs.Absent.{deliveries_are_quiet}
use Rattle.pod_laws.proofs.Chosen.{chosen}
use Rattle.pod_laws.proofs.Died.{case_died, death_died, finished_died, the_dead_are_forgotten}
use Rattle.pod_laws.proofs.EveryStep.{Lawful-deliver, Lawful-step}
use Rattle.pod_laws.proofs.Fading.{deliver_fades, gone_stays, step_fades}
use Rattle.pod_laws.proofs.OnceCalls.{exits_run_once}
use Rattle.pod_laws.specs.Forgotten.{IsGone, is_died}
use Rattle.pod_laws.specs.Once.{ExitTest, is_exit_passing, exits_passing, mark_passes, marks_passing, row_passing, sets_of_call, sets_of_step}
use Rattle.session_laws.proofs.Numbering.{deliveries_number_none, steps_number_exits}
use Rattle.session_laws.proofs.Told.{Sets, Sets.Exit, Sets.Nothing, step_told_before, what_it_sets}
use Rattle.session_laws.specs.Exits.{exits_set_in, has_number, sets_by_effects, is_set_by}
use Rattle.session_laws.specs.Numbers.{any_exit}
use Rattle.std.proofs.Common.{Bool, List, None, Option, Some, [], ap, append-nil, arith, cond, count_by, drop, eqb, false, length}
use Rattle.std.proofs.Common.{map, refl, subst, suc, sum_by, sym, true, zero, ℕ, ◌++◌, ◌+◌, ◌∙◌, ◌∷◌, ◌≡◌, ◌≤◌, ◌||◌}
use Rattle.std.proofs.lemmas.Bool.{and_from, and_parts, eqb-true}
use Rattle.std.proofs.lemmas.Bool.Decides.{nat_tests}
use Rattle.std.proofs.lemmas.List.Sums.{sum_by-cons}
use Rattle.std.specs.List.{find, list_all}
use Rattle.std.specs.Prelude.{is_some, nat_le, nat_lt, ◌&&◌}
use Rattle.lwp_types.specs.declared.call.Call.TheVariants as call
use Rattle.lwp_types.specs.declared.call.Effect.TheVariants as effect
use Rattle.lwp_types.specs.declared.call.LwpErr.TheVariants as error
use Rattle.lwp_types.specs.declared.rows.Mark.TheVariants as mark

-- ---- numbers of exit procedures

-- none more, and so below the next as before
below_same : (k n : ℕ) → 0 + one (nat_lt k n) ≡ one (nat_lt k (n + 0))
below_same k n = grind (arith, nat_tests)

-- one number more is below the next
below_next : (k n : ℕ) → cond (eqb n k) 1 0 + one (nat_lt k n) ≡ one (nat_lt k (n + 1))
below_next k n = grind (arith, nat_tests)

-- a call sets one of the number k exactly if k is given by it
number_set : (s : State) (k t : ℕ) (c : Call) → Sets c
    → sets_of_call (has_number k) s t c + one (nat_lt k s.next_registration) ≡ one (nat_lt k (s.next_registration + sets_of_call any_exit s t c))
number_set s k t c (Nothing none untold) =
    omega (arith, none (has_number k) s t, ap (λ n. one (nat_lt k (s.next_registration + n))) (none any_exit s t), below_same k s.next_registration)
number_set s k t c (Exit x e) = rw e (by_room (nat_le 256 (length (marks_in s t)) || nat_le 4294967295 s.next_registration))
  where
    by_room : (b : Bool)
        → cond b 0 (cond (eqb s.next_registration k) 1 0) + one (nat_lt k s.next_registration) ≡ one (nat_lt k (s.next_registration + cond b 0 1))
    by_room true = below_same k s.next_registration
    by_room false = below_next k s.next_registration

number_now : (s : State) (k : ℕ) (o : Option ℕ) (c : Call)
    → sets_of_step (has_number k) s o c + one (nat_lt k s.next_registration) ≡ one (nat_lt k (s.next_registration + sets_of_step any_exit s o c))
number_now s k None c = below_same k s.next_registration
number_now s k (Some t) c = number_set s k t c (what_it_sets c)

-- ---- deaths in a step of the machine

-- one that dies in a step was there before it, and dies once
pub record Dies (s : State) (n told : ℕ) : Type 0 where
  pub few : told ≤ 1
  pub lived : 1 ≤ told → is_thread s n ≡ true

pub dies_in_step : (s : State) → Lawful s None → (c : Call) (n : ℕ) → Dies s n (count_by (is_died n) (step s c).effects)
unfolding step step_by
dies_in_step s was c n = by_choice (choice s) refl
  where
    by_choice : (o : Option ℕ) → choice s ≡ o → Dies s n (count_by (is_died n) (step_if s c o).effects)
    by_choice None e = record { few = omega arith; lived = λ some. absurd (omega (arith, some)) }
    by_choice (Some t) e =
        let run = chosen s was.nine t e in
        let tells = finished_died n t c (case_of s t c) in
        let buries = case_died n s was.nine t run.row run.known c in
        record {
          few = few (count_by (is_died n) (case_of s t c).others) tells (λ some. ap (count_by (is_died n)) (buries.tells some) ∙ death_died n n s);
          lived = λ some. buries.lived (omega (arith, some, tells));
        }
      where
        few : {told : ℕ} (m : ℕ) → told ≡ m → (1 ≤ m → m ≡ one (eqb n n)) → told ≤ 1
        few zero tells death = omega (arith, tells)
        few (suc m) tells death = omega (arith, tells, death (omega arith), one-le (eqb n n))

-- ---- exit procedures of who isn't live

module _ (u : ℕ) (p : ExitTest) where
  -- a mark of another thread
  other_mark : (t : ℕ) → eqb t u ≡ false → (m : Mark) → mark_passes (is_set_by u p) t m ≡ false
  other_mark t other mark.Frame = refl
  other_mark t other (mark.Handler pat func arg) = refl
  other_mark t other (mark.Exit reg x) = rw other refl

  -- no thread of a list is u, so none has a mark of it
  pub none_left : (rows : List ThreadRow) → is_some (find (is_number u) rows) ≡ false → sum_by (row_passing (is_set_by u p)) rows ≡ 0
  none_left [] gone = refl
  none_left (row ∷ rows) gone = by_test (is_number u row) refl gone (none_left rows)
    where
      by_test : (b : Bool) → is_number u row ≡ b → is_some (cond b (Some row) (find (is_number u) rows)) ≡ false
          → (is_some (find (is_number u) rows) ≡ false → sum_by (row_passing (is_set_by u p)) rows ≡ 0) → sum_by (row_passing (is_set_by u p)) (row ∷ rows) ≡ 0
      by_test true e gone rest = absurd (cc)
      by_test false e gone rest = omega (
        arith,
        sum_by-cons (row_passing (is_set_by u p)) row rows,
        count_never (mark_passes (is_set_by u p) row.number) (other_mark row.number e) row.marks,
        rest gone,
      )

  -- who isn't live doesn't call, and so sets nothing
  others_set : (s : State) (t : ℕ) (c : Call) → eqb t u ≡ false → Sets c → sets_of_call (is_set_by u p) s t c ≡ 0
  others_set s t c other (Nothing none untold) = none (is_set_by u p) s t
  others_set s t c other (Exit x e) = rw (e, other) (by_room (nat_le 256 (length (marks_in s t)) || nat_le 4294967295 s.next_registration))
    where
      by_room : (b : Bool) → ◌≡◌ {A = ℕ} (cond b 0 0) 0
      by_room true = refl
      by_room false = refl

  dead_set : (s : State) → Lawful s None → is_thread s u ≡ false → (c : Call) → sets_of_step (is_set_by u p) s (choice s) c ≡ 0
  dead_set s was gone c = by_choice (choice s) refl
    where
      other : (t : ℕ) (row : ThreadRow) → thread_of s t ≡ Some row → (b : Bool) → eqb t u ≡ b → eqb t u ≡ false
      other t row known true e =
          let lives : is_thread s t ≡ true = ap is_some known in
          let same : t ≡ u = eqb-true t u e in
          absurd (cc (lives, gone, same))
      other t row known false e = e

      by_choice : (o : Option ℕ) → choice s ≡ o → sets_of_step (is_set_by u p) s o c ≡ 0
      by_choice None e = refl
      by_choice (Some t) e =
          let run = chosen s was.nine t e in
          others_set s t c (other t run.row run.known (eqb t u) refl) (what_it_sets c)

  -- so none of its exit procedures runs in a call
  dead_run : (s : State) → Lawful s None → is_thread s u ≡ false → (c : Call) → exits_passing (is_set_by u p) (step s c).effects ≡ 0
  dead_run s was gone c = omega (arith, exits_run_once s was c (is_set_by u p), none_left s.threads gone, dead_set s was gone c)

-- ---- what is told after a call

-- it tells of no call, and of no trap
abbrev is_later : Effect → Bool
is_later (effect.Called t c) = false
is_later (effect.Answered t a) = true
is_later (effect.Exited t reg c a) = true
is_later (effect.Died t) = true
is_later (effect.Delivered a e) = true
is_later (effect.Ticked now) = true
is_later (effect.Ended status) = true
is_later (effect.Trapped t e) = false
is_later (effect.Rites a d) = true

later-append : (xs ys : List Effect) → list_all is_later xs ≡ true → list_all is_later ys ≡ true → list_all is_later (xs ++ ys) ≡ true
later-append [] ys one two = two
later-append (x ∷ xs) ys one two =
    let parts = and_parts (is_later x) (list_all is_later xs) one in
    and_from _ _ parts.0 (later-append xs ys parts.1 two)

later-tame : (es : List Effect) → list_all is_tame es ≡ true → list_all is_later es ≡ true
later-tame [] tame = refl
later-tame (e ∷ es) tame = by_effect e (and_parts (is_tame e) (list_all is_tame es) tame).0 (later-tame es (and_parts (is_tame e) (list_all is_tame es) tame).1)
  where
    by_effect : (e : Effect) → is_tame e ≡ true → list_all is_later es ≡ true → list_all is_later (e ∷ es) ≡ true
    by_effect (effect.Called t c) h rest = absurd (cc)
    by_effect (effect.Answered t a) h rest = rest
    by_effect (effect.Exited t reg c a) h rest = rest
    by_effect (effect.Died t) h rest = rest
    by_effect (effect.Delivered a e) h rest = rest
    by_effect (effect.Ticked now) h rest = rest
    by_effect (effect.Ended status) h rest = absurd (cc)
    by_effect (effect.Trapped t e) h rest = absurd (cc)
    by_effect (effect.Rites a d) h rest = absurd (cc)

-- a report, too
later-rites : (dead : ℕ) (es : List Effect) → list_all is_later es ≡ true → list_all is_later (map (as_rites dead) es) ≡ true
later-rites dead [] h = refl
later-rites dead (e ∷ es) h =
    by_effect e (and_parts (is_later e) (list_all is_later es) h).0 (later-rites dead es (and_parts (is_later e) (list_all is_later es) h).1)
  where
    by_effect : (e : Effect) → is_later e ≡ true → list_all is_later (map (as_rites dead) es) ≡ true → list_all is_later (map (as_rites dead) (e ∷ es)) ≡ true
    by_effect (effect.Called t c) h rest = absurd (cc)
    by_effect (effect.Answered t a) h rest = rest
    by_effect (effect.Exited t reg c a) h rest = rest
    by_effect (effect.Died t) h rest = rest
    by_effect (effect.Delivered a e) h rest = rest
    by_effect (effect.Ticked now) h rest = rest
    by_effect (effect.Ended status) h rest = rest
    by_effect (effect.Trapped t e) h rest = absurd (cc)
    by_effect (effect.Rites a d) h rest = rest

later-deliver : (s : State) (e : ℕ) (text : List ℕ) → list_all is_later (deliver s e text).effects ≡ true
later-deliver s e text = later-tame (deliver s e text).effects (mild_tame (deliver s e text).effects (mild_deliver s e text).tells)

-- after the call of a step
later-step : (s : State) (t : ℕ) (c : Call) → choice s ≡ Some t → list_all is_later (drop 1 (step s c).effects) ≡ true
unfolding step step_by
later-step s t c turn = by_choice (choice s) turn
  where
    no_own : (u : ℕ) (o : Option Answer) → list_all is_later (own_effects u o) ≡ true
    no_own u None = refl
    no_own u (Some a) = refl

    no_end : (made : Case) (b : Bool) → list_all is_later (cond b (effect.Ended made.after.status ∷ []) []) ≡ true
    no_end made true = refl
    no_end made false = refl

    by_choice : (o : Option ℕ) → o ≡ Some t → list_all is_later (drop 1 (step_if s c o).effects) ≡ true
    by_choice None e = absurd (cc)
    by_choice (Some u) e =
        let made = case_of s u c in
        later-append made.others (own_effects u made.own ++ end_effects made.after) (later-tame made.others (case_toll s u c).tame)
        (later-append (own_effects u made.own) (end_effects made.after) (no_own u made.own) (no_end made (ends made.after)))

-- none is set by what is told later
later-none : (p : ExitTest) (es : List Effect) → list_all is_later es ≡ true → exits_set_in p es ≡ 0
later-none p [] h = refl
later-none p (effect.Called t c ∷ es) h = absurd (cc)
later-none p (effect.Answered t a ∷ es) h = refl
later-none p (effect.Exited t reg c a ∷ es) h = refl
later-none p (effect.Died t ∷ es) h = refl
later-none p (effect.Delivered a e ∷ es) h = refl
later-none p (effect.Ticked now ∷ es) h = refl
later-none p (effect.Ended status ∷ es) h = refl
later-none p (effect.Trapped t e ∷ es) h = absurd (cc)
later-none p (effect.Rites a d ∷ es) h = refl

-- ---- what a move does

-- from a state to another, by these effects; so many exit procedures are set
pub record Does (s after : State) (es : List Effect) (sets : ExitTest → ℕ) : Type 0 where
  pub balance : (p : ExitTest) → marks_passing p after + exits_passing p es ≡ marks_passing p s + sets p
  pub numbers : after.next_registration ≡ s.next_registration + sets any_exit
  pub given : (k : ℕ) → sets (has_number k) + one (nat_lt k s.next_registration) ≡ one (nat_lt k (s.next_registration + sets any_exit))
  pub dies : (n : ℕ) → Dies s n (count_by (is_died n) es)
  pub stays : (n : ℕ) → IsGone s n → IsGone after n
  pub gone : (n : ℕ) → 1 ≤ count_by (is_died n) es → IsGone after n
  pub mute : (u : ℕ) → is_thread s u ≡ false → (p : ExitTest) → exits_passing (is_set_by u p) es ≡ 0

exits_ask : (p : ExitTest) → AsksForFates (is_exit_passing p)
exits_ask p = record { no_call = λ t c. refl; no_answer = λ t a. refl; no_delivery = λ a e. refl; no_trap = λ t e. refl; no_report = λ a d. refl }

deaths_ask : (n : ℕ) → AsksForFates (is_died n)
deaths_ask n = record { no_call = λ t c. refl; no_answer = λ t a. refl; no_delivery = λ a e. refl; no_trap = λ t e. refl; no_report = λ a d. refl }

-- a step of the machine
does_step : (s : State) → Lawful s None → (c : Call) → Does s (step s c).after (step s c).effects (λ p. sets_of_step p s (choice s) c)
does_step s was c = record {
  balance = λ p. exits_run_once s was c p;
  numbers = steps_number_exits s c;
  given = λ k. number_now s k (choice s) c;
  dies = λ n. dies_in_step s was c n;
  stays = λ n. gone_stays n s (step s c).after (step_fades n s c);
  gone = λ n some. (the_dead_are_forgotten s was c n some).gone;
  mute = λ u gone p. dead_run u p s was gone c;
}

module _ (s after : State) (es : List Effect) (sets : ExitTest → ℕ) (does : Does s after es sets) where
  -- other effects that tell of the same
  does_as : (xs : List Effect) → ((q : Effect → Bool) → AsksForFates q → count_by q xs ≡ count_by q es) → Does s after xs sets
  does_as xs same = record {
    balance = λ p. omega (arith, does.balance p, same (is_exit_passing p) (exits_ask p));
    numbers = does.numbers;
    given = does.given;
    dies = λ n. subst (Dies s n) (sym (same (is_died n) (deaths_ask n))) (does.dies n);
    stays = does.stays;
    gone = λ n some. does.gone n (omega (arith, some, same (is_died n) (deaths_ask n)));
    mute = λ u gone p. same (is_exit_passing (is_set_by u p)) (exits_ask (is_set_by u p)) ∙ does.mute u gone p;
  }

  -- and then a delivery
  does_delivery : (e : ℕ) (text : List ℕ) → Does s (deliver after e text).after (es ++ (deliver after e text).effects) sets
  does_delivery e text =
      let quiet = deliveries_are_quiet after e text in
      let sent = (deliver after e text).effects in
      record {
        balance = λ p. omega (arith, does.balance p, quiet.marks p, quiet.exits p, count-append (is_exit_passing p) es sent);
        numbers = deliveries_number_none after e text ∙ does.numbers;
        given = does.given;
        dies = λ n. let same : count_by (is_died n) es ≡ count_by (is_died n) (es ++ sent) = omega (arith, count-append (is_died n) es sent, quiet.deaths n) in
            subst (Dies s n) same (does.dies n);
        stays = λ n h. gone_stays n after (deliver after e text).after (deliver_fades n after e text) (does.stays n h);
        gone = λ n some. gone_stays n after (deliver after e text).after (deliver_fades n after e text)
            (does.gone n (omega (arith, some, count-append (is_died n) es sent, quiet.deaths n)));
        mute = λ u gone p. omega (arith, count-append (is_exit_passing (is_set_by u p)) es sent, does.mute u gone p, quiet.exits (is_set_by u p));
      }

-- nothing but what tells of no death and no exit procedure
does_none : (s : State) (es : List Effect) → ((q : Effect → Bool) → AsksForFates q → count_by q es ≡ 0) → Does s s es (λ p. 0)
does_none s es none = record {
  balance = λ p. omega (arith, none (is_exit_passing p) (exits_ask p));
  numbers = omega arith;
  given = λ k. below_same k s.next_registration;
  dies = λ n. record { few = omega (arith, none (is_died n) (deaths_ask n)); lived = λ some. absurd (omega (arith, some, none (is_died n) (deaths_ask n))) };
  stays = λ n h. h;
  gone = λ n some. absurd (omega (arith, some, none (is_died n) (deaths_ask n)));
  mute = λ u gone p. none (is_exit_passing (is_set_by u p)) (exits_ask (is_set_by u p));
}

-- ---- a call, before the report

-- it does so, and whatever is told later, its effects tell what is set
record Calls (s after : State) (es : List Effect) : Type 0 where
  sets : ExitTest → ℕ
  does : Does s after es sets
  told : (p : ExitTest) (rest : List Effect) → list_all is_later rest ≡ true → exits_set_in p (es ++ rest) ≡ sets p
  lawful : Lawful after None

-- a call that sets none, and its answer
calls_quiet : (s : State) → Lawful s None → (t : ℕ) (c : Call) (a : Answer) → ((x : ExitCall) → c ≡ call.OnExit x → ⊥)
    → Calls s s (effect.Called t c ∷ effect.Answered t a ∷ [])
calls_quiet s was t c a never = record {
  sets = λ p. 0;
  does = does_none s _ (λ q asks. omega (
    arith,
    count-cons q (effect.Called t c) (effect.Answered t a ∷ []),
    count-cons q (effect.Answered t a) [],
    ap one (asks.no_call t c),
    ap one (asks.no_answer t a),
  ));
  told = λ p rest later. by_sets p rest (what_it_sets c);
  lawful = was;
}
  where
    by_sets : (p : ExitTest) (rest : List Effect) → Sets c → sets_by_effects p t c (effect.Answered t a ∷ rest) ≡ 0
    by_sets p rest (Nothing none untold) = untold p t (effect.Answered t a ∷ rest)
    by_sets p rest (Exit x e) = absurd (never x e)

calls_made : (s : State) → Lawful s None → (trapped : List Bool) (t : ℕ) (c : Call) → choice s ≡ Some t
    → Calls s (after_call s trapped t c).state (after_call s trapped t c).effects
calls_made s was trapped t c turn = by_trap (trap_of c) refl
  where
    by_refusal : (e : ℕ) → trap_of c ≡ Some e → (o : Option LwpErr) → Calls s (after_trap s trapped t c e o).state (after_trap s trapped t c e o).effects
    by_refusal e is None = calls_quiet s was t c _ (λ x same. let no : Some e ≡ None = sym is ∙ ap trap_of same in absurd (cc))
    by_refusal e is (Some why) = calls_quiet s was t c _ (λ x same. let no : Some e ≡ None = sym is ∙ ap trap_of same in absurd (cc))

    by_agent : (b : Bool) → passes (is_trapped trapped) (agent_event_of c) ≡ b
        → Calls s (cond b (after_refusal s trapped t c error.InUse) (after_machine_step trapped (step s c))).state
        (cond b (after_refusal s trapped t c error.InUse) (after_machine_step trapped (step s c))).effects
    by_agent true is = calls_quiet s was t c _
        (λ x same. let no : false ≡ true = sym (ap (λ d. passes (is_trapped trapped) (agent_event_of d)) same) ∙ is in absurd (cc))
    by_agent false is = record {
      sets = λ p. sets_of_step p s (choice s) c;
      does = does_step s was c;
      told = λ p rest later. step_told_before p s t c rest turn;
      lawful = Lawful-step s was c;
    }

    by_trap : (o : Option ℕ) → trap_of c ≡ o → Calls s (after_call_as s trapped t c o).state (after_call_as s trapped t c o).effects
    by_trap None is = by_agent (passes (is_trapped trapped) (agent_event_of c)) refl
    by_trap (Some e) is = by_refusal e is (trap_refusal s trapped e)

-- without its call a step tells of the same
but_call-same : (s : State) (c : Call) (q : Effect → Bool) → AsksForFates q → count_by q (drop 1 (step s c).effects) ≡ count_by q (step s c).effects
unfolding step step_by
but_call-same s c q asks = by_choice (choice s)
  where
    by_choice : (o : Option ℕ) → count_by q (drop 1 (step_if s c o).effects) ≡ count_by q (step_if s c o).effects
    by_choice None = refl
    by_choice (Some u) = omega (arith, count-cons q (effect.Called u c) (drop 1 (step_by s u c).effects), ap one (asks.no_call u c))

-- a step that no thread asked for
calls_unasked : (s : State) → Lawful s None → (t : ℕ) (c : Call) → choice s ≡ Some t → ((p : ExitTest) → sets_of_call p s t c ≡ 0)
    → Calls s (but_call (step s c)).after (but_call (step s c)).effects
calls_unasked s was t c turn none = record {
  sets = λ p. sets_of_step p s (choice s) c;
  does = does_as s (step s c).after (step s c).effects (λ p. sets_of_step p s (choice s) c) (does_step s was c) (drop 1 (step s c).effects) (but_call-same s c);
  told = λ p rest later. later-none p (drop 1 (step s c).effects ++ rest) (later-append (drop 1 (step s c).effects) rest (later-step s t c turn) later)
      ∙ sym (ap (λ o. sets_of_step p s o c) turn ∙ none p);
  lawful = Lawful-step s was c;
}

-- after a trap
calls_trapped : (s after : State) (es : List Effect) (t e : ℕ) → Calls s after es → Calls s after (effect.Trapped t e ∷ es)
calls_trapped s after es t e calls = record {
  sets = calls.sets;
  does = does_as s after es calls.sets calls.does (effect.Trapped t e ∷ es)
      (λ q asks. omega (arith, count-cons q (effect.Trapped t e) es, ap one (asks.no_trap t e)));
  told = λ p rest later. calls.told p rest later;
  lawful = calls.lawful;
}

calls_called : (s : State) → Lawful s None → (trapped : List Bool) (t : ℕ) (c : Call) (pending : Option ℕ) → choice s ≡ Some t
    → Calls s (after_trap_and_call s trapped t c pending).state (after_trap_and_call s trapped t c pending).effects
calls_called s was trapped t c None turn = calls_made s was trapped t c turn
calls_called s was trapped t c (Some e) turn = by_given (passes is_given (notice s t e)) (passes is_catch (notice s t e))
  where
    by_given : (b d : Bool) → Calls s
        (cond b (after_call s trapped t c) (cond d (after_machine_step trapped (but_call (step s (call.ExcNotify e))))
        (after_machine_step trapped (but_call (step s (call.Destroy t)))))).state
        (effect.Trapped t e
        ∷ (cond b (after_call s trapped t c) (cond d (after_machine_step trapped (but_call (step s (call.ExcNotify e))))
        (after_machine_step trapped (but_call (step s (call.Destroy t)))))).effects)
    by_given true d = calls_trapped s _ _ t e (calls_made s was trapped t c turn)
    by_given false true = calls_trapped s _ _ t e (calls_unasked s was t (call.ExcNotify e) turn (λ p. refl))
    by_given false false = calls_trapped s _ _ t e (calls_unasked s was t (call.Destroy t) turn (λ p. refl))

-- ---- calls and takes

-- from a lawful state to another, by these effects
pub record Moved (s after : State) (es : List Effect) : Type 0 where
  pub sets : ExitTest → ℕ
  pub does : Does s after es sets
  pub told : (p : ExitTest) → exits_set_in p es ≡ sets p
  pub lawful : Lawful after None

-- nothing happens
pub idle_moved : (s : State) → Lawful s None → Moved s s []
idle_moved s was = record { sets = λ p. 0; does = does_none s [] (λ q asks. refl); told = λ p. refl; lawful = was }

rites-same : (q : Effect → Bool) → AsksForFates q → (dead : ℕ) (es : List Effect) → count_by q (map (as_rites dead) es) ≡ count_by q es
rites-same q asks dead [] = refl
rites-same q asks dead (x ∷ xs) =
    omega (arith, count-cons q (as_rites dead x) (map (as_rites dead) xs), count-cons q x xs, ap one (same x), rites-same q asks dead xs)
  where
    same : (x : Effect) → q (as_rites dead x) ≡ q x
    same (effect.Called t c) = refl
    same (effect.Answered t a) = refl
    same (effect.Exited t reg c a) = refl
    same (effect.Died t) = refl
    same (effect.Delivered a f) = asks.no_report a dead ∙ sym (asks.no_delivery a f)
    same (effect.Ticked now) = refl
    same (effect.Ended status) = refl
    same (effect.Trapped t f) = refl
    same (effect.Rites a d) = refl

-- with the report after it
said_moved : (from s : State) (es : List Effect) (reports : List ℕ) → Calls from s es
    → Moved from (after_rites s es reports).state (after_rites s es reports).effects
said_moved from s es reports calls = by_armed (is_event_armed s rites_event) refl reports
  where
    silent : Moved from s es
    silent = record {
      sets = calls.sets;
      does = calls.does;
      told = λ p. sym (ap (exits_set_in p) (append-nil es)) ∙ calls.told p [] refl;
      lawful = calls.lawful;
    }

    by_armed : (b : Bool) → is_event_armed s rites_event ≡ b → (rs : List ℕ)
        → Moved from (cond b (after_first_report s es rs) (record { state = s; reports = rs; effects = es })).state
        (cond b (after_first_report s es rs) (record { state = s; reports = rs; effects = es })).effects
    by_armed true arms [] = silent
    by_armed true arms (dead ∷ later) =
        let sent = (deliver s rites_event (report_text dead)).effects in
        record {
          sets = calls.sets;
          does = does_as from _ (es ++ sent) calls.sets (does_delivery from s es calls.sets calls.does rites_event (report_text dead))
              (es ++ map (as_rites dead) sent)
              (λ q asks. omega (arith, count-append q es (map (as_rites dead) sent), count-append q es sent, rites-same q asks dead sent));
          told = λ p. calls.told p (map (as_rites dead) sent) (later-rites dead sent (later-deliver s rites_event (report_text dead)));
          lawful = Lawful-deliver s calls.lawful rites_event arms (report_text dead);
        }
    by_armed false arms rs = silent

pub call_moved : (es : EventState) → Lawful es.state None → (c : Call) → Moved es.state (event_step es c).after.state (event_step es c).effects
unfolding event_step event_step_by
call_moved es was c = by_choice (choice es.state) refl
  where
    by_choice : (o : Option ℕ) → choice es.state ≡ o → Moved es.state (event_step_if es c o).after.state (event_step_if es c o).effects
    by_choice None is = idle_moved es.state was
    by_choice (Some t) is = said_moved es.state _ _ _ (calls_called es.state was es.trapped t c es.pending is)

pub take_moved : (es : EventState) → Lawful es.state None → (e : ℕ) (text : List ℕ) → is_takeable es e ≡ true
    → Moved es.state (take_event es e text).after.state (take_event es e text).effects
unfolding take_event
take_moved es was e text may = by_trapped (is_trapped es.trapped e) may
  where
    by_trapped : (b : Bool) → cond b (may_trap es) (nat_lt e rites_event && is_event_armed es.state e) ≡ true
        → Moved es.state (cond b (after_take_trap es e) (after_pass_on es (deliver es.state e text))).after.state
        (cond b (after_take_trap es e) (after_pass_on es (deliver es.state e text))).effects
    by_trapped true h = record {
      sets = λ p. 0;
      does = does_none es.state _ (λ q asks. omega (arith, count-cons q (effect.Delivered null_id e) [], ap one (asks.no_delivery null_id e)));
      told = λ p. refl;
      lawful = was;
    }
    by_trapped false h = record {
      sets = λ p. 0;
      does = does_delivery es.state es.state [] (λ p. 0) (does_none es.state [] (λ q asks. refl)) e text;
      told = λ p. later-none p (deliver es.state e text).effects (later-deliver es.state e text);
      lawful = Lawful-deliver es.state was e (and_parts _ _ h).1 text;
    }
