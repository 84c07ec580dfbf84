-- A scheduler that knows the machine's threads goes on knowing them, whatever is done to both.
use Rattle.lwp_types.specs.Choice as choice
use Rattle.lwp_types.specs.Choice.{better_by}
use Rattle.lwp_types.specs.Death as death
use Rattle.lwp_types.specs.Lawful.{is_same_option}
use Rattle.lwp_types.specs.State as machine
use Rattle.lwp_types.specs.State.{State, ThreadRow, is_not_blocked, passes, put_before, to_end, without}
use Rattle.lwp_types.specs.Threads as threads
use Rattle.lwp_types.specs.Unblock as unblock
use Rattle.lwp_types.specs.Threads.{with_found_last}
use Rattle.lwp_types.specs.Unblock.{without_timer}
use Rattle.lwp_types.specs.declared.call.Flags.{Flags}
use Rattle.lwp_types.specs.declared.rows.Block.{Block}
use Rattle.lwp_types.specs.declared.rows.Block.TheVariants as block
use Rattle.lwp_types.specs.declared.rows.Mark.{Mark}
use Rattle.pod_sched.specs.Machine.{AnswersAlike, BirthsAreShown, DeathsAreShown, FlagsAreShown, IsNotDying}
use Rattle.pod_sched.specs.Machine.{MarksAreHidden, Shows, TurnsAreShown, WaitsAreShown, known_of}
use Rattle.pod_sched.specs.Schedule as sched
use Rattle.pod_sched.specs.Schedule.{Schedule, newcomer}
use Rattle.pod_sched.specs.declared.rows.Known.{Known}
use Rattle.std.proofs.Common.{Bool, List, None, Option, Some, [], ap, cond, eqb, false, inl, inr, is_some, map}
use Rattle.std.proofs.Common.{not, option_map, refl, sym, true, unwrap_or, ℕ, ◌&&◌, ◌++◌, ◌∙◌, ◌∷◌, ◌≡◌, ◌≢◌}
use Rattle.std.proofs.lemmas.Bool.{cases_eq, eq-eqb, eqb-true, ne_eqb}
use Rattle.std.proofs.lemmas.List.Folds.{find-append}
use Rattle.std.specs.List.{filter, find, fold}
use Rattle.std.specs.Option.{option_or}

-- ---- what is found in a list that was changed

module _ {A : Type 0} (test : A → Bool) where
  -- a change that the test doesn't see
  find-moved : (f : A → A) → ((x : A) → test (f x) ≡ test x) → (xs : List A) → find test (map f xs) ≡ option_map f (find test xs)
  find-moved f same [] = refl
  find-moved f same (x ∷ xs) = rw (same x) (by_test (test x) (find-moved f same xs))
    where
      by_test : (b : Bool) → find test (map f xs) ≡ option_map f (find test xs)
          → cond b (Some (f x)) (find test (map f xs)) ≡ option_map f (cond b (Some x) (find test xs))
      by_test true rest = refl
      by_test false rest = rest

  found-passes : (xs : List A) (x : A) → find test xs ≡ Some x → test x ≡ true
  found-passes [] x is = absurd (cc)
  found-passes (y ∷ ys) x is = by_test (test y) refl (found-passes ys x) is
    where
      by_test : (b : Bool) → test y ≡ b → (find test ys ≡ Some x → test x ≡ true) → cond b (Some y) (find test ys) ≡ Some x → test x ≡ true
      by_test true e rest here = let same : y ≡ x = cc in rw (← same) e
      by_test false e rest later = rest later

  -- all that pass are gone
  find-none : (gone : A → Bool) → ((x : A) → test x ≡ true → gone x ≡ true) → (xs : List A) → find test (filter (λ x. not (gone x)) xs) ≡ None
  find-none gone all [] = refl
  find-none gone all (x ∷ xs) = by_gone (gone x) refl (find-none gone all xs)
    where
      by_head : (b : Bool) → test x ≡ b → gone x ≡ false → find test (filter (λ y. not (gone y)) xs) ≡ None
          → cond b (Some x) (find test (filter (λ y. not (gone y)) xs)) ≡ None
      by_head true e stays rest = let both : true ≡ false = sym (all x e) ∙ stays in absurd (cc)
      by_head false e stays rest = rest

      by_gone : (g : Bool) → gone x ≡ g → find test (filter (λ y. not (gone y)) xs) ≡ None
          → find test (cond (not g) (x ∷ filter (λ y. not (gone y)) xs) (filter (λ y. not (gone y)) xs)) ≡ None
      by_gone true e rest = rest
      by_gone false e rest = by_head (test x) refl e rest

  -- all that pass stay
  find-stays : (gone : A → Bool) → ((x : A) → test x ≡ true → gone x ≡ false) → (xs : List A) → find test (filter (λ x. not (gone x)) xs) ≡ find test xs
  find-stays gone all [] = refl
  find-stays gone all (x ∷ xs) = by_gone (gone x) refl (find-stays gone all xs)
    where
      by_head : (b : Bool) → test x ≡ b → gone x ≡ true → find test (filter (λ y. not (gone y)) xs) ≡ find test xs
          → find test (filter (λ y. not (gone y)) xs) ≡ cond b (Some x) (find test xs)
      by_head true e goes rest = let both : true ≡ false = sym goes ∙ all x e in absurd (cc)
      by_head false e goes rest = rest

      by_gone : (g : Bool) → gone x ≡ g → find test (filter (λ y. not (gone y)) xs) ≡ find test xs
          → find test (cond (not g) (x ∷ filter (λ y. not (gone y)) xs) (filter (λ y. not (gone y)) xs)) ≡ cond (test x) (Some x) (find test xs)
      by_gone true e rest = by_head (test x) refl e rest
      by_gone false e rest = ap (λ o. cond (test x) (Some x) o) rest

find-same : (f g : ℕ → Bool) → ((t : ℕ) → f t ≡ g t) → (ts : List ℕ) → find f ts ≡ find g ts
find-same f g same [] = refl
find-same f g same (t ∷ ts) = ap (λ b. cond b (Some t) (find f ts)) (same t) ∙ ap (λ o. cond (g t) (Some t) o) (find-same f g same ts)

better-same : (f g : ℕ → ℕ) → ((t : ℕ) → f t ≡ g t) → (best : Option ℕ) (t : ℕ) → better_by f best t ≡ better_by g best t
better-same f g same None t = refl
better-same f g same (Some u) t = rw (same t, same u) refl

best-same : (f g : ℕ → ℕ) → ((t : ℕ) → f t ≡ g t) → (best : Option ℕ) (ts : List ℕ) → fold (better_by f) best ts ≡ fold (better_by g) best ts
best-same f g same best [] = refl
best-same f g same best (t ∷ ts) = ap (λ b. fold (better_by f) b ts) (better-same f g same best t) ∙ best-same f g same (better_by g best t) ts

-- ---- what is asked of a thread

not-not : (b : Bool) → not (not b) ≡ b
not-not true = refl
not-not false = refl

some-same : (m : Option ThreadRow) → is_some (option_map known_of m) ≡ is_some m
some-same None = refl
some-same (Some row) = refl

prio-same : (m : Option ThreadRow)
    → unwrap_or (option_map (λ (k : Known). k.prio) (option_map known_of m)) 0 ≡ unwrap_or (option_map (λ (row : ThreadRow). row.priority) m) 0
prio-same None = refl
prio-same (Some row) = refl

suspended-same : (m : Option ThreadRow) → passes (λ (k : Known). k.suspended) (option_map known_of m) ≡ passes (λ (row : ThreadRow). row.suspended) m
suspended-same None = refl
suspended-same (Some row) = refl

blocked-same : (m : Option ThreadRow)
    → passes (λ (k : Known). k.blocked) (option_map known_of m) ≡ passes (λ (row : ThreadRow). not (is_not_blocked row.block)) m
blocked-same None = refl
blocked-same (Some row) = refl

eligible-same : (m : Option ThreadRow) → passes sched.is_eligible (option_map known_of m) ≡ passes choice.is_eligible m
eligible-same None = refl
eligible-same (Some row) = ap (λ b. not row.suspended && b) (not-not (is_not_blocked row.block))

module _ (dying : Option ℕ) (v : Schedule) (s : State) (shows : Shows dying v s) where
  module _ (t : ℕ) (lives : IsNotDying dying t) where
    thread-same : sched.thread_of v t ≡ option_map known_of (machine.thread_of s t)
    thread-same = shows.threads t ∙ ap (λ b. cond b None (option_map known_of (machine.thread_of s t))) lives

    -- both answer alike
    pub alike : AnswersAlike v s t
    alike = record {
      knows = ap is_some thread-same ∙ some-same (machine.thread_of s t);
      priority = ap (λ o. unwrap_or (option_map (λ (k : Known). k.prio) o) 0) thread-same ∙ prio-same (machine.thread_of s t);
      suspended = ap (passes (λ (k : Known). k.suspended)) thread-same ∙ suspended-same (machine.thread_of s t);
      blocked = ap (passes (λ (k : Known). k.blocked)) thread-same ∙ blocked-same (machine.thread_of s t);
      eligible = ap (passes sched.is_eligible) thread-same ∙ eligible-same (machine.thread_of s t);
    }

  -- ---- rows that change

  -- what changes a row here changes it there
  moved-shown : (f : Known → Known) (g : ThreadRow → ThreadRow) (u : ℕ) → ((k : Known) → sched.is_of u (f k) ≡ sched.is_of u k)
      → ((row : ThreadRow) → machine.is_number u (g row) ≡ machine.is_number u row) → ((row : ThreadRow) → f (known_of row) ≡ known_of (g row))
      → find (sched.is_of u) (map f v.threads) ≡ cond (is_same_option dying u) None (option_map known_of (find (machine.is_number u) (map g s.threads)))
  moved-shown f g u tids numbers commutes =
      find-moved (sched.is_of u) f tids v.threads
      ∙ (ap (option_map f) (shows.threads u)
      ∙ (by_dying (is_same_option dying u) (machine.thread_of s u)
      ∙ ap (λ o. cond (is_same_option dying u) None (option_map known_of o)) (sym (find-moved (machine.is_number u) g numbers s.threads))))
    where
      by_dying : (b : Bool) (m : Option ThreadRow) → option_map f (cond b None (option_map known_of m)) ≡ cond b None (option_map known_of (option_map g m))
      by_dying true m = refl
      by_dying false None = refl
      by_dying false (Some row) = ap Some (commutes row)

  block-row : (t : ℕ) (b : Block) (flag : Bool) → flag ≡ not (is_not_blocked b) → (row : ThreadRow)
      → sched.row_with_block t flag (known_of row) ≡ known_of (machine.row_with_block t b row)
  block-row t b flag is row = ap (λ (c : Bool). record (known_of row) { blocked = c }) (by_test (eqb row.number t))
    where
      by_test : (c : Bool) → cond c flag (not (is_not_blocked row.block)) ≡ not (is_not_blocked (cond c b row.block))
      by_test true = is
      by_test false = refl

  pub blocked-shown : (t : ℕ) (b : Block) → is_not_blocked b ≡ false → Shows dying (sched.after_block v t) (unblock.after_block s t b)
  blocked-shown t b waits = record {
    threads = λ u. moved-shown (sched.row_with_block t true) (machine.row_with_block t b) u (λ k. refl) (λ row. refl) (block-row t b true (ap not (sym waits)));
    order = ap (without t) shows.order;
    timers = shows.timers;
    now = shows.now;
    maxpri = shows.maxpri;
  }

  module _ (t : ℕ) (lives : IsNotDying dying t) where
    same : AnswersAlike v s t
    same = alike t lives

    pub unblocked-shown : Shows dying (sched.after_unblock v t) (unblock.after_unblock s t)
    unblocked-shown = record {
      threads = λ u.
          moved-shown (sched.row_with_block t false) (machine.row_with_block t block.Not) u (λ k. refl) (λ row. refl) (block-row t block.Not false refl);
      order = ap (λ b. cond b v.order (v.order ++ t ∷ [])) same.suspended ∙ ap (λ o. cond (machine.is_suspended_in s t) o (o ++ t ∷ [])) shows.order;
      timers = ap (without_timer t) shows.timers;
      now = shows.now;
      maxpri = shows.maxpri;
    }

    pub suspended-shown : Shows dying (sched.after_suspend v t) (threads.after_suspend s t)
    suspended-shown = record {
      threads = λ u. moved-shown (sched.row_with_suspension t true) (machine.row_with_suspension t true) u (λ k. refl) (λ row. refl) (λ row. refl);
      order = ap (without t) shows.order;
      timers = shows.timers;
      now = shows.now;
      maxpri = shows.maxpri;
    }

    pub resumed-shown : Shows dying (sched.after_resume v t) (threads.after_resume s t)
    resumed-shown = record {
      threads = λ u. moved-shown (sched.row_with_suspension t false) (machine.row_with_suspension t false) u (λ k. refl) (λ row. refl) (λ row. refl);
      order = ap (λ b. cond (b && not (sched.is_blocked_in v t)) (v.order ++ t ∷ []) v.order) same.suspended
          ∙ (ap (λ b. cond (machine.is_suspended_in s t && not b) (v.order ++ t ∷ []) v.order) same.blocked
          ∙ ap (λ o. cond (machine.is_suspended_in s t && not (machine.is_blocked_in s t)) (o ++ t ∷ []) o) shows.order);
      timers = shows.timers;
      now = shows.now;
      maxpri = shows.maxpri;
    }

    pub prioritized-shown : (p : ℕ) → Shows dying (sched.after_set_priority v t p) (threads.after_set_priority s t p)
    prioritized-shown p = record {
      threads = λ u. moved-shown (sched.row_with_priority t p) (machine.row_with_priority t p) u (λ k. refl) (λ row. refl) (λ row. refl);
      order = ap (λ b. cond (b && not (eqb (sched.priority_in v t) p)) (to_end t v.order) v.order) same.eligible
          ∙ (ap (λ n. cond (choice.is_eligible_in s t && not (eqb n p)) (to_end t v.order) v.order) same.priority
          ∙ ap (λ o. cond (choice.is_eligible_in s t && not (eqb (machine.priority_in s t) p)) (to_end t o) o) shows.order);
      timers = shows.timers;
      now = shows.now;
      maxpri = shows.maxpri;
    }

  pub marks-hidden : (t : ℕ) (ms : List Mark) → Shows dying v (machine.with_marks_of s t ms)
  marks-hidden t ms = record {
    threads = λ u. shows.threads u
        ∙ ap (λ o. cond (is_same_option dying u) None o) (by_found (machine.thread_of s u)
        ∙ ap (option_map known_of) (sym (find-moved (machine.is_number u) (machine.row_with_marks t ms) (λ row. refl) s.threads)));
    order = shows.order;
    timers = shows.timers;
    now = shows.now;
    maxpri = shows.maxpri;
  }
    where
      by_found : (m : Option ThreadRow) → option_map known_of m ≡ option_map known_of (option_map (machine.row_with_marks t ms) m)
      by_found None = refl
      by_found (Some row) = refl

-- ---- turns and births, where nobody is dying

module _ (v : Schedule) (s : State) (shows : Shows None v s) where
  priority-all : (t : ℕ) → sched.priority_in v t ≡ machine.priority_in s t
  priority-all t = (alike None v s shows t refl).priority

  pub choice-same : sched.choice v ≡ choice.choice s
  choice-same = best-same (sched.prio_in v.threads) (machine.priority_in s) priority-all None v.order
      ∙ ap (fold (better_by (machine.priority_in s)) None) shows.order

  pub yielded-shown : (t to : ℕ) → Shows None (sched.after_yield v t to) (threads.after_yield s t to)
  yielded-shown t to = record {
    threads = shows.threads;
    order = ap (λ o. cond (eqb t to) (to_end t o) (put_before to t (without to o))) shows.order;
    timers = shows.timers;
    now = shows.now;
    maxpri = shows.maxpri;
  }

  pub rescheduled-shown : (p : ℕ) → Shows None (sched.after_resched v p) (threads.after_resched s p)
  rescheduled-shown p = record {
    threads = shows.threads;
    order = ap (λ o. with_found_last o v.order)
        (find-same (λ t. eqb (sched.priority_in v t) p) (λ t. eqb (machine.priority_in s t) p) (λ t. ap (λ n. eqb n p) (priority-all t)) v.order)
        ∙ ap (λ o. with_found_last (find (λ t. eqb (machine.priority_in s t) p) o) o) shows.order;
    timers = shows.timers;
    now = shows.now;
    maxpri = shows.maxpri;
  }

  pub created-shown : (prio : ℕ) (flags : Flags) → Shows None (sched.after_admit v s.births prio flags.suspended) (threads.after_create s prio flags)
  created-shown prio flags = record {
    threads = λ u.
        find-append (sched.is_of u) v.threads (newcomer s.births prio flags.suspended ∷ [])
        ∙ (ap (λ o. option_or o (find (sched.is_of u) (newcomer s.births prio flags.suspended ∷ []))) (shows.threads u)
        ∙ (by_found (eqb s.births u) (machine.thread_of s u)
        ∙ ap (option_map known_of) (sym (find-append (machine.is_number u) s.threads (threads.new_thread s.births prio flags ∷ [])))));
    order = ap (λ o. cond flags.suspended o (o ++ s.births ∷ [])) shows.order;
    timers = shows.timers;
    now = shows.now;
    maxpri = shows.maxpri;
  }
    where
      by_found : (b : Bool) (m : Option ThreadRow)
          → option_or (option_map known_of m) (cond b (Some (newcomer s.births prio flags.suspended)) None)
          ≡ option_map known_of (option_or m (cond b (Some (threads.new_thread s.births prio flags)) None))
      by_found true None = refl
      by_found false None = refl
      by_found b (Some row) = refl

-- ---- deaths

module _ (v : Schedule) (s : State) (t : ℕ) where
  -- another thread's row is as it was
  unmoved : (u : ℕ) → t ≢ u
      → option_map known_of (find (machine.is_number u) (machine.with_suspension t false (machine.with_block t block.Not s.threads)))
      ≡ option_map known_of (machine.thread_of s u)
  unmoved u differs =
      ap (option_map known_of) (find-moved (machine.is_number u) (machine.row_with_suspension t false) (λ row. refl) (machine.with_block t block.Not s.threads)
      ∙ ap (option_map (machine.row_with_suspension t false))
      (find-moved (machine.is_number u) (machine.row_with_block t block.Not) (λ row. refl) s.threads))
      ∙ by_found (machine.thread_of s u) refl
    where
      by_found : (m : Option ThreadRow) → machine.thread_of s u ≡ m
          → option_map known_of (option_map (machine.row_with_suspension t false) (option_map (machine.row_with_block t block.Not) m)) ≡ option_map known_of m
      by_found None is = refl
      by_found (Some row) is =
          let other : eqb row.number t
          ≡ false = ne_eqb row.number t (λ same. differs (sym same ∙ eqb-true _ _ (found-passes (machine.is_number u) s.threads row is))) in
          rw other refl

  pub death-begins : Shows None v s → Shows (Some t) (sched.after_leave v t) (death.withdraw t s).after
  death-begins shows = record {
    threads = λ u. elim (cases_eq t u) [
      | inl same ↦ rw (eq-eqb t u same) (find-none (sched.is_of u) (sched.is_of t) (λ k is. eq-eqb k.tid t (eqb-true _ _ is ∙ sym same)) v.threads)
      | inr differs
          ↦ rw (ne_eqb t u differs) (find-stays (sched.is_of u) (sched.is_of t)
          (λ k is. ne_eqb k.tid t (λ here. differs (sym here ∙ eqb-true _ _ is))) v.threads
          ∙ (shows.threads u ∙ sym (unmoved u differs)))
    ];
    order = ap (without t) shows.order;
    timers = ap (without_timer t) shows.timers;
    now = shows.now;
    maxpri = shows.maxpri;
  }

  pub death-ends : Shows (Some t) v s → Shows None v (death.bury t s).after
  death-ends shows = record {
    threads = λ u. elim (cases_eq t u) [
      | inl same
          ↦ shows.threads u
          ∙ (ap (λ b. cond b None (option_map known_of (machine.thread_of s u))) (eq-eqb t u same)
          ∙ ap (option_map known_of)
          (sym (find-none (machine.is_number u) (machine.is_number t) (λ row is. eq-eqb row.number t (eqb-true _ _ is ∙ sym same)) s.threads)))
      | inr differs
          ↦ shows.threads u
          ∙ (ap (λ b. cond b None (option_map known_of (machine.thread_of s u))) (ne_eqb t u differs)
          ∙ ap (option_map known_of) (sym (find-stays (machine.is_number u) (machine.is_number t)
          (λ row is. ne_eqb row.number t (λ here. differs (sym here ∙ eqb-true _ _ is))) s.threads)))
    ];
    order = shows.order;
    timers = shows.timers;
    now = shows.now;
    maxpri = shows.maxpri;
  }

-- ---- the laws

pub turns_shown : TurnsAreShown
turns_shown = record {
  chosen = choice-same;
  yielded = λ t to v s shows. yielded-shown v s shows t to;
  rescheduled = λ p v s shows. rescheduled-shown v s shows p;
}

pub waits_shown : (dying : Option ℕ) (t : ℕ) → IsNotDying dying t → WaitsAreShown dying t
waits_shown dying t lives = record {
  blocked = λ b waits v s shows. blocked-shown dying v s shows t b waits;
  unblocked = λ v s shows. unblocked-shown dying v s shows t lives;
}

pub flags_shown : (dying : Option ℕ) (t : ℕ) → IsNotDying dying t → FlagsAreShown dying t
flags_shown dying t lives = record {
  suspended = λ v s shows. suspended-shown dying v s shows t lives;
  resumed = λ v s shows. resumed-shown dying v s shows t lives;
  prioritized = λ p v s shows. prioritized-shown dying v s shows t lives p;
  raised = λ p v s shows. record { threads = shows.threads; order = shows.order; timers = shows.timers; now = shows.now; maxpri = refl };
}

pub births_shown : BirthsAreShown
births_shown v s prio flags shows = created-shown v s shows prio flags

pub deaths_shown : DeathsAreShown
deaths_shown = record { begins = death-begins; ends = death-ends }

pub marks_hidden : MarksAreHidden
marks_hidden dying t ms v s shows = marks-hidden dying v s shows t ms
