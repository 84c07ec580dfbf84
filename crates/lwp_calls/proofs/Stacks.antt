-- The stack of a thread in the registry, and the calls on it by what they ask first.
use Rattle.death_cleanup.proofs.Leaving.{marks-here}
use Rattle.death_cleanup.proofs.Living.{changed, written-changed}
use Rattle.death_cleanup.proofs.Outcomes.{answers_quietly, answers_refused, came_quietly}
use Rattle.death_cleanup.proofs.Unwinding.{InStep-stacked, marks-are, stacked-is}
use Rattle.death_cleanup.specs.Comes.{Answers}
use Rattle.death_cleanup.specs.Moves.{after_set_stack, kind_with_marks, kind_marks}
use Rattle.death_cleanup.specs.Ties.{InStep, LawfulParts}
use Rattle.death_cleanup.specs.View.{state_of}
use Rattle.death_cleanup.specs.declared.parts.Parts.{Parts}
use Rattle.death_cleanup.specs.declared.rows.Kind.{Kind}
use Rattle.death_cleanup.specs.declared.rows.Kind.TheVariants as kind
use Rattle.exc_stack.specs.Stack as stack
use Rattle.exc_stack.specs.Stack.{after_unhandle, has_all_frames, refusal_on, with_frame}
use Rattle.lwp_calls.proofs.Entering.{free_row}
use Rattle.lwp_calls.specs.Comes.{IsAsBefore}
use Rattle.lwp_types.specs.Case.{Case, answer_case, refusal_case, unless, value_case}
use Rattle.lwp_types.specs.Choice.{is_eligible_in}
use Rattle.lwp_types.specs.Counts.{has_its_marks}
use Rattle.lwp_types.specs.Lawful.{is_same_option}
use Rattle.lwp_types.specs.Exceptions.{call_procedure, check_pattern, frames, handle, handler_of, is_exit, is_frame, is_no_pattern}
use Rattle.lwp_types.specs.Exceptions.{last_mark, on_exit, searching, unhandle, with_mark, with_match, without_last}
use Rattle.lwp_types.specs.State.{State, ThreadRow, is_number, is_thread, marks_in, passes, still, with_marks_of}
use Rattle.lwp_types.specs.declared.call.Answer.{Answer}
use Rattle.lwp_types.specs.declared.call.Answer.TheVariants as answer
use Rattle.lwp_types.specs.declared.call.ExitCall.{ExitCall}
use Rattle.lwp_types.specs.declared.call.Func.{Func}
use Rattle.lwp_types.specs.declared.call.LwpErr.{LwpErr}
use Rattle.lwp_types.specs.declared.call.LwpErr.TheVariants as error
use Rattle.lwp_types.specs.declared.call.Pattern.{Pattern}
use Rattle.lwp_types.specs.declared.call.Pattern.TheVariants as pattern
use Rattle.lwp_types.specs.declared.rows.Found.{Found}
use Rattle.lwp_types.specs.declared.rows.Mark.{Mark}
use Rattle.lwp_types.specs.declared.rows.Mark.TheVariants as mark
use Rattle.pod_laws.proofs.Elements.{all_found, true_of}
use Rattle.stale_ids.specs.Register.{AreRising, value_of, with_value}
use Rattle.std.proofs.Common.{Bool, Err, List, None, Ok, OnErr, Result, Some, [], ap, arith, cond, eqb, false, length}
use Rattle.std.proofs.Common.{map, not, pos, refl, subst, sym, true, ℕ, ◌++◌, ◌+◌, ◌<◌, ◌∙◌, ◌∷◌, ◌≡◌, ◌||◌}
use Rattle.std.specs.Prelude.{is_some, nat_le, option_map, unwrap_or}

-- parts that differ in what they give next keep step
pub InStep-given : (parts : Parts) → InStep parts → (registration pattern : ℕ) → InStep (record parts { registration = registration; pattern = pattern })
InStep-given parts step registration pattern = record {
  tied = record { known = step.tied.known; waits = step.tied.waits };
  ranked = record { requests = step.ranked.requests; waits = step.ranked.waits };
  roomy = record { letters = step.roomy.letters; threads = step.roomy.threads; requests = step.roomy.requests; waits = step.roomy.waits };
  monitors = step.monitors;
  conditions = step.conditions;
  noted = step.noted;
}

-- the stack of a thread that lives
module _ (parts : Parts) (lawful : LawfulParts parts) (alone : parts.dying ≡ None) (t : ℕ) (may : is_eligible_in (state_of parts) t ≡ true) where
  open free_row (state_of parts) t may use {row, known}

  pub stack-fine : has_its_marks (marks_in (state_of parts) t) ≡ true
  stack-fine = ap (λ o. has_its_marks (unwrap_or (option_map (λ (r : ThreadRow). r.marks) o) [])) known
      ∙ ap (λ d. is_same_option d row.number || has_its_marks row.marks) (sym alone)
      ∙ all_found (is_number t) (λ r. is_same_option parts.dying r.number || has_its_marks r.marks) (state_of parts).threads row lawful.nine.marks known

  pub lives-here : is_thread (state_of parts) t ≡ true
  lives-here = ap is_some known

  pub somebody : AreRising parts.ids.live → value_of t parts.ids.live ≡ None → ⊥
  somebody rising none = let no : false ≡ true = ap has_its_marks (sym (marks-are parts t rising ∙ ap kind_marks none)) ∙ stack-fine in cc

  pub some-marks : (k : Kind) → AreRising parts.ids.live → value_of t parts.ids.live ≡ Some k → 0 < length (kind_marks (Some k))
  some-marks k rising is = based (kind_marks (Some k)) (ap has_its_marks (sym (marks-here parts t k rising is)) ∙ stack-fine)
    where
      based : (ms : List Mark) → has_its_marks ms ≡ true → 0 < length ms
      based [] e = absurd (let no : false ≡ true = e in cc)
      based (m ∷ ms) e = omega arith

kind-same : (k : Kind) → kind_with_marks (kind_marks (Some k)) k ≡ k
kind-same (kind.Thread rec) = refl
kind-same kind.Agent = refl

map-same : (t : ℕ) (living : List (ℕ × Kind)) → map (changed t (λ k. k)) living ≡ living
map-same t [] = refl
map-same t (p ∷ living) = by_test (eqb p.0 t) (map-same t living)
  where
    by_test : (b : Bool) → map (changed t (λ k. k)) living ≡ living → (p.0, cond b p.1 p.1) ∷ map (changed t (λ k. k)) living ≡ p ∷ living
    by_test true rest = ap (λ ps. p ∷ ps) rest
    by_test false rest = ap (λ ps. p ∷ ps) rest

module _ (parts : Parts) (t : ℕ) (k : Kind) (rising : AreRising parts.ids.live) (is : value_of t parts.ids.live ≡ Some k) (step : InStep parts) where
  -- what lives there, written back
  abbrev pub put : Kind → Parts
  put v = record parts { ids = record parts.ids { live = with_value t v parts.ids.live } }

  put-same : put k ≡ parts
  put-same = ap (λ ps. record parts { ids = record parts.ids { live = ps } })
      (written-changed t (λ v. v) k parts.ids.live rising is ∙ map-same t parts.ids.live)

  put-marked : (ms : List Mark) → put (kind_with_marks ms k) ≡ after_set_stack parts t ms
  put-marked ms = ap (λ ps. record parts { ids = record parts.ids { live = ps } }) (written-changed t (kind_with_marks ms) k parts.ids.live rising is)

  pub put-as-before : (v : Kind) → v ≡ k → IsAsBefore parts (put v)
  put-as-before v e = subst (λ new. IsAsBefore parts new) (sym (ap put e ∙ put-same)) (came_quietly parts parts [] (still (state_of parts)) step refl refl)

  pub put-refused : (v : Kind) (made : Case) (e : LwpErr) → v ≡ k → made ≡ refusal_case (state_of parts) e → Answers parts (put v) [] [] made (answer.Refused e)
  put-refused v made e same refuses =
      subst (λ new. Answers parts new [] [] made (answer.Refused e)) (sym (ap put same ∙ put-same)) (answers_refused parts [] made e step refuses)

  pub put-answered : (v : Kind) (made : Case) (a : Answer) (ms : List Mark) → v ≡ kind_with_marks ms k
      → made ≡ answer_case (with_marks_of (state_of parts) t ms) a → Answers parts (put v) [] [] made a
  put-answered v made a ms e answers = subst (λ new. Answers parts new [] [] made a) (sym (ap put e ∙ put-marked ms))
      (answers_quietly parts (after_set_stack parts t ms) [] made a (InStep-stacked parts t ms step) refl
      (answers ∙ ap (λ (s : State). answer_case s a) (sym (stacked-is parts t ms))))

  -- an exit procedure is set, and so the next has another number
  pub put-registered : (v : Kind) (made : Case) (a : Answer) (ms : List Mark) (n : ℕ) → v ≡ kind_with_marks ms k
      → made ≡ answer_case (with_marks_of (record (state_of parts) { next_registration = n }) t ms) a
      → Answers parts (record (put v) { registration = n }) [] [] made a
  put-registered v made a ms n e answers =
      subst (λ (new : Parts). Answers parts (record new { registration = n }) [] [] made a) (sym (ap put e ∙ put-marked ms))
      (answers_quietly parts (record (after_set_stack parts t ms) { registration = n }) [] made a
      (InStep-given (after_set_stack parts t ms) (InStep-stacked parts t ms step) n parts.pattern) refl
      (answers ∙ ap (λ (s : State). answer_case (record s { next_registration = n }) a) (sym (stacked-is parts t ms))))

  -- the calls that set a mark
  here : marks_in (state_of parts) t ≡ kind_marks (Some k)
  here = marks-here parts t k rising is

  abbrev ms : List Mark
  ms = kind_marks (Some k)

  full-kept : (m : Mark) → stack.is_full ms ≡ true → kind_with_marks (stack.with_mark m ms) k ≡ k
  full-kept m full = ap (λ b. kind_with_marks (cond b ms (ms ++ m ∷ [])) k) full ∙ kind-same k

  frames-kept : has_all_frames ms ≡ true → kind_with_marks (with_frame ms) k ≡ k
  frames-kept full = ap (λ b. kind_with_marks (cond b ms (ms ++ mark.Frame ∷ [])) k) full ∙ kind-same k

  module _ (number : ℕ) (known : nat_le parts.procs number ≡ false) where
    abbrev tried : Bool → Bool → Case
    tried a b = cond a (refusal_case (state_of parts) error.NoRoom)
        (cond b (refusal_case (state_of parts) error.NoRoom) (value_case (with_marks_of (state_of parts) t (ms ++ mark.Frame ∷ [])) 0))

    is-tried : call_procedure (state_of parts) t number ≡ tried (nat_le 64 (frames ms)) (nat_le 256 (length ms))
    unfolding unless
    is-tried = rw (known, here) refl

    pub called : (v : Kind) → v ≡ kind_with_marks (with_frame ms) k → true ≡ not (has_all_frames ms)
        → Answers parts (put v) [] [] (call_procedure (state_of parts) t number) (answer.Value (pos 0))
    called v e fits = put-answered v _ _ (with_frame ms) e (is-tried ∙ by_tests (nat_le 64 (frames ms)) (nat_le 256 (length ms)) fits)
      where
        by_tests : (a b : Bool) → true ≡ not (a || b) → tried a b ≡ value_case (with_marks_of (state_of parts) t (cond (a || b) ms (ms ++ mark.Frame ∷ []))) 0
        by_tests true b e = absurd (cc)
        by_tests false true e = absurd (cc)
        by_tests false false e = refl

    pub not-called : (v : Kind) → v ≡ kind_with_marks (with_frame ms) k → false ≡ not (has_all_frames ms)
        → Answers parts (put v) [] [] (call_procedure (state_of parts) t number) (answer.Refused error.NoRoom)
    not-called v e full = put-refused v _ error.NoRoom (e ∙ frames-kept (true_of (has_all_frames ms) (sym full)))
        (is-tried ∙ by_tests (nat_le 64 (frames ms)) (nat_le 256 (length ms)) full)
      where
        by_tests : (a b : Bool) → false ≡ not (a || b) → tried a b ≡ refusal_case (state_of parts) error.NoRoom
        by_tests true b e = refl
        by_tests false true e = refl
        by_tests false false e = absurd (cc)

  module _ (pat : Pattern) (func : Func) (arg : ℕ) (fine : (check_pattern pat).0 ≡ false) where
    pub handled : (v : Kind) → v ≡ kind_with_marks (stack.with_mark (mark.Handler pat func arg) ms) k → true ≡ not (stack.is_full ms)
        → Answers parts (put v) [] [] (handle (state_of parts) t pat func arg) (answer.Value (pos 0))
    unfolding unless
    handled v e fits = put-answered v _ _ (stack.with_mark (mark.Handler pat func arg) ms) e (made (stack.is_full ms) refl fits)
      where
        made : (b : Bool) → stack.is_full ms ≡ b → true ≡ not b
            → handle (state_of parts) t pat func arg ≡ value_case (with_marks_of (state_of parts) t (cond b ms (ms ++ mark.Handler pat func arg ∷ []))) 0
        made true full e = absurd (cc)
        made false room e = rw (fine, here, room) refl

    pub not-handled : (v : Kind) → v ≡ kind_with_marks (stack.with_mark (mark.Handler pat func arg) ms) k → false ≡ not (stack.is_full ms)
        → Answers parts (put v) [] [] (handle (state_of parts) t pat func arg) (answer.Refused error.NoRoom)
    unfolding unless
    not-handled v e full = put-refused v _ error.NoRoom (e ∙ full-kept (mark.Handler pat func arg) (true_of (stack.is_full ms) (sym full)))
        (made (true_of (stack.is_full ms) (sym full)))
      where
        made : stack.is_full ms ≡ true → handle (state_of parts) t pat func arg ≡ refusal_case (state_of parts) error.NoRoom
        made full = rw (fine, here, full) refl

  module _ (x : ExitCall) where
    pub set-exit : nat_le 4294967295 parts.registration ≡ false → (v : Kind)
        → v ≡ kind_with_marks (stack.with_mark (mark.Exit parts.registration x) ms) k → true ≡ not (stack.is_full ms)
        → Answers parts (record (put v) { registration = parts.registration + 1 }) [] [] (on_exit (state_of parts) t x) (answer.Value (pos parts.registration))
    unfolding unless
    set-exit few v e fits = put-registered v _ _ (stack.with_mark (mark.Exit parts.registration x) ms) (parts.registration + 1) e
        (made (stack.is_full ms) refl fits)
      where
        made : (b : Bool) → stack.is_full ms ≡ b → true ≡ not b
            → on_exit (state_of parts) t x
            ≡ value_case (with_marks_of (record (state_of parts) { next_registration = parts.registration + 1 }) t
            (cond b ms (ms ++ mark.Exit parts.registration x ∷ [])))
            parts.registration
        made true full e = absurd (cc)
        made false room e = rw (here, room, few) refl

    pub exit-full : (v : Kind) → v ≡ kind_with_marks (stack.with_mark (mark.Exit parts.registration x) ms) k
        → false ≡ not (stack.is_full ms) → Answers parts (put v) [] [] (on_exit (state_of parts) t x) (answer.Refused error.NoRoom)
    unfolding unless
    exit-full v e full = put-refused v _ error.NoRoom
        (e ∙ full-kept (mark.Exit parts.registration x) (true_of (stack.is_full ms) (sym full))) (made (true_of (stack.is_full ms) (sym full)))
      where
        made : stack.is_full ms ≡ true → on_exit (state_of parts) t x ≡ refusal_case (state_of parts) error.NoRoom
        made full = rw (here, full) refl

  -- the topmost handler is taken back
  abbrev taken : Bool → Bool → Case
  taken a b = cond a (refusal_case (state_of parts) error.NonExist)
      (cond b (refusal_case (state_of parts) error.InvalidArg) (value_case (with_marks_of (state_of parts) t (without_last ms)) 0))

  is-taken : unhandle (state_of parts) t ≡ taken (passes is_frame (last_mark ms)) (passes is_exit (last_mark ms))
  unfolding unless
  is-taken = rw here refl

  pub taken-back : (v : Kind) → v ≡ kind_with_marks (after_unhandle ms) k → None ≡ refusal_on ms
      → Answers parts (put v) [] [] (unhandle (state_of parts) t) (answer.Value (pos 0))
  taken-back v e none = put-answered v _ _ (after_unhandle ms) e (is-taken ∙ by_tests (passes is_frame (last_mark ms)) (passes is_exit (last_mark ms)) none)
    where
      by_tests : (a b : Bool) → None ≡ cond a (Some error.NonExist) (cond b (Some error.InvalidArg) None)
          → taken a b
          ≡ value_case
          (with_marks_of (state_of parts) t (cond (is_some (cond a (Some error.NonExist) (cond b (Some error.InvalidArg) None))) ms (without_last ms))) 0
      by_tests true b e = absurd (cc)
      by_tests false true e = absurd (cc)
      by_tests false false e = refl

  pub not-taken : (v : Kind) (err : LwpErr) → v ≡ kind_with_marks (after_unhandle ms) k → Some err ≡ refusal_on ms
      → Answers parts (put v) [] [] (unhandle (state_of parts) t) (answer.Refused err)
  not-taken v err e some = put-refused v _ err (e ∙ ap (λ o. kind_with_marks (cond (is_some o) ms (without_last ms)) k) (sym some) ∙ kind-same k) (is-taken
      ∙ by_tests (passes is_frame (last_mark ms)) (passes is_exit (last_mark ms)) some)
    where
      by_tests : (a b : Bool) → Some err ≡ cond a (Some error.NonExist) (cond b (Some error.InvalidArg) None) → taken a b ≡ refusal_case (state_of parts) err
      by_tests true b e = let same : err ≡ error.NonExist = cc in ap (refusal_case (state_of parts)) (sym same)
      by_tests false true e = let same : err ≡ error.InvalidArg = cc in ap (refusal_case (state_of parts)) (sym same)
      by_tests false false e = absurd (cc)

-- a search for a handler, by what it asks first
module _ (s : State) (t p : ℕ) (on_match : Found → Case) where
  pub searching-bad : (is_no_pattern p).0 ≡ true → searching s t p on_match ≡ refusal_case s error.InvalidArg
  unfolding unless
  searching-bad bad = rw bad refl

  pub searching-none : (is_no_pattern p).0 ≡ false → handler_of s t p ≡ None → searching s t p on_match ≡ refusal_case s error.NonExist
  unfolding unless
  searching-none fine none = rw fine (ap (with_match s on_match) none)

  pub searching-some : (is_no_pattern p).0 ≡ false → (f : Found) → handler_of s t p ≡ Some f → searching s t p on_match ≡ on_match f
  unfolding unless
  searching-some fine f some = rw fine (ap (with_match s on_match) some)

module _ (s : State) (t : ℕ) where
  pub call-unknown : (number : ℕ) → nat_le s.procs number ≡ true → call_procedure s t number ≡ refusal_case s error.InvalidArg
  unfolding unless
  call-unknown number unknown = rw unknown refl

  pub handle-bad : (pat : Pattern) (func : Func) (arg : ℕ) → (check_pattern pat).0 ≡ true → handle s t pat func arg ≡ refusal_case s error.InvalidArg
  unfolding unless
  handle-bad pat func arg bad = rw bad (ap (refusal_case s) (by_pattern pat))
    where
      by_pattern : (p : Pattern) → (check_pattern p).1 ≡ error.InvalidArg
      by_pattern pattern.All = refl
      by_pattern (pattern.Num n) = refl

  pub exit-late : (x : ExitCall) → nat_le 4294967295 s.next_registration ≡ true → on_exit s t x ≡ refusal_case s error.NoRoom
  unfolding unless
  exit-late x late = by_room (nat_le 256 (length (marks_in s t)))
    where
      by_room : (b : Bool)
          → cond b (refusal_case s error.NoRoom) (unless s ((nat_le 4294967295 s.next_registration, error.NoRoom) ∷ [])
          (value_case (with_mark (record s { next_registration = s.next_registration + 1 }) t (mark.Exit s.next_registration x)) s.next_registration))
          ≡ refusal_case s error.NoRoom
      by_room true = refl
      by_room false = rw late refl

-- what holds at any rate holds of an Err
pub on_err : {A B : Type 0} (o : Result A B) (P : Type 0) → P → OnErr o P
on_err (Ok n) P h = tt
on_err (Err e) P h = h
