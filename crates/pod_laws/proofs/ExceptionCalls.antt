-- The calls on stacks keep the nine parts.
use Rattle.lwp_types.specs.Case.{Case}
use Rattle.lwp_types.specs.CountLaws.{count-append, count-push, one}
use Rattle.lwp_types.specs.Counts.{has_its_marks}
use Rattle.lwp_types.specs.Exits.{catch_case, exc_notify, leave_frame, excnotify_case_by, raise}
use Rattle.lwp_types.specs.Lawful.{NineParts, is_same_option}
use Rattle.lwp_types.specs.Exceptions.{bound, call_procedure, caught_marks, first_frames, frames, handle, handler_in, is_frame, last_mark}
use Rattle.lwp_types.specs.Exceptions.{later_frames, on_exit, searching, unhandle, unique_pattern, with_match, without_last}
use Rattle.lwp_types.specs.State.{State, ThreadRow, is_number, passes, thread_of, with_marks_of}
use Rattle.lwp_types.specs.declared.call.ExitCall.{ExitCall}
use Rattle.lwp_types.specs.declared.call.Func.{Func}
use Rattle.lwp_types.specs.declared.call.Pattern.{Pattern}
use Rattle.lwp_types.specs.declared.rows.Found.{Found}
use Rattle.lwp_types.specs.declared.rows.Mark.{Mark}
use Rattle.lwp_types.specs.declared.call.Func.TheVariants as func
use Rattle.lwp_types.specs.declared.rows.Mark.TheVariants as mark
use Rattle.pod_laws.proofs.Checks.{unless_keeps}
use Rattle.pod_laws.proofs.Elements.{all_found}
use Rattle.pod_laws.proofs.ExitCalls.{unwind_keeps}
use Rattle.pod_laws.proofs.MarkLists.{Fewer, caught_based, caught_fewer, first_based, first_fewer, found_deep, has_number, is_based, numbers_counted}
use Rattle.pod_laws.proofs.MarkLists.{stack_fewer, stack_from, stack_push}
use Rattle.pod_laws.proofs.MarkMoves.{NineParts-exit_set, NineParts-fewer, NineParts-marked}
use Rattle.std.proofs.Common.{List, None, Option, Some, [], ap, arith, count_by, drop, false, length, refl, suc, sym, take, true, ℕ, ◌++◌, ◌+◌, ◌-◌}
use Rattle.std.proofs.Common.{◌||◌, ◌∙◌, ◌∷◌, ◌≡◌, ◌≤◌}
use Rattle.std.proofs.lemmas.Bool.{leb-false}
use Rattle.std.proofs.lemmas.List.{take-append-drop}

module _ (s : State) (was : NineParts s None) (t : ℕ) (x : ThreadRow) (known : thread_of s t ≡ Some x) where
  stack : has_its_marks x.marks ≡ true
  stack = all_found (is_number t) (λ row. is_same_option None row.number || has_its_marks row.marks) s.threads x was.marks known

  -- one mark more, that is no exit procedure
  pushed : (m : Mark) → ((r : ℕ) → has_number r m ≡ false) → frames x.marks + one (is_frame m) ≤ 64 → length x.marks + 1 ≤ 256
      → NineParts (with_marks_of s t (x.marks ++ m ∷ [])) None
  pushed m plain room more = NineParts-marked s None was t x known (x.marks ++ m ∷ []) (stack_push x.marks m stack room more)
      (λ r. omega (arith, numbers_counted r (x.marks ++ m ∷ []), numbers_counted r x.marks, count-push (has_number r) x.marks m, ap one (plain r)))

  pub call_procedure_keeps : (number : ℕ) → NineParts (call_procedure s t number).after None
  call_procedure_keeps number = rw known (unless_keeps (λ s. NineParts s None) s _ _ was (λ passed.
      pushed mark.Frame (λ r. refl) (omega (arith, leb-false 64 (frames x.marks) passed.1.0)) (omega (arith, leb-false 256 (length x.marks) passed.1.1.0))))

  pub handle_keeps : (pat : Pattern) (func : Func) (arg : ℕ) → NineParts (handle s t pat func arg).after None
  handle_keeps pat func arg =
      rw known (unless_keeps (λ s. NineParts s None) s _ _ was (λ passed. pushed (mark.Handler pat func arg) (λ r. refl)
      (omega (arith, (stack_from x.marks stack).few_frames)) (omega (arith, leb-false 256 (length x.marks) passed.1.0))))

  pub on_exit_keeps : (call : ExitCall) → NineParts (on_exit s t call).after None
  on_exit_keeps call = rw known (unless_keeps (λ s. NineParts s None) s _ _ was (λ passed. NineParts-exit_set s None was t x known call
      (stack_push x.marks (mark.Exit s.next_registration call) stack (omega (arith, (stack_from x.marks stack).few_frames))
      (omega (arith, leb-false 256 (length x.marks) passed.0)))))

  pub unhandle_keeps : NineParts (unhandle s t).after None
  unhandle_keeps = rw known (unless_keeps (λ s. NineParts s None) s _ _ was (λ passed. NineParts-fewer s None was t x known (without_last x.marks)
      (stack_fewer x.marks (without_last x.marks) (last_fewer x.marks) (based x.marks (stack_from x.marks stack).based passed.0) stack) (last_fewer x.marks)))
    where
      last_fewer : (ms : List Mark) → Fewer (without_last ms) ms
      last_fewer ms p = omega (arith, count-append p (take (length ms - 1) ms) (drop (length ms - 1) ms), ap (count_by p) (take-append-drop (length ms - 1) ms))

      based : (ms : List Mark) → is_based ms ≡ true → passes is_frame (last_mark ms) ≡ false → is_based (without_last ms) ≡ true
      based [] e h = absurd (cc)
      based (m ∷ []) e h =
          let bad : true ≡ false = sym e ∙ h in
          absurd (cc)
      based (m ∷ n ∷ ms) e h =
          let more : length (m ∷ n ∷ ms) - 1 ≡ suc (length ms) = omega arith in
          ap (λ k. is_based (take k (m ∷ n ∷ ms))) more ∙ e

  pub unique_pattern_keeps : NineParts (unique_pattern s).after None
  unique_pattern_keeps = unless_keeps (λ s. NineParts s None) s _ _ was (λ passed. record {
    numbers = was.numbers;
    levels = was.levels;
    order = was.order;
    blocks = was.blocks;
    letters = was.letters;
    locks = was.locks;
    owners = was.owners;
    marks = was.marks;
    registrations = was.registrations;
    dies = was.dies;
  })

  -- the topmost frame goes
  pub leave_frame_keeps : 2 ≤ frames x.marks → NineParts (leave_frame s t).after None
  leave_frame_keeps more = rw known (unwind_keeps None t (first_frames (frames x.marks - 1) x.marks)
      (later_frames (frames x.marks - 1) x.marks) s (NineParts-fewer s None was t x known (first_frames (frames x.marks - 1) x.marks)
      (stack_fewer x.marks (first_frames (frames x.marks - 1) x.marks) (first_fewer (frames x.marks - 1) x.marks)
      (first_based (frames x.marks - 1) x.marks (omega arith) (stack_from x.marks stack).based) stack)
      (first_fewer (frames x.marks - 1) x.marks)))

  -- the stack is cut back to a handler that was found
  caught_keeps : (p : ℕ) (f : Found) → handler_in p x.marks ≡ Some f → NineParts (catch_case s t p f).after None
  caught_keeps p f e = rw known (unwind_keeps None t (caught_marks f x.marks) (later_frames f.depth x.marks) s
      (NineParts-fewer s None was t x known (caught_marks f x.marks)
      (stack_fewer x.marks (caught_marks f x.marks) (caught_fewer f x.marks)
      (caught_based f x.marks (found_deep p x.marks f (stack_from x.marks stack).based e) (stack_from x.marks stack).based) stack)
      (caught_fewer f x.marks)))

  searched_keeps : (p : ℕ) (on_match : Found → Case) → ((f : Found) → handler_in p x.marks ≡ Some f → NineParts (on_match f).after None)
      → NineParts (searching s t p on_match).after None
  searched_keeps p on_match keeps = unless_keeps (λ s. NineParts s None) s _ _ was (λ passed. rw known (by_found (handler_in p x.marks) refl))
    where
      by_found : (o : Option Found) → handler_in p x.marks ≡ o → NineParts (with_match s on_match o).after None
      by_found None e = was
      by_found (Some f) e = keeps f e

  pub bound_keeps : (p : ℕ) → NineParts (bound s t p).after None
  bound_keeps p = searched_keeps p _ (λ f e. was)

  pub raise_keeps : (p : ℕ) → NineParts (raise s t p).after None
  raise_keeps p = searched_keeps p _ (λ f e. caught_keeps p f e)

  pub exc_notify_keeps : (p : ℕ) → NineParts (exc_notify s t p).after None
  exc_notify_keeps p = searched_keeps p _ (λ f e. by_func f e f.func)
    where
      by_func : (f : Found) → handler_in p x.marks ≡ Some f → (h : Func) → NineParts (excnotify_case_by s t p f h).after None
      by_func f e func.Give = was
      by_func f e func.Sum = was
      by_func f e func.Nothing = caught_keeps p f e
