-- Frames that go: what is told meanwhile, and what is left.
use Rattle.death_cleanup.proofs.Exiting.{few_others}
use Rattle.death_cleanup.proofs.Leaving.{marks-here}
use Rattle.death_cleanup.proofs.Unmarking.{marked_again, marks_now, remarked_out, run_exit_so, same_case}
use Rattle.death_cleanup.proofs.Unwinding.{InStep-stacked, marks-are, stacked-is}
use Rattle.death_cleanup.proofs.Living.{written-changed}
use Rattle.death_cleanup.specs.Comes.{Answers, CameTo}
use Rattle.death_cleanup.specs.Moves.{after_set_stack, kind_with_marks, kind_marks}
use Rattle.death_cleanup.specs.Ties.{LawfulParts}
use Rattle.death_cleanup.specs.View.{state_of}
use Rattle.death_cleanup.specs.declared.parts.Parts.{Parts}
use Rattle.death_cleanup.specs.declared.rows.Kind.{Kind}
use Rattle.exc_stack.specs.Stack.{IsInReach, handlers_on_top, after_settle_at}
use Rattle.lwp_calls.proofs.Stacks.{stack-fine}
use Rattle.lwp_types.specs.Case.{Case}
use Rattle.lwp_types.specs.Choice.{is_eligible_in}
use Rattle.lwp_types.specs.CountLaws.{count-cons}
use Rattle.lwp_types.specs.Exits.{catch_case, exit_case, run_exit, unwind}
use Rattle.lwp_types.specs.Exceptions.{caught_marks, exit_of, exits_of, first_frames, frames, is_frame, later_frames, marks_left}
use Rattle.lwp_types.specs.State.{Outcome, State, and_then, for_each, is_thread, marks_in, with_marks_of}
use Rattle.lwp_types.specs.Unblock.{zero_answer}
use Rattle.lwp_types.specs.declared.call.Answer.TheVariants as answer
use Rattle.lwp_types.specs.declared.call.Effect.{Effect}
use Rattle.lwp_types.specs.declared.call.Effect.TheVariants as effect
use Rattle.lwp_types.specs.declared.rows.ExitMark.{ExitMark}
use Rattle.lwp_types.specs.declared.rows.Found.{Found}
use Rattle.lwp_types.specs.declared.rows.Mark.{Mark}
use Rattle.lwp_types.specs.declared.rows.Mark.TheVariants as mark
use Rattle.pod_laws.proofs.MarkLists.{frames_split, stack_from}
use Rattle.stale_ids.specs.Register.{AreRising, value_of, with_value}
use Rattle.std.proofs.Common.{List, None, Some, [], ap, arith, length, length-append, refl, reverse}
use Rattle.std.proofs.Common.{subst, suc, sym, true, zero, ℕ, ◌++◌, ◌+◌, ◌<◌, ◌∙◌, ◌∷◌, ◌≡◌, ◌≤◌}
use Rattle.std.proofs.lemmas.List.{length-reverse}
use Rattle.std.specs.List.{filter_map}
use Rattle.std.specs.Prelude.{unwrap_or}

-- an exit procedure tells one other at most, and its own result

run_few : (t : ℕ) (x : ExitMark) (s : State) → length (run_exit t x s).effects ≤ 2
run_few t x s = omega (
  arith,
  few_others s t x.call,
  length-append (exit_case s t x.call).others (effect.Exited t x.reg x.call (unwrap_or (exit_case s t x.call).own zero_answer) ∷ []),
)

each_few : (t : ℕ) (xs : List ExitMark) (s : State) → length (for_each (run_exit t) xs s).effects ≤ length xs + length xs
unfolding for_each and_then
each_few t [] s = omega arith
each_few t (x ∷ xs) s = omega (
  arith,
  run_few t x s,
  each_few t xs (run_exit t x s).after,
  length-append (run_exit t x s).effects (for_each (run_exit t) xs (run_exit t x s).after).effects,
)

filter_few : (ms : List Mark) → length (filter_map exit_of ms) ≤ length ms
filter_few [] = omega arith
filter_few (mark.Frame ∷ ms) = omega (arith, filter_few ms)
filter_few (mark.Handler pat func arg ∷ ms) = omega (arith, filter_few ms)
filter_few (mark.Exit reg x ∷ ms) = omega (arith, filter_few ms)

pub unwind_few : (t depth : ℕ) (kept ms : List Mark) (s : State) → length ms ≤ 256 → length (unwind t kept (later_frames depth ms) s).effects ≤ 512
unwind_few t depth kept ms s few = omega (
  arith,
  few,
  each_few t (exits_of (later_frames depth ms)) (with_marks_of s t kept),
  filter_few (reverse (later_frames depth ms)),
  length-reverse (later_frames depth ms),
  ap length (frames_split depth ms),
  length-append (first_frames depth ms) (later_frames depth ms),
)

-- of a live thread: as many at most, and so there is room for them
module _ (parts : Parts) (lawful : LawfulParts parts) (alone : parts.dying ≡ None) (t : ℕ) (may : is_eligible_in (state_of parts) t ≡ true)
    (depth : ℕ) (kept : List Mark) where
  abbrev going : Outcome
  going = unwind t kept (later_frames depth (marks_in (state_of parts) t)) (state_of parts)

  pub leave-few : length going.effects ≤ 512
  leave-few = unwind_few t depth kept (marks_in (state_of parts) t) (state_of parts)
      (stack_from (marks_in (state_of parts) t) (stack-fine parts lawful alone t may)).few

  pub came-few : (new : Parts) (before now : List Effect) → CameTo parts new before now going → before ≡ [] → length now ≤ 1279
  came-few new before now came none = omega (arith, ap length none, leave-few, ap length came.effects, length-append before going.effects)

-- the first frames are as many

first-count : (depth : ℕ) (ms : List Mark) → depth ≤ frames ms → frames (first_frames depth ms) ≡ depth
first-count zero [] most = refl
first-count (suc d) [] most = absurd (omega (arith, most))
first-count zero (mark.Frame ∷ ms) most = refl
first-count (suc d) (mark.Frame ∷ ms) most =
    omega (arith, count-cons is_frame mark.Frame (first_frames d ms), first-count d ms (omega (arith, most, count-cons is_frame mark.Frame ms)))
first-count zero (mark.Handler pat func arg ∷ ms) most =
    omega (arith, count-cons is_frame (mark.Handler pat func arg) (first_frames zero ms), first-count zero ms (omega arith))
first-count (suc d) (mark.Handler pat func arg ∷ ms) most = omega (
  arith,
  count-cons is_frame (mark.Handler pat func arg) (first_frames (suc d) ms),
  first-count (suc d) ms (omega (arith, most, count-cons is_frame (mark.Handler pat func arg) ms)),
)
first-count zero (mark.Exit reg x ∷ ms) most = omega (arith, count-cons is_frame (mark.Exit reg x) (first_frames zero ms), first-count zero ms (omega arith))
first-count (suc d) (mark.Exit reg x ∷ ms) most = omega (
  arith,
  count-cons is_frame (mark.Exit reg x) (first_frames (suc d) ms),
  first-count (suc d) ms (omega (arith, most, count-cons is_frame (mark.Exit reg x) ms)),
)

-- exit procedures run as well under other marks, and who lives lives

module _ (t : ℕ) where
  abbrev told : List Effect → Outcome → Outcome
  told es out = record { after = out.after; effects = es ++ out.effects }

  each_so : (ms : List Mark) (xs : List ExitMark) (s : State) → for_each (run_exit t) xs (with_marks_of s t ms) ≡ remarked_out t ms (for_each (run_exit t) xs s)
  unfolding for_each and_then
  each_so ms [] s = refl
  each_so ms (x ∷ xs) s = ap (λ (o : Outcome). told o.effects (for_each (run_exit t) xs o.after)) (run_exit_so t ms t x s)
      ∙ ap (told (run_exit t x s).effects) (each_so ms xs (run_exit t x s).after)

  there_after : (xs : List ExitMark) (s : State) → is_thread (for_each (run_exit t) xs s).after t ≡ is_thread s t
  unfolding for_each and_then
  there_after [] s = refl
  there_after (x ∷ xs) s = there_after xs (run_exit t x s).after ∙ same_case t s t x.call

-- the frames above the handler's went, and then the handler goes
module _ (parts mid : Parts) (before now : List Effect) (t : ℕ) (f : Found) (lives : is_thread (state_of parts) t ≡ true)
    (reach : IsInReach (marks_in (state_of parts) t) f)
    (came : CameTo parts mid before now
    (unwind t (first_frames f.depth (marks_in (state_of parts) t)) (later_frames f.depth (marks_in (state_of parts) t)) (state_of parts))) where
  abbrev kept : List Mark
  kept = first_frames f.depth (marks_in (state_of parts) t)

  abbrev ran : Outcome
  ran = for_each (run_exit t) (exits_of (later_frames f.depth (marks_in (state_of parts) t))) (state_of parts)

  mid-is : state_of mid ≡ with_marks_of ran.after t kept
  mid-is = came.state ∙ ap (λ (o : Outcome). o.after) (each_so t kept (exits_of (later_frames f.depth (marks_in (state_of parts) t))) (state_of parts))

  marks-mid : marks_in (state_of mid) t ≡ kept
  marks-mid = ap (λ (s : State). marks_in s t) mid-is
      ∙ marks_now t kept ran.after (there_after t (exits_of (later_frames f.depth (marks_in (state_of parts) t))) (state_of parts) ∙ lives)

  as_deep : frames kept ≡ f.depth
  as_deep = first-count f.depth (marks_in (state_of parts) t) reach.most

  pub still-there : AreRising mid.ids.live → value_of t mid.ids.live ≡ None → ⊥
  still-there rising none = omega (arith, reach.least, as_deep, ap frames (sym marks-mid ∙ marks-are mid t rising ∙ ap kind_marks none))

  module _ (k : Kind) (rising : AreRising mid.ids.live) (is : value_of t mid.ids.live ≡ Some k) where
    here : kind_marks (Some k) ≡ kept
    here = sym (marks-here mid t k rising is) ∙ marks-mid

    pub handler-there : f.mark < handlers_on_top (kind_marks (Some k))
    handler-there = omega (arith, reach.number, ap handlers_on_top here)

    left-is : after_settle_at f.mark (kind_marks (Some k)) ≡ caught_marks f (marks_in (state_of parts) t)
    left-is = ap (after_settle_at f.mark) here ∙ ap (λ n. marks_left n f.mark kept) as_deep

    caught_by : ℕ → Outcome → Case
    caught_by p out = record { after = out.after; others = out.effects; own = Some (answer.Caught f.depth f.mark p) }

    pub caught-comes : (p : ℕ) (v : Kind) → v ≡ kind_with_marks (after_settle_at f.mark (kind_marks (Some k))) k
        → Answers parts (record mid { ids = record mid.ids { live = with_value t v mid.ids.live } }) before now
        (catch_case (state_of parts) t p f) (answer.Caught f.depth f.mark p)
    caught-comes p v e =
        subst (λ (new : Parts). Answers parts new before now (catch_case (state_of parts) t p f) (answer.Caught f.depth f.mark p)) (sym put) (record {
          came = record {
            state = stacked-is mid t left ∙ ap (λ (s : State). with_marks_of s t left) mid-is ∙ marked_again t left ran.after kept
                ∙ sym (ap (λ (o : Outcome). o.after) out);
            effects = came.effects ∙ ap (λ (o : Outcome). before ++ o.effects) (each_so t kept gone (state_of parts))
                ∙ sym (ap (λ (o : Outcome). before ++ o.effects) out);
            step = InStep-stacked mid t left came.step;
            dying = came.dying;
          };
          own = refl;
        })
      where
        left : List Mark
        left = caught_marks f (marks_in (state_of parts) t)

        gone : List ExitMark
        gone = exits_of (later_frames f.depth (marks_in (state_of parts) t))

        out : unwind t left (later_frames f.depth (marks_in (state_of parts) t)) (state_of parts)
            ≡ remarked_out t left (for_each (run_exit t) gone (state_of parts))
        out = each_so t left gone (state_of parts)

        put : record mid { ids = record mid.ids { live = with_value t v mid.ids.live } } ≡ after_set_stack mid t left
        put = ap (λ w. record mid { ids = record mid.ids { live = with_value t w mid.ids.live } }) (e ∙ ap (λ ms. kind_with_marks ms k) left-is)
            ∙ ap (λ ps. record mid { ids = record mid.ids { live = ps } }) (written-changed t (kind_with_marks left) k mid.ids.live rising is)
