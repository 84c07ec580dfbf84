-- A session that goes along a path, step by step.
use Rattle.lwp_explore.proofs.Played.{some_is}
use Rattle.lwp_explore.proofs.Turns.{none_yet}
use Rattle.lwp_explore.specs.Along.{IsAlong, IsCounted}
use Rattle.lwp_explore.specs.Cores.{Step, World, after, first_core, steps_at}
use Rattle.lwp_explore.specs.Explored.{IsAtFirst}
use Rattle.lwp_explore.specs.Sessions.{core_at, world_of}
use Rattle.lwp_explore.specs.Standing.{IsFurther, IsGone, IsStep, Standing, core_now, trace_now}
use Rattle.lwp_explore.specs.Ways.{calls_in, step_lines, steps_along, tail_of, takes_in, way, way_text}
use Rattle.pod_runner.proofs.Appends.{writes_base}
use Rattle.pod_runner.specs.Play.{play}
use Rattle.pod_runner.specs.Run.{Writes}
use Rattle.pod_runner.specs.declared.session.Took.{Took}
use Rattle.script_body.specs.declared.thread_body.ThreadBody.{ThreadBody}
use Rattle.script_session.specs.SoFar.{lines_after}
use Rattle.script_text.specs.Script.{proc_names}
use Rattle.script_text.specs.declared.script.Script.{Script}
use Rattle.search.proofs.Walks.{walk_first}
use Rattle.search.specs.Moves.{walk}
use Rattle.session_cores.specs.Core.{Core, core_of}
use Rattle.std.proofs.Common.{Bool, List, None, Option, Some, [], ap, append-nil, append_assoc, arith, cond, drop, false, get_or, length, refl, slice_get}
use Rattle.std.proofs.Common.{subst, sym, ℕ, ◌++◌, ◌+◌, ◌<◌, ◌∙◌, ◌∷◌, ◌≡◌, ◌≤◌}
use Rattle.std.proofs.lemmas.List.{drop_all, drop_more, length-map}
use Rattle.std.proofs.lemmas.List.Sums.{sum_by-cons}
use Rattle.std.proofs.lemmas.Option.{slice_get-map}
use Rattle.std.specs.List.{count_by}
use Rattle.std.specs.Option.{option_map_or}
use Rattle.std.specs.Prelude.{IfSome, IsSome, is_none, is_some, option_and_then, option_map}

count_first : {A : Type 0} (p : A → Bool) (x : A) (xs : List A) → count_by p (x ∷ xs) ≡ count_by p (x ∷ []) + count_by p xs
count_first p x xs = omega (arith, sum_by-cons (λ y. cond (p y) 1 0) x xs, sum_by-cons (λ y. cond (p y) 1 0) x [])

calls_first : (step : Step ThreadBody) (steps : List (Step ThreadBody)) → calls_in (step ∷ steps) ≡ calls_in (step ∷ []) + calls_in steps
calls_first step steps = count_first (λ (s : Step ThreadBody). is_none s.take) step steps

takes_first : (step : Step ThreadBody) (steps : List (Step ThreadBody)) → takes_in (step ∷ steps) ≡ takes_in (step ∷ []) + takes_in steps
takes_first step steps = count_first (λ (s : Step ThreadBody). is_some s.take) step steps

-- what is left of the path comes to what all of it does
pub record Going (old : Standing) (path : List ℕ) (at : ℕ) (now : Standing) : Type 0 where
  pub further : IsFurther old now
  pub sound : now.failed ≡ false
  pub there : walk (after (world_of old.script)) (core_now now) (drop at path) ≡ walk (after (world_of old.script)) (core_now old) path
  pub calls : now.run.calls + calls_in (steps_along (world_of old.script) (core_now now) (drop at path))
      ≡ old.run.calls + calls_in (steps_along (world_of old.script) (core_now old) path)
  pub takes : length now.run.takes + takes_in (steps_along (world_of old.script) (core_now now) (drop at path))
      ≡ length old.run.takes + takes_in (steps_along (world_of old.script) (core_now old) path)
  pub lines : trace_now now ++ way_text (proc_names old.script) (steps_along (world_of old.script) (core_now now) (drop at path))
      ≡ trace_now old ++ way_text (proc_names old.script) (steps_along (world_of old.script) (core_now old) path)

pub going_first : (old : Standing) (path : List ℕ) → old.failed ≡ false → Going old path 0 old
going_first old path sound = record {
  further = record { script = refl; sought = refl; turns = refl };
  sound = sound;
  there = refl;
  calls = refl;
  takes = refl;
  lines = refl;
}

module _ (old now : Standing) (path : List ℕ) (at : ℕ) (inside : at < length path) (going : Going old path at now) where
  abbrev world : World ThreadBody
  world = world_of old.script

  abbrev next : ℕ
  next = get_or path at 0

  abbrev rest : List ℕ
  rest = drop (at + 1) path

  rest_is : drop at path ≡ next ∷ rest
  rest_is = drop_more path at 0 inside

  -- there is such a step
  pub going_within : IsSome (walk (after world) (core_now old) path) → next < length (steps_at (world_of now.script) (core_now now))
  going_within leads =
      let led : IsSome (walk (after world) (core_now now) (next ∷ rest)) =
      subst (λ o. IsSome o) (sym going.there ∙ ap (walk (after world) (core_now now)) rest_is) leads in
      let low : next < length (after world (core_now now)) = walk_first (after world) (core_now now) next rest led in
      let same : length (after world (core_now now)) ≡ length (steps_at world (core_now now)) =
      length-map (steps_at world (core_now now)) (λ (s : Step ThreadBody). s.to) in
      subst (λ (s : Script). next < length (steps_at (world_of s) (core_now now))) (sym going.further.script) (omega (arith, low, same))

  module _ (new : Standing) (further : IsFurther now new) (sound : new.failed ≡ false) where
    one_more : (step : Step ThreadBody) → slice_get (steps_at world (core_now now)) next ≡ Some step → step.to ≡ core_now new
        → trace_now new ≡ trace_now now ++ step_lines (proc_names old.script) step → new.run.calls ≡ now.run.calls + calls_in (step ∷ [])
        → length new.run.takes ≡ length now.run.takes + takes_in (step ∷ []) → Going old path (at + 1) new
    one_more step e to lines calls takes =
        let split : steps_along world (core_now now) (drop at path) ≡ step ∷ steps_along world (core_now new) rest =
        ap (steps_along world (core_now now)) rest_is
        ∙ ap (λ o. option_map_or (λ (s : Step ThreadBody). s ∷ steps_along world s.to rest) o []) e
        ∙ ap (λ c. step ∷ steps_along world c rest) to in
        let led : slice_get (after world (core_now now)) next ≡ Some (core_now new) =
        slice_get-map (λ (s : Step ThreadBody). s.to) (steps_at world (core_now now)) next
        ∙ ap (option_map (λ (s : Step ThreadBody). s.to)) e ∙ ap (λ c. Some c) to in
        record {
          further = record {
            script = further.script ∙ going.further.script;
            sought = further.sought ∙ going.further.sought;
            turns = further.turns ∙ going.further.turns;
          };
          sound = sound;
          there = sym (ap (walk (after world) (core_now now)) rest_is ∙ ap (option_and_then (λ c. walk (after world) c rest)) led) ∙ going.there;
          calls = omega (arith, calls, calls_first step (steps_along world (core_now new) rest), ap (λ l. calls_in l) split, going.calls);
          takes = omega (arith, takes, takes_first step (steps_along world (core_now new) rest), ap (λ l. takes_in l) split, going.takes);
          lines = ap (λ t. t ++ way_text (proc_names old.script) (steps_along world (core_now new) rest)) lines
              ∙ append_assoc (trace_now now) (step_lines (proc_names old.script) step)
              (way_text (proc_names old.script) (steps_along world (core_now new) rest))
              ∙ ap (λ l. trace_now now ++ way_text (proc_names old.script) l) (sym split) ∙ going.lines;
        }

    pub going_more : IsGone now next new → IsCounted now next new
        → slice_get (after (world_of now.script) (core_now now)) next ≡ Some (core_now new) → Going old path (at + 1) new
    going_more gone counted there =
        by (slice_get (steps_at (world_of now.script) (core_now now)) next) refl gone counted
      where
        same : now.script ≡ old.script
        same = going.further.script

        none_led : slice_get (steps_at (world_of now.script) (core_now now)) next ≡ None → ⊥
        none_led e = absurd (cc (sym there ∙ slice_get-map (λ (s : Step ThreadBody). s.to) (steps_at (world_of now.script) (core_now now)) next
            ∙ ap (option_map (λ (s : Step ThreadBody). s.to)) e))

        by : (o : Option (Step ThreadBody)) → slice_get (steps_at (world_of now.script) (core_now now)) next ≡ o → IfSome o (IsStep now new)
            → IfSome o (λ step. (new.run.calls ≡ now.run.calls + calls_in (step ∷ [])) × (length new.run.takes ≡ length now.run.takes + takes_in (step ∷ [])))
            → Going old path (at + 1) new
        by None e g n = absurd (none_led e)
        by (Some step) e g n =
            one_more step (ap (λ (s : Script). slice_get (steps_at (world_of s) (core_now now)) next) (sym same) ∙ e) g.to
            (g.lines ∙ ap (λ (s : Script). trace_now now ++ step_lines (proc_names s) step) same) n.0 n.1

-- all of it was gone
pub going_end : (old now : Standing) (path : List ℕ) (at : ℕ) → length path ≤ at → Going old path at now → IsAlong old path now
going_end old now path at over going =
    let none : drop at path ≡ [] = drop_all at path over in
    let world : World ThreadBody = world_of old.script in
    let steps : steps_along world (core_now now) (drop at path) ≡ [] = ap (steps_along world (core_now now)) none in
    record {
      further = going.further;
      sound = going.sound;
      there = sym going.there ∙ ap (walk (after world) (core_now now)) none;
      calls = omega (arith, going.calls, ap (λ l. calls_in l) steps);
      takes = omega (arith, going.takes, ap (λ l. takes_in l) steps);
      lines = sym (append-nil (trace_now now)) ∙ ap (λ l. trace_now now ++ way_text (proc_names old.script) l) (sym steps) ∙ going.lines;
    }

-- ---- from before the first step

core_first : (script : Script) → core_at (world_of script) [] 0 ≡ first_core (world_of script)
unfolding play
core_first script = ap (λ counts. core_of (play (world_of script).setting [] 0).live counts) (none_yet 0 (length script.clients))

lines_first : (script : Script) → lines_after script [] 0 ≡ []
unfolding play lines_after
lines_first script = refl

pub first_core_is : (s : Standing) → IsAtFirst s → core_now s ≡ first_core (world_of s.script)
first_core_is s first =
    ap (λ (takes : List Took). core_at (world_of s.script) takes s.run.calls) first.takes
    ∙ ap (λ n. core_at (world_of s.script) [] n) first.calls ∙ core_first s.script

first_trace_is : (s : Standing) → IsAtFirst s → trace_now s ≡ []
first_trace_is s first =
    ap (λ (takes : List Took). lines_after s.script takes s.run.calls) first.takes
    ∙ ap (λ n. lines_after s.script [] n) first.calls ∙ lines_first s.script

module _ (s here : Standing) (path : List ℕ) (first : IsAtFirst s) (along : IsAlong s path here) where
  begun : steps_along (world_of s.script) (core_now s) path ≡ way (world_of s.script) path
  begun = ap (λ c. steps_along (world_of s.script) c path) (first_core_is s first)

  pub along_calls : here.run.calls ≡ calls_in (way (world_of s.script) path)
  along_calls = omega (arith, along.calls, first.calls, ap (λ l. calls_in l) begun)

  pub along_takes : length here.run.takes ≡ takes_in (way (world_of s.script) path)
  along_takes = omega (arith, along.takes, ap (λ (ts : List Took). length ts) first.takes, ap (λ l. takes_in l) begun)

  pub along_there : walk (after (world_of s.script)) (first_core (world_of s.script)) path ≡ Some (core_now here)
  along_there = ap (λ c. walk (after (world_of s.script)) c path) (sym (first_core_is s first)) ∙ along.there

  pub along_lines : trace_now here ≡ way_text (proc_names s.script) (way (world_of s.script) path)
  along_lines = along.lines ∙ ap (λ t. t ++ way_text (proc_names s.script) (steps_along (world_of s.script) (core_now s) path)) (first_trace_is s first)
      ∙ ap (way_text (proc_names s.script)) begun

-- steps lead from where it stands
pub leads_first : (s : Standing) (path : List ℕ) → IsAtFirst s → IsSome (walk (after (world_of s.script)) (first_core (world_of s.script)) path)
    → IsSome (walk (after (world_of s.script)) (core_now s) path)
leads_first s path first leads = subst (λ c. IsSome (walk (after (world_of s.script)) c path)) (sym (first_core_is s first)) leads

-- what a sink has taken along a path
pub kept_lines : (s here : Standing) (path before told : List ℕ) → IsAtFirst s → IsAlong s path here → before ≡ []
    → Writes (Some before) (Some told) (trace_now s) (trace_now here) → told ≡ way_text (proc_names s.script) (way (world_of s.script) path)
kept_lines s here path before told first along empty writes =
    some_is (writes_base writes (Some []) (ap (λ b. Some b) empty ∙ sym (ap (λ t. Some ([] ++ t)) (first_trace_is s first))))
    ∙ along_lines s here path first along

-- and those after the last step
pub trace_put : (s here : Standing) (path lines text : List ℕ) → IsAtFirst s → IsAlong s path here
    → lines ≡ way_text (proc_names s.script) (way (world_of s.script) path) → text ≡ lines ++ tail_of (world_of here.script) (core_now here)
    → (core : Core ThreadBody) → walk (after (world_of s.script)) (first_core (world_of s.script)) path ≡ Some core
    → text ≡ way_text (proc_names s.script) (way (world_of s.script) path) ++ tail_of (world_of s.script) core
trace_put s here path lines text first along is put core leads =
    put ∙ ap (λ l. l ++ tail_of (world_of here.script) (core_now here)) is
    ∙ ap (λ (x : Script). way_text (proc_names s.script) (way (world_of s.script) path) ++ tail_of (world_of x) (core_now here)) along.further.script
    ∙ ap (λ c. way_text (proc_names s.script) (way (world_of s.script) path) ++ tail_of (world_of s.script) c)
    (some_is (sym (along_there s here path first along) ∙ leads))
