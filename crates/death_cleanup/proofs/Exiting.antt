-- An exit procedure is carried out.
use Rattle.death_cleanup.specs.Comes.{Answers, CameTo}
use Rattle.death_cleanup.specs.Ties.{LawfulParts}
use Rattle.death_cleanup.specs.View.{state_of}
use Rattle.death_cleanup.specs.declared.parts.Parts.{Parts}
use Rattle.lwp_types.specs.Case.{Case, Check, unless}
use Rattle.lwp_types.specs.Exits.{exit_case, run_exit}
use Rattle.lwp_types.specs.Messages.{after_reply, with_holding, without_letter}
use Rattle.lwp_types.specs.Monitors.{after_exit, depth_in, with_depth}
use Rattle.lwp_types.specs.MonitorRelease.{grant, next_owner, release, without_lock}
use Rattle.lwp_types.specs.State.{State, is_agent, still}
use Rattle.lwp_types.specs.Unblock.{unblock, zero_answer}
use Rattle.lwp_types.specs.declared.call.Answer.{Answer}
use Rattle.lwp_types.specs.declared.call.Effect.{Effect}
use Rattle.lwp_types.specs.declared.call.ExitCall.{ExitCall}
use Rattle.lwp_types.specs.declared.rows.ExitMark.{ExitMark}
use Rattle.lwp_types.specs.declared.rows.Request.{Request}
use Rattle.lwp_types.specs.declared.call.Answer.TheVariants as answer
use Rattle.lwp_types.specs.declared.call.Effect.TheVariants as effect
use Rattle.lwp_types.specs.declared.call.ExitCall.TheVariants as exit
use Rattle.pod_laws.proofs.ExitCalls.{run_exit_keeps}
use Rattle.std.proofs.Common.{Bool, List, None, Option, Some, [], ap, append_assoc, arith, cond, false}
use Rattle.std.proofs.Common.{length, length-append, sym, true, ℕ, ◌++◌, ◌+◌, ◌-◌, ◌∙◌, ◌∷◌, ◌≤◌}
use Rattle.std.proofs.lemmas.List.{append-nil}
use Rattle.std.specs.Prelude.{nat_le, unwrap_or}

-- a call that tells nothing tells nothing after other effects either
pub answers_behind : (old new : Parts) (effects : List Effect) (made : Case) (a : Answer) → Answers old new [] [] made a
    → Answers old new effects effects made a
answers_behind old new effects made a quiet = record {
  came = record {
    state = quiet.came.state;
    effects = sym (append-nil effects) ∙ ap (λ es. effects ++ es) quiet.came.effects;
    step = quiet.came.step;
    dying = quiet.came.dying;
  };
  own = quiet.own;
}

-- what an exit procedure does to others is one effect at most

few_unless : (s : State) (checks : List Check) (otherwise : Case) → length otherwise.others ≤ 1 → length (unless s checks otherwise).others ≤ 1
unfolding unless
few_unless s [] otherwise few = few
few_unless s (check ∷ checks) otherwise few = by_test check.0 (few_unless s checks otherwise few)
  where
    by_test : (b : Bool) → length (unless s checks otherwise).others ≤ 1
        → length (cond b (record { after = s; others = []; own = Some (answer.Refused check.1) }) (unless s checks otherwise)).others ≤ 1
    by_test true rest = omega arith
    by_test false rest = rest

few_released : (m : ℕ) (s : State) → length (release m s).effects ≤ 1
few_released m s = by_next (next_owner s m)
  where
    by_next : (o : Option Request) → length (grant o (record s { locks = without_lock m s.locks })).effects ≤ 1
    by_next None = omega arith
    by_next (Some r) = omega arith

few_exited : (m : ℕ) (s : State) → length (after_exit m s).effects ≤ 1
few_exited m s = by_test (nat_le (depth_in s.locks m) 1)
  where
    by_test : (b : Bool) → length (cond b (release m s) (still (record s { locks = with_depth m (depth_in s.locks m - 1) s.locks }))).effects ≤ 1
    by_test true = few_released m s
    by_test false = omega arith

few_replied : (u : ℕ) (text : List ℕ) (s : State) → length (after_reply u text s).effects ≤ 1
few_replied u text s = by_test (is_agent s u)
  where
    by_test : (b : Bool)
        → length (cond b (still (record s { letters = without_letter u s.letters; agents = with_holding u false s.agents }))
        (unblock (answer.Reply text) u (record s { letters = without_letter u s.letters }))).effects
        ≤ 1
    by_test true = omega arith
    by_test false = omega arith

pub few_others : (s : State) (t : ℕ) (call : ExitCall) → length (exit_case s t call).others ≤ 1
few_others s t (exit.MonExit m) = few_unless s _ _ (few_exited m s)
few_others s t (exit.MonBreak m) = few_unless s _ _ (few_released m s)
few_others s t (exit.Notify c) = few_unless s _ _ (omega arith)
few_others s t (exit.Broadcast c) = few_unless s _ _ (omega arith)
few_others s t (exit.Reply to text) = few_unless s _ _ (few_replied to text s)
few_others s t (exit.Resume u) = few_unless s _ _ (omega arith)
few_others s t (exit.SetExit code) = few_unless s _ _ (omega arith)
few_others s t (exit.Note text) = omega arith

module _ (old new : Parts) (lawful : LawfulParts old) (t : ℕ) (x : ExitMark) (before after : List Effect) (a : Answer)
    (made : Answers old new before after (exit_case (state_of old) t x.call) a) where
  -- its result comes after what it did to others
  pub came_exited : CameTo old new before (after ++ effect.Exited t x.reg x.call a ∷ []) (run_exit t x (state_of old))
  came_exited = record {
    state = made.came.state;
    effects = ap (λ es. es ++ effect.Exited t x.reg x.call a ∷ []) made.came.effects
        ∙ append_assoc before (exit_case (state_of old) t x.call).others (effect.Exited t x.reg x.call a ∷ [])
        ∙ ap (λ o. before ++ ((exit_case (state_of old) t x.call).others ++ effect.Exited t x.reg x.call (unwrap_or o zero_answer) ∷ [])) (sym made.own);
    step = made.came.step;
    dying = made.came.dying;
  }

  pub lawful_exited : LawfulParts new
  lawful_exited = record { nine = rw (made.came.state, made.came.dying) (run_exit_keeps old.dying t x (state_of old) lawful.nine); step = made.came.step }

  pub few_exit : length after ≤ length before + 1
  few_exit = omega (arith, ap length made.came.effects, length-append before (exit_case (state_of old) t x.call).others, few_others (state_of old) t x.call)
