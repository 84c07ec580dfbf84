-- What is told of all sessions of a script.
use Rattle.c_pods.specs.Effects.{put_front}
use Rattle.c_sessions.specs.Explored.{ExploreTells}
use Rattle.c_sessions.specs.declared.outcome.Outcome.{Outcome}
use Rattle.loqzemar.proofs.Fronts.{front_of_first}
use Rattle.loqzemar.specs.Explored.{TellsExplore}
use Rattle.loqzemar.specs.Sessions.{outcome_status}
use Rattle.lwp_explore.specs.declared.words.Command.{Command}
use Rattle.script_text.specs.declared.reason.Reason.{Reason}
use Rattle.script_text.specs.declared.script.Script.{Script}
use Rattle.std.proofs.Common.{List, Result, ap, length, refl, ℕ, ◌∙◌, ◌≡◌}
use Rattle.std.specs.Prelude.{is_ok, take, ◌==◌}

-- what an outcome tells is told, where its first bytes are put into a buffer
pub explore_told : (v : Result Script (ℕ × Reason)) (asked : Command) (line : List ℕ) (room : ℕ) (old new : List ℕ) (len : ℕ) (told : Outcome)
    (status : ℕ) → room ≡ length old
    → ExploreTells v asked line room told → (told.record.reason == 0) ≡ is_ok v → new ≡ put_front told.front.items old → len ≡ told.len
    → status ≡ outcome_status told (length old) → TellsExplore v asked line old new len told.record status
explore_told v asked line room old new len told status all h r n l s = record {
  text = h.0;
  right = h.2;
  front = n ∙ ap (λ xs. put_front xs old) (h.1.0 ∙ ap (λ m. take m h.0) all) ∙ front_of_first h.0 old;
  length_is = l ∙ h.1.1;
  status_is = s ∙ rw (r, h.1.1) refl;
}
