-- What is told of recorded bytes.
use Rattle.c_pods.specs.Effects.{put_front}
use Rattle.c_sessions.specs.Replayed.{ReplayTells}
use Rattle.c_sessions.specs.declared.outcome.Outcome.{Outcome}
use Rattle.loqzemar.proofs.Fronts.{front_of_first}
use Rattle.loqzemar.specs.Sessions.{TellsReplay, outcome_status}
use Rattle.script_text.specs.declared.reason.Reason.{Reason}
use Rattle.script_text.specs.declared.script.Script.{Script}
use Rattle.std.proofs.Common.{List, Result, ap, length, refl, ℕ, ◌∙◌, ◌≡◌}
use Rattle.std.specs.Prelude.{is_ok, take, ◌==◌}

-- what an outcome tells is told, where its first bytes are put into a buffer
pub replay_told : (v : Result Script (ℕ × Reason)) (recorded : List ℕ) (calls room : ℕ) (old new : List ℕ) (len : ℕ) (told : Outcome) (status : ℕ)
    → room ≡ length old
    → ReplayTells v recorded calls room told → (told.record.reason == 0) ≡ is_ok v → new ≡ put_front told.front.items old → len ≡ told.len
    → status ≡ outcome_status told (length old) → TellsReplay v recorded calls old new len told.record status
replay_told v recorded calls room old new len told status all h r n l s = record {
  text = h.0;
  right = h.2;
  front = n ∙ ap (λ xs. put_front xs old) (h.1.0 ∙ ap (λ m. take m h.0) all) ∙ front_of_first h.0 old;
  length_is = l ∙ h.1.1;
  status_is = s ∙ rw (r, h.1.1) refl;
}
