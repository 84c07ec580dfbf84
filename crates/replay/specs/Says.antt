-- What one step of a walk comes to.
use Rattle.pod_runner.specs.Run.{Played}
use Rattle.replay.specs.Asked.{Asked}
use Rattle.replay.specs.Following.{Following}
use Rattle.replay.specs.Recorded.{IsCommon, is_ended, line_count, next_line}
use Rattle.replay.specs.Replayed.{Says, moment_of}
use Rattle.replay.specs.Walk.{ClientsLeft, Going}
use Rattle.replay.specs.declared.stepping.Difference.{Difference}
use Rattle.replay.specs.declared.stepping.Outcome.{Outcome}
use Rattle.replay.specs.declared.verdict.Verdict.{Verdict}
use Rattle.std.specs.Prelude.{Bool, List, None, Option, Some, [], drop, length, option_map, take, ℕ, ◌+◌, ◌<◌, ◌≡◌, ◌≤◌}
use Rattle.replay.specs.declared.verdict.Verdict.TheVariants as verdict

-- the verdict is that this line differs, by the one that was to come and the one that was recorded
abbrev pub DiffersBy : Verdict → ℕ → Option (List ℕ) → Option (List ℕ) → Bool → Type 0
DiffersBy (verdict.Same lines) line want got ended = ⊥
DiffersBy (verdict.Differs at w g e) line want got ended = (at ≡ line)
    × (option_map (λ v. v.items) w ≡ want) × (option_map (λ v. v.items) g ≡ got) × (e ≡ ended)

-- of the lines of a step the first `d.lines` were recorded, and then one differs; n lines were told before
pub record IsDifference (step rest : List ℕ) (n : ℕ) (d : Difference) : Type 0 where
  pub bytes : ℕ
  pub common : IsCommon step rest bytes d.lines
  pub more : bytes < length step
  pub differs : DiffersBy d.verdict (n + d.lines + 1) (next_line (drop bytes step))
      (next_line (drop bytes rest)) (is_ended (drop bytes rest))

-- the lines of the step were recorded, and were told; or one differs
abbrev pub ComparedBy : Following → Following → Option Difference → Type 0
ComparedBy old new None = (take (length old.step) (drop old.at old.recorded) ≡ old.step)
    × (new ≡ record old { at = old.at + length old.step; lines = old.lines + line_count old.step; step = [] })
ComparedBy old new (Some d) = IsDifference old.step (drop old.at old.recorded) old.lines d × (new ≡ old)

-- the end is all that was recorded; or a line of it differs
pub record EndDiffers (tail rest : List ℕ) (n : ℕ) (v : Verdict) : Type 0 where
  pub bytes : ℕ
  pub lines : ℕ
  pub common : IsCommon tail rest bytes lines
  pub unlike : drop bytes tail ≡ drop bytes rest → ⊥
  pub differs : DiffersBy v (n + lines + 1) (next_line (drop bytes tail))
      (next_line (drop bytes rest)) (is_ended (drop bytes rest))

abbrev pub EndSays : List ℕ → List ℕ → ℕ → Verdict → Type 0
EndSays tail rest n (verdict.Same lines) = (rest ≡ tail) × (lines ≡ n + line_count tail)
EndSays tail rest n (verdict.Differs line want got ended) = EndDiffers tail rest n (verdict.Differs line want got ended)

-- after a step, all of whose lines were told, the walk goes on
pub record Stepped {B P : Type 0} (asked : Asked B) (old : Following) (run : Played P)
    (lines : ClientsLeft) (f : Following) : Type 0 where
  pub going : Going asked old.recorded (moment_of run) lines f.at f.lines f.ticks
  pub recorded : f.recorded ≡ old.recorded
  pub clean : f.step ≡ []
  pub further : old.at < f.at
  pub within : f.at ≤ length f.recorded

-- the walk goes on, or there is a verdict, with so many calls
abbrev pub StepSays : {B P : Type 0} → Asked B → Following → Played P → ClientsLeft → Following
    → Option Outcome → Type 0
StepSays asked old run lines f None = Stepped asked old run lines f
StepSays asked old run lines f (Some out) = Says asked old.recorded out.verdict run.takes out.calls

-- a verdict of a call of which a line differs: the call counts if its first line doesn't
pub record IsCalled (d : Difference) (before after : ℕ) (out : Outcome) : Type 0 where
  pub verdict : out.verdict ≡ d.verdict
  pub none : d.lines ≡ 0 → out.calls ≡ before
  pub some : 1 ≤ d.lines → out.calls ≡ after
