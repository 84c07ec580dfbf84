-- What it is to hold in every session.
use Rattle.pod_runner.specs.Due.{IsDefined}
use Rattle.pod_runner.specs.Play.{play}
use Rattle.pod_runner.specs.Session.{Session, Setting}
use Rattle.pod_runner.specs.declared.session.Took.{Took}
use Rattle.std.specs.Prelude.{List, ℕ, ◌≤◌}

-- whatever bodies do, and whenever lines are taken, it holds after each call and each take; the greatest priority is
-- from 1 to 255
abbrev pub InEverySession : (B : Type 0) → (Session B → Type 0) → Type 0
InEverySession B Holds = (setting : Setting B) → 1 ≤ setting.params.maxpri → setting.params.maxpri ≤ 255
    → (takes : List Took) (n : ℕ) → IsDefined setting takes n → Holds (play setting takes n)
