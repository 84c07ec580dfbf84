-- What holds of every session.
use Rattle.lwp_types.specs.Lawful.{Lawful}
use Rattle.pod_runner.specs.Due.{IsDefined}
use Rattle.pod_runner.specs.Play.{play}
use Rattle.pod_runner.specs.Session.{Setting}
use Rattle.pod_runner.specs.declared.session.Took.{Took}
use Rattle.std.specs.Prelude.{List, None, ℕ, ◌≤◌}

-- whatever bodies do, and whenever lines are taken, the state of the pod is lawful after each call and each take
abbrev pub SessionsAreLawful : Type 0 → Type 0
SessionsAreLawful B = (setting : Setting B) → 1 ≤ setting.params.maxpri → setting.params.maxpri ≤ 255
    → (takes : List Took) (n : ℕ) → IsDefined setting takes n → Lawful (play setting takes n).live.pod.state None
