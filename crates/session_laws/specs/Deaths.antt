-- The dead are forgotten, over a whole session.
use Rattle.pod_laws.specs.Forgotten.{IsForgotten, is_died}
use Rattle.pod_laws.specs.Once.{ExitTest}
use Rattle.pod_runner.specs.Session.{Made, Session}
use Rattle.session_laws.specs.Exits.{exits_run, is_set_by}
use Rattle.std.specs.List.{count_by, sum_by}
use Rattle.std.specs.Prelude.{List, drop, take, ℕ, ◌≡◌, ◌≤◌}

-- how often n has died in these steps
abbrev pub deaths : ℕ → List Made → ℕ
deaths n steps = sum_by (λ made. count_by (is_died n) made.effects) steps

-- one that died in any step so far isn't there, and no list names it
abbrev pub TheDeadStayForgotten : {B : Type 0} → Session B → Type 0
TheDeadStayForgotten session = (n : ℕ) → 1 ≤ deaths n session.steps → IsForgotten session.live.pod.state n

-- and nobody dies twice
abbrev pub EachDiesOnce : {B : Type 0} → Session B → Type 0
EachDiesOnce session = (n : ℕ) → deaths n session.steps ≤ 1

-- where u has died in the first m steps, none of the others runs an exit procedure of u
abbrev pub TheDeadRunNothing : {B : Type 0} → Session B → Type 0
TheDeadRunNothing session = (u m : ℕ) → 1 ≤ deaths u (take m session.steps) → (p : ExitTest)
    → exits_run (is_set_by u p) (drop m session.steps) ≡ 0
