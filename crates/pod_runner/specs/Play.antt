-- The session after some takes and so many calls, told by its last step.
use Rattle.pod_runner.specs.Session.{Session, Setting, call_step, opening_session, take_step}
use Rattle.pod_runner.specs.declared.session.Took.{Took}
use Rattle.std.specs.Prelude.{List, [], if◌then◌else◌, reverse, suc, zero, ℕ, ◌==◌, ◌≤◌, ◌∷◌}

-- so many calls, and no take
abbrev pub session_of_calls : {B : Type 0} → Setting B → ℕ → Session B
session_of_calls setting zero = opening_session setting
session_of_calls setting (suc n) = call_step setting (session_of_calls setting n)

-- after so many calls, if this was the last take, and `before` tells the sessions without it
abbrev pub with_take : {B : Type 0} → Setting B → Took → (ℕ → Session B) → ℕ → Session B
with_take setting took before zero = take_step setting took (before 0)
with_take setting took before (suc n) = if took.turn == suc n then take_step setting took (before (suc n))
    else call_step setting (with_take setting took before n)

-- these takes, the newest first, and so many calls
abbrev pub session_of_takes : {B : Type 0} → Setting B → List Took → ℕ → Session B
session_of_takes setting [] = session_of_calls setting
session_of_takes setting (took ∷ takes) = with_take setting took (session_of_takes setting takes)

-- these takes, the oldest first, and so many calls
unfoldable pub play : {B : Type 0} → Setting B → List Took → ℕ → Session B
play setting takes n = session_of_takes setting (reverse takes) n

-- the newest take, if there is one, came after no more calls than these
abbrev pub LastBy : List Took → ℕ → Type 0
LastBy [] n = Unit {0}
LastBy (took ∷ takes) n = took.turn ≤ n
