-- Which sessions there are: at each call somebody's turn had come, at each take the event could be delivered.
use Rattle.pod_events.specs.Events.{has_turn, is_takeable}
use Rattle.pod_runner.specs.Play.{session_of_calls, play, session_of_takes, with_take}
use Rattle.pod_runner.specs.Session.{Session, Setting}
use Rattle.pod_runner.specs.declared.session.Took.{Took}
use Rattle.std.specs.List.{filter}
use Rattle.std.specs.Prelude.{Bool, IsTrue, List, MatchBool, [], nat_le, reverse, suc, zero, ℕ, ◌++◌, ◌==◌, ◌∷◌, ◌≡◌}

-- a call may be made: somebody may run, and the pod goes on
abbrev pub is_call_due : {B : Type 0} → Session B → Bool
is_call_due s = has_turn s.live.pod.state

-- a line of this event may be taken
abbrev pub is_take_due : {B : Type 0} → Took → Session B → Bool
is_take_due took s = is_takeable s.live.pod took.event

-- so many calls could be made one after the other, with no take
abbrev pub CallsDue : {B : Type 0} → Setting B → ℕ → Type 0
CallsDue setting zero = Unit {0}
CallsDue setting (suc n) = CallsDue setting n × IsTrue (is_call_due (session_of_calls setting n))

-- a line could be taken and so many calls made, if this was the last take, where `before` tells the sessions without it
-- and `Before` which of them there are
abbrev pub TakeDue : {B : Type 0} → Setting B → Took → (ℕ → Session B) → (ℕ → Type 0) → ℕ → Type 0
TakeDue setting took before Before zero = (took.turn ≡ 0) × Before 0 × IsTrue (is_take_due took (before 0))
TakeDue setting took before Before (suc n) = MatchBool (took.turn == suc n)
    (Before (suc n) × IsTrue (is_take_due took (before (suc n))))
    (TakeDue setting took before Before n × IsTrue (is_call_due (with_take setting took before n)))

-- each of these takes, the newest first, and of so many calls could be made when it was
abbrev pub AllDue : {B : Type 0} → Setting B → List Took → ℕ → Type 0
AllDue setting [] = CallsDue setting
AllDue setting (took ∷ takes) = TakeDue setting took (session_of_takes setting takes) (AllDue setting takes)

-- there is a session with these takes, the oldest first, and so many calls
unfoldable pub IsDefined : {B : Type 0} → Setting B → List Took → ℕ → Type 0
IsDefined setting takes n = AllDue setting (reverse takes) n

-- the takes that came after no more calls than these
abbrev pub takes_by : ℕ → List Took → List Took
takes_by n takes = filter (λ took. nat_le took.turn n) takes

-- right before call number k a line of the event could be taken
abbrev pub is_armed_at : {B : Type 0} → Setting B → List Took → ℕ → ℕ → Bool
is_armed_at setting takes e k = is_takeable (play setting (takes_by k takes) k).live.pod e

-- the numbers from 0 up to n
abbrev pub numbers_to : ℕ → List ℕ
numbers_to zero = []
numbers_to (suc n) = numbers_to n ++ n ∷ []

-- before which of its calls a line of the event could be taken
abbrev pub armed_calls : {B : Type 0} → Setting B → List Took → ℕ → ℕ → List ℕ
armed_calls setting takes n e = filter (is_armed_at setting takes e) (numbers_to n)
