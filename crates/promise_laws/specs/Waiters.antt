-- Each thread that waits for one that dies is answered once, and rightly: in a pod with its own events.
use Rattle.lwp_types.specs.Lawful.{Lawful}
use Rattle.lwp_types.specs.State.{ThreadRow, thread_of}
use Rattle.pod_events.specs.Events.{EventState}
use Rattle.pod_events.specs.Moves.{EventMove, event_move}
use Rattle.pod_laws.specs.Forgotten.{is_died}
use Rattle.pod_laws.specs.Waiters.{TellsOf}
use Rattle.promise_laws.specs.EachStep.{Sentence}
use Rattle.std.specs.List.{count_by}
use Rattle.std.specs.Prelude.{None, Some, [], ℕ, ◌≡◌, ◌≤◌}

-- For each thread t that dies in the move, and each thread u that was there before it: where u had joined t it is told 0,
-- where it waited for a letter of t by name, that t isn't there, and where it had sent to t, that, or a reply. It is told
-- so once, and nothing else, whatever trap is raised before the call and whichever report is made after it.
abbrev pub AnswersWaiters : Sentence
AnswersWaiters pod move later = (t : ℕ) → 1 ≤ count_by (is_died t) (event_move pod move).effects → (u : ℕ) (row : ThreadRow)
    → thread_of pod.state u ≡ Some row → TellsOf pod.state t u row (event_move pod move).effects

-- in every lawful state
abbrev pub PodsAnswerWaiters : Type 0
PodsAnswerWaiters = (es : EventState) → Lawful es.state None → (move : EventMove) → AnswersWaiters es move []
