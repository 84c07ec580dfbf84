-- The call of a step, by the step's effects: who made it, and how the step answered its caller.
use Rattle.lwp_types.specs.declared.call.Answer.{Answer}
use Rattle.lwp_types.specs.declared.call.Answer.TheVariants as answer
use Rattle.lwp_types.specs.declared.call.Call.{Call}
use Rattle.lwp_types.specs.declared.call.Effect.{Effect}
use Rattle.lwp_types.specs.declared.call.Effect.TheVariants as effect
use Rattle.pod_runner.specs.Session as Sessions
use Rattle.pod_runner.specs.Session.{thread_in}
use Rattle.pod_runner.specs.declared.session.Made.{Made}
use Rattle.std.specs.List.{fold}
use Rattle.std.specs.Prelude.{Bool, List, None, Option, Some, [], false, if◌then◌else◌, pos, ℕ, ◌==◌, ◌∷◌}

-- a call that isn't answered yet
abbrev pub unanswered_call : ℕ → Call → Made
unanswered_call t c = record { tid = t; call = c; zero = false; thread = None }

-- the answer of a call that has nothing else to tell
abbrev pub is_zero : Answer → Bool
is_zero (answer.Value (pos n)) = n == 0
is_zero _ = false

-- the thread that made the call is answered so
abbrev pub call_with_answer : Made → Answer → Made
call_with_answer made a = record made { zero = is_zero a; thread = thread_in a }

-- the call is answered so, if it was this thread that was answered
abbrev pub call_if_answered : Made → ℕ → Answer → Made
call_if_answered made t a = if t == made.tid then call_with_answer made a else made

-- what an effect tells where no call was told yet: a call, or nothing
abbrev pub call_begun : Effect → Option Made
call_begun (effect.Called t c) = Some (unanswered_call t c)
call_begun _ = None

-- what an effect tells of a call before it: how it is answered, or nothing
abbrev pub call_after_effect : Made → Effect → Made
call_after_effect made (effect.Answered t a) = call_if_answered made t a
call_after_effect made _ = made

-- what is known of the call, one effect more
abbrev pub call_by_effect : Option Made → Effect → Option Made
call_by_effect None e = call_begun e
call_by_effect (Some made) e = Some (call_after_effect made e)

-- the call of a step with these effects; none, if no call is told among them
abbrev pub call_of_effects : List Effect → Option Made
call_of_effects effects = fold call_by_effect None effects

-- the effects of the last step; none before the first
abbrev pub last_effects : List Sessions.Made → List Effect
last_effects steps = fold (λ effects step. step.effects) [] steps

-- the call of the last step, if it has one
abbrev pub last_call : List Sessions.Made → Option Made
last_call steps = call_of_effects (last_effects steps)

-- effects, with the call itself before them, if this thread made it and that was left out
abbrev pub with_call_by : Option ℕ → Call → List Effect → List Effect
with_call_by None c effects = effects
with_call_by (Some t) c effects = effect.Called t c ∷ effects

-- who made the call that stands before the effects of a turn, by the trap that was raised before it, if any
abbrev pub caller_of : Option ℕ → ℕ → Option ℕ
caller_of None t = Some t
caller_of (Some e) t = None
