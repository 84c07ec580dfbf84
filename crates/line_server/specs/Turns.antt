-- What a built-in procedure does when it is polled: it makes a call and changes, and the names stay as they are.
use Rattle.lwp_types.specs.Names.{KeepsLengths, Names}
use Rattle.lwp_types.specs.Poll.{Polled}
use Rattle.lwp_types.specs.declared.call.Answer.{Answer}
use Rattle.lwp_types.specs.declared.call.Answer.TheVariants as answer
use Rattle.lwp_types.specs.declared.call.Call.{Call}
use Rattle.lwp_types.specs.declared.call.Call.TheVariants as call
use Rattle.std.specs.Prelude.{Bool, false, if◌then◌else◌, refl, true}

-- the next call, and the body as it is then
abbrev pub Turn : Type 0 → Type 0
Turn B = Call × B

-- a turn, with the names as they were
abbrev pub with_names : {B : Type 0} → Turn B → Names → Polled B
with_names turn names = (turn.0, turn.1, names)

-- to an answer that no session gives: a return, and the body stays as it is
abbrev pub stops : {B : Type 0} → B → Turn B
stops body = (call.Return, body)

-- an answer to a reply: it was taken, or refused
abbrev pub is_replied : Answer → Bool
is_replied (answer.Value v) = true
is_replied (answer.Refused e) = true
is_replied _ = false

-- whether its reply was taken or refused, it goes on
abbrev pub after_reply : {B : Type 0} → B → Turn B → Answer → Turn B
after_reply body goes_on a = if is_replied a then goes_on else stops body

-- names that stay keep their lengths
pub kept-lengths : (names : Names) → KeepsLengths names names
kept-lengths names = record { threads = refl; monitors = refl; conditions = refl }
