-- What is told of a client in the steps of a session: the lines delivered to its agent, the replies to it, and where
-- its session sends.
use Rattle.answer_laws.specs.Talks.{AreFirst}
use Rattle.line_server.specs.Tables.{line_answers}
use Rattle.lwp_types.specs.declared.call.Call.{Call}
use Rattle.lwp_types.specs.declared.call.Effect.{Effect}
use Rattle.pod_events.specs.Rites.{report_text}
use Rattle.pod_laws.specs.Waiters.{is_told, is_zero}
use Rattle.std.specs.List.{flat_map, list_all, list_any}
use Rattle.std.specs.Option.{option_to_list}
use Rattle.std.specs.Prelude.{Bool, List, Option, [], false, if◌then◌else◌, not, true, ℕ, ◌&&◌, ◌==◌, ◌||◌, ◌∷◌}
use Rattle.lwp_types.specs.declared.call.Call.TheVariants as call
use Rattle.lwp_types.specs.declared.call.Effect.TheVariants as effect

-- a step: the text of the line that was taken, if one was, and the effects
pub record Step : Type 0 where
  pub text : Option (List ℕ)
  pub effects : List Effect

-- ---- lines

-- the text that agent a gets by an effect: that of the line taken, or of a report
abbrev pub text_to : ℕ → Option (List ℕ) → Effect → List (List ℕ)
text_to a text (effect.Delivered b e) = if b == a then option_to_list text else []
text_to a text (effect.Rites b dead) = if b == a then report_text dead ∷ [] else []
text_to a text _ = []

-- the texts delivered to an agent, in order
abbrev pub texts_delivered : ℕ → List Step → List (List ℕ)
texts_delivered a steps = flat_map (λ step. flat_map (text_to a step.text) step.effects) steps

-- ---- replies

-- the text of a reply to a
abbrev pub reply_to : ℕ → Call → List (List ℕ)
reply_to a (call.Reply b text) = if b == a then text ∷ [] else []
reply_to a _ = []

-- of the effects of a step, which are a call or a trap and then a call: the reply of s to a, if it was accepted, which
-- is to say answered 0
abbrev pub replies_of_step : ℕ → ℕ → List Effect → List (List ℕ)
replies_of_step s a (effect.Called t c ∷ es) = if (t == s) && list_any (is_told s is_zero) es then reply_to a c else []
replies_of_step s a (effect.Trapped t e ∷ es) = replies_of_step s a es
replies_of_step s a _ = []

-- the texts of the accepted replies of s to a, in order; a reply by an exit procedure is none
abbrev pub replies_accepted : ℕ → ℕ → List Step → List (List ℕ)
replies_accepted s a steps = flat_map (λ step. replies_of_step s a step.effects) steps

-- ---- where a session sends

-- the call sends to nobody but k
abbrev pub names_only : ℕ → Call → Bool
names_only k (call.Send b room text) = b == k
names_only k _ = true

-- it sends to nobody at all
abbrev pub sends_nothing : Call → Bool
sends_nothing (call.Send b room text) = false
sends_nothing _ = true

-- a session s sends to nobody but its store k; where k is s it has none, and sends nothing
abbrev pub sends_well : ℕ → ℕ → Call → Bool
sends_well s k c = if s == k then sends_nothing c else names_only k c

-- it sends to nobody but k, if s makes it
abbrev pub sends_only : ℕ → ℕ → Effect → Bool
sends_only s k (effect.Called t c) = not (t == s) || names_only k c
sends_only s k _ = true

-- every Send of s names k
abbrev pub all_sends_to : ℕ → ℕ → List Step → Bool
all_sends_to s k steps = list_all (λ step. list_all (sends_only s k) step.effects) steps

-- ---- one client

-- the accepted replies of s to its agent are a first part of the answers to the lines delivered to that
abbrev pub IsAnsweredInTurn : ℕ → ℕ → List Step → Type 0
IsAnsweredInTurn s a steps = AreFirst (replies_accepted s a steps) (line_answers (texts_delivered a steps))
