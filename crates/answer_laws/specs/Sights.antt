-- What of a thread others see as it talks, and what a step of another thread does to it.
use Rattle.lwp_types.specs.Agents.{deliver}
use Rattle.lwp_types.specs.Choice.{choice}
use Rattle.lwp_types.specs.Counts.{timers_of}
use Rattle.lwp_types.specs.Lawful.{Lawful}
use Rattle.lwp_types.specs.Messages.{is_letter_of, is_to, takes_from}
use Rattle.lwp_types.specs.State.{Outcome, State, ThreadRow, passes, thread_of}
use Rattle.lwp_types.specs.Step.{step}
use Rattle.lwp_types.specs.Unblock.{nonexist}
use Rattle.lwp_types.specs.declared.call.Answer.{Answer}
use Rattle.lwp_types.specs.declared.call.Call.{Call}
use Rattle.lwp_types.specs.declared.call.Effect.{Effect}
use Rattle.lwp_types.specs.declared.rows.Block.{Block}
use Rattle.lwp_types.specs.declared.rows.Letter.{Letter}
use Rattle.lwp_types.specs.declared.rows.Mark.{Mark}
use Rattle.std.specs.List.{count_by, filter, filter_map}
use Rattle.std.specs.Prelude.{Bool, IsTrue, List, None, Option, Some, [], false, if◌then◌else◌, is_some, option_map, true, unwrap_or, ℕ, ◌==◌, ◌∷◌, ◌≡◌, ◌⊎◌}
use Rattle.lwp_types.specs.declared.call.Answer.TheVariants as answer
use Rattle.lwp_types.specs.declared.call.Call.TheVariants as call
use Rattle.lwp_types.specs.declared.call.Effect.TheVariants as effect
use Rattle.lwp_types.specs.declared.rows.Block.TheVariants as block

-- what a thread waits for, if it is there, the marks on its stack, and its letters that aren't replied to
pub record Sight : Type 0 where
  pub waits : Option Block
  pub marks : List Mark
  pub letters : List Letter

-- by the thread's row, if it has one
abbrev pub sight_by : Option ThreadRow → List Letter → Sight
sight_by row letters = record {
  waits = option_map (λ row. row.block) row;
  marks = unwrap_or (option_map (λ row. row.marks) row) [];
  letters = letters;
}

abbrev pub sight : State → ℕ → Sight
sight s u = sight_by (thread_of s u) (filter (is_letter_of u) s.letters)

-- a thread that goes on, with its marks and letters
abbrev pub going_on : Sight → Sight
going_on seen = record seen { waits = Some block.Not }

-- what a thread is answered, in order
abbrev pub answer_for : ℕ → Effect → Option Answer
answer_for u (effect.Answered t a) = if t == u then Some a else None
answer_for u _ = None

abbrev pub answers_to : ℕ → List Effect → List Answer
answers_to u es = filter_map (answer_for u) es

-- who waits so for a letter has heard what fits, or that whom it waits for isn't there
abbrev pub Hears : (Option ℕ → Answer → Type 0) → Option ℕ → Answer → Type 0
Hears Fits from heard = Fits from heard ⊎ ((heard ≡ nonexist) × IsTrue (is_some from))

-- nothing of it changes, and it is told nothing
pub record IsLeft (u : ℕ) (s : State) (out : Outcome) : Type 0 where
  pub same : sight out.after u ≡ sight s u
  pub quiet : answers_to u out.effects ≡ []

-- it waited for a letter, and goes on with the answer to that
pub record IsWoken (u : ℕ) (Fits : Option ℕ → Answer → Type 0) (s : State) (out : Outcome) : Type 0 where
  pub from : Option ℕ
  pub waited : (sight s u).waits ≡ Some (block.Receiving from)
  pub goes_on : sight out.after u ≡ going_on (sight s u)
  pub heard : Answer
  pub told : answers_to u out.effects ≡ heard ∷ []
  pub right : Hears Fits from heard

-- who waits so waits for anybody, or for x
abbrev pub waits_for : ℕ → Option ℕ → Bool
waits_for x from = takes_from x (block.Receiving from)

-- the letter that t sends to u by this call, as it was sent
pub record IsSent (t u : ℕ) (c : Call) (from : Option ℕ) (heard : Answer) : Type 0 where
  pub room : ℕ
  pub text : List ℕ
  pub sends : c ≡ call.Send u room text
  pub letter : heard ≡ answer.Letter t text room
  pub named : IsTrue (waits_for t from)

-- the letter of an agent, with the text of the line that was taken
pub record IsDelivered (text : List ℕ) (from : Option ℕ) (heard : Answer) : Type 0 where
  pub agent : ℕ
  pub letter : heard ≡ answer.Letter agent text 240
  pub named : IsTrue (waits_for agent from)

-- ---- the laws

-- it waits for a letter or a reply, or for nothing
abbrev pub is_attentive : Block → Bool
is_attentive block.Not = true
is_attentive block.Sending = true
is_attentive (block.Receiving from) = true
is_attentive _ = false

-- so it is of a live thread
abbrev pub attends : State → ℕ → Bool
attends s u = passes (λ row. is_attentive row.block) (thread_of s u)

-- how many letters of u to v aren't replied to
abbrev pub open_letters : State → ℕ → ℕ → ℕ
open_letters s u v = count_by (is_to v) (filter (is_letter_of u) s.letters)

-- the call destroys neither u nor anybody to whom u has written
abbrev pub Spares : State → ℕ → Call → Type 0
Spares s u (call.Destroy v) = ((v == u) ≡ false) × (open_letters s u v ≡ 0)
Spares s u _ = Unit {0}

-- Of a thread that isn't the caller, waits at most for a letter or a reply, has written nothing to the caller, and is
-- spared with those to whom it has written, a call changes nothing and tells it nothing; unless it waits for a letter,
-- and gets the one that the caller sends it, or learns that whom it waits for isn't there.
abbrev pub OthersLeaveIt : Type 0
OthersLeaveIt = (s : State) → Lawful s None → (t u : ℕ) → choice s ≡ Some t → (t == u) ≡ false
    → IsTrue (attends s u) → open_letters s u t ≡ 0 → (c : Call) → Spares s u c
    → IsLeft u s (step s c) ⊎ IsWoken u (IsSent t u c) s (step s c)

-- So it is of each delivery, of a thread that attends and has no timer: nothing of it changes, unless it waits for a
-- letter, and gets one of an agent.
abbrev pub DeliveriesLeaveIt : Type 0
DeliveriesLeaveIt = (s : State) → Lawful s None → (u : ℕ) → IsTrue (attends s u)
    → timers_of s.timers u ≡ 0 → (e : ℕ) (text : List ℕ)
    → IsLeft u s (deliver s e text) ⊎ IsWoken u (IsDelivered text) s (deliver s e text)
