-- A letter is received by whom it was sent to, and its sender is answered what that one replies.
use Rattle.answer_laws.specs.Sights.{IsLeft, answers_to, attends, going_on, sight}
use Rattle.lwp_types.specs.Choice.{choice}
use Rattle.lwp_types.specs.Lawful.{Lawful}
use Rattle.lwp_types.specs.Messages.{as_answer, as_received, is_letter_of, next_letter}
use Rattle.lwp_types.specs.State.{Outcome, State, is_thread, passes}
use Rattle.lwp_types.specs.Step.{step}
use Rattle.lwp_types.specs.declared.call.Mode.{Mode}
use Rattle.lwp_types.specs.declared.rows.Letter.{Letter}
use Rattle.std.specs.Prelude.{Bool, IsTrue, List, None, Option, Some, [], false, length, not, ℕ, ◌<◌, ◌==◌, ◌∷◌, ◌≡◌, ◌≤◌}
use Rattle.lwp_types.specs.declared.call.Answer.TheVariants as answer
use Rattle.lwp_types.specs.declared.call.Call.TheVariants as call

-- the thread u waits for the reply to this letter, its only one, which is for t
pub record Asks (s : State) (u t : ℕ) (letter : Letter) : Type 0 where
  pub lives : IsTrue (is_thread s u)
  pub from : letter.from ≡ u
  pub to : letter.to ≡ t
  pub letters : (sight s u).letters ≡ letter ∷ []

-- it is answered so, and goes on; its letter is gone
pub record IsReplied (u : ℕ) (text : List ℕ) (s : State) (out : Outcome) : Type 0 where
  pub goes_on : sight out.after u ≡ record (going_on (sight s u)) { letters = [] }
  pub told : answers_to u out.effects ≡ answer.Reply text ∷ []

-- A thread has one letter at most that isn't replied to.
abbrev pub EachHasOneLetter : Type 0
EachHasOneLetter = (s : State) → Lawful s None → (u : ℕ) → IsTrue (is_thread s u) → length (sight s u).letters ≤ 1

-- A reply to a letter that was received is what its sender is answered, if it has room for that; a longer one changes
-- nothing of it.
pub record RepliesTo (s : State) (u t : ℕ) (letter : Letter) (text : List ℕ) : Type 0 where
  pub fits : length text ≤ letter.room → IsReplied u text s (step s (call.Reply u text))
  pub exceeds : letter.room < length text → IsLeft u s (step s (call.Reply u text))

abbrev pub RepliesAreTheAnswers : Type 0
RepliesAreTheAnswers = (s : State) → Lawful s None → (t u : ℕ) → choice s ≡ Some t
    → (letter : Letter) → Asks s u t letter → IsTrue letter.received → (text : List ℕ) → RepliesTo s u t letter text

-- who receives it is answered its sender, its text and its room; and then it counts as received
pub record IsReceived (u t : ℕ) (letter : Letter) (s : State) (out : Outcome) : Type 0 where
  pub seen : sight out.after u ≡ record (sight s u) { letters = as_received letter ∷ [] }
  pub quiet : answers_to u out.effects ≡ []
  pub handed : answers_to t out.effects ≡ as_answer letter ∷ []

-- A receive that finds the letter is answered it, as it was sent.
abbrev pub ReceivesAreTheLetters : Type 0
ReceivesAreTheLetters = (s : State) → Lawful s None → (t u : ℕ) → choice s ≡ Some t
    → (letter : Letter) → Asks s u t letter → (from : Option ℕ) (how : Mode)
    → next_letter s.letters t from ≡ Some letter → IsReceived u t letter s (step s (call.Recv from how))

-- it doesn't take a letter of u
abbrev pub takes_other : ℕ → Option Letter → Bool
takes_other u letter = not (passes (is_letter_of u) letter)

-- Whom u has written to leaves it alone as well, as long as it replies to others, and receives the letters of others or
-- waits for one.
pub record LeavesTheRest (s : State) (u t : ℕ) : Type 0 where
  pub replies : (v : ℕ) (text : List ℕ) → (v == u) ≡ false → IsLeft u s (step s (call.Reply v text))
  pub receives : (from : Option ℕ) (how : Mode)
      → IsTrue (takes_other u (next_letter s.letters t from)) → IsLeft u s (step s (call.Recv from how))

abbrev pub ReadersLeaveTheRest : Type 0
ReadersLeaveTheRest = (s : State) → (t u : ℕ) → choice s ≡ Some t → (t == u) ≡ false
    → IsTrue (attends s u) → LeavesTheRest s u t
