-- A letter is replied to.
use Rattle.agents.specs.Roster as roster
use Rattle.death_cleanup.proofs.Keeping.{InStep-agents, InStep-mail}
use Rattle.death_cleanup.specs.Ties.{InStep, LawfulParts}
use Rattle.death_cleanup.specs.View.{state_of}
use Rattle.death_cleanup.specs.declared.parts.Parts.{Parts}
use Rattle.lwp_types.specs.Case.{refusal_case, unless, with_zero}
use Rattle.lwp_types.specs.Counts.{is_one_kind}
use Rattle.lwp_types.specs.Messages.{after_reply, received_letter, reply, with_holding}
use Rattle.lwp_types.specs.State.{State, agent_of, is_agent, is_blocked_in, is_id, is_not_blocked, is_thread, passes, still, thread_of}
use Rattle.lwp_types.specs.Unblock.{unblock}
use Rattle.lwp_types.specs.declared.call.LwpErr.{LwpErr}
use Rattle.lwp_types.specs.declared.call.Answer.TheVariants as answer
use Rattle.lwp_types.specs.declared.call.LwpErr.TheVariants as error
use Rattle.lwp_types.specs.declared.rows.AgentRow.{AgentRow}
use Rattle.lwp_types.specs.declared.rows.Letter.{Letter}
use Rattle.pod_laws.proofs.MessageCalls.{reply_sends, sender_row}
use Rattle.rendezvous.specs.MessageTable as mail
use Rattle.rendezvous.specs.MessageTable.{refusal}
use Rattle.std.proofs.Common.{Bool, List, None, Option, Some, [], ap, arith, cond, false, length, not, refl, sym, true, ℕ, ◌&&◌, ◌∙◌, ◌∷◌, ◌≡◌, ◌||◌}
use Rattle.std.specs.Prelude.{IsTrue, is_none, is_some, nat_lt, option_map}

-- an agent has an owner
pub agent-is : (rows : List AgentRow) (a : ℕ) (o : Option ℕ) (b : Bool) → o ≡ option_map (λ (row : AgentRow). row.owner) (agent_of rows a)
    → is_some o ≡ b → is_some (agent_of rows a) ≡ b
agent-is rows a o b owner is = by_row (agent_of rows a) (ap is_some (sym owner) ∙ is)
  where
    by_row : (r : Option AgentRow) → is_some (option_map (λ (row : AgentRow). row.owner) r) ≡ b → is_some r ≡ b
    by_row None e = e
    by_row (Some row) e = e

-- who lives and is no thread is an agent
pub agent-left : (s : State) (u : ℕ) → is_id s u ≡ true → is_thread s u ≡ false → is_agent s u ≡ true
agent-left s u lives none = by_test (is_thread s u) (is_agent s u) lives none
  where
    by_test : (a b : Bool) → (a || b) ≡ true → a ≡ false → b ≡ true
    by_test true b h e = absurd (let no-way : true ≡ false = e in cc)
    by_test false b h e = h

-- a thread is no agent
pub thread-apart : (s : State) (u : ℕ) → IsTrue (is_one_kind s u) → is_thread s u ≡ true → is_agent s u ≡ false
thread-apart s u apart is = by_test (is_thread s u) (is_agent s u) apart is
  where
    by_test : (a b : Bool) → IsTrue (not (a && b)) → a ≡ true → b ≡ false
    by_test true false h e = refl
    by_test false false h e = refl
    by_test true true h e = absurd (let no-way : false ≡ true = h in cc)
    by_test false true h e = absurd (let no-way : false ≡ true = e in cc)

module _ (s : State) (t u : ℕ) (text : List ℕ) where
  pub reply-absent : is_id s u ≡ false → reply s t u text ≡ refusal_case s error.NonExist
  unfolding unless
  reply-absent none = rw none refl

  -- the refusals of the messages are those of the call
  pub reply-refused : is_id s u ≡ true → (e : LwpErr) → refusal (received_letter s.letters t u) (length text) ≡ Some e → reply s t u text ≡ refusal_case s e
  unfolding unless
  reply-refused lives e cause = rw lives (by_letter (received_letter s.letters t u) cause)
    where
      by_test : (letter : Letter) (b : Bool) → cond b (Some error.InvalidArg) None ≡ Some e
          → cond b (refusal_case s error.InvalidArg) (with_zero (after_reply u text s)) ≡ refusal_case s e
      by_test letter true h = let same : error.InvalidArg ≡ e = cc in ap (refusal_case s) same
      by_test letter false h = absurd (cc)

      by_letter : (o : Option Letter) → refusal o (length text) ≡ Some e
          → cond (is_none o) (refusal_case s error.NoWait)
          (cond (passes (λ letter. nat_lt letter.room (length text)) o) (refusal_case s error.InvalidArg) (with_zero (after_reply u text s)))
          ≡ refusal_case s e
      by_letter None h = let same : error.NoWait ≡ e = cc in ap (refusal_case s) same
      by_letter (Some letter) h = by_test letter (nat_lt letter.room (length text)) h

  pub reply-made : is_id s u ≡ true → refusal (received_letter s.letters t u) (length text) ≡ None → reply s t u text ≡ with_zero (after_reply u text s)
  unfolding unless
  reply-made lives fine = rw lives (by_letter (received_letter s.letters t u) fine)
    where
      by_test : (b : Bool) → ◌≡◌ {A = Option LwpErr} (cond b (Some error.InvalidArg) None) None
          → cond b (refusal_case s error.InvalidArg) (with_zero (after_reply u text s)) ≡ with_zero (after_reply u text s)
      by_test true h = absurd (cc)
      by_test false h = refl

      by_letter : (o : Option Letter) → refusal o (length text) ≡ None
          → cond (is_none o) (refusal_case s error.NoWait)
          (cond (passes (λ letter. nat_lt letter.room (length text)) o) (refusal_case s error.InvalidArg) (with_zero (after_reply u text s)))
          ≡ with_zero (after_reply u text s)
      by_letter None h = absurd (cc)
      by_letter (Some letter) h = by_test (nat_lt letter.room (length text)) h

  -- who is replied to has sent a letter
  pub reply-some : refusal (received_letter s.letters t u) (length text) ≡ None → is_none (received_letter s.letters t u) ≡ false
  reply-some fine = by_letter (received_letter s.letters t u) fine
    where
      by_letter : (o : Option Letter) → refusal o (length text) ≡ None → is_none o ≡ false
      by_letter None h = absurd (cc)
      by_letter (Some letter) h = refl

length-holding : (a : ℕ) (b : Bool) (rows : List AgentRow) → length (with_holding a b rows) ≡ length rows
length-holding a b [] = refl
length-holding a b (row ∷ rows) = omega (arith, length-holding a b rows)

module _ (parts : Parts) (u : ℕ) where
  -- the parts without the letter of u
  abbrev pub lighter : Parts
  lighter = record parts { mail = mail.after_forget parts.mail u }

  pub InStep-lighter : InStep parts → InStep lighter
  InStep-lighter step = InStep-mail parts step (mail.after_forget parts.mail u) refl

  -- an agent can take the next event
  abbrev pub rearmed : Parts
  rearmed = record lighter { agents = roster.after_release parts.agents u }

  pub InStep-rearmed : InStep parts → InStep rearmed
  InStep-rearmed step = InStep-agents lighter (InStep-lighter step) (roster.after_release parts.agents u)
      (omega (arith, length-holding u false parts.agents.agents))

  pub replied-agent : (text : List ℕ) → is_agent (state_of parts) u ≡ true → after_reply u text (state_of parts) ≡ still (state_of rearmed)
  replied-agent text is = rw is refl

  pub replied-thread : (text : List ℕ) → is_agent (state_of parts) u ≡ false
      → after_reply u text (state_of parts) ≡ unblock (answer.Reply text) u (state_of lighter)
  replied-thread text none = rw none refl

  -- a thread that sent a letter waits for the reply
  pub sender-waits : LawfulParts parts → (t : ℕ) → is_none (received_letter parts.mail.letters t u) ≡ false
      → is_thread (state_of parts) u ≡ true → is_blocked_in (state_of parts) u ≡ true
  sender-waits lawful t some lives = by_row (thread_of (state_of parts) u) refl lives
    where
      by_row : (o : Option _) → thread_of (state_of parts) u ≡ o → is_some o ≡ true → is_blocked_in (state_of parts) u ≡ true
      by_row None e h = absurd (cc)
      by_row (Some row) e h = ap (passes (λ row. not (is_not_blocked row.block))) e
          ∙ ap (λ b. not (is_not_blocked b)) (sender_row (state_of parts) parts.dying lawful.nine u row e (reply_sends (state_of parts) t u some))
