-- The threads that wait for a thread or an agent that ends go on.
use Rattle.death_cleanup.proofs.Draining.{Draining, done, fewer, first_room, goes_on}
use Rattle.death_cleanup.proofs.Keeping.{InStep-noted}
use Rattle.death_cleanup.specs.Named.{IsNoteOf, NameNote}
use Rattle.death_cleanup.proofs.Fronts.{Front, waiting_first, waiting_none}
use Rattle.death_cleanup.specs.Comes.{CameTo}
use Rattle.death_cleanup.specs.Ties.{HasLawfulThreads}
use Rattle.death_cleanup.specs.View.{state_of}
use Rattle.death_cleanup.specs.Waits.{after_dismiss, block_waits, first_waiting, last_answer, waiting}
use Rattle.death_cleanup.specs.declared.parts.Parts.{Parts}
use Rattle.death_cleanup.specs.declared.rows.Awaited.{Awaited}
use Rattle.death_cleanup.specs.declared.rows.Awaited.TheVariants as awaited
use Rattle.lwp_types.specs.State.{Outcome, State, ThreadRow, is_blocked_in, is_not_blocked, is_number, passes, with_block}
use Rattle.std.specs.List.{find}
use Rattle.lwp_types.specs.Unblock.{after_unblock, unblock}
use Rattle.lwp_types.specs.declared.call.Effect.{Effect}
use Rattle.lwp_types.specs.declared.rows.Block.{Block}
use Rattle.lwp_types.specs.declared.rows.Block.TheVariants as block
use Rattle.pod_laws.proofs.Drains.{first_waiter, wake_first}
use Rattle.pod_laws.proofs.LetterMoves.{is_alone}
use Rattle.std.proofs.Common.{List, None, Some, ap, arith, false, length, not, refl, sym, true, ℕ, ◌<◌, ◌∙◌, ◌∷◌, ◌≡◌}

-- who waits for something of a thread waits for nothing else
alone : (what : Awaited) (t : ℕ) (b : Block) → block_waits what t b ≡ true → is_alone b ≡ true
alone awaited.Death t block.Not e = absurd (cc)
alone awaited.Letter t block.Not e = absurd (cc)
alone what t (block.Joining u) e = refl
alone awaited.Death t block.Sending e = absurd (cc)
alone awaited.Letter t block.Sending e = absurd (cc)
alone what t (block.Receiving from) e = refl
alone awaited.Death t (block.Entering m) e = absurd (cc)
alone awaited.Letter t (block.Entering m) e = absurd (cc)
alone awaited.Death t (block.Waiting c) e = absurd (cc)
alone awaited.Death t block.Sleeping e = absurd (cc)
alone awaited.Letter t (block.Waiting c) e = absurd (cc)
alone awaited.Letter t block.Sleeping e = absurd (cc)

waits : (b : Block) → is_alone b ≡ true → not (is_not_blocked b) ≡ true
waits block.Not e = absurd (let no : false ≡ true = e in cc)
waits (block.Joining u) e = refl
waits block.Sending e = refl
waits (block.Receiving from) e = refl
waits (block.Entering m) e = refl
waits (block.Waiting c) e = refl
waits block.Sleeping e = refl

module _ (what : Awaited) (t : ℕ) where
  abbrev pub list : State → List ℕ
  list s = waiting what t s.threads

  abbrev pub change : ℕ → State → Outcome
  change = unblock (last_answer what)

  pub one_less : (u : ℕ) (us : List ℕ) (s : State) → HasLawfulThreads s → list s ≡ u ∷ us → HasLawfulThreads (change u s).after × (list (change u s).after ≡ us)
  one_less u us s has listed =
      let next = wake_first (block_waits what t) (alone what t) has.lawful has.dying has.nine u us (ap (waiting what t) has.threads ∙ listed) in (
        record { lawful = after_unblock has.lawful u; dying = has.dying; nine = next.0; threads = ap (with_block u block.Not) has.threads },
        ap (λ rows. waiting what t (with_block u block.Not rows)) (sym has.threads) ∙ next.1,
      )

  pub first_waits : (u : ℕ) (us : List ℕ) (s : State) → HasLawfulThreads s → list s ≡ u ∷ us → is_blocked_in s u ≡ true
  first_waits u us s has listed =
      let who = first_waiter (block_waits what t) (alone what t) has.lawful has.dying has.nine u us (ap (waiting what t) has.threads ∙ listed) in
      ap (λ rows. passes (λ (row : ThreadRow). not (is_not_blocked row.block)) (find (is_number u) rows)) (sym has.threads)
      ∙ ap (passes (λ (row : ThreadRow). not (is_not_blocked row.block))) who.known ∙ waits who.row.block (alone what t who.row.block who.passes)

  module _ (start : Parts) (before : List Effect) (parts : Parts) (after : List Effect)
      (h : Draining HasLawfulThreads list change 0 start before parts after) where
    -- another note, which has all that wait by name
    pub noted-on : (named : NameNote) → IsNoteOf named parts.ids.live
        → Draining HasLawfulThreads list change 0 start before (record parts { named = named }) after
    noted-on named noted = record {
      keeps = h.keeps;
      step = InStep-noted parts h.step named noted;
      dying = h.dying;
      state = h.state;
      effects = h.effects;
      room = h.room;
    }

    module _ (u : ℕ) (found : first_waiting what t parts.ids.live ≡ Some u) where
      first : Front (list (state_of parts)) u
      first = waiting_first what t parts.last_prio parts.sched.threads parts.ids.live u found

      pub turn_waits : is_blocked_in (state_of parts) u ≡ true
      turn_waits = first_waits u first.rest (state_of parts) h.keeps first.is

      pub turn_room : length after < 2048
      turn_room = omega (arith, first_room HasLawfulThreads list change one_less 0 start before parts after h u first.rest first.is)

      module _ (new : Parts) (now : List Effect) (came : CameTo parts new after now (change u (state_of parts))) where
        pub turn_fewer : length (list (state_of new)) < length (list (state_of parts))
        turn_fewer = fewer HasLawfulThreads list change one_less 0 start before parts after h u first.rest first.is new now came

        pub turn_on : Draining HasLawfulThreads list change 0 start before new now
        turn_on = goes_on HasLawfulThreads list change one_less 0 start before parts after h u first.rest first.is new now came

    pub over : first_waiting what t parts.ids.live ≡ None → CameTo start parts before after (after_dismiss what t (state_of start))
    over none = done HasLawfulThreads list change one_less 0 start before parts after h
        (waiting_none what t parts.last_prio parts.sched.threads parts.ids.live none)
