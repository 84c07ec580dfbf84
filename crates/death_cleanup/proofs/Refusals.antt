-- The senders to a dying thread are refused.
use Rattle.death_cleanup.proofs.Draining.{Draining, done, fewer, first_room, goes_on}
use Rattle.death_cleanup.proofs.Fronts.{Front, found_first, found_none}
use Rattle.death_cleanup.proofs.Keeping.{InStep-mail}
use Rattle.death_cleanup.specs.Comes.{CameTo}
use Rattle.death_cleanup.specs.Ties.{InStep}
use Rattle.death_cleanup.specs.View.{state_of}
use Rattle.death_cleanup.specs.declared.parts.Parts.{Parts}
use Rattle.lwp_types.specs.Death.{refuse_sender, refuse_senders}
use Rattle.lwp_types.specs.Messages.{is_to, senders_to, without_letter}
use Rattle.lwp_types.specs.State.{State, ThreadRow, is_blocked_in, is_not_blocked, passes}
use Rattle.lwp_types.specs.Unblock.{nonexist, unblock}
use Rattle.lwp_types.specs.declared.call.Effect.{Effect}
use Rattle.lwp_types.specs.declared.rows.Letter.{Letter}
use Rattle.rendezvous.specs.MessageTable.{after_pop, first_to, without_found}
use Rattle.pod_laws.proofs.DeathLoops.{Lonely, first_sender, refuse_first}
use Rattle.std.proofs.Common.{List, None, Option, Some, ap, arith, length, not, refl, true, ℕ, ◌<◌, ◌∙◌, ◌≡◌}
use Rattle.std.specs.Prelude.{option_map}

module _ (t : ℕ) where
  abbrev pub list : State → List ℕ
  list s = senders_to s.letters t

  abbrev first : List Letter → Option ℕ
  first letters = option_map (λ (letter : Letter). letter.from) (first_to letters t)

  popped-some : (letters : List Letter) (u : ℕ) → first letters ≡ Some u → without_found (first_to letters t) letters ≡ without_letter u letters
  popped-some letters u h = by_found (first_to letters t) h
    where
      by_found : (o : Option Letter) → option_map (λ (letter : Letter). letter.from) o ≡ Some u → without_found o letters ≡ without_letter u letters
      by_found None h = absurd (cc)
      by_found (Some letter) h = let same : letter.from ≡ u = (let e : Some letter.from ≡ Some u = h in cc) in ap (λ x. without_letter x letters) same

  popped-none : (letters : List Letter) → first letters ≡ None → without_found (first_to letters t) letters ≡ letters
  popped-none letters h = by_found (first_to letters t) h
    where
      by_found : (o : Option Letter) → option_map (λ (letter : Letter). letter.from) o ≡ None → without_found o letters ≡ letters
      by_found None h = refl
      by_found (Some letter) h = absurd (cc)

  module _ (start : Parts) (before : List Effect) (parts : Parts) (after : List Effect)
      (h : Draining (Lonely t) list refuse_sender 0 start before parts after) where
    -- the parts without the letter that was found
    abbrev pub lighter : Parts
    lighter = record parts { mail = after_pop parts.mail t }

    pub lighter_step : InStep lighter
    lighter_step = InStep-mail parts h.step (after_pop parts.mail t) refl

    module _ (x : ℕ) (found : first parts.mail.letters ≡ Some x) where
      front : Front (list (state_of parts)) x
      front = found_first (λ (letter : Letter). letter.from) (is_to t) parts.mail.letters x found

      pub sender_waits : is_blocked_in (state_of lighter) x ≡ true
      sender_waits =
          let who = first_sender t x front.rest (state_of parts) h.keeps front.is in
          ap (λ o. passes (λ (row : ThreadRow). not (is_not_blocked row.block)) o) who.known ∙ ap (λ b. not (is_not_blocked b)) who.sends

      pub sender_room : length after < 2048
      sender_room = omega (arith, first_room (Lonely t) list refuse_sender (refuse_first t) 0 start before parts after h x front.rest front.is)

      module _ (new : Parts) (now : List Effect) (woken : CameTo lighter new after now (unblock nonexist x (state_of lighter))) where
        came : CameTo parts new after now (refuse_sender x (state_of parts))
        came = record {
          state = woken.state
              ∙ ap (λ letters. (unblock nonexist x (record (state_of parts) { letters = letters })).after) (popped-some parts.mail.letters x found);
          effects = woken.effects;
          step = woken.step;
          dying = woken.dying;
        }

        pub sender_fewer : length (list (state_of new)) < length (list (state_of parts))
        sender_fewer = fewer (Lonely t) list refuse_sender (refuse_first t) 0 start before parts after h x front.rest front.is new now came

        pub sender_on : Draining (Lonely t) list refuse_sender 0 start before new now
        sender_on = goes_on (Lonely t) list refuse_sender (refuse_first t) 0 start before parts after h x front.rest front.is new now came

    pub senders_over : first parts.mail.letters ≡ None → CameTo start lighter before after (refuse_senders t (state_of start))
    senders_over none =
        let all = done (Lonely t) list refuse_sender (refuse_first t) 0 start before parts after h
        (found_none (λ (letter : Letter). letter.from) (is_to t) parts.mail.letters none) in
        record {
          state = ap (λ letters. record (state_of parts) { letters = letters }) (popped-none parts.mail.letters none) ∙ all.state;
          effects = all.effects;
          step = lighter_step;
          dying = all.dying;
        }
