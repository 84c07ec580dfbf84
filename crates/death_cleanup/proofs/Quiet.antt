-- A thread that waits for nothing stands nowhere among those that wait.
use Rattle.conditions.specs.ConditionTable as cond_table
use Rattle.death_cleanup.specs.Moves.{after_withdraw, pair_with_block}
use Rattle.death_cleanup.specs.Ties.{LawfulParts}
use Rattle.death_cleanup.specs.View.{state_of}
use Rattle.death_cleanup.specs.declared.parts.Parts.{Parts}
use Rattle.lwp_types.specs.CountLaws.{count-cons, count_found_by, count_not_found, one}
use Rattle.lwp_types.specs.Counts.{is_entering, is_sending, is_waiting}
use Rattle.lwp_types.specs.Messages.{is_letter_of, letters_of, without_letter}
use Rattle.lwp_types.specs.OnlyLaws.{filter_none}
use Rattle.lwp_types.specs.State.{ThreadRow, is_blocked_in, is_not_blocked, is_thread, passes, thread_of}
use Rattle.lwp_types.specs.declared.rows.Block.{Block}
use Rattle.lwp_types.specs.declared.rows.Block.TheVariants as block
use Rattle.monitors.specs.MonitorTable as mon_table
use Rattle.pod_laws.proofs.Elements.{find_passes}
use Rattle.pod_laws.proofs.LetterMoves.{letters_counted}
use Rattle.pod_laws.proofs.LockMoves.{requester_enters, waiter_waits}
use Rattle.pod_sched.specs.Schedule as sched
use Rattle.std.proofs.Common.{Bool, List, None, Option, Some, [], ap, arith, count_by, eqb, false, map, not, refl, sym, true, ℕ, ◌&&◌, ◌∙◌, ◌∷◌, ◌≡◌}
use Rattle.std.proofs.lemmas.Bool.{eq-eqb}
use Rattle.std.specs.List.{find}
use Rattle.std.specs.Prelude.{is_some}

not_waiting : (b : Block) → not (is_not_blocked b) ≡ false → b ≡ block.Not
not_waiting block.Not e = refl
not_waiting (block.Joining u) e = absurd (cc)
not_waiting block.Sending e = absurd (cc)
not_waiting (block.Receiving from) e = absurd (cc)
not_waiting (block.Entering m) e = absurd (cc)
not_waiting (block.Waiting c) e = absurd (cc)
not_waiting block.Sleeping e = absurd (cc)

module _ {X : Type 0} (key part : X → ℕ) where
  -- who stands nowhere for anything stands nowhere
  nowhere : (t : ℕ) (xs : List X) → ((m : ℕ) → count_by (λ x. eqb (key x) t && eqb (part x) m) xs ≡ 0) → count_by (λ x. eqb (key x) t) xs ≡ 0
  nowhere t xs none = by_case (find (λ x. eqb (key x) t) xs) refl
    where
      by_case : (o : Option X) → find (λ x. eqb (key x) t) xs ≡ o → count_by (λ x. eqb (key x) t) xs ≡ 0
      by_case None is = count_not_found (λ x. eqb (key x) t) xs is
      by_case (Some x) is =
          let both : (eqb (key x) t && eqb (part x) (part x)) ≡ true = rw (find_passes (λ x. eqb (key x) t) xs x is, eq-eqb (part x) (part x) refl) refl in
          absurd (omega (arith, count_found_by (λ y. eqb (key y) t) (λ y. eqb (key y) t && eqb (part y) (part x)) xs x is both, none (part x)))

count-seen : {X Y : Type 0} (f : X → Y) (p : Y → Bool) (xs : List X) → count_by (λ x. p (f x)) xs ≡ count_by p (map f xs)
count-seen f p [] = refl
count-seen f p (x ∷ xs) = omega (arith, count-cons (λ x. p (f x)) x xs, count-cons p (f x) (map f xs), count-seen f p xs)

module _ (parts : Parts) (t : ℕ) (lawful : LawfulParts parts) (lives : is_thread (state_of parts) t ≡ true)
    (idle : sched.is_blocked_in parts.sched t ≡ false) where
  abbrev Idle : Type 0
  Idle = (letters_of parts.mail.letters t ≡ 0) × (count_by (mon_table.is_request_of t) parts.mons.requests ≡ 0)
      × (count_by (cond_table.is_wait_of t) parts.conds.waits ≡ 0)

  waits_not : is_blocked_in (state_of parts) t ≡ false
  waits_not = sym (lawful.step.tied.waits t) ∙ idle

  none : Idle
  none = by_case (thread_of (state_of parts) t) refl lives waits_not
    where
      by_case : (o : Option ThreadRow) → thread_of (state_of parts) t ≡ o → is_some o ≡ true
          → passes (λ (row : ThreadRow). not (is_not_blocked row.block)) o ≡ false → Idle
      by_case None known lives waits_not = absurd (cc)
      by_case (Some x) known lives waits_not =
          let nothing : x.block ≡ block.Not = not_waiting x.block waits_not in
          let requests = nowhere (λ (r : _). r.tid) (λ r. r.mon) t (state_of parts).requests
          (λ m. requester_enters (state_of parts) parts.dying lawful.nine t x known m ∙ ap (λ b. one (is_entering m b)) nothing) in
          let waits = nowhere (λ (w : _). w.tid) (λ w. w.cond) t (state_of parts).waits
          (λ c. waiter_waits (state_of parts) parts.dying lawful.nine t x known c ∙ ap (λ b. one (is_waiting c b)) nothing) in (
            letters_counted (state_of parts) parts.dying lawful.nine t x known ∙ ap (λ b. one (is_sending b)) nothing,
            count-seen mon_table.machine_row (λ r. eqb r.tid t) parts.mons.requests ∙ requests,
            count-seen cond_table.machine_row (λ w. eqb w.tid t) parts.conds.waits ∙ waits,
          )

  -- so it is out of all that it waited in as it is
  pub withdrawn-idle : after_withdraw parts t ≡ record parts {
    ids = record parts.ids { live = map (pair_with_block t block.Not) parts.ids.live };
    sched = sched.after_leave parts.sched t;
    dying = Some t;
    last_prio = sched.priority_in parts.sched t;
  }
  withdrawn-idle =
      let letters : without_letter t parts.mail.letters ≡ parts.mail.letters = filter_none (is_letter_of t) parts.mail.letters none.0 in
      let requests : mon_table.without_request t parts.mons.requests
      ≡ parts.mons.requests = filter_none (mon_table.is_request_of t) parts.mons.requests none.1 in
      let waits : cond_table.without_wait t parts.conds.waits ≡ parts.conds.waits = filter_none (cond_table.is_wait_of t) parts.conds.waits none.2 in
      rw (letters, requests, waits) refl
