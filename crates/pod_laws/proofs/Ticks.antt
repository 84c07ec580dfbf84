-- A tick: each thread whose timer falls due goes on. As long as one is still to go on, the state is lawful at the time before.
use Rattle.lwp_types.specs.CountLaws.{count-cons, count_and-le, count_found_and, count_not_found, one}
use Rattle.lwp_types.specs.Counts.{is_ahead, is_timed, timers_of}
use Rattle.lwp_types.specs.Lawful.{NineParts}
use Rattle.lwp_types.specs.State.{State, ThreadRow, and_then, is_number, thread_of, times_in}
use Rattle.lwp_types.specs.Time.{after_tick, due_threads, is_due, tick, time_out}
use Rattle.lwp_types.specs.Unblock.{after_unblock}
use Rattle.lwp_types.specs.declared.rows.Block.{Block}
use Rattle.lwp_types.specs.declared.rows.TimerRow.{TimerRow}
use Rattle.lwp_types.specs.declared.rows.Block.TheVariants as block
use Rattle.pod_laws.proofs.AgentEnds.{none_pass}
use Rattle.pod_laws.proofs.Drains.{drains, keys_times, keys_without, without_first}
use Rattle.pod_laws.proofs.Elements.{all_weaker, false_of}
use Rattle.pod_laws.proofs.LetterMoves.{NineParts-woken, is_alone}
use Rattle.pod_laws.proofs.Rowed.{once_threads}
use Rattle.std.proofs.Common.{Bool, List, None, Option, Some, [], ap, arith, eqb, false, not, refl, true, ℕ, ◌∙◌, ◌∷◌, ◌≡◌, ◌≤◌}
use Rattle.std.proofs.lemmas.Bool.{eq-eqb, leb-false, lt-ltb}
use Rattle.std.specs.List.{list_all}

timed_alone : (b : Block) → is_timed b ≡ true → is_alone b ≡ true
timed_alone block.Not e = absurd (cc)
timed_alone (block.Joining u) e = absurd (cc)
timed_alone block.Sending e = absurd (cc)
timed_alone (block.Receiving from) e = refl
timed_alone (block.Entering m) e = absurd (cc)
timed_alone (block.Waiting c) e = absurd (cc)
timed_alone block.Sleeping e = refl

-- a thread that has a timer, and its row
pub record TimedRow (s : State) (t : ℕ) : Type 0 where
  pub row : ThreadRow
  pub known : thread_of s t ≡ Some row
  pub timed : is_timed row.block ≡ true

module _ (s : State) (d : Option ℕ) (was : NineParts s d) where
  pub timed_row : (t : ℕ) → 1 ≤ timers_of s.timers t → TimedRow s t
  timed_row t some = by_row (thread_of s t) refl
    where
      by_row : (o : Option ThreadRow) → thread_of s t ≡ o → TimedRow s t
      by_row None e = absurd
          (omega (arith, some, was.blocks.4.0 t, count_and-le (is_number t) (λ row. is_timed row.block) s.threads, count_not_found (is_number t) s.threads e))
      by_row (Some row) e = record { row = row; known = e; timed = by_test (is_timed row.block) refl }
        where
          by_test : (b : Bool) → is_timed row.block ≡ b → b ≡ true
          by_test true f = refl
          by_test false f = absurd (omega
              (arith, some, was.blocks.4.0 t, count_found_and (is_number t) (λ row. is_timed row.block) s.threads row e (once_threads s d was t), ap one f))

  -- nobody has two
  pub timers_once : (t : ℕ) → timers_of s.timers t ≤ 1
  timers_once t = omega (arith, was.blocks.4.0 t, count_and-le (is_number t) (λ row. is_timed row.block) s.threads, once_threads s d was t)

  -- who has one may go on
  pub NineParts-timed_out : (t : ℕ) → 1 ≤ timers_of s.timers t → NineParts (after_unblock s t) d
  NineParts-timed_out t some =
      let who = timed_row t some in
      NineParts-woken s d was t who.row who.known (timed_alone who.row.block who.timed)

-- the state was lawful at the time n, which is over
pub record Before (n : ℕ) (s : State) : Type 0 where
  pub nine : NineParts (record s { now = n }) None

-- the thread that is due first goes on, and the others remain
pub time_out_first : (n t : ℕ) (ts : List ℕ) (s : State) → Before n s → due_threads s ≡ t ∷ ts
    → Before n (time_out t s).after × (due_threads (time_out t s).after ≡ ts)
time_out_first n t ts s was listed = (
  record { nine = NineParts-timed_out (record s { now = n }) None was.nine t some },
  keys_without (λ (row : TimerRow). row.tid) (is_due s.now) t s.timers
      ∙ without_first t ts (due_threads s) listed (omega
      (arith, keys_times (λ (row : TimerRow). row.tid) (is_due s.now) t s.timers, timers_once (record s { now = n }) None was.nine t)),
)
  where
    some : 1 ≤ timers_of s.timers t
    some = omega (
      arith,
      ap (λ ns. times_in ns t) listed,
      count-cons (λ k. eqb k t) t ts,
      ap one (eq-eqb t t refl),
      keys_times (λ (row : TimerRow). row.tid) (is_due s.now) t s.timers,
    )

-- where nobody is due, the state is lawful at its own time too
NineParts-later : (n : ℕ) (s : State) → Before n s → due_threads s ≡ [] → NineParts s None
NineParts-later n s was none = record {
  numbers = was.nine.numbers;
  levels = was.nine.levels;
  order = was.nine.order;
  blocks = (was.nine.blocks.0, was.nine.blocks.1, was.nine.blocks.2, was.nine.blocks.3, (was.nine.blocks.4.0, was.nine.blocks.4.1, ahead));
  letters = was.nine.letters;
  locks = was.nine.locks;
  owners = was.nine.owners;
  marks = was.nine.marks;
  registrations = was.nine.registrations;
  dies = was.nine.dies;
}
  where
    ahead : list_all (is_ahead s.now) s.timers ≡ true
    ahead = all_weaker (λ row. not (is_due s.now row)) (is_ahead s.now)
        (λ row h. lt-ltb s.now row.due (leb-false row.due s.now (false_of _ h))) s.timers (none_pass (λ (row : TimerRow). row.tid) (is_due s.now) s.timers none)

pub tick_keeps : (s : State) → NineParts s None → NineParts (tick s).after None
unfolding and_then
tick_keeps s was =
    let all = drains (Before s.now) due_threads time_out (time_out_first s.now) (due_threads (after_tick s)) (after_tick s) (record { nine = was }) refl in
    NineParts-later s.now (tick s).after all.0 all.1
