-- Ticks that make no timer due.
use Rattle.lwp_types.specs.Counts.{is_ahead}
use Rattle.lwp_types.specs.Lawful.{Lawful}
use Rattle.lwp_types.specs.State.{State}
use Rattle.lwp_types.specs.declared.rows.TimerRow.{TimerRow}
use Rattle.pod_events.specs.Ticks.{after_ticks, next_due}
use Rattle.std.proofs.Common.{List, None, [], arith, min, refl, true, ℕ, ◌+◌, ◌<◌, ◌∷◌, ◌≡◌, ◌≤◌}
use Rattle.std.proofs.lemmas.Bool.{lt-ltb}
use Rattle.std.specs.List.{fold, list_all}

least_low : (n : ℕ) (rows : List TimerRow) → fold (λ m row. min m row.due) n rows ≤ n
least_low n [] = omega arith
least_low n (row ∷ rows) = omega (arith, least_low (min n row.due) rows)

all_ahead : (n now : ℕ) (rows : List TimerRow) → now < fold (λ m row. min m row.due) n rows → list_all (is_ahead now) rows ≡ true
all_ahead n now [] early = refl
all_ahead n now (row ∷ rows) early =
    let less : now < row.due = omega (arith, early, least_low (min n row.due) rows) in
    rw (lt-ltb now row.due less) (all_ahead (min n row.due) now rows early)

-- all other parts of the state are as they were
pub Lawful-passed : (n : ℕ) (s : State) → Lawful s None → s.now + n < next_due s → Lawful (after_ticks n s) None
Lawful-passed n s was early = record {
  nine = record {
    numbers = was.nine.numbers;
    levels = was.nine.levels;
    order = was.nine.order;
    blocks = (
      was.nine.blocks.0,
      was.nine.blocks.1,
      was.nine.blocks.2,
      was.nine.blocks.3,
      (was.nine.blocks.4.0, was.nine.blocks.4.1, all_ahead _ (s.now + n) s.timers early),
    );
    letters = was.nine.letters;
    locks = was.nine.locks;
    owners = was.nine.owners;
    marks = was.nine.marks;
    registrations = was.nine.registrations;
    dies = was.nine.dies;
  };
  going = was.going;
}
