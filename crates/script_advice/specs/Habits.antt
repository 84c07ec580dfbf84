-- What the procedures of a text do: which of them send letters, which take the lines of clients, and in which a thread
-- may stay.
use Rattle.std.specs.Prelude.{ℕ, Bool, true, false, ◌||◌, ◌&&◌, nat_lt, nat_le, List, [], ◌∷◌, Option, Some, None, if◌then◌else◌}
use Rattle.lwp_types.specs.declared.call.Mode.{Mode}
use Rattle.lwp_types.specs.declared.call.Mode.TheVariants as mode
use Rattle.script_lines.specs.declared.table.Op.{Op}
use Rattle.script_lines.specs.declared.table.Op.TheVariants as op
use Rattle.script_lines.specs.declared.table.Role.{Role}
use Rattle.script_lines.specs.declared.table.Role.TheVariants as role
use Rattle.script_lines.specs.Phrase.{Phrase}
use Rattle.script_lines.specs.Reading.{phrase_at}
use Rattle.script_lines.specs.Table.{role_of}
use Rattle.script_text.specs.Meaning.{enter}
use Rattle.script_advice.specs.declared.habits.Habits.{Habits}

-- ---- What a line does.

-- a line sends a letter
abbrev pub sends : Op → Bool
sends op.Send = true
sends _ = false

-- a line makes an agent that takes the lines of clients
abbrev pub takes : Op → Phrase → Bool
takes op.Agent p = nat_lt 0 p.number && nat_le p.number 31
takes _ p = false

-- a receive waits for so many ticks at most; 0 where it waits for none
abbrev pub ticks_in : Mode → ℕ
ticks_in mode.Poll = 0
ticks_in mode.Block = 0
ticks_in (mode.Until ticks) = ticks

-- a receive may wait
abbrev pub may_wait : Mode → Bool
may_wait mode.Poll = false
may_wait mode.Block = true
may_wait (mode.Until ticks) = nat_lt 0 ticks

-- a thread may not go on to the line after: it may wait here, for another thread or for the clock, or go elsewhere
abbrev pub may_stay : Op → Phrase → Bool
may_stay op.Again p = true
may_stay op.CallProc p = true
may_stay op.CondEnter p = true
may_stay op.Enter p = true
may_stay op.Join p = true
may_stay op.Raise p = true
may_stay op.Recv p = may_wait p.mode
may_stay op.Send p = true
may_stay op.Sleep p = nat_lt 0 p.number
may_stay op.Suspend p = true
may_stay op.Wait p = true
may_stay _ p = false

-- ---- What procedures do.

-- nothing is known of any
abbrev pub no_habits : Habits
no_habits = record { sends = false; takes = false; stays = false; first = false; sending = []; taking = []; staying = [] }

-- the name, if it is to be noted
abbrev pub name_if : Bool → List ℕ → List ℕ
name_if b w = if b then w else []

-- a built-in procedure of this event: a session sends and takes lines, and is for an event from 1 on; both kinds stay
abbrev pub habits_of_native : ℕ → List ℕ → Habits → Habits
habits_of_native e w h = record h {
  sending = enter h.sending (name_if (nat_lt 0 e) w);
  taking = enter h.taking (name_if (nat_lt 0 e) w);
  staying = enter h.staying w;
}

-- the procedure of this name begins here, and does what the lines ahead do
abbrev pub habits_of_proc : List ℕ → Habits → Habits
habits_of_proc w h = record {
  sends = false;
  takes = false;
  stays = false;
  first = h.stays;
  sending = enter h.sending (name_if h.sends w);
  taking = enter h.taking (name_if h.takes w);
  staying = enter h.staying (name_if h.stays w);
}

-- one more line stands in front of those ahead
abbrev pub habits_with : Op → Phrase → Habits → Habits
habits_with o p h = record h {
  sends = h.sends || sends o;
  takes = h.takes || takes o p;
  stays = h.stays || may_stay o p;
}

abbrev pub habits_by : Role → Phrase → Habits → Habits
habits_by role.Native p h = habits_of_native p.event p.procedure h
habits_by role.Proc p h = habits_of_proc p.procedure h
habits_by _ p h = habits_with p.op p h

abbrev pub habits_after_line : Option Phrase → Habits → Habits
habits_after_line None h = h
habits_after_line (Some p) h = habits_by (role_of p.op) p h

-- what the procedures of these lines do, where this is known of those after the last
abbrev pub habits_of : Habits → List (List ℕ) → Habits
habits_of h [] = h
habits_of h (line ∷ lines) = habits_after_line (phrase_at line) (habits_of h lines)
