-- Which procedure each thread began in.
use Rattle.c_pods.specs.declared.origins.Began.{Began}
use Rattle.lwp_types.specs.State.{State, is_id}
use Rattle.lwp_types.specs.declared.call.Answer.{Answer}
use Rattle.lwp_types.specs.declared.call.Answer.TheVariants as answer
use Rattle.lwp_types.specs.declared.call.Call.{Call}
use Rattle.lwp_types.specs.declared.call.Call.TheVariants as call
use Rattle.lwp_types.specs.declared.call.Effect.{Effect}
use Rattle.lwp_types.specs.declared.call.Effect.TheVariants as effect
use Rattle.std.specs.List.{filter}
use Rattle.std.specs.Prelude.{List, None, Option, Some, [], if◌then◌else◌, length, nat_lt, ℕ, ◌++◌, ◌∷◌}

-- the threads with their procedures, and how many there is room for
pub record Known : Type 0 where
  pub entries : List Began
  pub places : ℕ

-- the first thread begins in the first procedure
abbrev pub first_entries : List Began
first_entries = record { tid = 0; proc = 0 } ∷ []

-- the procedure of a create
abbrev pub proc_of : Call → Option ℕ
proc_of (call.Create number prio flags) = Some number
proc_of _ = None

-- the thread that an answer names
abbrev pub thread_in : Answer → Option ℕ
thread_in (answer.Thread t) = Some t
thread_in _ = None

-- the thread that an effect of a create says was made
abbrev pub thread_made : Effect → Option ℕ
thread_made (effect.Answered t a) = thread_in a
thread_made _ = None

-- the first of two that is one
abbrev pub first_of_two : Option ℕ → Option ℕ → Option ℕ
first_of_two None other = other
first_of_two (Some t) other = Some t

-- the first that these say was made
abbrev pub first_made : List Effect → Option ℕ
first_made [] = None
first_made (e ∷ es) = first_of_two (thread_made e) (first_made es)

-- the entry of a thread that began in this procedure, if one did
abbrev pub born : ℕ → Option ℕ → List Began
born proc None = []
born proc (Some t) = record { tid = t; proc = proc } ∷ []

-- entries, of which those of the dead go where there are more than 2,048
abbrev pub living : State → List Began → List Began
living s entries = if nat_lt 2048 (length entries) then filter (λ b. is_id s b.tid) entries else entries

-- entries after a call: of a create, the thread that it made has one too, and those of the dead may go
abbrev pub entries_after_by : Option ℕ → List Effect → State → List Began → List Began
entries_after_by None effects s entries = entries
entries_after_by (Some proc) effects s entries = living s (entries ++ born proc (first_made effects))

-- so after this call, which did this and left the pod so
abbrev pub entries_after : Call → List Effect → State → List Began → List Began
entries_after c effects s entries = entries_after_by (proc_of c) effects s entries
