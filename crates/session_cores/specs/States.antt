-- The state of a pod as numbers: the numbers of its rows, list after list, and its own numbers.
use Rattle.keys.specs.Numbers.{alone, bit, counted, list_numbers, option_numbers}
use Rattle.lwp_types.specs.State.{State, ThreadRow}
use Rattle.lwp_types.specs.declared.rows.AgentRow.{AgentRow}
use Rattle.lwp_types.specs.declared.rows.Block.{Block}
use Rattle.lwp_types.specs.declared.rows.Block.TheVariants as block
use Rattle.lwp_types.specs.declared.rows.CondRow.{CondRow}
use Rattle.lwp_types.specs.declared.rows.Letter.{Letter}
use Rattle.lwp_types.specs.declared.rows.Lock.{Lock}
use Rattle.lwp_types.specs.declared.rows.Mark.{Mark}
use Rattle.lwp_types.specs.declared.rows.Mark.TheVariants as mark
use Rattle.lwp_types.specs.declared.rows.Request.{Request}
use Rattle.lwp_types.specs.declared.rows.TimerRow.{TimerRow}
use Rattle.lwp_types.specs.declared.rows.WaitRow.{WaitRow}
use Rattle.pod_events.specs.Events.{EventState}
use Rattle.session_cores.specs.Words.{exit_numbers, flags_numbers, func_number, pattern_numbers}
use Rattle.std.specs.Prelude.{Bool, List, [], ℕ, ◌++◌, ◌∷◌}

-- ---- rows

-- what a thread waits for
abbrev pub block_numbers : Block → List ℕ
block_numbers block.Not = 0 ∷ []
block_numbers (block.Joining t) = 1 ∷ t ∷ []
block_numbers block.Sending = 2 ∷ []
block_numbers (block.Receiving from) = 3 ∷ option_numbers alone from
block_numbers (block.Entering m) = 4 ∷ m ∷ []
block_numbers (block.Waiting c) = 5 ∷ c ∷ []
block_numbers block.Sleeping = 6 ∷ []

-- an entry of a thread's stack
abbrev pub mark_numbers : Mark → List ℕ
mark_numbers mark.Frame = 0 ∷ []
mark_numbers (mark.Handler p f arg) = 1 ∷ func_number f ∷ arg ∷ pattern_numbers p
mark_numbers (mark.Exit reg call) = 2 ∷ reg ∷ exit_numbers call

-- a live thread
abbrev pub thread_numbers : ThreadRow → List ℕ
thread_numbers row = row.number ∷ row.priority ∷ bit row.suspended ∷ flags_numbers row.flags ++ block_numbers row.block
    ++ list_numbers mark_numbers row.marks

abbrev pub timer_numbers : TimerRow → List ℕ
timer_numbers row = row.tid ∷ row.due ∷ []

-- a letter that isn't replied to, and whether it was received
abbrev pub letter_numbers : Letter → List ℕ
letter_numbers letter = letter.from ∷ letter.to ∷ letter.room ∷ bit letter.received ∷ counted letter.text

abbrev pub lock_numbers : Lock → List ℕ
lock_numbers lock = lock.mon ∷ lock.owner ∷ lock.depth ∷ []

abbrev pub request_numbers : Request → List ℕ
request_numbers request = request.mon ∷ request.tid ∷ request.depth ∷ []

abbrev pub condition_numbers : CondRow → List ℕ
condition_numbers row = row.number ∷ row.mon ∷ []

abbrev pub wait_numbers : WaitRow → List ℕ
wait_numbers row = row.cond ∷ row.tid ∷ row.depth ∷ []

abbrev pub agent_numbers : AgentRow → List ℕ
agent_numbers row = row.number ∷ row.event ∷ row.owner ∷ bit row.holding ∷ []

-- ---- states

-- the threads, who of them waits for how long, and the messages
abbrev pub people_numbers : State → List ℕ
people_numbers s = list_numbers thread_numbers s.threads ++ counted s.order ++ list_numbers timer_numbers s.timers
    ++ list_numbers letter_numbers s.letters

-- the monitors, conditions and agents
abbrev pub things_numbers : State → List ℕ
things_numbers s = counted s.monitors ++ list_numbers lock_numbers s.locks ++ list_numbers request_numbers s.requests
    ++ list_numbers condition_numbers s.conditions ++ list_numbers wait_numbers s.waits ++ list_numbers agent_numbers s.agents

-- the clock, the greatest priority, the exit status, and whether the pod has ended
abbrev pub clock_numbers : State → List ℕ
clock_numbers s = s.now ∷ s.maxpri ∷ s.status ∷ bit s.ended ∷ []

-- how many were born, what bounds that, how many procedures there are, and the next numbers that are given
abbrev pub count_numbers : State → List ℕ
count_numbers s = s.births ∷ s.monitor_births ∷ s.condition_births ∷ s.limit ∷ s.procs ∷ s.next_registration ∷ s.next_pattern ∷ []

-- all of a state
abbrev pub state_numbers : State → List ℕ
state_numbers s = people_numbers s ++ things_numbers s ++ clock_numbers s ++ count_numbers s

-- a flag
abbrev pub flag_numbers : Bool → List ℕ
flag_numbers b = bit b ∷ []

-- the events that a pod keeps for itself, after its state
abbrev pub pod_numbers : EventState → List ℕ
pod_numbers es = state_numbers es.state ++ list_numbers flag_numbers es.trapped ++ option_numbers alone es.pending
    ++ counted es.reports
