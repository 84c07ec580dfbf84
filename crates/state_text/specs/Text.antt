-- The text of a session's state.
use Rattle.lwp_types.specs.Agents.{belongs_to}
use Rattle.lwp_types.specs.Choice.{choice}
use Rattle.lwp_types.specs.Conditions.{waits_on}
use Rattle.lwp_types.specs.Messages.{mailbox}
use Rattle.lwp_types.specs.MonitorRelease.{is_owned_by, lock_of, requests_of}
use Rattle.lwp_types.specs.Names.{null_id}
use Rattle.lwp_types.specs.State.{State, ThreadRow, is_not_blocked, passes}
use Rattle.lwp_types.specs.Unblock.{is_timer_of}
use Rattle.lwp_types.specs.declared.call.Flags.{Flags}
use Rattle.lwp_types.specs.declared.rows.AgentRow.{AgentRow}
use Rattle.lwp_types.specs.declared.rows.Block.{Block}
use Rattle.lwp_types.specs.declared.rows.CondRow.{CondRow}
use Rattle.lwp_types.specs.declared.rows.Letter.{Letter}
use Rattle.lwp_types.specs.declared.rows.Lock.{Lock}
use Rattle.lwp_types.specs.declared.rows.Mark.{Mark}
use Rattle.lwp_types.specs.declared.rows.Request.{Request}
use Rattle.lwp_types.specs.declared.rows.TimerRow.{TimerRow}
use Rattle.lwp_types.specs.declared.rows.WaitRow.{WaitRow}
use Rattle.pod_events.specs.Copies.{events_in}
use Rattle.pod_events.specs.Events.{EventState, is_takeable}
use Rattle.pod_events.specs.Machine.{current_of}
use Rattle.snapshots.specs.Copies.{state_in}
use Rattle.snapshots.specs.declared.pod.PodCopy.{PodCopy}
use Rattle.snapshots.specs.declared.session.Snapshot.{Snapshot}
use Rattle.snapshots.specs.declared.session.ThreadNote.{ThreadNote}
use Rattle.state_text.specs.Waiting.{cycles, receiver_of}
use Rattle.state_text.specs.declared.clients.ClientLines.{ClientLines}
use Rattle.trace_text.specs.Lines.{condition_text, exit_text, func_text, letter_if, monitor_text, pattern_text, proc_text, source_text, thread_text, with_space}
use Rattle.std.specs.Fmt.{decimal}
use Rattle.std.specs.List.{filter, find, flat_map}
use Rattle.std.specs.Prelude.{Bool, List, None, Option, Some, [], codes, drop, false, if◌then◌else◌, is_none, nat_lt}
use Rattle.std.specs.Prelude.{not, option_map, slice_index_or, unwrap_or, ℕ, ◌&&◌, ◌++◌, ◌+◌, ◌-◌, ◌==◌, ◌||◌, ◌∷◌}
use Rattle.lwp_types.specs.declared.rows.Block.TheVariants as block
use Rattle.lwp_types.specs.declared.rows.Mark.TheVariants as mark

-- the whole: calls made, ticks, the greatest priority, the exit status
abbrev pub whole_line : ℕ → State → List ℕ
whole_line calls s = codes "calls " ++ (decimal calls ++ (codes " now " ++ (decimal s.now ++ (codes " maxpri "
    ++ (decimal s.maxpri ++ (codes " exit " ++ (decimal s.status ++ codes "\n")))))))

-- when a timer is due, if there is one
abbrev pub until_text : Option TimerRow → List ℕ
until_text None = []
until_text (Some row) = codes " until " ++ decimal row.due

-- the timer of a thread, if it has one
abbrev pub timer_of : List TimerRow → ℕ → Option TimerRow
timer_of timers t = find (is_timer_of t) timers

-- what a thread waits for, if it does
abbrev pub block_text : State → ℕ → Block → List ℕ
block_text s t block.Not = []
block_text s t (block.Joining u) = codes "joins " ++ thread_text u
block_text s t block.Sending = codes "sends " ++ thread_text (unwrap_or (receiver_of s.letters t) null_id)
block_text s t (block.Receiving from) = codes "receives "
    ++ (source_text None from ++ until_text (timer_of s.timers t))
block_text s t (block.Entering m) = codes "enters " ++ monitor_text m
block_text s t (block.Waiting c) = codes "waits " ++ condition_text c
block_text s t block.Sleeping = codes "sleeps" ++ until_text (timer_of s.timers t)

-- how a thread is that waits for nothing
abbrev pub idle_text : State → ThreadRow → List ℕ
idle_text s row = if row.suspended then codes "suspended"
    else if passes (λ u. u == row.number) (current_of s) then codes "next" else codes "ready"

-- how a thread is
abbrev pub standing_text : State → ThreadRow → List ℕ
standing_text s row = if is_not_blocked row.block then idle_text s row
    else block_text s row.number row.block ++ letter_if row.suspended (codes " suspended")

-- the procedure that a thread began in
abbrev pub began_in : List ThreadNote → ℕ → Option ℕ
began_in notes t = option_map (λ note. note.proc) (find (λ note. note.tid == t) notes)

-- its name; `none` where there is no such procedure
abbrev pub began_text : List (List ℕ) → Option ℕ → List ℕ
began_text procs None = codes "none"
began_text procs (Some number) = proc_text procs number

-- how a thread is marked, and the end of its line
abbrev pub flags_end : Flags → List ℕ
flags_end flags = letter_if flags.nolastrites (codes " nolastrites")
    ++ (letter_if flags.server (codes " server") ++ codes "\n")

-- a thread: its procedure, its priority, how it is, how it is marked
abbrev pub thread_line : List (List ℕ) → List ThreadNote → State → ThreadRow → List ℕ
thread_line procs notes s row = thread_text row.number ++ (codes " "
    ++ (began_text procs (began_in notes row.number) ++ (codes " prio " ++ (decimal row.priority ++ (codes " "
    ++ (standing_text s row ++ flags_end row.flags))))))

-- a lock of a thread
abbrev pub holds_line : Lock → List ℕ
holds_line lock = codes "  holds "
    ++ (monitor_text lock.mon ++ (codes " depth " ++ (decimal lock.depth ++ codes "\n")))

-- a mark of a thread's stack
abbrev pub mark_line : Mark → List ℕ
mark_line mark.Frame = codes "  frame\n"
mark_line (mark.Handler pattern func arg) = codes "  handler " ++ (pattern_text pattern ++ (codes " "
    ++ (func_text func ++ (codes " " ++ (decimal arg ++ codes "\n")))))
mark_line (mark.Exit reg call) = codes "  exit x"
    ++ (decimal reg ++ (codes " " ++ (exit_text None call ++ codes "\n")))

-- a letter to a thread
abbrev pub letter_line : Letter → List ℕ
letter_line letter = (if letter.received then codes "  received " else codes "  letter ")
    ++ (thread_text letter.from ++ (codes " " ++ (decimal letter.room ++ (with_space letter.text ++ codes "\n"))))

-- an agent of a thread
abbrev pub agent_line : AgentRow → List ℕ
agent_line row = codes "  agent " ++ (thread_text row.number
    ++ (codes " event " ++ (decimal row.event ++ (letter_if row.holding (codes " holds") ++ codes "\n"))))

-- what a thread has: locks, marks above its first frame, letters, agents
abbrev pub belongings : State → ThreadRow → List ℕ
belongings s row = flat_map holds_line (filter (is_owned_by row.number) s.locks)
    ++ (flat_map mark_line (drop 1 row.marks)
    ++ (flat_map letter_line (mailbox s.letters row.number)
    ++ flat_map agent_line (filter (belongs_to row.number) s.agents)))

-- a thread, and what it has
abbrev pub thread_lines : List (List ℕ) → List ThreadNote → State → ThreadRow → List ℕ
thread_lines procs notes s row = thread_line procs notes s row ++ belongings s row

-- a first word with others; nothing, where there are no others
abbrev pub words_line : List ℕ → List ℕ → List ℕ
words_line first [] = []
words_line first (b ∷ bs) = first ++ ((b ∷ bs) ++ codes "\n")

-- threads, each with a space before it
abbrev pub thread_words : List ℕ → List ℕ
thread_words ts = flat_map (λ t. 32 ∷ thread_text t) ts

-- who waits to enter a monitor
abbrev pub request_line : Request → List ℕ
request_line r = codes "  request " ++ (thread_text r.tid ++ (codes " depth " ++ (decimal r.depth ++ codes "\n")))

-- who holds a monitor, if anybody does
abbrev pub held_text : Option Lock → List ℕ
held_text None = codes " free\n"
held_text (Some lock) = codes " held "
    ++ (thread_text lock.owner ++ (codes " depth " ++ (decimal lock.depth ++ codes "\n")))

-- a monitor, and who waits to enter it
abbrev pub monitor_lines : State → ℕ → List ℕ
monitor_lines s m = monitor_text m
    ++ (held_text (lock_of s.locks m) ++ flat_map request_line (requests_of s.requests m))

-- who waits on a condition
abbrev pub wait_line : WaitRow → List ℕ
wait_line w = codes "  wait " ++ (thread_text w.tid ++ (codes " depth " ++ (decimal w.depth ++ codes "\n")))

-- a condition, and who waits on it
abbrev pub condition_lines : State → CondRow → List ℕ
condition_lines s row = condition_text row.number ++ (codes " of "
    ++ (monitor_text row.mon ++ (codes "\n" ++ flat_map wait_line (waits_on s.waits row.number))))

-- the trapped events, counted from e, each with a space before it
abbrev pub trapped_words : ℕ → List Bool → List ℕ
trapped_words e [] = []
trapped_words e (b ∷ bs) = letter_if b (32 ∷ decimal e) ++ trapped_words (e + 1) bs

-- the trap that is raised at the next call
abbrev pub pending_line : Option ℕ → List ℕ
pending_line None = []
pending_line (Some e) = codes "pending " ++ (decimal e ++ codes "\n")

-- how many lines of a client were taken
abbrev pub taken_of : List ℕ → ℕ → ℕ
taken_of taken c = slice_index_or taken c 0

-- a client: its event, how many of its lines were taken, and how many are left
abbrev pub client_line : List ℕ → ℕ → ClientLines → List ℕ
client_line taken c client = codes "client " ++ (decimal c ++ (codes " event " ++ (decimal client.event
    ++ (codes " taken " ++ (decimal (taken_of taken c) ++ (codes " left "
    ++ (decimal (client.posts - taken_of taken c) ++ codes "\n")))))))

-- all clients, counted from c
abbrev pub client_lines : List ℕ → ℕ → List ClientLines → List ℕ
client_lines taken c [] = []
client_lines taken c (client ∷ clients) = client_line taken c client ++ client_lines taken (c + 1) clients

-- a deadlock: threads that wait in a cycle
abbrev pub cycle_line : List ℕ → List ℕ
cycle_line ts = codes "cycle" ++ (thread_words ts ++ codes "\n")

-- some client, counted from c, has a line left that can be taken
abbrev pub is_wanted : EventState → List ℕ → ℕ → List ClientLines → Bool
is_wanted es taken c [] = false
is_wanted es taken c (client ∷ clients) = (nat_lt (taken_of taken c) client.posts && is_takeable es client.event)
    || is_wanted es taken (c + 1) clients

-- nobody may run in a pod that goes on, and no line can be taken
abbrev pub is_stuck : EventState → List ℕ → List ClientLines → Bool
is_stuck es taken clients = is_none (choice es.state) && not (is_wanted es taken 0 clients)

-- how the session is over, if it is so; that it is stuck is left out where its trace is not read so far
abbrev pub end_line : Bool → EventState → List ℕ → List ClientLines → List ℕ
end_line whole es taken clients = if es.state.ended then codes "ended " ++ (decimal es.state.status ++ codes "\n")
    else if whole && is_stuck es taken clients then codes "stuck\n" else []

-- the events that a pod keeps for itself
abbrev pub event_lines : PodCopy → List ℕ
event_lines pod = words_line (codes "trapped") (trapped_words 0 pod.trapped)
    ++ (pending_line pod.pending ++ words_line (codes "reports") (thread_words pod.reports))

-- all that is told of a pod
abbrev pub pod_lines : List (List ℕ) → List ThreadNote → PodCopy → List ℕ
pod_lines procs notes pod = let s = state_in pod.state in
    flat_map (thread_lines procs notes s) s.threads
    ++ (words_line (codes "order") (thread_words s.order)
    ++ (flat_map (monitor_lines s) s.monitors
    ++ (flat_map (condition_lines s) s.conditions ++ event_lines pod)))

-- the text of a session's state, with the procedures' names and the lines that each client posts; the session's trace is
-- read to its end, or not
abbrev pub state_text : Bool → List (List ℕ) → List ClientLines → Snapshot → List ℕ
state_text whole procs clients snap = let s = state_in snap.pod.state in
    whole_line snap.calls s
    ++ (pod_lines procs snap.threads snap.pod
    ++ (client_lines snap.taken 0 clients
    ++ (flat_map cycle_line (cycles s) ++ end_line whole (events_in snap.pod) snap.taken clients)))
