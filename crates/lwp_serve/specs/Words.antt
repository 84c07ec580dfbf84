-- What the program's words ask for.
use Rattle.lwp_serve.specs.Answers.Answers.{IsAnswers}
use Rattle.lwp_serve.specs.Batches.Batch.{IsBatch}
use Rattle.lwp_serve.specs.Replaying.Replay.{IsReplay}
use Rattle.script_run.specs.Live.{IsLive}
use Rattle.lwp_serve.specs.Plan.Make.{IsMake}
use Rattle.script_session.specs.Outcome.{outcome_of}
use Rattle.lwp_serve.specs.Plan.Plan.{IsPlan}
use Rattle.streams.specs.Streams.{IsQuiet, Stream}
use Rattle.lwp_serve.specs.declared.command.Command.{Command}
use Rattle.lwp_serve.specs.declared.command.Command.TheVariants as command
use Rattle.script_session.specs.declared.session.Session.{Session}
use Rattle.script_session.specs.declared.session.SessionEnd.TheVariants as end
use Rattle.lwp_serve.specs.Maker.Order.{IsAllowed, order_at}
use Rattle.script_lines.specs.Words.{number_at}
use Rattle.std.specs.Prelude.{Bool, List, None, Option, Some, [], bytes_eq, codes, if◌then◌else◌, nat_le, option_map, ℕ, ◌&&◌, ◌∷◌, ◌≡◌, ◌≤◌}

-- how many calls a plan, a run or a replay allows, where nobody says so
abbrev pub default_turns : ℕ
default_turns = 100000

-- a number of calls that a plan, a run or a replay may allow
abbrev pub is_allowed : ℕ → Bool
is_allowed n = nat_le 1 n && nat_le n 1000000

-- the calls allowed, by the number that a word writes, if it writes one
abbrev pub turns_by : Option ℕ → Option ℕ
turns_by None = None
turns_by (Some n) = if is_allowed n then Some n else None

-- the calls that a word allows, if it writes such a number
abbrev pub turns_of : List ℕ → Option ℕ
turns_of word = turns_by (number_at word)

-- the word of a run
abbrev pub is_run : List ℕ → Bool
is_run word = bytes_eq word (codes "run")

-- the word of a plan
abbrev pub is_plan : List ℕ → Bool
is_plan word = bytes_eq word (codes "plan")

-- the word of a replay
abbrev pub is_replay : List ℕ → Bool
is_replay word = bytes_eq word (codes "replay")

-- the word of what is made
abbrev pub is_make : List ℕ → Bool
is_make word = bytes_eq word (codes "make")

-- the word of many scripts
abbrev pub is_batch : List ℕ → Bool
is_batch word = bytes_eq word (codes "batch")

-- the word of one client
abbrev pub is_answers : List ℕ → Bool
is_answers word = bytes_eq word (codes "answers")

-- a client, by the number that a word writes, if it writes one
abbrev pub client_by : Option ℕ → Option ℕ
client_by None = None
client_by (Some n) = if nat_le n 15 then Some n else None

-- the client that a word names, if it writes such a number
abbrev pub client_of : List ℕ → Option ℕ
client_of word = client_by (number_at word)

-- a number of threads, by the number that a word writes, if it writes one
abbrev pub threads_by : Option ℕ → Option ℕ
threads_by None = None
threads_by (Some n) = if nat_le 1 n && nat_le n 16 then Some n else None

-- the threads that a word asks for, if it writes such a number
abbrev pub threads_of : List ℕ → Option ℕ
threads_of word = threads_by (number_at word)

-- the command of a number of threads and of a number of calls, if there are both
abbrev pub batch_by : Option ℕ → Option ℕ → Option Command
batch_by None turns = None
batch_by (Some threads) None = None
batch_by (Some threads) (Some turns) = Some (command.Batch threads turns)

-- the command of a client and of a number of calls, if there are both
abbrev pub answers_by : Option ℕ → Option ℕ → Option Command
answers_by None turns = None
answers_by (Some client) None = None
answers_by (Some client) (Some turns) = Some (command.Answers client turns)

-- the command of a word and of a number of calls: `run`, `plan` or `replay`
abbrev pub command_by : List ℕ → ℕ → Option Command
command_by word turns = if is_run word then Some (command.Run turns)
    else if is_plan word then Some (command.Plan turns)
    else if is_replay word then Some (command.Replay turns)
    else None

-- the command of a word, if there is a number of calls
abbrev pub command_if : List ℕ → Option ℕ → Option Command
command_if word None = None
command_if word (Some turns) = command_by word turns

-- the command of these words, if they are one: `run`, `plan` or `replay`, and then perhaps how many calls; or `make`,
-- and what is to be made; or `batch`, how many threads, and then perhaps how many calls; or `answers`, which client, and
-- then perhaps how many calls
abbrev pub command_of : List (List ℕ) → Option Command
command_of [] = None
command_of (word ∷ []) = command_by word default_turns
command_of (word ∷ number ∷ []) = if is_batch word then batch_by (threads_of number) (Some default_turns)
    else if is_answers word then answers_by (client_of number) (Some default_turns)
    else command_if word (turns_of number)
command_of (word ∷ threads ∷ turns ∷ []) = if is_batch word then batch_by (threads_of threads) (turns_of turns)
    else if is_answers word then answers_by (client_of threads) (turns_of turns)
    else None
command_of (word ∷ seed ∷ threads ∷ lines ∷ []) = if is_make word
    then option_map command.Make (order_at seed threads lines)
    else None
command_of (word ∷ seed ∷ threads ∷ lines ∷ other ∷ words) = None

-- what it asks for may be had
abbrev pub MayBe : Command → Type 0
MayBe (command.Run turns) = (1 ≤ turns) × (turns ≤ 1000000)
MayBe (command.Plan turns) = (1 ≤ turns) × (turns ≤ 1000000)
MayBe (command.Replay turns) = (1 ≤ turns) × (turns ≤ 1000000)
MayBe (command.Make order) = IsAllowed order.threads order.lines
MayBe (command.Batch threads turns) = ((1 ≤ threads) × (threads ≤ 16)) × ((1 ≤ turns) × (turns ≤ 1000000))
MayBe (command.Answers client turns) = (client ≤ 15) × ((1 ≤ turns) × (turns ≤ 1000000))

-- What a session of these words says: a run's, a plan's or a replay's; or that of what is made, which reads nothing; or
-- that of many scripts, whatever the number of threads; or that of one client; or else that they are no command, and
-- then nothing was read or written.
abbrev pub TopSays : Option Command → Stream → Stream → Session → Type 0
TopSays None source sink session = (session ≡ outcome_of end.Usage [] 0) × IsQuiet source × IsQuiet sink
TopSays (Some (command.Run turns)) source sink session = IsLive turns source sink session
TopSays (Some (command.Plan turns)) source sink session = IsPlan turns source sink session
TopSays (Some (command.Replay turns)) source sink session = IsReplay turns source sink session
TopSays (Some (command.Make order)) source sink session = IsQuiet source
    × IsMake order.seed order.threads order.lines sink session
TopSays (Some (command.Batch threads turns)) source sink session = IsBatch turns source sink session
TopSays (Some (command.Answers client turns)) source sink session = IsAnswers client turns source sink session
