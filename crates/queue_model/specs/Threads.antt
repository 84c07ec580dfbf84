-- The threads that create the others and that serve.
use Rattle.lwp_types.specs.declared.call.Answer.{Answer}
use Rattle.lwp_types.specs.declared.call.Answer.TheVariants as answer
use Rattle.lwp_types.specs.declared.call.Call.{Call}
use Rattle.lwp_types.specs.declared.call.Call.TheVariants as call
use Rattle.lwp_types.specs.declared.call.Flags.{Flags}
use Rattle.lwp_types.specs.declared.call.Mode.TheVariants as mode
use Rattle.queue_model.specs.Chance.{after_draw, ticks_drawn}
use Rattle.queue_model.specs.Stamps.{stamp, time_of}
use Rattle.queue_model.specs.Tallies.{capped}
use Rattle.queue_model.specs.declared.threads.Host.{Host}
use Rattle.queue_model.specs.declared.threads.Server.{Server}
use Rattle.std.specs.Prelude.{List, None, [], false, if◌then◌else◌, nat_lt, true, ℕ, ◌+◌}

-- a thread for which the pod doesn't go on
abbrev pub servant : Flags
servant = record { suspended = false; nolastrites = false; server = true }

-- the host creates the others, one of each procedure in turn; then it waits for the desk's word, and returns
abbrev pub host_next : Host → Call × Host
host_next host = if nat_lt host.created host.crew
    then (call.Create (host.created + 1) 1 servant, record host { created = host.created + 1 })
    else (if host.done then (call.Return, host) else (call.Recv None mode.Block, record host { done = true }))

-- what the desk says to the host once the last customer was served
abbrev pub word_to_host : List ℕ → Call
word_to_host text = call.Send 0 0 text

-- a service begins now
abbrev pub serves : ℕ → Server → Call × Server
serves now server = (
  call.Sleep (ticks_drawn server.services),
  record server {
    services = after_draw server.services;
    end = capped now (ticks_drawn server.services);
    serves = true;
  },
)

-- a server tells the desk when it has ended; at first it says nothing
abbrev pub asks : Server → Call × Server
asks server = (call.Send 1 240 (if server.serves then stamp server.end else []), server)

abbrev pub server_next : Server → Answer → Call × Server
server_next server (answer.Reply text) = serves (time_of text) server
server_next server _ = asks server
