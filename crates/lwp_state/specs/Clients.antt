-- What each client of a script posts.
use Rattle.event_gate.specs.Port.{of}
use Rattle.lwp_types.specs.declared.call.Line.{Line}
use Rattle.script_text.specs.Script.{lines_posted}
use Rattle.script_text.specs.declared.script.Script.{Script}
use Rattle.state_text.specs.declared.clients.ClientLines.{ClientLines}
use Rattle.std.specs.Prelude.{List, [], length, ℕ, ◌+◌, ◌∷◌}

-- of clients with these events, counted from c, each one's event and how many of these lines are its own
abbrev pub clients_from : ℕ → List ℕ → List Line → List ClientLines
clients_from c [] posts = []
clients_from c (event ∷ clients) posts =
    record { event = event; posts = length (of c posts) } ∷ clients_from (c + 1) clients posts

-- of each client its event and how many lines it posts
abbrev pub clients_of : Script → List ClientLines
clients_of script = clients_from 0 script.clients (lines_posted script)
