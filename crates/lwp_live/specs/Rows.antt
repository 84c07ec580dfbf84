-- An input and some steps, to be worked out by hand.
use Rattle.lwp_live.specs.Input.{Standing}
use Rattle.lwp_live.specs.declared.arrival.Arrival.{Arrival}
use Rattle.lwp_types.specs.declared.call.Answer.TheVariants as answer
use Rattle.lwp_types.specs.declared.call.Call.TheVariants as call
use Rattle.lwp_types.specs.declared.call.Effect.{Effect}
use Rattle.lwp_types.specs.declared.call.Effect.TheVariants as effect
use Rattle.lwp_types.specs.declared.call.LwpErr.TheVariants as error
use Rattle.pod_runner.specs.Session.{Made}
use Rattle.script_text.specs.declared.script.Script.{Script}
use Rattle.script_text.specs.Meaning.{empty_names}
use Rattle.std.specs.Prelude.{List, None, Some, [], codes, pos, replicate, ℕ, ◌++◌, ◌∷◌}

-- ---- an input

-- two clients, of which the second has posted all that it may but one line
abbrev pub two_clients : Standing
two_clients = record { counts = 0 ∷ 19999 ∷ []; size = 100; lines = 0 }

-- posts with a text and without one, and with more than one space; no client, no number, a zero too many; a byte that isn't
-- printable; one line too many; and a last line without an end
abbrev pub some_input : List ℕ
some_input = codes "0 put k v\n1\n2 x\nhello\n00 x\n0  a \n0 x" ++ (9 ∷ (codes "\n1 y\n\n0 " ++ codes "end"))

abbrev pub some_posts : List Arrival
some_posts = record { client = 0; text = codes "put k v" } ∷ record { client = 1; text = [] }
    ∷ record { client = 0; text = codes " a " } ∷ record { client = 0; text = codes "end" } ∷ []

abbrev pub some_complaints : List ℕ
some_complaints = codes "lwplive: line 3: no such client\nlwplive: line 4: no such client\nlwplive: line 5: no such client\n"
    ++ codes "lwplive: line 7: a byte outside 0x20 to 0x7e\nlwplive: line 8: beyond a limit of scripts\nlwplive: line 9: no such client\n"

-- 240 bytes are a text, and 241 are none
abbrev pub long_line : ℕ → List ℕ
long_line n = codes "0 " ++ replicate n 97

-- ---- some steps

-- a call of thread 0, and its answer
abbrev pub calls : List Effect → Made
calls effects = record { take = None; effects = effects }

-- a line of a client is taken for event 5, and agent 3 has it
abbrev pub takes : ℕ → Made
takes c = record {
  take = Some (record { turn = 0; event = 5; line = record { client = c; seq = 0; text = [] } });
  effects = effect.Delivered 3 5 ∷ [];
}

-- An agent is made. A line of client 1 is replied to; a reply to a thread that is no agent tells nobody; the reply to a
-- line of client 0 is refused first, and then accepted.
abbrev pub some_steps : List Made
some_steps = calls (effect.Called 0 (call.Agent 5) ∷ effect.Answered 0 (answer.Thread 3) ∷ [])
    ∷ takes 1
    ∷ calls (effect.Called 0 (call.Reply 3 (codes "x y")) ∷ effect.Answered 3 (answer.Reply (codes "x y"))
    ∷ effect.Answered 0 (answer.Value (pos 0)) ∷ [])
    ∷ calls (effect.Called 0 (call.Reply 2 (codes "z")) ∷ effect.Answered 0 (answer.Value (pos 0)) ∷ [])
    ∷ takes 0
    ∷ calls (effect.Called 0 (call.Reply 3 (codes "no")) ∷ effect.Answered 0 (answer.Refused error.NonExist) ∷ [])
    ∷ calls (effect.Called 0 (call.Reply 3 []) ∷ effect.Answered 0 (answer.Value (pos 0)) ∷ [])
    ∷ []

-- ---- a script

-- one that has a client with a line
abbrev pub small_script : Script
small_script = record {
  maxpri = 1;
  births = 10;
  clients = 3 ∷ 4 ∷ [];
  natives = [];
  procs = [];
  posts = record { client = 1; seq = 0; text = 0 } ∷ [];
  names = empty_names;
  texts = codes "b" ∷ [];
}
