-- What holds of the lines that the clients of a script post.
use Rattle.event_gate.specs.Port.{IsNumbered, of}
use Rattle.script_text.specs.Script.{lines_posted}
use Rattle.script_text.specs.declared.script.Script.{Script}
use Rattle.std.specs.Prelude.{All, length, ℕ, ◌<◌, ◌≤◌}

-- There are 16 clients at most, each with an event from 0, the clock, to 31. Each line is of one of them, and those of
-- one are numbered from 0, and are 20,000 at most; all lines are no more than 32 bits can count.
pub record IsPosted (script : Script) : Type 0 where
  pub most : length script.clients ≤ 16
  pub events : All (λ e. e ≤ 31) script.clients
  pub clients : All (λ line. line.client < length script.clients) (lines_posted script)
  pub numbered : (c : ℕ) → IsNumbered 0 (of c (lines_posted script))
  pub each : (c : ℕ) → length (of c (lines_posted script)) ≤ 20000
  pub few : length (lines_posted script) < 4294967296
