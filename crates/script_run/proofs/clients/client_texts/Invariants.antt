use Rattle.std.proofs.Common.{map, take, ◌≡◌}
use Rattle.script_run.specs.Clients.{texts_from}
use Rattle.script_run.proofs.clients.client_texts.Given as goal
use Rattle.script_text.specs.Script.{lines_posted}

abbrev pub invariant-loop-client : goal.invariant-loop-client
invariant-loop-client l = map (λ v. v.items) l.all.items ≡ texts_from 0 (take l.client l.script.clients) (lines_posted l.script)
