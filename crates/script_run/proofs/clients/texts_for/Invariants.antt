use Rattle.std.proofs.Common.{map, take, ◌≡◌}
use Rattle.script_run.specs.Clients.{texts_for}
use Rattle.script_run.proofs.clients.texts_for.Given as goal
use Rattle.script_text.specs.Script.{line_of}

abbrev pub invariant-loop-post : goal.invariant-loop-post
invariant-loop-post l = l.texts.items ≡ texts_for l.client (map (line_of l.script.texts) (take l.post-index l.post-items))
