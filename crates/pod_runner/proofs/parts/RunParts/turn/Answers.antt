use Rattle.std.proofs.Common.{◌≡◌, ◌≤◌, ◌∙◌, length, rules, sym, Some}
use Rattle.pod_events.specs.Machine.{current_of}
use Rattle.pod_runner.specs.RunParts.{live_of}
use Rattle.pod_runner.specs.Polls.{place_of}
use Rattle.pod_runner.proofs.Moves.{chosen_from, moves_none}
use Rattle.pod_runner.proofs.parts.RunParts.turn.Goals as goal

pub returns-else-i-len : goal.returns-else-i-len
returns-else-i-len g c =
    let past : length c.args.self.now.rows.rows ≤ place_of c.unwrap-tid.result c.args.self.now.rows.rows = search rules in
    let turn : current_of c.args.self.now.pod.state ≡ Some c.unwrap-tid.result = sym c.current.ensures.value ∙ c.unwrap-tid.ensures in
    let m = moves_none g.B.Body.next (g.P.Program.bodies c.args.program.now) c.args.names.now (live_of c.args.self.now) c.unwrap-tid.result
    c.clear-else-i-len.new.self (chosen_from c.args.self.now.pod.state c.unwrap-tid.result turn) past c.clear-else-i-len.ensures in
    record { live = m.live; effects = c.clear.ensures ∙ m.effects; lines = m.lines }
