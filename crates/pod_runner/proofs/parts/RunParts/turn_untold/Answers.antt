use Rattle.std.proofs.Common.{◌≡◌, ◌≤◌, ◌∙◌, [], length, refl, rules, sym, Some}
use Rattle.pod_events.specs.Machine.{current_of}
use Rattle.pod_runner.specs.RunParts.{live_of}
use Rattle.pod_runner.specs.Polls.{place_of}
use Rattle.pod_runner.proofs.Moves.{chosen_from, moves_none}
use Rattle.pod_runner.proofs.parts.RunParts.turn_untold.Goals as goal

pub returns-else-i-len : goal.returns-else-i-len
returns-else-i-len g c =
    let past : length c.args.self.now.rows.rows ≤ place_of c.unwrap-tid.result c.args.self.now.rows.rows = search rules in
    let turn : current_of c.args.self.now.pod.state ≡ Some c.unwrap-tid.result = sym c.current.ensures.value ∙ c.unwrap-tid.ensures in
    (moves_none g.B.Body.next (g.P.Program.bodies c.args.program.now) [] (live_of c.args.self.now) c.unwrap-tid.result []
    (chosen_from c.args.self.now.pod.state c.unwrap-tid.result turn) past refl).live
