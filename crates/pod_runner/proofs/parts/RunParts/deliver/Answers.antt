use Rattle.pod_runner.specs.Polls.{Rows}
use Rattle.std.proofs.Common.{ap, ◌∙◌}
use Rattle.pod_events.specs.Events.{take_event}
use Rattle.pod_runner.specs.RunParts.{live_of}
use Rattle.pod_runner.proofs.Moves.{taken_moves}
use Rattle.pod_runner.proofs.Results.{on_ok}
use Rattle.pod_runner.proofs.parts.RunParts.deliver.Goals as goal

pub returns : goal.returns
returns g c =
    let pod = c.args.self.now.pod in
    let event = c.args.took.now.event in
    on_ok c.settle.result
    (λ settled. taken_moves (g.P.Program.bodies c.args.program.now) c.args.names.now (live_of c.args.self.now) c.args.took.now
    c.deliver.new.self c.deliver.new.effects c.settle.new.rows.rows c.set_step.new.self
    (c.deliver.ensures.after ∙ ap (λ text. (take_event pod event text).after) c.again.ensures)
    (c.deliver.ensures.effects ∙ ap (λ text. (take_event pod event text).effects) c.again.ensures)
    (ap (λ (kept : Rows _). kept.rows) settled) c.in_ok-set_step.ensures)
    c.settle.ensures
