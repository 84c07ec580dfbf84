use Rattle.pod_events.specs.Events.{take_event}
use Rattle.pod_runner.specs.Polls.{Rows}
use Rattle.pod_runner.specs.RunParts.{live_of}
use Rattle.pod_runner.specs.Virtual.{tick_took}
use Rattle.pod_runner.proofs.Moves.{taken_live}
use Rattle.pod_runner.proofs.Results.{on_ok}
use Rattle.pod_runner.proofs.parts.RunParts.tick.Goals as goal
use Rattle.std.proofs.Common.{ap, ◌∙◌}

pub returns : goal.returns
returns g c =
    let pod = c.args.self.now.pod in
    on_ok c.settle.result
    (λ settled calls. taken_live (g.P.Program.bodies c.args.program.now) (live_of c.args.self.now)
    (tick_took calls (live_of c.args.self.now)) c.deliver.new.self c.deliver.new.effects c.settle.new.rows.rows
    (c.deliver.ensures.after ∙ ap (λ text. (take_event pod 0 text).after) c.empty.ensures)
    (c.deliver.ensures.effects ∙ ap (λ text. (take_event pod 0 text).effects) c.empty.ensures) (ap (λ (kept : Rows _). kept.rows) settled))
    c.settle.ensures
