use Rattle.queue_model.proofs.Casts.{server_at}
use Rattle.queue_model.proofs.hall.HallProgramActor.body_of.Goals as goal
use Rattle.std.proofs.Common.{Some, ap, arith, sym, ◌∙◌}

pub returns-in_default : goal.returns-in_default
returns-in_default c = server_at c.args.self.now c.args.proc (omega (arith, c.in_default)) c.requires ∙ ap Some (sym c.server.ensures)
