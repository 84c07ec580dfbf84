use Rattle.queue_model.proofs.Casts.{name_at}
use Rattle.queue_model.proofs.hall.HallProgramActor.proc_name.Goals as goal
use Rattle.std.proofs.Common.{arith}

pub returns-in_default-clause-same : goal.returns-in_default-clause-same
returns-in_default-clause-same c = name_at c.args.self.now c.args.proc (omega (arith, c.in_default)) c.requires
