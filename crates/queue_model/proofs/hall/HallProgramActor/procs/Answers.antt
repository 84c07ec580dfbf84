use Rattle.queue_model.proofs.Casts.{cast_length}
use Rattle.queue_model.proofs.hall.HallProgramActor.procs.Goals as goal
use Rattle.std.proofs.Common.{arith}

pub returns : goal.returns
returns c = omega (arith, c.from.ensures, cast_length c.args.self.now)
