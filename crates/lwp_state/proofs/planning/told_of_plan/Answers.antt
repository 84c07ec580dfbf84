use Rattle.lwp_state.specs.Shown.{IsStateOf}
use Rattle.lwp_serve.specs.Plan.Planned.{calls_of, takes_of}
use Rattle.std.proofs.Common.{subst, sym, ℕ}
use Rattle.std.specs.Prelude.{IfOk}
use Rattle.lwp_state.proofs.planning.told_of_plan.Goals as goal

pub returns-clause-state : goal.returns-clause-state
returns-clause-state c = rw (sym c.in_ok-played.ensures.takes, sym c.in_ok-played.ensures.calls) c.told_of_state.ensures.state
