use Rattle.std.proofs.Common.{◌≡◌, ◌++◌}
use Rattle.lwp_serve.specs.Maker.Made.{past, round}
use Rattle.lwp_serve.proofs.maker.script.add_round.Given as goal

abbrev pub invariant-loop-client : goal.invariant-loop-client
invariant-loop-client l = record {
  state : l.draws.state ≡ past l.initial.draws.state l.client;
  text : l.out.items ≡ l.initial.out.items ++ round l.client l.initial.draws.state l.i;
}
