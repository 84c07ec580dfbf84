use Rattle.std.proofs.Common.{◌≡◌, ◌++◌, ◌*◌}
use Rattle.lwp_serve.specs.Maker.Made.{past, rounds}
use Rattle.lwp_serve.proofs.maker.script.add_rounds.Given as goal

abbrev pub invariant-loop-i : goal.invariant-loop-i
invariant-loop-i l = record {
  state : l.draws.state ≡ past l.seed (l.i * l.threads);
  text : l.out.items ≡ l.initial.out.items ++ rounds l.seed l.threads l.i;
}
