use Rattle.lwp_serve.proofs.MakerLaws.RoundLaws.{past_round, rounds_round}
use Rattle.lwp_serve.proofs.maker.script.add_rounds.Goals as goal
use Rattle.std.proofs.Common.{rules}

pub loop-i-preserved : goal.loop-i-preserved
loop-i-preserved c = record {
  state = past_round c.args.seed c.args.threads c.loop-i.i c.loop-i.draws.state c.add_round.new.draws.state c.loop-i.invariant.state
      c.in_ok-add_round.ensures.draws;
  text = rounds_round c.args.seed c.args.threads c.loop-i.i c.from.result c.loop-i.draws.state c.args.out.now.items c.loop-i.out.items
      c.add_round.new.out.items c.loop-i.invariant.state c.from.ensures c.loop-i.invariant.text c.in_ok-add_round.ensures.text;
}

pub loop-i-init : goal.loop-i-init
loop-i-init c = search rules
