use Rattle.std.proofs.Common.{◌≡◌, ◌++◌, subst, arith}
use Rattle.lwp_serve.specs.Maker.Made.{past, round}
use Rattle.lwp_serve.proofs.MakerLaws.RoundLaws.{past_one, round_post}
use Rattle.lwp_serve.proofs.maker.script.add_round.Goals as goal

pub loop-client-preserved : goal.loop-client-preserved
loop-client-preserved c = record {
  state = past_one c.args.draws.now.state c.loop-client.client c.loop-client.draws.state c.add_post.new.draws.state
      c.loop-client.invariant.state c.in_ok-add_post.ensures.draws;
  text = round_post c.args.draws.now.state c.args.i c.loop-client.client c.from.result c.loop-client.draws.state c.args.out.now.items
      c.loop-client.out.items c.add_post.new.out.items c.loop-client.invariant.state c.from.ensures c.loop-client.invariant.text c.in_ok-add_post.ensures.text;
}

pub returns-clause-text : goal.returns-clause-text
returns-clause-text c =
    let all : c.loop-client.client ≡ c.args.threads = omega (arith, c.loop-client-test.false, c.loop-client.auto.client-end) in
    subst (λ n. c.loop-client.out.items ≡ c.args.out.now.items ++ round n c.args.draws.now.state c.args.i) all c.loop-client.invariant.text

pub returns-clause-draws : goal.returns-clause-draws
returns-clause-draws c =
    let all : c.loop-client.client ≡ c.args.threads = omega (arith, c.loop-client-test.false, c.loop-client.auto.client-end) in
    subst (λ n. c.loop-client.draws.state ≡ past c.args.draws.now.state n) all c.loop-client.invariant.state
