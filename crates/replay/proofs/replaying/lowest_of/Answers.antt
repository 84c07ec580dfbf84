use Rattle.std.proofs.Common.{ap, arith, length, option_map, sym, ◌∙◌}
use Rattle.replay.specs.Next.{take_in}
use Rattle.replay.proofs.GivenLaws.{in-clients-none, in-clients-some}
use Rattle.replay.proofs.replaying.lowest_of.Goals as goal

pub returns-in-Some : goal.returns-in-Some
returns-in-Some g c = sym (in-clients-some (take_in (g.C.Posted.lines c.args.lines.now) c.args.ticks c.args.event) c.loop-client.client
    (length (g.C.Posted.lines c.args.lines.now).clients) c.in-Some.line.items
    (omega (arith, c.loop-client-test.true, c.clients-client-end.ensures)) c.loop-client.invariant
    (sym c.in_ok-line.ensures ∙ ap (option_map (λ v. v.items)) c.in-Some.is))

pub returns : goal.returns
returns g c = sym (in-clients-none (take_in (g.C.Posted.lines c.args.lines.now) c.args.ticks c.args.event) c.loop-client.client
    (length (g.C.Posted.lines c.args.lines.now).clients)
    (omega (arith, c.loop-client-test.false, c.clients-client-end.ensures)) c.loop-client.invariant)
