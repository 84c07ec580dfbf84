use Rattle.std.proofs.Common.{ap, arith, map, sym, take_all, ◌∙◌}
use Rattle.lwp_state.proofs.ClientLaws.{all-quiet, quiet, quiet-on}
use Rattle.lwp_state.proofs.clients.silent_clients.Goals as goal

pub loop-place-init : goal.loop-place-init
loop-place-init c = c.new-clients.ensures.items

pub loop-place-preserved : goal.loop-place-preserved
loop-place-preserved c = c.in_ok-push.ensures.items
    ∙ quiet-on c.args.events.now c.loop-place.place c.loop-place.clients.items c.loop-place.invariant c.loop-place-test.true

pub returns : goal.returns
returns c = c.loop-place.invariant ∙ ap (map quiet) (take_all c.loop-place.place c.args.events.now (omega (arith, c.loop-place-test.false)))
    ∙ sym (all-quiet 0 c.args.events.now)
