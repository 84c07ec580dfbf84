use Rattle.std.proofs.Common.{ap, refl}
use Rattle.replay.specs.Walk.{Moment}
use Rattle.lwp_state.specs.Along.{moment_at}
use Rattle.lwp_state.proofs.PlanLaws.{goes-on-from}
use Rattle.lwp_state.proofs.ReplayLaws.{on-way}
use Rattle.lwp_state.proofs.replaying.run_to.Goals as goal

pub go_to-requires : goal.go_to-requires
go_to-requires c = λ k.
    ((refl, tt), (c.requires.some, on-way c.args.script.now (moment_at c.args.takes.now c.args.reach) c.in_ok-run.run' c.in_ok-run.ensures c.requires.due))

pub returns-in-Ok-clause-plays : goal.returns-in-Ok-clause-plays
returns-in-Ok-clause-plays c = goes-on-from c.args.script.now c.args.reach.calls c.in_ok-run.run' c.go_to.new.run c.in_ok-run.ensures c.in-Ok.ensures.same

pub returns-in-Ok-clause-takes : goal.returns-in-Ok-clause-takes
returns-in-Ok-clause-takes c = ap (λ (m : Moment). m.takes) c.in-Ok.ensures.there

pub returns-in-Ok-clause-calls : goal.returns-in-Ok-clause-calls
returns-in-Ok-clause-calls c = ap (λ (m : Moment). m.calls) c.in-Ok.ensures.there
