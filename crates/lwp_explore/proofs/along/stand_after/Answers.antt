use Rattle.lwp_explore.proofs.along.stand_after.Goals as goal
use Rattle.lwp_explore.specs.Along.{IsAlong}
use Rattle.lwp_explore.specs.Cores.{after}
use Rattle.lwp_explore.specs.Sessions.{world_of}
use Rattle.lwp_explore.specs.Standing.{Standing, core_now}
use Rattle.search.specs.Moves.{walk}
use Rattle.std.proofs.Common.{ap, subst, sym, ◌∙◌}
use Rattle.std.specs.Prelude.{IsSome}

pub go_along-requires-clause-sound : goal.go_along-requires-clause-sound
go_along-requires-clause-sound c = ap (λ (s : Standing). s.failed) c.in_ok-here.ensures ∙ c.requires.sound

pub go_along-requires-clause-leads : goal.go_along-requires-clause-leads
go_along-requires-clause-leads c =
    subst (λ (s : Standing). IsSome (walk (after (world_of s.script)) (core_now s) c.args.path.now)) (sym c.in_ok-here.ensures) c.requires.leads

pub returns : goal.returns
returns c = subst (λ (s : Standing). IsAlong s c.args.path.now c.go_along.new.machine) c.in_ok-here.ensures c.in_ok-go_along.ensures.along
