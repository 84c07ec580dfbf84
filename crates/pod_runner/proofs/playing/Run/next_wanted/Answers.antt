use Rattle.std.proofs.Common.{◌≡◌, false, subst}
use Rattle.std.specs.Prelude.{IfNone, IfSome}
use Rattle.std.specs.Slice.Scan.{HoldsNowhere, IsFirstPlace}
use Rattle.pod_events.specs.Events.{is_takeable}
use Rattle.pod_runner.specs.Session.{Live}
use Rattle.pod_runner.proofs.playing.Run.next_wanted.Goals as goal

pub returns-clause-none : goal.returns-clause-none
returns-clause-none g c =
    let sound : c.self.inside.failed ≡ false = rw (← c.self.view_is) at c.requires in
    rw (← c.self.view_is) (subst (λ (live : Live _). IfNone c.next_wanted.result (HoldsNowhere (is_takeable live.pod) c.args.from 32))
    (c.self.invariant.now sound) c.next_wanted.ensures.none)

pub returns-clause-first : goal.returns-clause-first
returns-clause-first g c =
    let sound : c.self.inside.failed ≡ false = rw (← c.self.view_is) at c.requires in
    rw (← c.self.view_is) (subst (λ (live : Live _). IfSome c.next_wanted.result
    (λ event. IsFirstPlace (is_takeable live.pod) c.args.from 32 event)) (c.self.invariant.now sound) c.next_wanted.ensures.first)
