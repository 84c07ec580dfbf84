use Rattle.c_pods.proofs.held_pod.HeldPod.state_text.Goals as goal
use Rattle.c_pods.specs.Standing.{text_of_state}
use Rattle.snapshots.specs.declared.session.Snapshot.{Snapshot}
use Rattle.state_text.specs.Text.{state_text}
use Rattle.std.proofs.Common.{IfOk, [], subst, true, ◌≡◌}

pub returns : goal.returns
unfolding text_of_state
returns c =
    subst (λ (snap : Snapshot). IfOk c.state_text.result (λ text. text.items ≡ state_text true c.args.self.now.names [] snap))
    c.in_ok-snap.ensures c.state_text.ensures
