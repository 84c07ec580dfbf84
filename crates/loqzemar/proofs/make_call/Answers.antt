use Rattle.c_pods.specs.Held.{last_called}
use Rattle.loqzemar.proofs.Asking.{asked_of, both_of}
use Rattle.loqzemar.proofs.make_call.Goals as goal
use Rattle.loqzemar.specs.Asked.{current_status, turn_status}
use Rattle.pod_events.specs.Machine.{current_of}
use Rattle.std.proofs.Common.{◌≡◌, ap, arith, rules, sym}
use Rattle.std.specs.Prelude.{None}

pub returns-in_default-current-clause-status : goal.returns-in_default-current-clause-status
returns-in_default-current-clause-status c =
    let nobody : None ≡ current_of c.deref.result.now.pod.state = search (rules, c.current.ensures.value) in
    let told : 3 ≡ current_status c.args.handle.now.pod = asked_of current_status c.in-Some.ensures.pod c.deref.ensures (ap turn_status nobody) in
    λ done. absurd (omega (arith, told, done))

pub returns-in-Ok-clause-refused : goal.returns-in-Ok-clause-refused
returns-in-Ok-clause-refused c = λ not_done.
    asked_of current_status c.in-Some.ensures.pod c.deref.ensures (ap turn_status c.in-Some-current.ensures.value)

pub returns-in-Ok-clause-last : goal.returns-in-Ok-clause-last
returns-in-Ok-clause-last c =
    both_of (λ h n. n.last ≡ last_called h.pod c.args.call) c.in-Some.ensures.pod c.fill-2.ensures (search (rules, c.in-Ok.ensures.last))

pub returns-in-Err-clause-refused : goal.returns-in-Err-clause-refused
returns-in-Err-clause-refused c = λ not_done.
    absurd (not_done (sym (asked_of current_status c.in-Some.ensures.pod c.deref.ensures (ap turn_status c.in-Some-current.ensures.value))))
