use Rattle.loqzemar.proofs.Asking.{asked_of}
use Rattle.loqzemar.proofs.loq_ending.Goals as goal
use Rattle.loqzemar.specs.Asked.{end_numbers, end_numbers_or}
use Rattle.lwp_types.specs.declared.call.PodEnd.TheVariants.{Idle}
use Rattle.pod_events.specs.Machine.{ending_of}
use Rattle.std.proofs.Common.{◌≡◌, ap, rules}
use Rattle.std.specs.Prelude.{Some}

pub returns-in-None-clause-ending : goal.returns-in-None-clause-ending
returns-in-None-clause-ending c =
    asked_of (end_numbers_or (c.args.why.now, c.args.status.now)) c.in-Some.ensures.pod c.deref.ensures (ap end_numbers c.in-None.ensures)

pub returns-in-Some-Idle-clause-ending : goal.returns-in-Some-Idle-clause-ending
returns-in-Some-Idle-clause-ending c =
    let idle : Some Idle ≡ ending_of c.deref.result.now.pod.state = search (rules, c.ending-ending.ensures) in
    asked_of (end_numbers_or (c.args.why.now, c.args.status.now)) c.in-Some.ensures.pod c.deref.ensures (ap end_numbers idle)
