use Rattle.loqzemar.proofs.Asking.{asked_of}
use Rattle.loqzemar.proofs.loq_current.Goals as goal
use Rattle.loqzemar.specs.Asked.{current_or, current_status, told_or, turn_status}
use Rattle.std.proofs.Common.{◌≡◌, ap, rules}

pub returns-in-Some-current-clause-status : goal.returns-in-Some-current-clause-status
returns-in-Some-current-clause-status c =
    asked_of current_status c.in-Some.ensures.pod c.deref.ensures (ap turn_status c.in-Some-current.ensures.value)

pub returns-in-Some-current-clause-turn : goal.returns-in-Some-current-clause-turn
returns-in-Some-current-clause-turn c =
    let turn : c.in-Some-current.current ≡ current_or c.args.tid.now c.args.handle.now.pod =
    asked_of (current_or c.args.tid.now) c.in-Some.ensures.pod c.deref.ensures (ap (told_or c.args.tid.now) c.in-Some-current.ensures.value) in
    search (rules, turn)

pub returns-in-None-clause-status : goal.returns-in-None-clause-status
returns-in-None-clause-status c =
    asked_of current_status c.in-Some.ensures.pod c.deref.ensures (ap turn_status c.in-None.ensures.value)

pub returns-in-None-clause-turn : goal.returns-in-None-clause-turn
returns-in-None-clause-turn c =
    asked_of (current_or c.args.tid.now) c.in-Some.ensures.pod c.deref.ensures (ap (told_or c.args.tid.now) c.in-None.ensures.value)
