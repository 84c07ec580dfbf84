use Rattle.lwp_calls.proofs.pod.carry_out.Goals as goal
use Rattle.std.proofs.Common.{sym}
use Rattle.std.proofs.lemmas.Bool.{false≢true}

pub returns-in-Threads : goal.returns-in-Threads
returns-in-Threads c = rw (sym c.in-Threads.ensures)
    (record { ok = c.carry_out.ensures.ok; most = c.carry_out.ensures.most; err = c.carry_out.ensures.err; memory = c.carry_out.ensures.memory })

pub returns-in-Turns : goal.returns-in-Turns
returns-in-Turns c = rw (sym c.in-Turns.ensures)
    (record { ok = c.carry_out-in-Turns.ensures.told; most = c.carry_out-in-Turns.ensures.most; err = tt; memory = λ e. absurd (false≢true e) })

pub returns-in-Pod : goal.returns-in-Pod
returns-in-Pod c = rw (sym c.in-Pod.ensures)
    (record { ok = c.carry_out-in-Pod.ensures.told; most = c.carry_out-in-Pod.ensures.most; err = tt; memory = λ e. absurd (false≢true e) })

pub returns-in-Messages : goal.returns-in-Messages
returns-in-Messages c = rw (sym c.in-Messages.ensures) (record {
  ok = c.carry_out-in-Messages.ensures.ok;
  most = c.carry_out-in-Messages.ensures.most;
  err = c.carry_out-in-Messages.ensures.err;
  memory = c.carry_out-in-Messages.ensures.memory;
})

pub returns-in-Monitors : goal.returns-in-Monitors
returns-in-Monitors c = rw (sym c.in-Monitors.ensures) (record {
  ok = c.carry_out-in-Monitors.ensures.ok;
  most = c.carry_out-in-Monitors.ensures.most;
  err = c.carry_out-in-Monitors.ensures.err;
  memory = c.carry_out-in-Monitors.ensures.memory;
})

pub returns-in-Conditions : goal.returns-in-Conditions
returns-in-Conditions c = rw (sym c.in-Conditions.ensures) (record {
  ok = c.carry_out-in-Conditions.ensures.ok;
  most = c.carry_out-in-Conditions.ensures.most;
  err = c.carry_out-in-Conditions.ensures.err;
  memory = c.carry_out-in-Conditions.ensures.memory;
})

pub returns-in-Exceptions : goal.returns-in-Exceptions
returns-in-Exceptions c = rw (sym c.in-Exceptions.ensures) (record {
  ok = c.carry_out-in-Exceptions.ensures.ok;
  most = c.carry_out-in-Exceptions.ensures.most;
  err = c.carry_out-in-Exceptions.ensures.err;
  memory = c.carry_out-in-Exceptions.ensures.memory;
})

pub returns-in-Agents : goal.returns-in-Agents
returns-in-Agents c = rw (sym c.in-Agents.ensures) (record {
  ok = c.carry_out-in-Agents.ensures.ok;
  most = c.carry_out-in-Agents.ensures.most;
  err = c.carry_out-in-Agents.ensures.err;
  memory = c.carry_out-in-Agents.ensures.memory;
})
