-- The numbers of rows and states tell them apart.
use Rattle.keys.specs.NumberLaws.{alone_is_code, also, counted_is_code, heads, lists_of, made_of, options_of, rests}
use Rattle.keys.specs.Numbers.{Always, IsCode, TellsApart, alone, bit, counted, list_numbers, pair_numbers}
use Rattle.lwp_types.specs.State.{State, ThreadRow}
use Rattle.lwp_types.specs.declared.call.ExitCall.{ExitCall}
use Rattle.lwp_types.specs.declared.call.Func.{Func}
use Rattle.lwp_types.specs.declared.call.Pattern.{Pattern}
use Rattle.lwp_types.specs.declared.rows.AgentRow.{AgentRow}
use Rattle.lwp_types.specs.declared.rows.Block.TheVariants as block
use Rattle.lwp_types.specs.declared.rows.CondRow.{CondRow}
use Rattle.lwp_types.specs.declared.rows.Letter.{Letter}
use Rattle.lwp_types.specs.declared.rows.Lock.{Lock}
use Rattle.lwp_types.specs.declared.rows.Mark.TheVariants as mark
use Rattle.lwp_types.specs.declared.rows.Request.{Request}
use Rattle.lwp_types.specs.declared.rows.TimerRow.{TimerRow}
use Rattle.lwp_types.specs.declared.rows.WaitRow.{WaitRow}
use Rattle.session_cores.specs.States.{agent_numbers, block_numbers, condition_numbers, letter_numbers, lock_numbers, mark_numbers}
use Rattle.session_cores.specs.States.{pod_numbers, request_numbers, state_numbers, thread_numbers, timer_numbers, wait_numbers}
use Rattle.session_cores.specs.WordLaws.{bit_is_code, exit_is_code, flags_is_code, func_is_code, pattern_is_code}
use Rattle.session_cores.specs.Words.{exit_numbers, func_number, pattern_numbers}
use Rattle.std.proofs.Common.{Bool, List, [], ap, arith, refl, ℕ, ◌∷◌}

-- ---- rows

block_apart : IsCode Always block_numbers
block_apart block.Not block.Not more others ha hb e = (refl, rests e)
block_apart (block.Joining t) (block.Joining u) more others ha hb e =
    let same = alone_is_code.apart t u more others tt tt (rests e) in (ap block.Joining same.0, same.1)
block_apart block.Sending block.Sending more others ha hb e = (refl, rests e)
block_apart (block.Receiving from) (block.Receiving of) more others ha hb e =
    let same = (options_of alone_is_code).apart from of more others tt tt (rests e) in (ap block.Receiving same.0, same.1)
block_apart (block.Entering m) (block.Entering n) more others ha hb e =
    let same = alone_is_code.apart m n more others tt tt (rests e) in (ap block.Entering same.0, same.1)
block_apart (block.Waiting c) (block.Waiting d) more others ha hb e =
    let same = alone_is_code.apart c d more others tt tt (rests e) in (ap block.Waiting same.0, same.1)
block_apart block.Sleeping block.Sleeping more others ha hb e = (refl, rests e)
block_apart _ _ more others ha hb e = absurd (omega (arith, heads e))

block_is_code : TellsApart block_numbers
block_is_code = record { apart = block_apart }

handler_is_code : TellsApart (λ (h : Func × (ℕ × Pattern)). func_number h.0 ∷ h.1.0 ∷ pattern_numbers h.1.1)
handler_is_code = also func_is_code (also alone_is_code pattern_is_code)

registered_is_code : TellsApart (λ (x : ℕ × ExitCall). x.0 ∷ exit_numbers x.1)
registered_is_code = also alone_is_code exit_is_code

mark_apart : IsCode Always mark_numbers
mark_apart mark.Frame mark.Frame more others ha hb e = (refl, rests e)
mark_apart (mark.Handler p f arg) (mark.Handler q g other) more others ha hb e =
    let same = handler_is_code.apart (f, (arg, p)) (g, (other, q)) more others tt tt (rests e) in
    (ap (λ h. mark.Handler h.1.1 h.0 h.1.0) same.0, same.1)
mark_apart (mark.Exit reg call) (mark.Exit other its) more others ha hb e =
    let same = registered_is_code.apart (reg, call) (other, its) more others tt tt (rests e) in (ap (λ x. mark.Exit x.0 x.1) same.0, same.1)
mark_apart _ _ more others ha hb e = absurd (omega (arith, heads e))

mark_is_code : TellsApart mark_numbers
mark_is_code = record { apart = mark_apart }

pub thread_is_code : TellsApart thread_numbers
thread_is_code =
    made_of (also (also (also alone_is_code (also alone_is_code (also bit_is_code flags_is_code))) block_is_code) (lists_of mark_is_code))
    (λ row. (((row.number, (row.priority, (row.suspended, row.flags))), row.block), row.marks))
    (λ a b e i. record {
      number = (e i).0.0.0;
      priority = (e i).0.0.1.0;
      suspended = (e i).0.0.1.1.0;
      flags = (e i).0.0.1.1.1;
      block = (e i).0.1;
      marks = (e i).1;
    })

timer_is_code : TellsApart timer_numbers
timer_is_code = made_of (also alone_is_code alone_is_code) (λ row. (row.tid, row.due)) (λ a b e i. record { tid = (e i).0; due = (e i).1 })

pub letter_is_code : TellsApart letter_numbers
letter_is_code =
    made_of (also alone_is_code (also alone_is_code (also alone_is_code (also bit_is_code counted_is_code))))
    (λ l. (l.from, (l.to, (l.room, (l.received, l.text)))))
    (λ a b e i. record { from = (e i).0; to = (e i).1.0; room = (e i).1.1.0; received = (e i).1.1.1.0; text = (e i).1.1.1.1 })

lock_is_code : TellsApart lock_numbers
lock_is_code =
    made_of (also alone_is_code (also alone_is_code alone_is_code)) (λ l. (l.mon, (l.owner, l.depth)))
    (λ a b e i. record { mon = (e i).0; owner = (e i).1.0; depth = (e i).1.1 })

request_is_code : TellsApart request_numbers
request_is_code =
    made_of (also alone_is_code (also alone_is_code alone_is_code)) (λ r. (r.mon, (r.tid, r.depth)))
    (λ a b e i. record { mon = (e i).0; tid = (e i).1.0; depth = (e i).1.1 })

condition_is_code : TellsApart condition_numbers
condition_is_code =
    made_of (also alone_is_code alone_is_code) (λ row. (row.number, row.mon)) (λ a b e i. record { number = (e i).0; mon = (e i).1 })

wait_is_code : TellsApart wait_numbers
wait_is_code =
    made_of (also alone_is_code (also alone_is_code alone_is_code)) (λ row. (row.cond, (row.tid, row.depth)))
    (λ a b e i. record { cond = (e i).0; tid = (e i).1.0; depth = (e i).1.1 })

agent_is_code : TellsApart agent_numbers
agent_is_code =
    made_of (also alone_is_code (also alone_is_code (also alone_is_code bit_is_code)))
    (λ row. (row.number, (row.event, (row.owner, row.holding))))
    (λ a b e i. record { number = (e i).0; event = (e i).1.0; owner = (e i).1.1.0; holding = (e i).1.1.1 })

-- ---- states

-- the threads, who of them waits for how long, and the messages
abbrev people : State → ((List ThreadRow × List ℕ) × List TimerRow) × List Letter
people s = (((s.threads, s.order), s.timers), s.letters)

people_is_code : TellsApart (pair_numbers (pair_numbers (pair_numbers (list_numbers thread_numbers) counted) (list_numbers timer_numbers))
    (list_numbers letter_numbers))
people_is_code = also (also (also (lists_of thread_is_code) counted_is_code) (lists_of timer_is_code)) (lists_of letter_is_code)

-- the monitors, conditions and agents
abbrev things : State → ((((List ℕ × List Lock) × List Request) × List CondRow) × List WaitRow) × List AgentRow
things s = (((((s.monitors, s.locks), s.requests), s.conditions), s.waits), s.agents)

things_is_code : TellsApart (pair_numbers (pair_numbers (pair_numbers (pair_numbers (pair_numbers counted (list_numbers lock_numbers))
    (list_numbers request_numbers)) (list_numbers condition_numbers)) (list_numbers wait_numbers)) (list_numbers agent_numbers))
things_is_code =
    also (also (also (also (also counted_is_code (lists_of lock_is_code)) (lists_of request_is_code)) (lists_of condition_is_code)) (lists_of wait_is_code))
    (lists_of agent_is_code)

-- the clock, the greatest priority, the status, and whether it has ended
abbrev clock : State → ℕ × (ℕ × (ℕ × Bool))
clock s = (s.now, (s.maxpri, (s.status, s.ended)))

clock_is_code : TellsApart (pair_numbers alone (pair_numbers alone (pair_numbers alone (λ b. bit b ∷ []))))
clock_is_code = also alone_is_code (also alone_is_code (also alone_is_code bit_is_code))

-- the counts of births, and what bounds numbers
abbrev counts : State → ℕ × (ℕ × (ℕ × (ℕ × (ℕ × (ℕ × ℕ)))))
counts s = (s.births, (s.monitor_births, (s.condition_births, (s.limit, (s.procs, (s.next_registration, s.next_pattern))))))

counts_is_code : TellsApart (pair_numbers alone (pair_numbers alone (pair_numbers alone (pair_numbers alone (pair_numbers alone
    (pair_numbers alone alone))))))
counts_is_code =
    also alone_is_code (also alone_is_code (also alone_is_code (also alone_is_code (also alone_is_code (also alone_is_code alone_is_code)))))

pub state_is_code : TellsApart state_numbers
state_is_code =
    made_of (also (also (also people_is_code things_is_code) clock_is_code) counts_is_code) (λ s. (((people s, things s), clock s), counts s))
    (λ a b e i. let p = (e i).0.0.0 in let q = (e i).0.0.1 in let r = (e i).0.1 in let n = (e i).1 in record {
      threads = p.0.0.0;
      order = p.0.0.1;
      timers = p.0.1;
      letters = p.1;
      monitors = q.0.0.0.0.0;
      locks = q.0.0.0.0.1;
      requests = q.0.0.0.1;
      conditions = q.0.0.1;
      waits = q.0.1;
      agents = q.1;
      now = r.0;
      maxpri = r.1.0;
      status = r.1.1.0;
      ended = r.1.1.1;
      births = n.0;
      monitor_births = n.1.0;
      condition_births = n.1.1.0;
      limit = n.1.1.1.0;
      procs = n.1.1.1.1.0;
      next_registration = n.1.1.1.1.1.0;
      next_pattern = n.1.1.1.1.1.1;
    })

-- a pod with the events that it keeps for itself
pub pod_is_code : TellsApart pod_numbers
pod_is_code =
    made_of (also (also (also state_is_code (lists_of bit_is_code)) (options_of alone_is_code)) counted_is_code)
    (λ es. (((es.state, es.trapped), es.pending), es.reports))
    (λ a b e i. record { state = (e i).0.0.0; trapped = (e i).0.0.1; pending = (e i).0.1; reports = (e i).1 })
