use Rattle.agents.proofs.KeptLemmas.{first_same, nowhere_same, ready_armed}
use Rattle.agents.proofs.agents.Agents.next_armed.Goals as goal
use Rattle.agents.specs.Board.{is_ready, tally_at}
use Rattle.lwp_types.specs.Agents.{is_armed}

pub returns-clause-none : goal.returns-clause-none
returns-clause-none c =
    let rows = c.self.inside.rows.items in
    let board = c.self.inside.board in
    rw (← c.self.view_is) (nowhere_same (λ e. is_ready (tally_at board e)) (is_armed rows) (ready_armed rows board c.self.invariant.tallied)
    c.args.from 32 c.next_ready.result c.next_ready.ensures.none)

pub returns-clause-first : goal.returns-clause-first
returns-clause-first c =
    let rows = c.self.inside.rows.items in
    let board = c.self.inside.board in
    rw (← c.self.view_is) (first_same (λ e. is_ready (tally_at board e)) (is_armed rows) (ready_armed rows board c.self.invariant.tallied)
    c.args.from 32 c.next_ready.result c.next_ready.ensures.first)
