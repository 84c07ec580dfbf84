use Rattle.agents.proofs.Words.{IsMarked-put}
use Rattle.agents.proofs.board.Board.put.Goals as goal
use Rattle.std.proofs.Common.{arith, ◌∙◌}

pub invariant_of-self : goal.invariant_of-self
invariant_of-self c = IsMarked-put c.self.invariant c.args.event c.requires c.args.tally _
    (c.with_mark-self-inside.ensures.here (omega (arith, c.requires)) ∙ c.is_ready.ensures) c.with_mark-self-inside.ensures.others
