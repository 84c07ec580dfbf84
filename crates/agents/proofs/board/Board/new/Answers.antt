use Rattle.agents.proofs.Words.{IsMarked-none}
use Rattle.agents.proofs.board.Board.new.Goals as goal

pub invariant_of-result : goal.invariant_of-result
invariant_of-result c = IsMarked-none _ c.no_marks.ensures
