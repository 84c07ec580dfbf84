use Rattle.script_run.proofs.Ties.{draws_keep_ties}
use Rattle.script_run.proofs.laws.draws_keep_ties.Goals as goal

pub returns : goal.returns
returns c = draws_keep_ties
