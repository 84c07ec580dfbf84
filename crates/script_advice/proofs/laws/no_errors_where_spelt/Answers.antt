use Rattle.script_advice.proofs.ErrorLaws.{fine_where_spelt}
use Rattle.script_advice.proofs.laws.no_errors_where_spelt.Goals as goal

pub returns : goal.returns
returns c = fine_where_spelt
