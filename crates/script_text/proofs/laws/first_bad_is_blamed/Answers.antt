use Rattle.script_text.proofs.FirstBadLaws.{blamed}
use Rattle.script_text.proofs.laws.first_bad_is_blamed.Goals as goal

pub returns : goal.returns
returns c = blamed
