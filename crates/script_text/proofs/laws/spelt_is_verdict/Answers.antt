use Rattle.script_text.proofs.ScriptLaws.{is_verdict, spelt_from}
use Rattle.script_text.proofs.laws.spelt_is_verdict.Goals as goal

pub returns : goal.returns
returns c = λ text s. (is_verdict text s, spelt_from text s)
