use Rattle.script_printer.proofs.PrintLaws.{prints_back}
use Rattle.script_printer.proofs.laws.printed_is_spelt.Goals as goal

pub returns : goal.returns
returns c = λ s text h. prints_back s text h
