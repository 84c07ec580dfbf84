use Rattle.keys.specs.NumberLaws.{turned_apart}
use Rattle.keys.proofs.laws.turned_numbers_differ.Goals as goal

pub returns : goal.returns
returns c = turned_apart
