use Rattle.keys.specs.NumberLaws.{counted_is_code}
use Rattle.keys.specs.Numbers.{Always, counted}
use Rattle.keys.specs.SpellingLaws.{spelt_is_code, spelt_same}
use Rattle.keys.proofs.laws.bytes_have_the_law.Goals as goal

pub returns-clause-same : goal.returns-clause-same
returns-clause-same c = spelt_same

pub returns-clause-counted : goal.returns-clause-counted
returns-clause-counted c = spelt_is_code Always counted counted_is_code.apart
