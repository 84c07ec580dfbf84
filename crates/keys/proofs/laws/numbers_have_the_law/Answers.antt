use Rattle.keys.specs.NumberLaws.{alone_is_code, counted_is_code, lists_of, options_of}
use Rattle.keys.proofs.laws.numbers_have_the_law.Goals as goal

pub returns-clause-alone : goal.returns-clause-alone
returns-clause-alone c = alone_is_code.apart

pub returns-clause-counted : goal.returns-clause-counted
returns-clause-counted c = counted_is_code.apart

pub returns-clause-lists : goal.returns-clause-lists
returns-clause-lists c = (lists_of counted_is_code).apart

pub returns-clause-options : goal.returns-clause-options
returns-clause-options c = (options_of alone_is_code).apart
