use Rattle.keys.specs.Spelling.{number_bytes}
use Rattle.std.proofs.Common.{refl}
use Rattle.keys.proofs.laws.bytes_of_numbers.Goals as goal

pub returns-clause-small : goal.returns-clause-small
unfolding number_bytes
returns-clause-small c = refl

pub returns-clause-two : goal.returns-clause-two
unfolding number_bytes
returns-clause-two c = refl

pub returns-clause-three : goal.returns-clause-three
unfolding number_bytes
returns-clause-three c = refl

pub returns-clause-turned : goal.returns-clause-turned
unfolding number_bytes
returns-clause-turned c = refl
