use Rattle.keys.specs.Spelling.{number_bytes}
use Rattle.std.proofs.Common.{refl}
use Rattle.session_cores.proofs.worked.bytes_of_a_letter.Goals as goal

pub returns-clause-sent : goal.returns-clause-sent
unfolding number_bytes
returns-clause-sent c = refl

pub returns-clause-received : goal.returns-clause-received
unfolding number_bytes
returns-clause-received c = refl
