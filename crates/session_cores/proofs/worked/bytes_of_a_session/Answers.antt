use Rattle.keys.specs.Spelling.{number_bytes}
use Rattle.std.proofs.Common.{refl}
use Rattle.session_cores.proofs.worked.bytes_of_a_session.Goals as goal

pub returns : goal.returns
unfolding number_bytes
returns c = refl
