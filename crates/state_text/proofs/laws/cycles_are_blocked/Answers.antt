use Rattle.state_text.proofs.Blocked.{all_blocked}
use Rattle.std.proofs.Common.{length}
use Rattle.state_text.proofs.laws.cycles_are_blocked.Goals as goal

pub returns : goal.returns
returns c = λ s t cycle is. all_blocked s t (length s.threads) t cycle is
