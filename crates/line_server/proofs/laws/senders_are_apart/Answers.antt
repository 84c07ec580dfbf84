use Rattle.line_server.proofs.ApartLaws.{apart}
use Rattle.line_server.proofs.laws.senders_are_apart.Goals as goal

pub returns : goal.returns
returns c = apart
