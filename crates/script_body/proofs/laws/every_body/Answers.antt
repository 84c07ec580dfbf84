use Rattle.script_body.specs.BodyKeyLaws.{opens, stays}
use Rattle.script_body.proofs.laws.every_body.Goals as goal

pub returns-clause-opens : goal.returns-clause-opens
returns-clause-opens c = opens

pub returns-clause-stays : goal.returns-clause-stays
returns-clause-stays c = stays
