use Rattle.session_cores.specs.CoreLaws.{core_keys_are_code, cores_differ}
use Rattle.session_cores.proofs.laws.every_core.Goals as goal

pub returns-clause-code : goal.returns-clause-code
returns-clause-code g c = λ home. core_keys_are_code g.B.Keyed.is_of g.B.Keyed.numbers home (g.met.B.Keyed.told_apart home)

pub returns-clause-same : goal.returns-clause-same
returns-clause-same g c = cores_differ g.B.Keyed.is_of g.B.Keyed.numbers g.met.B.Keyed.told_apart
