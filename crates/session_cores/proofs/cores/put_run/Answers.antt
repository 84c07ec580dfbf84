use Rattle.keys.specs.Numbers.{counted, list_numbers}
use Rattle.session_cores.specs.Core.{mind_of}
use Rattle.session_cores.specs.CoreCode.{mind_numbers, names_numbers}
use Rattle.session_cores.specs.States.{pod_numbers}
use Rattle.std.proofs.Common.{map, ◌++◌, ◌∙◌}
use Rattle.session_cores.proofs.cores.put_run.Goals as goal

pub returns : goal.returns
returns g c =
    c.in_ok-put_parts.ensures
    ∙ (λ i. c.args.key.now ++ (pod_numbers (c.in_ok-pod.ensures i)
    ++ list_numbers (mind_numbers g.B.Keyed.numbers) (map mind_of (c.rows.ensures i))
    ++ names_numbers (c.names.ensures i)
    ++ counted c.args.taken.now))
