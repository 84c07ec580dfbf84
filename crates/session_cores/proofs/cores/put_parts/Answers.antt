use Rattle.keys.specs.Numbers.{list_numbers}
use Rattle.pod_events.specs.Copies.{events_in}
use Rattle.session_cores.proofs.Joined.{joined}
use Rattle.session_cores.specs.Core.{mind_of}
use Rattle.session_cores.specs.CoreCode.{mind_numbers, names_numbers}
use Rattle.session_cores.specs.States.{pod_numbers}
use Rattle.std.proofs.Common.{length, map}
use Rattle.session_cores.proofs.cores.put_parts.Goals as goal

pub returns : goal.returns
returns g c =
    joined c.args.key.now (pod_numbers (events_in c.args.pod.now)) (list_numbers (mind_numbers g.B.Keyed.numbers) (map mind_of c.args.rows.now))
    (names_numbers c.args.names.now) c.args.taken.now (length c.args.taken.now) c.in_ok-put_pod.ensures c.in_ok-put_minds.ensures
    c.in_ok-put_names.ensures c.in_ok-put.ensures c.in_ok-put_all.ensures
