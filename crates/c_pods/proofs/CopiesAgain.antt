-- A pod that a copy equals has one copy.
use Rattle.c_pods.specs.Standing.{copy_of, copy_of_row}
use Rattle.pod_events.specs.Copies.{events_in}
use Rattle.pod_events.specs.Events.{EventState}
use Rattle.snapshots.specs.Copies.{row_in}
use Rattle.snapshots.specs.declared.pod.PodCopy.{PodCopy}
use Rattle.snapshots.specs.declared.pod.StateCopy.{StateCopy}
use Rattle.snapshots.specs.declared.pod.ThreadCopy.{ThreadCopy}
use Rattle.std.proofs.Common.{List, [], ap, refl, ◌∙◌, ◌∷◌, ◌≡◌}
use Rattle.std.specs.Prelude.{map}

same_rows : (rows : List ThreadCopy) → rows ≡ map copy_of_row (map row_in rows)
same_rows [] = refl
same_rows (row ∷ rows) = ap (λ rest. row ∷ rest) (same_rows rows)

-- the copy of what a copy equals
same_copy : (copy : PodCopy) → copy ≡ copy_of (events_in copy)
same_copy copy = ap (λ rows. record copy { state = record (copy.state) { threads = rows } }) (same_rows copy.state.threads)

pub copy_is : (copy : PodCopy) (es : EventState) → events_in copy ≡ es → copy ≡ copy_of es
copy_is copy es e = same_copy copy ∙ ap copy_of e
