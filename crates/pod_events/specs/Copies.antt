-- The events that a copy equals.
use Rattle.pod_events.specs.Events.{EventState}
use Rattle.snapshots.specs.Copies.{state_in}
use Rattle.snapshots.specs.declared.pod.PodCopy.{PodCopy}

-- how the pod stands
abbrev pub events_in : PodCopy → EventState
events_in copy = record {
  state = state_in copy.state;
  trapped = copy.trapped;
  pending = copy.pending;
  reports = copy.reports;
}
