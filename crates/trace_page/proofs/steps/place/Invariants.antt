use Rattle.std.proofs.Common.{◌≡◌, ◌+◌, drop}
use Rattle.trace_page.specs.Scene.{place}
use Rattle.trace_page.proofs.steps.place.Given as goal

abbrev pub invariant-loop-i : goal.invariant-loop-i
invariant-loop-i l = l.i + place l.id (drop l.i l.lanes) ≡ place l.id l.lanes
