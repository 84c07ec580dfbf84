use Rattle.std.proofs.Common.{◌≡◌, drop}
use Rattle.trace_page.specs.Frame.{procedure_of}
use Rattle.trace_page.proofs.frame.procedure_of.Given as goal

abbrev pub invariant-loop-naming : goal.invariant-loop-naming
invariant-loop-naming l = procedure_of l.id (drop l.naming-index l.namings) ≡ procedure_of l.id l.namings
