use Rattle.std.proofs.Common.{◌≡◌, drop}
use Rattle.script_lines.specs.Reading.{fill}
use Rattle.script_lines.proofs.phrase.fill.Given as goal

abbrev pub invariant-loop-kind : goal.invariant-loop-kind
invariant-loop-kind l = fill (drop l.kind-index l.kinds) l.phrase l.left ≡ fill l.kinds l.initial.phrase l.rest
