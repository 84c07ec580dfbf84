use Rattle.std.proofs.Common.{◌≡◌, drop}
use Rattle.script_text.specs.Track.{first_missing}
use Rattle.script_text.proofs.reader.first_missing.Given as goal

abbrev pub invariant-loop-mention : goal.invariant-loop-mention
invariant-loop-mention l = first_missing l.declared l.names (drop l.mention-index l.mentions) ≡ first_missing l.declared l.names l.mentions
