use Rattle.std.proofs.Common.{◌≡◌, drop}
use Rattle.trace_page.specs.Steps.{owner_of}
use Rattle.trace_page.proofs.steps.owner_of.Given as goal

abbrev pub invariant-loop-setting : goal.invariant-loop-setting
invariant-loop-setting l = owner_of l.reg (drop l.setting-index l.settings) ≡ owner_of l.reg l.settings
