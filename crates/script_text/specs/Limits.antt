-- What holds of every script that is read.
use Rattle.std.specs.Prelude.{◌+◌, ◌<◌, ◌≤◌, ◌^◌, length}
use Rattle.script_text.specs.declared.script.Script.{Script}

-- what a pod can be made with: a greatest priority and a limit on births that it takes, a first procedure to start, and
-- numbers of 32 bits for all procedures and names
pub record IsWithinLimits (script : Script) : Type 0 where
  pub least_priority : 1 ≤ script.maxpri
  pub most_priority : script.maxpri ≤ 255
  pub least_births : 1 ≤ script.births
  pub most_births : script.births < 2 ^ 32
  pub some_procs : 1 ≤ length script.procs
  pub few_procs : length script.procs + length script.natives < 2 ^ 32
  pub few_threads : length script.names.threads < 2 ^ 32
  pub few_mons : length script.names.mons < 2 ^ 32
  pub few_conds : length script.names.conds < 2 ^ 32
