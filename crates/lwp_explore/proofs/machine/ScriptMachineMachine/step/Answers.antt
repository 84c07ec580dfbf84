use Rattle.lwp_explore.proofs.machine.ScriptMachineMachine.step.Goals as goal
use Rattle.lwp_explore.proofs.machine.ScriptMachineMachine.step.Goals.{in-None+in-Err, in-None+in-Ok, in-Some}
use Rattle.lwp_explore.specs.Searching.{script_moves}
use Rattle.lwp_explore.specs.Standing.{IsFurther}
use Rattle.std.proofs.Common.{rules}

pub returns-in-Ok-done-clause-same : goal.returns-in-Ok-done-clause-same
returns-in-Ok-done-clause-same c =
    elim c.match-self.branch [
      | in-Some w ↦ let on : IsFurther c.args.self.now c.match-self.self = search rules in (λ i. script_moves (on.script i) (on.sought i))
      | in-None+in-Ok w ↦ let on : IsFurther c.args.self.now c.match-self.self = search rules in (λ i. script_moves (on.script i) (on.sought i))
      | in-None+in-Err w ↦ let on : IsFurther c.args.self.now c.match-self.self = search rules in (λ i. script_moves (on.script i) (on.sought i))
    ]
