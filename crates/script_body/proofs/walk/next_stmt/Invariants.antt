use Rattle.std.proofs.Common.{length, ◌-◌, ◌≡◌, drop, false}
use Rattle.script_body.specs.Walk.{next_stmt}
use Rattle.script_body.proofs.walk.next_stmt.Given as goal

abbrev pub invariant-loop-place : goal.invariant-loop-place
invariant-loop-place l =
    next_stmt l.got l.stmts l.over l.place (drop l.place l.stmts) ≡ next_stmt l.got l.stmts false l.from (drop l.from l.stmts)

abbrev pub decreases-loop-place : goal.decreases-loop-place
decreases-loop-place l = length l.stmts - l.place
