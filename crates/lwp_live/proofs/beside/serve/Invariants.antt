use Rattle.lwp_live.proofs.Noting.{after_takes}
use Rattle.lwp_live.proofs.beside.serve.Given as goal
use Rattle.lwp_live.specs.Answers.{told_in}
use Rattle.lwp_live.specs.Telling.{AreNotes, steps_of}
use Rattle.std.proofs.Common.{drop, length, take, ◌≡◌, ◌≤◌}

abbrev pub invariant-loop-i : goal.invariant-loop-i
invariant-loop-i g l = AreNotes l.notes (after_takes (drop l.before (take l.i l.run.takes))
    (told_in (steps_of g.B.Body.next g.P.Program.bodies l.fn.run)).known)
    × (l.before ≡ length l.fn.run.takes)
    × (l.before ≤ l.i)
