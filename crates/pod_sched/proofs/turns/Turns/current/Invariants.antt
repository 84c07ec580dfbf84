use Rattle.pod_sched.proofs.turns.Turns.current.Given as goal

abbrev pub ghosts-counted_anew : goal.ghosts-counted_anew
ghosts-counted_anew a = record { name = a.blank.name; parts = a.blank.parts }
