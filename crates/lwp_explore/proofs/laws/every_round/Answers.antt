use Rattle.lwp_explore.proofs.QuietLaws.{cycle_endless, endless_cycle}
use Rattle.lwp_explore.proofs.laws.every_round.Goals as goal

pub returns-clause-sound : goal.returns-clause-sound
returns-clause-sound g c world numbers procs sought rows lasts kinds are i core at cycle = cycle_endless world numbers procs sought rows lasts kinds are i core at cycle

pub returns-clause-all : goal.returns-clause-all
returns-clause-all g c world numbers procs sought rows lasts kinds are kept same distinct closed i core at endless =
    endless_cycle world numbers procs sought rows lasts kinds are kept same distinct closed i core at endless
