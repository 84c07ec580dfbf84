-- What is simulated, and what is written of it.
use Rattle.lwp_types.specs.Names.{null_names}
use Rattle.lwp_types.specs.declared.call.PodParams.{PodParams}
use Rattle.pod_runner.specs.Virtual.{Timed, body_of, live_now}
use Rattle.pod_runner.specs.declared.phase.Phase.{Phase}
use Rattle.pod_runner.specs.declared.phase.Phase.TheVariants as phase
use Rattle.queue.specs.Report.{picture, results}
use Rattle.queue_model.specs.Actors.{actor_next, cast}
use Rattle.queue_model.specs.declared.actor.Actor.{Actor}
use Rattle.queue_model.specs.declared.actor.Actor.TheVariants as actors
use Rattle.queue_model.specs.declared.hall.Hall.{Hall}
use Rattle.std.specs.Prelude.{Bool, List, None, Option, Some, [], false, if◌then◌else◌, true, ℕ, ◌+◌}

-- the pod has a procedure for each thread
abbrev pub params_of : Hall → PodParams
params_of hall = record { maxpri = 1; births = 100000; procs = 2 + hall.servers }

-- before its first call; more calls are allowed than any session makes until the clock stops
abbrev pub opening_run : Hall → Timed Hall
opening_run hall = record {
  program = hall;
  params = params_of hall;
  names = null_names 0 0 0;
  turns = 4611686018427387904;
  calls = 0;
  failed = false;
}

-- the pod has ended, whatever its status
abbrev pub has_ended : Phase → Bool
has_ended (phase.Ended status) = true
has_ended phase.Turn = false
has_ended phase.Spent = false
has_ended phase.Idle = false

-- what is written of a thread: of the desk, its results as a text or as a picture
abbrev pub told_of : Bool → ℕ → ℕ → Actor → List ℕ
told_of draws servers ticks (actors.Hosting host) = []
told_of draws servers ticks (actors.Keeping desk) =
    if draws then picture desk.tally else results desk.tally servers ticks
told_of draws servers ticks (actors.Serving server) = []

-- if it lives
abbrev pub told_if : Bool → ℕ → ℕ → Option Actor → List ℕ
told_if draws servers ticks None = []
told_if draws servers ticks (Some actor) = told_of draws servers ticks actor

-- what is written of a run as it stands now, which is what is written of its second thread
abbrev pub told : Bool → ℕ → Timed Hall → List ℕ
told draws servers run = let live = live_now actor_next cast run in
    told_if draws servers live.pod.state.now (body_of 1 live)
