-- A small session, whose bytes were worked out by hand.
use Rattle.lwp_types.specs.State.{opening}
use Rattle.lwp_types.specs.declared.call.Answer.TheVariants as answer
use Rattle.lwp_types.specs.declared.call.Call.TheVariants as call
use Rattle.pod_events.specs.Events.{EventState, quiet_events}
use Rattle.pod_runner.specs.Session.{Live}
use Rattle.pod_runner.specs.declared.session.Row.{Row}
use Rattle.lwp_types.specs.declared.rows.Letter.{Letter}
use Rattle.std.specs.Prelude.{Bool, List, [], codes, pos, true, ℕ, ◌∷◌}

-- thread 0 as it begins, where its body is a number, and it is polled with this
abbrev pub first_row : ℕ → List (Row ℕ)
first_row body = record { tid = 0; proc = 0; body = body; answer = answer.Value (pos 0); called = true; call = call.Me } ∷ []

-- a pod of greatest priority 2, with at most 100 births and 3 procedures, as it is made, but that 300 is the next pattern
abbrev pub small_pod : EventState
small_pod = quiet_events (record (opening (record { maxpri = 2; births = 100; procs = 3 })) { next_pattern = 300 })

-- that pod with thread 0, while thread 0 is polled; there is one name of a thread, which means thread 300
abbrev pub small_live : Live ℕ
small_live = record {
  pod = small_pod;
  rows = first_row 7;
  names = record { me = 0; threads = 300 ∷ []; monitors = []; conditions = [] };
}

-- a letter of "hi" from thread 1 to thread 0, which takes a reply of 240 bytes
abbrev pub letter : Bool → Letter
letter received = record { from = 1; to = 0; text = codes "hi"; room = 240; received = received }
