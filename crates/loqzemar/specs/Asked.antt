-- What is asked of a handle, and why it is refused.
use Rattle.c_pods.specs.Effects.{effect_ids, effect_record, effect_text, no_effect}
use Rattle.c_pods.specs.Follow.{counted, follow_from}
use Rattle.c_pods.specs.Held.{lines_of}
use Rattle.c_pods.specs.Origins.{entries_after}
use Rattle.c_pods.specs.declared.effects.EffectRecord.{EffectRecord}
use Rattle.c_pods.specs.declared.following.Followed.{Followed}
use Rattle.c_pods.specs.declared.held_pod.HeldPod.{HeldPod}
use Rattle.c_pods.specs.declared.origins.Began.{Began}
use Rattle.loqzemar.specs.Status.{bad_call, bad_text, differs, done, no_pod, no_such_effect, nobody, not_armed, too_small}
use Rattle.lwp_types.specs.declared.call.Call.{Call}
use Rattle.lwp_types.specs.declared.call.Effect.{Effect}
use Rattle.lwp_types.specs.declared.call.PodEnd.{PodEnd}
use Rattle.lwp_types.specs.declared.call.PodEnd.TheVariants.{Ended, Idle}
use Rattle.pod_events.specs.Events.{EventState, is_takeable}
use Rattle.pod_events.specs.Machine.{current_of, ending_of}
use Rattle.std.specs.Prelude.{Bool, List, None, Option, Some, [], if◌then◌else◌, length, nat_lt, option_map, slice_get, ℕ, ◌++◌, ◌==◌, ◌||◌, ◌∷◌, ◌≡◌}

-- the pod in a handle, with the events that it keeps for itself
abbrev pub pod_in : Option HeldPod → Option EventState
pod_in held = option_map (λ h. h.pod) held

-- which procedure each of its threads began in, and how many calls were made
abbrev pub counts_in : Option HeldPod → Option (List Began × ℕ)
counts_in held = option_map (λ h. (h.origins.entries, h.calls)) held

-- after a call a thread that it made has its procedure, and one call more was made
abbrev pub HasCalled : Call → HeldPod → HeldPod → Type 0
HasCalled c held new = (new.origins.entries ≡ entries_after c new.effects new.pod.state held.origins.entries)
    × (new.calls ≡ counted held.calls)

-- a pod, with a name for the next procedure
abbrev pub with_name : List ℕ → HeldPod → HeldPod
with_name name held = record held { names = held.names ++ name ∷ [] }

-- no pod can be made with these numbers
abbrev pub is_out_of_range : ℕ → ℕ → ℕ → Bool
is_out_of_range maxpri births procs =
    ((((maxpri == 0) || nat_lt 255 maxpri) || (births == 0)) || nat_lt 4294967295 births) || (procs == 0)

-- a question that each pod answers
abbrev pub asked : Option HeldPod → ℕ
asked None = no_pod
asked (Some held) = done

-- by whose turn it is
abbrev pub turn_status : Option ℕ → ℕ
turn_status None = nobody
turn_status (Some t) = done

-- whose turn it is is asked
abbrev pub current_status : Option HeldPod → ℕ
current_status None = no_pod
current_status (Some held) = turn_status (current_of held.pod.state)

-- a number that is told, or else the one that was there
abbrev pub told_or : ℕ → Option ℕ → ℕ
told_or old None = old
told_or old (Some n) = n

-- whose turn it is, where it is somebody's, or else the number that was there
abbrev pub current_or : ℕ → Option HeldPod → ℕ
current_or old None = old
current_or old (Some held) = told_or old (current_of held.pod.state)

-- why it is nobody's turn, as a number, and the status
abbrev pub end_numbers : Option PodEnd → ℕ × ℕ
end_numbers None = (0, 0)
end_numbers (Some (Ended status)) = (1, status)
end_numbers (Some Idle) = (2, 0)

-- those of the pod in a handle, or else the numbers that were there
abbrev pub end_numbers_or : ℕ × ℕ → Option HeldPod → ℕ × ℕ
end_numbers_or old None = old
end_numbers_or old (Some held) = end_numbers (ending_of held.pod.state)

-- whether a line of the event can be taken, or else what was there
abbrev pub armed_or : Bool → Option HeldPod → ℕ → Bool
armed_or old None event = old
armed_or old (Some held) event = is_takeable held.pod event

-- why a call isn't made, as far as that is known beforehand: the bytes are no text, the record means no call, there is
-- no pod, or it is nobody's turn
abbrev pub call_refusal : Bool → Bool → Option HeldPod → ℕ
call_refusal text call held = if text then (if call then current_status held else bad_call) else bad_text

-- a delivery, by whether a line can be taken
abbrev pub armed_status : Bool → ℕ
armed_status armed = if armed then done else not_armed

-- a line of the event, by the pod
abbrev pub line_status : Option HeldPod → ℕ → ℕ
line_status None event = no_pod
line_status (Some held) event = armed_status (is_takeable held.pod event)

-- a delivery: the text is looked at first
abbrev pub delivery_status : Bool → Option HeldPod → ℕ → ℕ
delivery_status text held event = if text then line_status held event else bad_text

-- how many effects there are, or else what was there
abbrev pub count_or : ℕ → Option HeldPod → ℕ
count_or old None = old
count_or old (Some held) = length held.effects

-- by how many bytes are told and how many there is room for
abbrev pub room_status : ℕ → ℕ → ℕ
room_status len room = if nat_lt room len then too_small else done

-- an effect is asked for, with buffers for so many bytes and numbers
abbrev pub effect_status_if : Option Effect → ℕ → ℕ → ℕ
effect_status_if None text ids = no_such_effect
effect_status_if (Some e) text ids =
    if nat_lt text (length (effect_text e)) || nat_lt ids (length (effect_ids e)) then too_small else done

-- the effect at a place
abbrev pub effect_at : Option HeldPod → ℕ → Option Effect
effect_at None at = None
effect_at (Some held) at = slice_get held.effects at

-- the status of that question
abbrev pub effect_status : Option HeldPod → ℕ → ℕ → ℕ → ℕ
effect_status None at text ids = no_pod
effect_status (Some held) at text ids = effect_status_if (slice_get held.effects at) text ids

-- the record of an effect, or the one of none
abbrev pub record_or_none : Option Effect → EffectRecord
record_or_none None = no_effect
record_or_none (Some e) = effect_record e

-- its text
abbrev pub text_or_none : Option Effect → List ℕ
text_or_none None = []
text_or_none (Some e) = effect_text e

-- its numbers
abbrev pub ids_or_none : Option Effect → List ℕ
ids_or_none None = []
ids_or_none (Some e) = effect_ids e

-- a pod but for the lines that were asked for last
abbrev pub but_lines : HeldPod → HeldPod
but_lines held = record held { lines = [] }

-- a recorded trace compared with the lines of the last step
abbrev pub followed : HeldPod → List ℕ → ℕ → ℕ → Followed
followed held trace at line = follow_from (lines_of held) trace (record { at = at; line = line })

-- by whether all lines were the trace's
abbrev pub follow_status : Bool → ℕ
follow_status same = if same then done else differs
