-- What a line makes of all that is known, and what is drawn for it.
use Rattle.lwp_types.specs.Names.{null_id}
use Rattle.lwp_types.specs.TextFields.{is_text}
use Rattle.std.specs.List.{flat_map}
use Rattle.std.specs.Prelude.{Bool, List, [], false, if◌then◌else◌, length, min, nat_lt, not, take, true, ℕ, ◌&&◌, ◌++◌, ◌+◌, ◌-◌, ◌/◌, ◌==◌, ◌^◌, ◌||◌, ◌∷◌}
use Rattle.trace_lines.specs.Words.{rest, word}
use Rattle.trace_lines.specs.declared.entry.Entry.{Entry}
use Rattle.trace_lines.specs.declared.entry.Entry.TheVariants as entry
use Rattle.trace_lines.specs.declared.entry.Gain.{Gain}
use Rattle.trace_lines.specs.declared.entry.Gain.TheVariants as gain
use Rattle.trace_lines.specs.declared.entry.Verb.{Verb}
use Rattle.trace_lines.specs.declared.entry.Verb.TheVariants as verb
use Rattle.trace_page.specs.Scene.{Seen, after_begin, after_draw, after_put, lane_of, need_of, one_more, place, together, with_lane}
use Rattle.trace_page.specs.Spans.{after_change, agent_of, bars, last_from, level_from, next_hold, top_from}
use Rattle.trace_page.specs.Waits.{awaited, deadlocks, place_awaited}
use Rattle.trace_page.specs.declared.scene.Hop.{Hop}
use Rattle.trace_page.specs.declared.scene.Kind.TheVariants as kind
use Rattle.trace_page.specs.declared.scene.Lane.{Lane}
use Rattle.trace_page.specs.declared.scene.Moment.{Moment}
use Rattle.trace_page.specs.declared.scene.Need.{Need}
use Rattle.trace_page.specs.declared.scene.Need.TheVariants as need
use Rattle.trace_page.specs.declared.scene.Setting.{Setting}
use Rattle.trace_page.specs.declared.scene.Shape.{Shape}
use Rattle.trace_page.specs.declared.scene.Shape.TheVariants as shape
use Rattle.trace_page.specs.declared.scene.Span.{Span}
use Rattle.trace_page.specs.declared.scene.Way.TheVariants as way
use Rattle.trace_page.specs.declared.spans.Change.TheVariants as change

-- a thread that acts has a lane
abbrev pub after_meet : ℕ → ℕ → ℕ → Seen → Seen
after_meet id event owner s = if nat_lt (place id s.lanes) (length s.lanes) then s else with_lane id event owner s

-- a thread does
abbrev pub after_meet_thread : ℕ → Seen → Seen
after_meet_thread id s = after_meet id 0 null_id s

-- ---- a call

-- the next call is made
abbrev pub after_count : ℕ → Seen → Seen
after_count tid s = record s { time = record { call = one_more s.time.call; late = false }; caller = tid }

-- the thread waits for the answer
abbrev pub asking : ℕ → Verb → ℕ → Bool → Seen → Seen
asking tid v target suspended s = after_put
    (record (lane_of s tid) { verb = v; target = target; suspended = suspended; since = s.time; waits = true }) s

-- a wait gives up the monitor that was acquired last
abbrev pub after_give_up : ℕ → Verb → Seen → Seen
after_give_up tid verb.Wait s =
    after_change (change.GivesUp tid (last_from null_id tid (top_from 0 tid s.spans) s.spans)) s
after_give_up tid verb.Create s = s
after_give_up tid verb.Destroy s = s
after_give_up tid verb.Suspend s = s
after_give_up tid verb.Resume s = s
after_give_up tid verb.Join s = s
after_give_up tid verb.Sleep s = s
after_give_up tid verb.Send s = s
after_give_up tid verb.Receive s = s
after_give_up tid verb.Enter s = s
after_give_up tid verb.CondEnter s = s
after_give_up tid verb.MonExit s = s
after_give_up tid verb.MonBreak s = s
after_give_up tid verb.Agent s = s
after_give_up tid verb.OnExit s = s
after_give_up tid verb.Say s = s
after_give_up tid verb.Other s = s

-- the words of the last call end before this call: each byte takes a third of the way to the next
abbrev pub room : Seen → ℕ
room s = min (s.time.call + (2 + length s.words / 3)) (2 ^ 64 - 1)

-- words are drawn where those before leave room
abbrev pub after_say : ℕ → Seen → Seen
after_say tid s = if nat_lt s.time.call (lane_of s tid).clear then s
    else after_draw (shape.Said tid s.time) (after_put (record (lane_of s tid) { clear = room s }) s)

abbrev pub after_draw_said : ℕ → Verb → Seen → Seen
after_draw_said tid verb.Say s = after_say tid s
after_draw_said tid verb.Wait s = s
after_draw_said tid verb.Create s = s
after_draw_said tid verb.Destroy s = s
after_draw_said tid verb.Suspend s = s
after_draw_said tid verb.Resume s = s
after_draw_said tid verb.Join s = s
after_draw_said tid verb.Sleep s = s
after_draw_said tid verb.Send s = s
after_draw_said tid verb.Receive s = s
after_draw_said tid verb.Enter s = s
after_draw_said tid verb.CondEnter s = s
after_draw_said tid verb.MonExit s = s
after_draw_said tid verb.MonBreak s = s
after_draw_said tid verb.Agent s = s
after_draw_said tid verb.OnExit s = s
after_draw_said tid verb.Other s = s

abbrev pub after_call : ℕ → Verb → ℕ → Bool → Seen → Seen
after_call tid v target suspended s =
    let begins = after_meet_thread tid (after_count tid s) in
    after_give_up tid v (after_draw_said tid v
    (after_draw (shape.Tick tid begins.time) (asking tid v target suspended begins)))

-- ---- an answer

-- a call that needs this may wait
abbrev pub may_wait : Need → Bool
may_wait need.Reply = true
may_wait need.Letter = true
may_wait need.Monitor = true
may_wait need.Condition = true
may_wait need.Death = true
may_wait need.Clock = true
may_wait need.Nothing = false

-- it has waited until now
abbrev pub has_waited : Lane → Moment → Bool
has_waited lane now = lane.waits && not (together lane.since now)

abbrev pub wait_shapes : Lane → Moment → List Shape
wait_shapes lane now = if has_waited lane now && may_wait (need_of lane.verb) then shape.Wait lane now ∷ [] else []

-- who has woken it, unless the clock has: not itself, and only where it has waited
abbrev pub wake_shapes : Lane → ℕ → Moment → List Shape
wake_shapes lane caller now = if has_waited lane now && not (caller == lane.id || (caller == null_id))
    then shape.Arrow way.Wake caller now lane.id now ∷ []
    else []

-- what came to it with the answer
abbrev pub arrival_shapes : Lane → Gain → Seen → List Shape
arrival_shapes lane (gain.Letter from) s = shape.Arrow way.Letter from (lane_of s from).since lane.id s.time ∷ []
arrival_shapes lane gain.Reply s = shape.Arrow way.Reply s.caller s.time lane.id s.time ∷ []
arrival_shapes lane (gain.Value n) s = wake_shapes lane s.caller s.time
arrival_shapes lane (gain.Thread n) s = wake_shapes lane s.caller s.time
arrival_shapes lane gain.Caught s = wake_shapes lane s.caller s.time
arrival_shapes lane gain.Refused s = wake_shapes lane s.caller s.time
arrival_shapes lane gain.Other s = wake_shapes lane s.caller s.time

abbrev pub after_show_answer : Lane → Gain → Seen → Seen
after_show_answer lane g s = after_draw (shape.Answer lane.id g s.time)
    (record s { shapes = s.shapes ++ (wait_shapes lane s.time ++ arrival_shapes lane g s) })

-- a new thread begins suspended
abbrev pub after_park : Bool → ℕ → Seen → Seen
after_park suspended id s = if suspended
    then after_begin (record { tid = id; kind = kind.Parked; of = null_id; since = s.time; level = 0; event = 0 }) s
    else s

-- a thread has its procedure's name
abbrev pub after_name : ℕ → Seen → Seen
after_name id s = record s { names = s.names ++ record { tid = id; name = s.words } ∷ [] }

abbrev pub after_create : Lane → Gain → Seen → Seen
after_create lane (gain.Thread u) s = after_park lane.suspended u (after_meet_thread u (after_name u s))
after_create lane (gain.Value n) s = s
after_create lane (gain.Letter n) s = s
after_create lane gain.Reply s = s
after_create lane gain.Caught s = s
after_create lane gain.Refused s = s
after_create lane gain.Other s = s

abbrev pub with_agent : Lane → Gain → Seen → Seen
with_agent lane (gain.Thread u) s = after_meet u lane.target lane.id s
with_agent lane (gain.Value n) s = s
with_agent lane (gain.Letter n) s = s
with_agent lane gain.Reply s = s
with_agent lane gain.Caught s = s
with_agent lane gain.Refused s = s
with_agent lane gain.Other s = s

abbrev pub after_set : Lane → Gain → Seen → Seen
after_set lane (gain.Value n) s = record s { settings = s.settings ++ record { reg = n; tid = lane.id } ∷ [] }
after_set lane (gain.Thread u) s = s
after_set lane (gain.Letter n) s = s
after_set lane gain.Reply s = s
after_set lane gain.Caught s = s
after_set lane gain.Refused s = s
after_set lane gain.Other s = s

-- a thread leaves a monitor once
abbrev pub after_leave : ℕ → ℕ → Seen → Seen
after_leave tid mon s = after_change (change.Leaves tid (level_from 0 tid mon s.spans)) s

-- what a call has done that was granted
abbrev pub after_grant : Lane → Verb → Gain → Seen → Seen
after_grant lane verb.Create g s = after_create lane g s
after_grant lane verb.Agent g s = with_agent lane g s
after_grant lane verb.OnExit g s = after_set lane g s
after_grant lane verb.Destroy g s = after_change (change.Dies lane.target) s
after_grant lane verb.Suspend g s = after_park true lane.target s
after_grant lane verb.Resume g s = after_change (change.Resumes lane.target) s
after_grant lane verb.Enter g s = after_begin (next_hold lane.id lane.target s) s
after_grant lane verb.CondEnter g s = after_begin (next_hold lane.id lane.target s) s
after_grant lane verb.MonExit g s = after_leave lane.id lane.target s
after_grant lane verb.MonBreak g s = after_change (change.Breaks lane.target) s
after_grant lane verb.Wait g s = after_change (change.Wakes lane.id s.time) s
after_grant lane verb.Join g s = s
after_grant lane verb.Sleep g s = s
after_grant lane verb.Send g s = s
after_grant lane verb.Receive g s = s
after_grant lane verb.Say g s = s
after_grant lane verb.Other g s = s

-- a refused wait has given nothing up
abbrev pub after_settle : Lane → Gain → Seen → Seen
after_settle lane gain.Refused s = after_change (change.Stays lane.id) s
after_settle lane (gain.Value n) s = after_grant lane lane.verb (gain.Value n) s
after_settle lane (gain.Thread n) s = after_grant lane lane.verb (gain.Thread n) s
after_settle lane (gain.Letter n) s = after_grant lane lane.verb (gain.Letter n) s
after_settle lane gain.Reply s = after_grant lane lane.verb gain.Reply s
after_settle lane gain.Caught s = after_grant lane lane.verb gain.Caught s
after_settle lane gain.Other s = after_grant lane lane.verb gain.Other s

abbrev pub after_answer : ℕ → Gain → Seen → Seen
after_answer tid g s =
    let begins = after_meet_thread tid s in
    let lane = lane_of begins tid in
    after_settle lane g (after_put (record lane { waits = false }) (after_show_answer lane g begins))

-- ---- the others

-- who has set an exit procedure
abbrev pub owner_of : ℕ → List Setting → ℕ
owner_of reg [] = null_id
owner_of reg (setting ∷ settings) = if setting.reg == reg then setting.tid else owner_of reg settings

-- what an exit procedure has done that wasn't refused
abbrev pub after_carry_out : ℕ → Verb → ℕ → Seen → Seen
after_carry_out tid verb.MonExit target s = after_leave tid target s
after_carry_out tid verb.MonBreak target s = after_change (change.Breaks target) s
after_carry_out tid verb.Resume target s = after_change (change.Resumes target) s
after_carry_out tid verb.Create target s = s
after_carry_out tid verb.Destroy target s = s
after_carry_out tid verb.Suspend target s = s
after_carry_out tid verb.Join target s = s
after_carry_out tid verb.Sleep target s = s
after_carry_out tid verb.Send target s = s
after_carry_out tid verb.Receive target s = s
after_carry_out tid verb.Enter target s = s
after_carry_out tid verb.CondEnter target s = s
after_carry_out tid verb.Wait target s = s
after_carry_out tid verb.Agent target s = s
after_carry_out tid verb.OnExit target s = s
after_carry_out tid verb.Say target s = s
after_carry_out tid verb.Other target s = s

abbrev pub after_exit : ℕ → Verb → ℕ → Bool → Seen → Seen
after_exit reg v target refused s =
    let tid = owner_of reg s.settings in
    let ran = after_draw (shape.Exit tid s.time) s in
    if refused then after_draw (shape.Answer tid gain.Refused s.time) ran else after_carry_out tid v target ran

abbrev pub after_die : ℕ → Seen → Seen
after_die tid s =
    let begins = after_meet_thread tid s in
    let lane = lane_of begins tid in
    let ends = record begins { shapes = begins.shapes ++ wait_shapes lane begins.time } in
    after_change (change.Dies tid) (after_draw (shape.Death tid begins.time)
    (after_put (record lane { waits = false }) ends))

-- the number of a line takes two calls, or four, where it is long
abbrev pub wide : ℕ → ℕ → ℕ
wide client seq = if nat_lt client 10 && nat_lt seq 100 then 2 else 4

-- there is room for a number in the row whose turn it is
abbrev pub has_room : Seen → Bool
has_room s = not (nat_lt s.time.call s.rows.next)

-- another row's turn comes; this one has room again after the number, if it was told
abbrev pub after_row : ℕ → Seen → Seen
after_row width s = record s {
  events = one_more s.events;
  rows = record {
    next = s.rows.second;
    second = s.rows.third;
    third = if has_room s then min (s.time.call + width) (2 ^ 64 - 1) else s.rows.next;
  };
}

-- the agent has sent its letter
abbrev pub after_send : ℕ → Seen → Seen
after_send id s = after_put (record (lane_of s id) { since = s.time }) (record s { agent = id })

abbrev pub after_event : ℕ → ℕ → ℕ → Seen → Seen
after_event event client seq s =
    let late = after_row (wide client seq) (record s { time = record s.time { late = true } }) in
    let agent = agent_of event s.spans in
    after_send agent (after_draw (shape.Event client seq s.events (has_room s) agent late.time) late)

-- a later agent of the event has sent the same: the line goes on to it, from the agent before
abbrev pub after_also : ℕ → Seen → Seen
after_also agent s =
    let late = record s { time = record s.time { late = true } } in
    after_send agent (after_draw (shape.Arrow way.Also s.agent late.time agent late.time) late)

-- the clock ticks: whom it wakes is woken by nobody
abbrev pub after_tick : ℕ → Seen → Seen
after_tick now s =
    let late = after_row (wide 0 (now / 10)) (record s { time = record s.time { late = true }; caller = null_id }) in
    after_draw (shape.Clock now s.events (has_room s) late.time) late

-- a trap is raised in a thread, before its next call: what follows is its doing
abbrev pub after_trap : ℕ → Seen → Seen
after_trap tid s =
    let begins = after_meet_thread tid (record s { time = record s.time { late = true }; caller = tid }) in
    after_draw (shape.Trap tid begins.time) (asking tid verb.Other null_id false begins)

-- a death is told to an agent, which has a letter of it
abbrev pub after_report : ℕ → ℕ → Seen → Seen
after_report agent dead s = after_send agent (after_draw (shape.Arrow way.Also dead s.time agent s.time) s)

abbrev pub with_closing : Seen → Seen
with_closing s = after_draw (shape.Closing s.closings s.time) (record s { closings = one_more s.closings })

-- ---- a line

unfoldable pub after_act : Entry → Seen → Seen
after_act (entry.Called tid v target suspended) s = after_call tid v target suspended s
after_act (entry.Answered tid g) s = after_answer tid g s
after_act (entry.Exited reg v target refused) s = after_exit reg v target refused s
after_act (entry.Died tid) s = after_die tid s
after_act (entry.Event event client seq) s = after_event event client seq s
after_act (entry.Also agent) s = after_also agent s
after_act (entry.Tick now client seq) s = after_tick now s
after_act (entry.Trapped tid event) s = after_trap tid s
after_act (entry.Rites agent dead) s = after_report agent dead s
after_act entry.Closing s = with_closing s

abbrev pub is_call : Entry → Bool
is_call (entry.Called tid v target suspended) = true
is_call (entry.Answered tid g) = false
is_call (entry.Exited reg v target refused) = false
is_call (entry.Died tid) = false
is_call (entry.Event event client seq) = false
is_call (entry.Also agent) = false
is_call (entry.Tick now client seq) = false
is_call (entry.Trapped tid event) = false
is_call (entry.Rites agent dead) = false
is_call entry.Closing = false

-- what a call says, or the procedure that it names, in its line
abbrev pub words_of : Verb → List ℕ → List ℕ
words_of verb.Create line = word (rest (rest line))
words_of verb.Say line = rest (rest line)
words_of verb.Wait line = []
words_of verb.Destroy line = []
words_of verb.Suspend line = []
words_of verb.Resume line = []
words_of verb.Join line = []
words_of verb.Sleep line = []
words_of verb.Send line = []
words_of verb.Receive line = []
words_of verb.Enter line = []
words_of verb.CondEnter line = []
words_of verb.MonExit line = []
words_of verb.MonBreak line = []
words_of verb.Agent line = []
words_of verb.OnExit line = []
words_of verb.Other line = []

-- its first 40 bytes, or all
abbrev pub front : List ℕ → List ℕ
front text = take (min (length text) 40) text

-- as many of them as are drawn, if they can be
abbrev pub drawable : List ℕ → List ℕ
drawable text = if is_text (front text) then front text else []

-- a call is told: its words are known
abbrev pub after_note : Entry → List ℕ → Seen → Seen
after_note (entry.Called tid v target suspended) line s = record s { words = drawable (words_of v line) }
after_note (entry.Answered tid g) line s = s
after_note (entry.Exited reg v target refused) line s = s
after_note (entry.Died tid) line s = s
after_note (entry.Event event client seq) line s = s
after_note (entry.Also agent) line s = s
after_note (entry.Tick now client seq) line s = s
after_note (entry.Trapped tid event) line s = s
after_note (entry.Rites agent dead) line s = s
after_note entry.Closing line s = s

-- the line comes after the last call that is drawn
abbrev pub is_past : Entry → Seen → Bool
is_past e s = s.more || (is_call e && (s.time.call == s.last))

-- all that is known after a line
unfoldable pub after_entry : Entry → Seen → Seen
after_entry e s = if is_past e s then record s { more = true; shapes = [] } else after_act e (record s { shapes = [] })

-- a line is drawn: it belongs to a call after the first
unfoldable pub is_shown : Seen → Bool
is_shown s = not s.more && ((s.base == 0) || nat_lt s.base s.time.call)

-- ---- after all lines

-- so far right is whom somebody waits for
abbrev pub aside : Moment → Moment
aside at = record at { call = one_more (one_more at.call) }

-- an arrow to whom a thread waits for, if it has a lane
abbrev pub toward : List Lane → Moment → ℕ → ℕ → List Shape
toward all at from to = if nat_lt (place_awaited to all) (length all)
    then shape.Arrow way.Blocked from at to (aside at) ∷ []
    else []

-- who waits still
abbrev pub is_due : Lane → Bool
is_due lane = lane.waits && may_wait (need_of lane.verb)

abbrev pub due : List Lane → List Span → Moment → Lane → List Shape
due all spans at lane = if is_due lane
    then shape.Wait lane at ∷ (shape.Due lane at ∷ toward all at lane.id (awaited spans lane))
    else []

abbrev pub all_due : List Lane → List Span → Moment → List Lane → List Shape
all_due all spans at [] = []
all_due all spans at (lane ∷ lanes) = due all spans at lane ++ all_due all spans at lanes

-- the arrows of cycles lie on those of the waits
abbrev pub hop_shape : Moment → Hop → List Shape
hop_shape at hop = shape.Arrow way.Deadlock hop.from at hop.to (aside at) ∷ []

abbrev pub hop_shapes : Moment → List Hop → List Shape
hop_shapes at hops = flat_map (λ hop. hop_shape at hop) hops

-- all that goes on still is drawn, up to the place of the next call
unfoldable pub after_finish : Seen → Seen
after_finish s =
    let at : Moment = record { call = one_more s.time.call; late = false } in
    let hops = deadlocks s.lanes s.spans in
    record s {
      time = at;
      hops = hops;
      shapes = bars change.Ends at s.spans ++ (all_due s.lanes s.spans at s.lanes ++ hop_shapes at hops);
    }
