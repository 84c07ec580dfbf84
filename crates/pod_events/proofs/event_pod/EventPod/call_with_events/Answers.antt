use Rattle.pod_events.proofs.Calls.{few, nobody_dies_unasked, live, steps_after, steps_effects}
use Rattle.pod_events.proofs.Takes.{stands}
use Rattle.pod_events.proofs.event_pod.EventPod.call_with_events.Goals as goal
use Rattle.pod_events.specs.Events.{EventState, has_agent, rites_event}
use Rattle.pod_events.specs.Fates.{is_death_reported_by}
use Rattle.pod_events.specs.Rites.{deaths}
use Rattle.pod_events.specs.Step.{event_step, leads}
use Rattle.std.proofs.Common.{[], ap, arith, cond, filter, sym, ◌++◌, ◌∙◌}

pub queue_death_reports-requires-clause-few : goal.queue_death_reports-requires-clause-few
queue_death_reports-requires-clause-few g c =
    let es = stands (g.M.Machine.state c.self.inside.machine) c.self.inside.trapped c.self.inside.pending c.self.inside.reports.items in
    few es c.unwrap-tid.result c.args.call.now (sym c.current.ensures.value ∙ c.unwrap-tid.ensures)
    (rw c.unwrap-tid.ensures at c.current.ensures.may_run) _ _ c.carry_out.new.effects c.in_ok-carry_out.ensures.made

pub queue_death_reports-requires-clause-nobody : goal.queue_death_reports-requires-clause-nobody
queue_death_reports-requires-clause-nobody g c =
    let es = stands (g.M.Machine.state c.self.inside.machine) c.self.inside.trapped c.self.inside.pending c.self.inside.reports.items in
    nobody_dies_unasked es c.unwrap-tid.result c.args.call.now (sym c.current.ensures.value ∙ c.unwrap-tid.ensures)
    (rw c.unwrap-tid.ensures at c.current.ensures.may_run) _ _ c.carry_out.new.effects c.in_ok-carry_out.ensures.made
    c.look_up_fates-fates.result c.look_up_fates-fates.ensures

pub queue_death_reports-requires-clause-room : goal.queue_death_reports-requires-clause-room
queue_death_reports-requires-clause-room g c =
    let es = stands (g.M.Machine.state c.self.inside.machine) c.self.inside.trapped c.self.inside.pending c.self.inside.reports.items in
    let paid = live es c.unwrap-tid.result c.args.call.now (sym c.current.ensures.value ∙ c.unwrap-tid.ensures)
    (rw c.unwrap-tid.ensures at c.current.ensures.may_run) _ _ c.carry_out.new.effects c.in_ok-carry_out.ensures.made in
    omega (arith, paid, c.in_ok-make_room.ensures.room)

pub invariant_of-self-2 : goal.invariant_of-self-2
invariant_of-self-2 g c =
    let es = stands (g.M.Machine.state c.self.inside.machine) c.self.inside.trapped c.self.inside.pending c.self.inside.reports.items in
    let paid = live es c.unwrap-tid.result c.args.call.now (sym c.current.ensures.value ∙ c.unwrap-tid.ensures)
    (rw c.unwrap-tid.ensures at c.current.ensures.may_run) _ _ c.carry_out.new.effects c.in_ok-carry_out.ensures.made in
    omega (
      arith,
      paid,
      c.in_ok-make_room.ensures.room,
      c.queue_death_reports.ensures.most,
      c.queue_death_reports.ensures.capacity,
      c.say.ensures.lives,
      c.say.ensures.fewer,
      c.say.ensures.capacity,
    )

pub returns-clause-after : goal.returns-clause-after
returns-clause-after g c =
    let es = stands (g.M.Machine.state c.self.inside.machine) c.self.inside.trapped c.self.inside.pending c.self.inside.reports.items in
    let noted = c.queue_death_reports.ensures.items
    ∙ ap
    (λ rs. cond (has_agent (g.M.Machine.state c.carry_out.new.machine) rites_event)
    (rs ++ filter (is_death_reported_by c.look_up_fates-fates.result c.unwrap-tid.result) (deaths c.carry_out.new.effects)) [])
    c.in_ok-make_room.ensures.items in
    steps_after es c.unwrap-tid.result c.args.call.now (sym c.current.ensures.value ∙ c.unwrap-tid.ensures)
    (rw c.unwrap-tid.ensures at c.current.ensures.may_run)
    (g.M.Machine.state c.carry_out.new.machine) c.carry_out.new.trapped c.carry_out.new.effects c.in_ok-carry_out.ensures.made
    c.look_up_fates-fates.result c.look_up_fates-fates.ensures c.queue_death_reports.new.reports.items noted
    (g.M.Machine.state c.say.new.machine) c.say.new.reports.items c.say.new.effects c.say.ensures.says
    ∙ ap (λ (es : EventState). (event_step es c.args.call.now).after) c.self.view_is

pub returns-clause-effects : goal.returns-clause-effects
returns-clause-effects g c =
    let es = stands (g.M.Machine.state c.self.inside.machine) c.self.inside.trapped c.self.inside.pending c.self.inside.reports.items in
    let noted = c.queue_death_reports.ensures.items
    ∙ ap
    (λ rs. cond (has_agent (g.M.Machine.state c.carry_out.new.machine) rites_event)
    (rs ++ filter (is_death_reported_by c.look_up_fates-fates.result c.unwrap-tid.result) (deaths c.carry_out.new.effects)) [])
    c.in_ok-make_room.ensures.items in
    ap (λ (es : EventState). leads es c.args.call.now ++ c.say.new.effects) (sym c.self.view_is)
    ∙ steps_effects es c.unwrap-tid.result c.args.call.now (sym c.current.ensures.value ∙ c.unwrap-tid.ensures)
    (rw c.unwrap-tid.ensures at c.current.ensures.may_run)
    (g.M.Machine.state c.carry_out.new.machine) c.carry_out.new.trapped c.carry_out.new.effects c.in_ok-carry_out.ensures.made
    c.look_up_fates-fates.result c.look_up_fates-fates.ensures c.queue_death_reports.new.reports.items noted
    (g.M.Machine.state c.say.new.machine) c.say.new.reports.items c.say.new.effects c.say.ensures.says
    ∙ ap (λ (es : EventState). (event_step es c.args.call.now).effects) c.self.view_is
