use Rattle.lwp_explore.proofs.StandingLaws.{few_taken, length_taken}
use Rattle.lwp_explore.proofs.TakeCounts.{left_more}
use Rattle.lwp_explore.proofs.machine.ScriptMachine.lines_left.Goals as goal
use Rattle.event_gate.specs.Clients.{of}
use Rattle.lwp_explore.specs.Cores.{count_at}
use Rattle.lwp_explore.specs.Sessions.{world_of}
use Rattle.script_text.specs.Script.{lines_posted}
use Rattle.lwp_explore.specs.Standing.{core_now}
use Rattle.std.proofs.Common.{[], ap, arith, false, length, sym, ◌++◌, ◌<◌, ◌∙◌, ◌∷◌, ◌≡◌}
use Rattle.std.proofs.lemmas.List.{get_or_default}
use Rattle.std.specs.Prelude.{slice_index, ◌-◌}

pub index-requires : goal.index-requires
index-requires c =
    let sound : c.self.inside.has_failed ≡ false = rw (← c.self.view_is) at c.requires in
    omega (arith, c.loop-client-test.true, c.clients-client-end.ensures, length_taken c.self.invariant.0 sound)

pub overflow_cast-index : goal.overflow_cast-index
overflow_cast-index c =
    let sound : c.self.inside.has_failed ≡ false = rw (← c.self.view_is) at c.requires in
    let within : c.loop-client.client < length c.self.inside.posts.now.clients = omega (arith, c.loop-client-test.true, c.clients-client-end.ensures) in
    let at = c.index.ensures ∙ get_or_default c.self.inside.taken.items c.loop-client.client c.index.result.now 0
    (omega (arith, within, length_taken c.self.invariant.0 sound)) in
    omega (arith, at, few_taken c.self.invariant.0 sound c.loop-client.client within, c.self.invariant.0.posted.each c.loop-client.client)

pub overflow_sub-count : goal.overflow_sub-count
overflow_sub-count c =
    let sound : c.self.inside.has_failed ≡ false = rw (← c.self.view_is) at c.requires in
    let within : c.loop-client.client < length c.self.inside.posts.now.clients = omega (arith, c.loop-client-test.true, c.clients-client-end.ensures) in
    let at = c.index.ensures ∙ get_or_default c.self.inside.taken.items c.loop-client.client c.index.result.now 0
    (omega (arith, within, length_taken c.self.invariant.0 sound)) in
    omega (arith, at, c.count.ensures, few_taken c.self.invariant.0 sound c.loop-client.client within)

pub loop-client-preserved : goal.loop-client-preserved
loop-client-preserved c =
    let sound : c.self.inside.has_failed ≡ false = rw (← c.self.view_is) at c.requires in
    let s = c.args.self.now in
    let here : c.loop-client.client < length c.self.inside.posts.now.clients = omega (arith, c.loop-client-test.true, c.clients-client-end.ensures) in
    let within : c.loop-client.client < length s.script.clients = rw (← c.self.view_is) here in
    let at = c.index.ensures ∙ get_or_default c.self.inside.taken.items c.loop-client.client c.index.result.now 0
    (omega (arith, here, length_taken c.self.invariant.0 sound)) ∙ ap (λ t. slice_index t c.loop-client.client) (c.self.invariant.0.counted sound) in
    let left : c.count.result - c.index.result.now
    ≡ length (of c.loop-client.client (lines_posted s.script)) - count_at (core_now s).taken c.loop-client.client =
    rw (← c.self.view_is) (λ i. c.count.ensures i - at i) in
    c.in_ok-push.ensures.items
    ∙ (λ i. c.loop-client.invariant i ++ left i ∷ [])
    ∙ sym (left_more (world_of s.script) (core_now s) c.loop-client.client within)
