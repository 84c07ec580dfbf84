use Rattle.event_gate.specs.Clients.{of}
use Rattle.lwp_explore.proofs.StandingLaws.{length_taken}
use Rattle.lwp_explore.proofs.machine.ScriptMachine.has_left.Goals as goal
use Rattle.script_text.specs.Script.{lines_posted}
use Rattle.std.proofs.Common.{ap, arith, false, length, ◌<◌, ◌∙◌, ◌≡◌}
use Rattle.std.proofs.lemmas.List.{get_or_default}
use Rattle.std.specs.Prelude.{nat_lt, slice_index}

pub index-requires : goal.index-requires
index-requires c =
    let sound : c.self.inside.has_failed ≡ false = rw (← c.self.view_is) at c.requires.sound in
    let within : c.args.client < length c.self.inside.posts.now.clients = rw (← c.self.view_is) at c.requires.client in
    omega (arith, within, length_taken c.self.invariant.0 sound)

pub returns : goal.returns
returns c =
    let sound : c.self.inside.has_failed ≡ false = rw (← c.self.view_is) at c.requires.sound in
    let within : c.args.client < length c.self.inside.posts.now.clients = rw (← c.self.view_is) at c.requires.client in
    let at = c.index.ensures
    ∙ get_or_default c.self.inside.taken.items c.args.client c.index.result.now 0 (omega (arith, within, length_taken c.self.invariant.0 sound))
    ∙ ap (λ t. slice_index t c.args.client) (c.self.invariant.0.counted sound) in
    let posted : c.from.result ≡ length (of c.args.client (lines_posted c.self.inside.posts.now)) = c.from.ensures ∙ c.count.ensures in
    rw (← c.self.view_is) (λ i. nat_lt (at i) (posted i))
