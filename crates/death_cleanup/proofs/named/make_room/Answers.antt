use Rattle.death_cleanup.proofs.Notes.{noted-pruned, tested}
use Rattle.death_cleanup.proofs.Orders.{AreOrdered-kept}
use Rattle.death_cleanup.proofs.Rooms.{pruned-fits}
use Rattle.death_cleanup.proofs.named.make_room.Goals as goal
use Rattle.death_cleanup.specs.Named.{is_on, threads_in}
use Rattle.stale_ids.specs.Register.{AreRising}
use Rattle.std.proofs.Common.{arith, rules, ◌*◌, ◌≡◌, ◌≤◌}
use Rattle.std.proofs.lemmas.Fn.{filter_same}
use Rattle.std.specs.List.{filter}

pub invariant_of-named : goal.invariant_of-named
invariant_of-named c =
    let kept : c.retain.new.self.items
    ≡ filter (is_on c.args.ids.now.live) c.named.inside.waits.items =
    filter_same _ (is_on c.args.ids.now.live) _ (λ x b f' k. (search rules, search rules)) _ _ c.retain.ensures.filtered in (
      rw kept (AreOrdered-kept (is_on c.args.ids.now.live) c.named.inside.waits.items c.named.invariant.0),
      rw c.retain.ensures.capacity c.named.invariant.1,
      c.named.invariant.2,
    )

pub returns-then-len-named-clause-noted : goal.returns-then-len-named-clause-noted
returns-then-len-named-clause-noted c =
    let rising : AreRising c.args.ids.now.live = tested _ (AreRising c.args.ids.now.live) _ (λ x b f' k. search rules) _ _
    c.retain.ensures.filtered (omega (arith, c.if-len-named.true, c.named.invariant.2)) in
    let kept : c.retain.new.self.items
    ≡ filter (is_on c.args.ids.now.live) c.named.inside.waits.items =
    filter_same _ (is_on c.args.ids.now.live) _ (λ x b f' k. (search rules, search rules)) _ _ c.retain.ensures.filtered in
    record {
      noted = rw kept (noted-pruned c.named.inside.waits.items c.args.ids.now.live rising (rw (← c.named.view_is) at c.requires.noted));
      room = (rw (← c.named.view_is) at c.requires.room);
    }

pub returns-then-len-named-clause-room : goal.returns-then-len-named-clause-room
returns-then-len-named-clause-room c =
    let rising : AreRising c.args.ids.now.live = tested _ (AreRising c.args.ids.now.live) _ (λ x b f' k. search rules) _ _
    c.retain.ensures.filtered (omega (arith, c.if-len-named.true, c.named.invariant.2)) in
    let kept : c.retain.new.self.items
    ≡ filter (is_on c.args.ids.now.live) c.named.inside.waits.items =
    filter_same _ (is_on c.args.ids.now.live) _ (λ x b f' k. (search rules, search rules)) _ _ c.retain.ensures.filtered in
    let few = pruned-fits c.args.ids.now.live rising c.named.inside.waits.items
    (AreOrdered-kept (is_on c.args.ids.now.live) c.named.inside.waits.items c.named.invariant.0) in
    let room : 2 * threads_in c.args.ids.now.live ≤ c.named.inside.places = (rw (← c.named.view_is) at c.requires.room) in
    rw kept (omega (arith, few, room, c.named.invariant.2))
