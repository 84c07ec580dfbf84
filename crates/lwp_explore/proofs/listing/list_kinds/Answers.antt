use Rattle.lwp_explore.proofs.ListingLaws.{known_more, new_more, none_more}
use Rattle.lwp_explore.proofs.listing.list_kinds.Goals as goal
use Rattle.lwp_explore.proofs.listing.list_kinds.Goals.{in-Some+else-not-is_listed, in-Some+then-not-is_listed+in_ok-push-in-Some, in-None}
use Rattle.lwp_explore.specs.declared.listing.Listed.{Listed}
use Rattle.std.proofs.Common.{ap, sym, ◌+◌, ◌==◌, ◌∙◌}
use Rattle.std.specs.List.{list_any}

pub loop-place-preserved : goal.loop-place-preserved
loop-place-preserved c =
    let os = c.args.numbers.now in
    let place = c.loop-place.place in
    elim c.match-numbers-place.branch [
      | in-Some+then-not-is_listed+in_ok-push-in-Some w ↦
          rw w.listed-is
          (new_more os place c.loop-place-test.true w.in-Some.number w.in-Some.is c.loop-place.listed.items _ w.count_of.result c.loop-place.invariant
          (ap (list_any (λ (l : Listed). l.number == w.in-Some.number)) (sym w.deref.ensures.value) ∙ sym w.is_listed.ensures
          ∙ w.if-not-is_listed.true) w.count_of.ensures w.in_ok-push-in-Some.ensures.items)
      | in-Some+else-not-is_listed w ↦
          rw w.listed-is
          (known_more os place c.loop-place-test.true w.in-Some.number w.in-Some.is c.loop-place.listed.items c.loop-place.invariant
          (ap (list_any (λ (l : Listed). l.number == w.in-Some.number)) (sym w.deref.ensures.value) ∙ sym w.is_listed.ensures
          ∙ w.if-not-is_listed.false))
      | in-None w ↦
          rw w.listed-is (none_more os place c.loop-place-test.true c.loop-place.listed.items c.loop-place.invariant w.in-None.is)
    ]
