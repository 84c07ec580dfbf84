use Rattle.search.proofs.KnownLemmas.{is_sound}
use Rattle.search.proofs.Order.{is_first, is_in_order, is_shortest}
use Rattle.search.proofs.Steps.{complete_at_end, exploring_more, standing_rest}
use Rattle.search.proofs.Tries.{all_gone, ends_after, goes_within, has_lasts, marks, nearest_marks, not_all, not_stopped}
use Rattle.search.specs.Found.{HasParentsBelow, IsSound, cores_of, is_stopped, steps_from}
use Rattle.search.specs.Known.{AreStanding, Grows, Knows, Settles}
use Rattle.std.proofs.Common.{Some, ap, arith, false, length, subst, sym, ◌+◌, ◌-◌, ◌<◌, ◌^◌, ◌∙◌, ◌≡◌, ◌≤◌}
use Rattle.std.specs.Prelude.{min, slice_get}
use Rattle.search.proofs.breadth.explore.Goals as goal

pub loop-alloc-init : goal.loop-alloc-init
loop-alloc-init g c =
    let begun = c.in_ok-search.ensures in
    record {
      exploring = record {
        knows = begun.knows;
        inside = omega arith;
        counted = omega arith;
        settled = λ i core last core_at last_at. absurd (cc (ap (λ l. slice_get l i) (sym begun.lasts) ∙ last_at));
        gone = ap length begun.lasts;
      };
      standing = begun.standing;
      limits = begun.limits;
    }

pub stand_at-requires-clause-sound : goal.stand_at-requires-clause-sound
stand_at-requires-clause-sound g c = subst (λ rs. IsSound (g.M.Machine.moves c.args.machine.now) rs) (sym c.deref.ensures.value) (is_sound
    (g.M.Machine.moves c.args.machine.now) c.loop-alloc.search.rows.items c.loop-alloc.search.seen c.loop-alloc.invariant.exploring.knows.known)

pub stand_at-requires-clause-below : goal.stand_at-requires-clause-below
stand_at-requires-clause-below g c = subst (λ rs. HasParentsBelow rs) (sym c.deref.ensures.value) c.loop-alloc.invariant.exploring.knows.known.below

pub stand_at-requires-clause-within : goal.stand_at-requires-clause-within
stand_at-requires-clause-within g c = subst (λ rs. c.loop-alloc.at < length rs) (sym c.deref.ensures.value)
    (goes_within c.loop-alloc.at (length c.loop-alloc.search.rows.items) (is_stopped c.args.limits.until c.loop-alloc.search.marked)
    (sym c.goes_on.ensures ∙ c.loop-alloc-test.true))

pub stand_at-requires-clause-standing : goal.stand_at-requires-clause-standing
stand_at-requires-clause-standing g c = subst (λ rs. AreStanding
    (g.M.Machine.moves c.args.machine.now) g.M.Machine.moves g.M.Machine.core rs c.loop-alloc.search.waiting.items)
    (sym c.deref.ensures.value) c.loop-alloc.invariant.standing

pub try_steps-requires-clause-knows : goal.try_steps-requires-clause-knows
try_steps-requires-clause-knows g c = subst (λ l. Knows (g.M.Machine.moves c.in_ok-here.here) c.loop-alloc.search.rows.items c.loop-alloc.search.seen
    c.loop-alloc.search.whole c.loop-alloc.search.marked l.cores c.loop-alloc.at 0) (sym c.loop-alloc.invariant.limits)
    (subst (λ m. Knows m c.loop-alloc.search.rows.items c.loop-alloc.search.seen c.loop-alloc.search.whole c.loop-alloc.search.marked
    c.args.limits.cores c.loop-alloc.at 0) (sym c.in_ok-here.ensures.same) c.loop-alloc.invariant.exploring.knows)

pub try_steps-requires-clause-here : goal.try_steps-requires-clause-here
try_steps-requires-clause-here g c = subst (λ rs. slice_get (cores_of (g.M.Machine.moves c.in_ok-here.here) rs) c.loop-alloc.at ≡ Some
    (g.M.Machine.core c.in_ok-here.here)) c.deref.ensures.value
    (subst (λ m. slice_get (cores_of m c.deref.result.now) c.loop-alloc.at ≡ Some (g.M.Machine.core c.in_ok-here.here))
    (sym c.in_ok-here.ensures.same) c.in_ok-here.ensures.here)

pub try_steps-requires-clause-standing : goal.try_steps-requires-clause-standing
try_steps-requires-clause-standing g c = subst
    (λ m. AreStanding m g.M.Machine.moves g.M.Machine.core c.loop-alloc.search.rows.items c.stand_at.new.waiting.items) (sym c.in_ok-here.ensures.same)
    (standing_rest (g.M.Machine.moves c.args.machine.now) g.M.Machine.moves g.M.Machine.core c.loop-alloc.search.rows.items
    c.loop-alloc.search.waiting.items c.stand_at.new.waiting.items c.stand_at.ensures.rest c.loop-alloc.invariant.standing)

pub loop-alloc-preserved : goal.loop-alloc-preserved
loop-alloc-preserved g c =
    let moves = g.M.Machine.moves c.args.machine.now in
    let here = c.in_ok-here.here in
    let old = c.loop-alloc.search in
    let new = c.try_steps.new.search in
    let after = c.in_ok-try_steps.ensures in
    let limits = c.loop-alloc.invariant.limits in
    let within = goes_within c.loop-alloc.at (length old.rows.items) (is_stopped c.args.limits.until old.marked)
    (sym c.goes_on.ensures ∙ c.loop-alloc-test.true) in
    let there = subst (λ rs. slice_get (cores_of moves rs) c.loop-alloc.at ≡ Some (g.M.Machine.core here)) c.deref.ensures.value
    c.in_ok-here.ensures.here in
    record {
      exploring = exploring_more moves (g.M.Machine.moves here) c.in_ok-here.ensures.same old.rows.items new.rows.items
          old.seen new.seen c.loop-alloc.at c.args.limits.cores old.whole new.whole old.marked new.marked old.lasts.items new.lasts.items
          c.loop-alloc.tried c.saturating_add-tried.result c.from.result
          (g.M.Machine.core here) c.loop-alloc.invariant.exploring within there
          (c.from.ensures ∙ c.in_ok-count.ensures) c.saturating_add-tried.ensures
          (subst (λ l. Knows (g.M.Machine.moves here) new.rows.items new.seen new.whole new.marked l.cores (c.loop-alloc.at + 1) 0) limits after.knows)
          (subst (λ l. Grows (g.M.Machine.moves here) l.cores old.rows.items new.rows.items) limits after.grows)
          (subst (λ l. Settles (g.M.Machine.moves here) new.rows.items l.cores old.lasts.items new.lasts.items (g.M.Machine.core here)) limits
          after.settles);
      standing = subst (λ m. AreStanding m g.M.Machine.moves g.M.Machine.core new.rows.items new.waiting.items) c.in_ok-here.ensures.same
          after.standing;
      limits = after.limits ∙ limits;
    }

pub returns : goal.returns
returns g c =
    let moves = g.M.Machine.moves c.args.machine.now in
    let old = c.loop-alloc.search in
    let exploring = c.loop-alloc.invariant.exploring in
    let known = exploring.knows.known in
    let same = c.found.ensures in
    let rows = old.rows.items in
    let stops = is_stopped c.args.limits.until old.marked in
    let over : stops ≡ false → length rows ≤ c.loop-alloc.at =
    ends_after c.loop-alloc.at (length rows) stops (sym c.goes_on.ensures ∙ c.loop-alloc-test.false) in
    let all : is_stopped c.args.limits.until c.found.result.marked ≡ false → length old.lasts.items ≡ length rows =
    λ h. omega (arith, over (ap (is_stopped c.args.limits.until) (sym same.marked) ∙ h), exploring.inside, exploring.gone) in
    record {
      sound = rw same.rows (is_sound moves rows old.seen known);
      first = rw same.rows (is_first moves rows old.seen known);
      shortest = rw same.rows (is_shortest moves rows old.seen known);
      in_order = rw same.rows (is_in_order moves rows old.seen known);
      below = rw same.rows known.below;
      distinct = rw same.rows known.apart;
      kinds = rw same.rows known.kinds;
      complete = λ h. rw same.rows (let whole = all_gone old.whole (length old.lasts.items) (length rows) (sym same.whole ∙ h) in
          complete_at_end moves rows old.seen c.loop-alloc.at (exploring.knows.up_to whole.0) (omega (arith, whole.1, exploring.gone)));
      cut = λ h w. rw same.rows (exploring.knows.cut
          (not_all old.whole (length old.lasts.items) (length rows) (sym same.whole ∙ w) (all h))).out;
      full = λ h w. rw same.rows (exploring.knows.cut
          (not_all old.whole (length old.lasts.items) (length rows) (sym same.whole ∙ w) (all h))).full;
      few = rw same.rows exploring.knows.few;
      gone = λ h. rw (same.rows, same.lasts) (all h);
      tried = rw (same.rows, same.lasts) (same.tried ∙ exploring.counted
          ∙ ap (λ n. min (steps_from moves (cores_of moves rows) n) (2 ^ 64 - 1)) (sym exploring.gone));
      lasts = rw (same.rows, same.lasts) (has_lasts moves rows old.seen old.whole old.marked old.lasts.items c.args.limits.cores c.loop-alloc.at
          c.loop-alloc.tried exploring);
      marked = rw (same.rows, same.marked) (marks moves rows old.seen old.whole old.marked old.lasts.items c.args.limits.cores c.loop-alloc.at
          c.loop-alloc.tried exploring (λ none. over (not_stopped c.args.limits.until old.marked none)));
      nearest = rw (same.rows, same.marked) (nearest_marks moves rows old.seen old.whole old.marked old.lasts.items c.args.limits.cores c.loop-alloc.at
          c.loop-alloc.tried exploring);
    }
