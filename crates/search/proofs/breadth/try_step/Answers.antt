use Rattle.search.proofs.Steps.{same_grows, standing_grows, standing_more}
use Rattle.search.proofs.Tries.{added_grows, added_has, added_keeps, added_knows, added_leads, full_knows, full_leads, seen_knows, seen_leads}
use Rattle.search.specs.Known.{Knows, first_mark}
use Rattle.search.specs.Seen.{Adds, number_of}
use Rattle.search.specs.declared.found.Row.{Row}
use Rattle.std.proofs.Common.{ap, arith, length, refl, subst, sym, ◌+◌, ◌<◌, ◌∙◌, ◌≤◌}
use Rattle.search.proofs.breadth.try_step.Goals as goal

pub returns-in-Some : goal.returns-in-Some
returns-in-Some g c =
    let moves = g.M.Machine.moves c.args.machine in
    let from = g.M.Machine.core c.args.machine in
    let to = g.M.Machine.core c.step.new.self in
    let old = c.args.search.now in
    let leads = c.in_ok-is_marked.ensures.there in
    let mark_is = c.mark-search.ensures ∙ ap (λ b. first_mark old.marked b c.args.at c.args.step) c.in_ok-is_marked.ensures.marked in
    let key = c.in_ok-key.ensures ∙ ap (λ m. m.key to) c.in_ok-is_marked.ensures.same in
    let found = ap (number_of old.seen) (sym (c.deref.ensures.value ∙ key)) ∙ sym c.find.ensures ∙ c.in-Some.is in
    record {
      knows = seen_knows moves old.rows.items old.seen old.whole old.marked c.mark-search.result old.limits.cores c.args.at c.args.step from to
          c.requires.knows c.requires.here leads mark_is (g.met.M.Machine.keys_differ c.args.machine) c.in-Some.number found;
      grows = same_grows moves old.limits.cores old.rows.items;
      standing = c.requires.standing;
      leads = seen_leads moves old.rows.items old.seen old.whole old.marked c.mark-search.result old.limits.cores c.args.at c.args.step from to
          c.requires.knows c.requires.here leads mark_is (g.met.M.Machine.keys_differ c.args.machine) c.in-Some.number found;
      limits = refl;
      lasts = refl;
    }

pub returns-then-len-search : goal.returns-then-len-search
returns-then-len-search g c =
    let moves = g.M.Machine.moves c.args.machine in
    let from = g.M.Machine.core c.args.machine in
    let to = g.M.Machine.core c.step.new.self in
    let old = c.args.search.now in
    let leads = c.in_ok-is_marked.ensures.there in
    let mark_is = c.mark-search.ensures ∙ ap (λ b. first_mark old.marked b c.args.at c.args.step) c.in_ok-is_marked.ensures.marked in
    let key = c.in_ok-key.ensures ∙ ap (λ m. m.key to) c.in_ok-is_marked.ensures.same in
    let further = ap (number_of old.seen) (sym (c.deref.ensures.value ∙ key)) ∙ sym c.find.ensures ∙ c.in_default.is in
    let full : old.limits.cores ≤ length old.rows.items = omega (arith, c.if-len-search.true, c.len.ensures, old.rows.ok.0) in
    record {
      knows = full_knows moves old.rows.items old.seen old.whole old.marked c.mark-search.result old.limits.cores c.args.at c.args.step from to
          c.requires.knows c.requires.here leads mark_is further full;
      grows = same_grows moves old.limits.cores old.rows.items;
      standing = c.requires.standing;
      leads = full_leads moves old.rows.items old.seen old.whole old.marked c.mark-search.result old.limits.cores c.args.at c.args.step from to
          c.requires.knows c.requires.here leads mark_is further full;
      limits = refl;
      lasts = refl;
    }

pub returns : goal.returns
returns g c =
    let moves = g.M.Machine.moves c.args.machine in
    let from = g.M.Machine.core c.args.machine in
    let to = g.M.Machine.core c.step.new.self in
    let old = c.args.search.now in
    let new = c.add.new.search in
    let added = c.in_ok-number.ensures in
    let leads = c.in_ok-is_marked.ensures.there in
    let mark_is = c.mark-search.ensures ∙ ap (λ b. first_mark old.marked b c.args.at c.args.step) c.in_ok-is_marked.ensures.marked in
    let key = c.in_ok-key.ensures ∙ ap (λ m. m.key to) c.in_ok-is_marked.ensures.same in
    let further = ap (number_of old.seen) (sym (c.deref.ensures.value ∙ key)) ∙ sym c.find.ensures ∙ c.in_default.is in
    let room : length old.rows.items < old.limits.cores = omega (arith, c.if-len-search.false, c.len.ensures, old.rows.ok.0) in
    let row : Row = record { parent = c.args.at; step = c.args.step; kind = (g.M.Machine.moves c.step.new.self).kind to } in
    let kind = ap (λ m. m.kind to) c.in_ok-is_marked.ensures.same in
    let adds = subst (λ k. Adds old.seen new.seen k (length old.rows.items)) key added.seen in
    record {
      knows = subst (λ m. Knows moves new.rows.items new.seen new.whole m old.limits.cores c.args.at (c.args.step + 1)) (sym added.marked)
          (added_knows moves old.rows.items old.seen old.whole old.marked c.mark-search.result old.limits.cores c.args.at c.args.step from to
          c.requires.knows c.requires.here leads mark_is further room row refl refl kind new.rows.items new.seen added.rows adds new.whole added.whole);
      grows = added_grows moves old.rows.items old.seen old.whole old.marked c.mark-search.result old.limits.cores c.args.at c.args.step from to
          c.requires.knows c.requires.here leads mark_is further room row refl refl kind new.rows.items new.seen added.rows adds;
      standing = standing_more moves g.M.Machine.moves g.M.Machine.core new.rows.items old.waiting.items new.waiting.items
          (length old.rows.items) c.step.new.self added.joins c.in_ok-is_marked.ensures.same
          (added_has moves old.rows.items old.seen old.whole old.marked c.mark-search.result old.limits.cores c.args.at c.args.step from to
          c.requires.knows c.requires.here leads mark_is further room row refl refl kind new.rows.items new.seen added.rows adds)
          (standing_grows moves g.M.Machine.moves g.M.Machine.core old.rows.items new.rows.items old.waiting.items
          (added_keeps moves old.rows.items old.seen old.whole old.marked c.mark-search.result old.limits.cores c.args.at c.args.step from to
          c.requires.knows c.requires.here leads mark_is further room row refl refl kind new.rows.items new.seen added.rows adds)
          c.requires.standing);
      leads = added_leads moves old.rows.items old.seen old.whole old.marked c.mark-search.result old.limits.cores c.args.at c.args.step from to
          c.requires.knows c.requires.here leads mark_is further room row refl refl kind new.rows.items new.seen added.rows adds
          c.in_ok-number.number added.number;
      limits = added.limits;
      lasts = added.lasts;
    }
