-- What an inlet has given after several takes.
use Rattle.event_gate.specs.Inlet.{EachInlet, InletFindsNothing, Intake}
use Rattle.script_run.proofs.Back.{each_set}
use Rattle.script_run.specs.Served.{Gave}
use Rattle.std.proofs.Common.{List, [], ap, append-nil, arith, length, set, slice_index_or, subst, sym, ℕ, ◌+◌, ◌++◌, ◌<◌, ◌∙◌, ◌≡◌}

pub gave_none : (t : Intake) → Gave t t
gave_none t =
    let taken : t.taken ≡ t.taken ++ [] = sym (append-nil t.taken) in
    let finds : t.finds ≡ t.finds + 0 = omega arith in
    record { lines = []; nothing = 0; after = λ k. record t { taken = taken k; finds = finds k } }

pub gave_nothing : (t u v : Intake) → Gave t u → InletFindsNothing u v → Gave t v
gave_nothing t u v g h =
    let finds : t.finds + g.nothing + 1 ≡ t.finds + (g.nothing + 1) = omega arith in
    record {
      lines = g.lines;
      nothing = g.nothing + 1;
      after = h.after ∙ ap (λ (w : Intake). record w { finds = w.finds + 1 }) g.after ∙ (λ k. record t { taken = t.taken ++ g.lines; finds = finds k });
    }

-- one inlet has given lines, and the others none
pub one_gave : (before : List Intake) (k : ℕ) (t u : Intake) → k < length before → ((d : Intake) → slice_index_or before k d ≡ t) → Gave t u
    → EachInlet Gave before (set before k u)
one_gave before k t u inside at g = each_set Gave before k u gave_none inside (λ d. subst (λ (w : Intake). Gave w u) (sym (at d)) g)
