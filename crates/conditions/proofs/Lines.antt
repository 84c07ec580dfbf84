-- What a line of those that wait says of waits.
use Rattle.conditions.specs.ConditionTable.{is_on, is_wait_of, with_priority, without_wait}
use Rattle.conditions.specs.Waits.{wait_in}
use Rattle.conditions.specs.declared.waits.WaitRec.{WaitRec}
use Rattle.lwp_types.proofs.Ranks.{best-map, map-filter}
use Rattle.lwp_types.specs.Choice.{best_by}
use Rattle.std.proofs.Common.{Bool, List, Some, [], ap, cond, false, map, not, refl, sym, true, ℕ, ◌∙◌, ◌∷◌, ◌≡◌, ◌||◌}
use Rattle.std.specs.List.{AllByRecursion, filter, find, list_any}
use Rattle.std.specs.Prelude.{option_map}
use Rattle.lists.specs.WaitingList.Line.{is_for, is_thread, waiting_with_priority}
use Rattle.lists.specs.declared.waiting_list.rows.Waiting.{Waiting}

pub waits-line : (c : ℕ) (ws : List Waiting) → filter (is_on c) (map wait_in ws) ≡ map wait_in (filter (is_for c) ws)
waits-line c ws = map-filter wait_in (is_on c) ws

same_prio : (ws : List Waiting) → AllByRecursion (λ (w : Waiting). w.prio ≡ (wait_in w).prio) ws
same_prio [] = tt
same_prio (w ∷ ws) = (refl, same_prio ws)

pub best-line : (c : ℕ) (ws : List Waiting)
    → best_by (λ (w : WaitRec). w.prio) (filter (is_on c) (map wait_in ws)) ≡ option_map wait_in (best_by (λ (w : Waiting). w.prio) (filter (is_for c) ws))
best-line c ws =
    ap (best_by (λ (w : WaitRec). w.prio)) (waits-line c ws)
    ∙ best-map wait_in (λ (w : Waiting). w.prio) (λ (w : WaitRec). w.prio) (filter (is_for c) ws) (same_prio (filter (is_for c) ws))

pub find-line : (p : WaitRec → Bool) (ws : List Waiting) → find p (map wait_in ws) ≡ option_map wait_in (find (λ w. p (wait_in w)) ws)
find-line p [] = refl
find-line p (w ∷ ws) = by_test (find-line p ws) (p (wait_in w))
  where
    by_test : find p (map wait_in ws) ≡ option_map wait_in (find (λ w. p (wait_in w)) ws) → (b : Bool)
        → cond b (Some (wait_in w)) (find p (map wait_in ws)) ≡ option_map wait_in (cond b (Some w) (find (λ w. p (wait_in w)) ws))
    by_test rest true = refl
    by_test rest false = rest

pub left-line : (t : ℕ) (ws : List Waiting) → map wait_in (filter (λ (w : Waiting). not (is_thread t w)) ws) ≡ without_wait t (map wait_in ws)
left-line t ws = sym (map-filter wait_in (λ w. not (is_wait_of t w)) ws)

pub prioritized-line : (t p : ℕ) (ws : List Waiting) → map wait_in (map (waiting_with_priority t p) ws) ≡ with_priority t p (map wait_in ws)
prioritized-line t p [] = refl
prioritized-line t p (w ∷ ws) = ap (λ us. wait_in (waiting_with_priority t p w) ∷ us) (prioritized-line t p ws)

pub any-line : (p : WaitRec → Bool) (ws : List Waiting) → list_any p (map wait_in ws) ≡ list_any (λ w. p (wait_in w)) ws
any-line p [] = refl
any-line p (w ∷ ws) = ap (λ b. p (wait_in w) || b) (any-line p ws)

tids : (ws : List Waiting) → map (λ (w : Waiting). w.tid) ws ≡ map (λ (w : WaitRec). w.tid) (map wait_in ws)
tids [] = refl
tids (w ∷ ws) = ap (λ ts. w.tid ∷ ts) (tids ws)

pub tids-line : (c : ℕ) (ws : List Waiting)
    → map (λ (w : Waiting). w.tid) (filter (is_for c) ws) ≡ map (λ (w : WaitRec). w.tid) (filter (is_on c) (map wait_in ws))
tids-line c ws = tids (filter (is_for c) ws) ∙ ap (map (λ (w : WaitRec). w.tid)) (sym (waits-line c ws))
