-- What a line of those that wait says of requests.
use Rattle.lwp_types.proofs.Ranks.{best-map, map-filter}
use Rattle.lwp_types.specs.Choice.{best_by}
use Rattle.monitors.specs.MonitorTable.{is_request_of, with_priority, without_request}
use Rattle.monitors.specs.Requests.{request_of}
use Rattle.monitors.specs.declared.requests.EntryRequest.{EntryRequest}
use Rattle.std.proofs.Common.{List, [], ap, eqb, map, not, refl, sym, ℕ, ◌∙◌, ◌∷◌, ◌≡◌, ◌||◌}
use Rattle.std.specs.List.{AllByRecursion, filter, list_any}
use Rattle.std.specs.Prelude.{option_map}
use Rattle.lists.specs.WaitingList.Line.{is_for, is_thread, waiting_with_priority}
use Rattle.lists.specs.declared.waiting_list.rows.Waiting.{Waiting}

pub requests-line : (m : ℕ) (ws : List Waiting) → filter (λ (r : EntryRequest). eqb r.mon m) (map request_of ws) ≡ map request_of (filter (is_for m) ws)
requests-line m ws = map-filter request_of (λ r. eqb r.mon m) ws

same_prio : (ws : List Waiting) → AllByRecursion (λ (w : Waiting). w.prio ≡ (request_of w).prio) ws
same_prio [] = tt
same_prio (w ∷ ws) = (refl, same_prio ws)

pub next-line : (m : ℕ) (ws : List Waiting)
    → best_by (λ (r : EntryRequest). r.prio) (filter (λ (r : EntryRequest). eqb r.mon m) (map request_of ws))
    ≡ option_map request_of (best_by (λ (w : Waiting). w.prio) (filter (is_for m) ws))
next-line m ws =
    ap (best_by (λ (r : EntryRequest). r.prio)) (requests-line m ws)
    ∙ best-map request_of (λ (w : Waiting). w.prio) (λ (r : EntryRequest). r.prio) (filter (is_for m) ws) (same_prio (filter (is_for m) ws))

pub left-line : (t : ℕ) (ws : List Waiting) → map request_of (filter (λ (w : Waiting). not (is_thread t w)) ws) ≡ without_request t (map request_of ws)
left-line t ws = sym (map-filter request_of (λ r. not (is_request_of t r)) ws)

pub prioritized-line : (t p : ℕ) (ws : List Waiting) → map request_of (map (waiting_with_priority t p) ws) ≡ with_priority t p (map request_of ws)
prioritized-line t p [] = refl
prioritized-line t p (w ∷ ws) = ap (λ rs. request_of (waiting_with_priority t p w) ∷ rs) (prioritized-line t p ws)

pub any-line : (t : ℕ) (ws : List Waiting) → list_any (is_request_of t) (map request_of ws) ≡ list_any (is_thread t) ws
any-line t [] = refl
any-line t (w ∷ ws) = ap (λ b. is_thread t w || b) (any-line t ws)

tids : (ws : List Waiting) → map (λ (w : Waiting). w.tid) ws ≡ map (λ (r : EntryRequest). r.tid) (map request_of ws)
tids [] = refl
tids (w ∷ ws) = ap (λ ts. w.tid ∷ ts) (tids ws)

pub tids-line : (m : ℕ) (ws : List Waiting)
    → map (λ (w : Waiting). w.tid) (filter (is_for m) ws) ≡ map (λ (r : EntryRequest). r.tid) (filter (λ (r : EntryRequest). eqb r.mon m) (map request_of ws))
tids-line m ws = tids (filter (is_for m) ws) ∙ ap (map (λ (r : EntryRequest). r.tid)) (sym (requests-line m ws))
