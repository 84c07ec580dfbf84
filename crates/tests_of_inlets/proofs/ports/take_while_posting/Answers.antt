use Rattle.event_gate.specs.Ends.{PortId, Posting, posting}
use Rattle.std.proofs.Common.{◌≡◌, ◌+◌, ◌<◌, ℕ, List, [], ◌∷◌, slice_index_or, arith, map, refl}
use Rattle.std.proofs.lemmas.List.Elements.{All-map, All-same}
use Rattle.std.proofs.lemmas.List.FromFn.{get_or-range_with_len}
use Rattle.tests_of_inlets.proofs.ports.take_while_posting.Goals as goal

abbrev sixteen : List ℕ
sixteen = 0 ∷ 1 ∷ 2 ∷ 3 ∷ 4 ∷ 5 ∷ 6 ∷ 7 ∷ 8 ∷ 9 ∷ 10 ∷ 11 ∷ 12 ∷ 13 ∷ 14 ∷ 15 ∷ []

apart : (i j d : ℕ) → i < j → j < 16 → slice_index_or sixteen i d ≡ slice_index_or sixteen j d → ⊥
apart i j d low high e =
    let a : slice_index_or sixteen i d ≡ 0 + i = get_or-range_with_len 0 16 i d (omega arith) in
    let b : slice_index_or sixteen j d ≡ 0 + j = get_or-range_with_len 0 16 j d high in
    omega (arith, a, b, e, low)

pub open_port-requires : goal.open_port-requires
open_port-requires g c = λ i j d low high e. apart i j d low high e

abbrev IsNew : PortId → Posting → Type 0
IsNew port p = (p.port ≡ port) × (p.posted ≡ [])

pub start_all-requires-clause-new : goal.start_all-requires-clause-new
start_all-requires-clause-new g c κs within =
    let port = c.in_ok-taker.taker.port in
    All-same (IsNew port) c.in_ok-taker.posters.items (map (posting port) sixteen) c.in_ok-taker.ensures.posters
    (All-map (IsNew port) (posting port) sixteen (λ k d low. (refl, refl)))
