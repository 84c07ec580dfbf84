-- Where a procedure stands in the cast.
use Rattle.queue_model.specs.Actors.{cast, cast_names, server_of}
use Rattle.queue_model.specs.declared.hall.Hall.{Hall}
use Rattle.std.proofs.Common.{Some, ap, arith, codes, length, map, suc, zero, ℕ, ◌+◌, ◌<◌, ◌∙◌, ◌≡◌, ◌≤◌}
use Rattle.std.proofs.lemmas.List.FromFn.{length-map-range_with_len}
use Rattle.std.specs.List.{range_with_len, slice_get}

pub cast_length : (hall : Hall) → length (cast hall) ≡ 2 + hall.servers
cast_length hall = omega (arith, length-map-range_with_len (λ i. server_of hall (i + 2)) 0 hall.servers)

range_get : {X : Type 0} (f : ℕ → X) (a n k : ℕ) → k < n → slice_get (map f (range_with_len a n)) k ≡ Some (f (a + k))
range_get f a zero k within = absurd (omega (arith, within))
range_get f a (suc n) zero within = ap (λ m. Some (f m)) (omega arith)
range_get f a (suc n) (suc k) within = range_get f (a + 1) n k (omega (arith, within)) ∙ ap (λ m. Some (f m)) (omega arith)

pub server_at : (hall : Hall) (proc : ℕ) → 2 ≤ proc → proc < length (cast hall) → slice_get (cast hall) proc ≡ Some (server_of hall proc)
server_at hall zero high within = absurd (omega (arith, high))
server_at hall (suc zero) high within = absurd (omega (arith, high))
server_at hall (suc (suc k)) high within =
    range_get (λ i. server_of hall (i + 2)) 0 hall.servers k (omega (arith, within, cast_length hall)) ∙ ap (λ m. Some (server_of hall m)) (omega arith)

pub name_at : (hall : Hall) (proc : ℕ) → 2 ≤ proc → proc < length (cast hall) → slice_get (cast_names hall) proc ≡ Some (codes "server")
name_at hall zero high within = absurd (omega (arith, high))
name_at hall (suc zero) high within = absurd (omega (arith, high))
name_at hall (suc (suc k)) high within = range_get (λ i. codes "server") 0 hall.servers k (omega (arith, within, cast_length hall))
