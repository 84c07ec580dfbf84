-- The counts of lines left, as far as a loop has made them.
use Rattle.event_gate.specs.Shelves.{Shelves, left_of_client}
use Rattle.pod_runner.specs.Trace.{left_counts_from}
use Rattle.std.proofs.Common.{List, [], ap, arith, length, suc, take, zero, ℕ, ◌++◌, ◌+◌, ◌<◌, ◌∙◌, ◌∷◌, ◌≡◌}

-- those of one client more, counted from n
left-more : (n i : ℕ) (clients : List ℕ) (shelves : Shelves) → i < length clients
    → left_counts_from n (take (suc i) clients) shelves ≡ left_counts_from n (take i clients) shelves ++ left_of_client (n + i) shelves ∷ []
left-more n i [] shelves h = absurd (omega (arith, h))
left-more n zero (e ∷ es) shelves h = ap (λ k. left_of_client k shelves ∷ []) (omega arith)
left-more n (suc i) (e ∷ es) shelves h = ap (λ counts. left_of_client n shelves ∷ counts) (left-more (n + 1) i es shelves (omega (arith, h)))
    ∙ ap (λ k. left_of_client n shelves ∷ (left_counts_from (n + 1) (take i es) shelves ++ left_of_client k shelves ∷ [])) (omega arith)

-- those of one client more, counted from 0
pub left-next : (i : ℕ) (clients : List ℕ) (shelves : Shelves) → i < length clients
    → left_counts_from 0 (take (i + 1) clients) shelves ≡ left_counts_from 0 (take i clients) shelves ++ left_of_client i shelves ∷ []
left-next i clients shelves h =
    let next : i + 1 ≡ suc i = omega arith in
    let from : 0 + i ≡ i = omega arith in
    ap (λ k. left_counts_from 0 (take k clients) shelves) next ∙ left-more 0 i clients shelves h
    ∙ ap (λ k. left_counts_from 0 (take i clients) shelves ++ left_of_client k shelves ∷ []) from
