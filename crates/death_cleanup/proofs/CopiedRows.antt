-- Threads, copied one by one.
use Rattle.death_cleanup.proofs.Living.{drop-some}
use Rattle.death_cleanup.specs.View.{known_of, row_of, row_onto, rows_of}
use Rattle.death_cleanup.specs.declared.rows.Kind.{Kind}
use Rattle.death_cleanup.specs.declared.rows.Kind.TheVariants as kind
use Rattle.death_cleanup.specs.declared.rows.ThreadRec.{ThreadRec}
use Rattle.lwp_types.specs.State.{ThreadRow}
use Rattle.pod_sched.specs.declared.rows.Known.{Known}
use Rattle.snapshots.specs.Copies.{row_in}
use Rattle.snapshots.specs.declared.pod.ThreadCopy.{ThreadCopy}
use Rattle.std.proofs.Common.{List, Some, [], ap, append_assoc, drop, map, sym, ℕ, ◌+◌, ◌++◌, ◌∙◌, ◌∷◌, ◌≡◌}
use Rattle.std.proofs.lemmas.List.{map-append}
use Rattle.std.specs.List.{slice_get}

module _ (p : ℕ) (known : List Known) (living : List (ℕ × Kind)) (i n : ℕ) (k : Kind) (at : slice_get living i ≡ Some (n, k)) where
  abbrev rest : List ThreadRow
  rest = rows_of p known (drop (i + 1) living)

  -- from the i-th on: its row, if it is a thread, and then the others
  rows-at : rows_of p known (drop i living) ≡ row_onto (known_of p known n) n k rest
  rows-at = ap (rows_of p known) (drop-some living i (n, k) at)

  pub copied-thread : (rec : ThreadRec) → k ≡ kind.Thread rec → (copy : ThreadCopy) → row_in copy ≡ row_of (known_of p known n) n rec
      → (copies : List ThreadCopy) (all : List ThreadRow)
      → map row_in copies ++ rows_of p known (drop i living) ≡ all → map row_in (copies ++ copy ∷ []) ++ rest ≡ all
  copied-thread rec is copy of copies all so_far = ap (λ rows. rows ++ rest) (map-append row_in copies (copy ∷ []))
      ∙ append_assoc (map row_in copies) (row_in copy ∷ []) rest
      ∙ ap (λ row. map row_in copies ++ row ∷ rest) of
      ∙ ap (λ rows. map row_in copies ++ rows) (sym (rows-at ∙ ap (λ o. row_onto (known_of p known n) n o rest) is)) ∙ so_far

  pub passed-agent : k ≡ kind.Agent → (copies : List ThreadCopy) (all : List ThreadRow)
      → map row_in copies ++ rows_of p known (drop i living) ≡ all → map row_in copies ++ rest ≡ all
  passed-agent is copies all so_far = ap (λ rows. map row_in copies ++ rows) (sym (rows-at ∙ ap (λ o. row_onto (known_of p known n) n o rest) is)) ∙ so_far
