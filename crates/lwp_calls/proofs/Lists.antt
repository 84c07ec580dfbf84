-- Lists of the living, made one by one.
use Rattle.death_cleanup.proofs.Living.{drop-some}
use Rattle.death_cleanup.specs.View.{known_of, row_of, row_onto, rows_of}
use Rattle.death_cleanup.specs.Waits.{waits_for}
use Rattle.death_cleanup.specs.declared.rows.Awaited.TheVariants as awaited
use Rattle.death_cleanup.specs.declared.rows.Kind.{Kind}
use Rattle.death_cleanup.specs.declared.rows.Kind.TheVariants as kind
use Rattle.death_cleanup.specs.declared.rows.ThreadRec.{ThreadRec}
use Rattle.lwp_calls.specs.Asks.{serves}
use Rattle.lwp_types.specs.Messages.{awaits}
use Rattle.lwp_types.specs.State.{ThreadRow, numbers}
use Rattle.pod_sched.specs.declared.rows.Known.{Known}
use Rattle.std.proofs.Common.{Bool, List, Some, [], ap, append_assoc, cond, drop, false, refl, sym, true, ℕ, ◌&&◌, ◌+◌, ◌++◌, ◌∙◌, ◌∷◌, ◌≡◌}
use Rattle.std.specs.List.{filter, list_all, slice_get}

module _ (p : ℕ) (known : List Known) (living : List (ℕ × Kind)) (i n : ℕ) (k : Kind) (at : slice_get living i ≡ Some (n, k)) where
  abbrev rest : List ThreadRow
  rest = rows_of p known (drop (i + 1) living)

  -- from the i-th on: its row, if it is a thread, and then the others
  rows-at : rows_of p known (drop i living) ≡ row_onto (known_of p known n) n k rest
  rows-at = ap (rows_of p known) (drop-some living i (n, k) at)

  -- all threads
  pub listed-thread : (rec : ThreadRec) → k ≡ kind.Thread rec → (list all : List ℕ)
      → list ++ numbers (rows_of p known (drop i living)) ≡ all → (list ++ n ∷ []) ++ numbers rest ≡ all
  listed-thread rec is list all so_far = append_assoc list (n ∷ []) (numbers rest)
      ∙ ap (λ rows. list ++ numbers rows) (sym (rows-at ∙ ap (λ o. row_onto (known_of p known n) n o rest) is)) ∙ so_far

  pub listed-agent : k ≡ kind.Agent → (list all : List ℕ) → list ++ numbers (rows_of p known (drop i living)) ≡ all → list ++ numbers rest ≡ all
  listed-agent is list all so_far = ap (λ rows. list ++ numbers rows) (sym (rows-at ∙ ap (λ o. row_onto (known_of p known n) n o rest) is)) ∙ so_far

  -- those that wait for a letter of x by name
  module _ (x : ℕ) where
    abbrev those : List ThreadRow → List ℕ
    those rows = numbers (filter (λ row. awaits x row.block) rows)

    those-at : (o : Kind) (b : Bool) → waits_for awaited.Letter x o ≡ b → those (row_onto (known_of p known n) n o rest) ≡ cond b (n ∷ those rest) (those rest)
    those-at kind.Agent b e = rw (sym e) refl
    those-at (kind.Thread rec) b e = rw e (by_test b)
      where
        by_test : (c : Bool)
            → numbers (cond c (row_of (known_of p known n) n rec ∷ filter (λ row. awaits x row.block) rest) (filter (λ row. awaits x row.block) rest))
            ≡ cond c (n ∷ those rest) (those rest)
        by_test true = refl
        by_test false = refl

    pub listed-waiter : waits_for awaited.Letter x k ≡ true → (list all : List ℕ) → list ++ those (rows_of p known (drop i living)) ≡ all
        → (list ++ n ∷ []) ++ those rest ≡ all
    listed-waiter waits list all so_far = append_assoc list (n ∷ []) (those rest)
        ∙ ap (λ ns. list ++ ns) (sym (ap those rows-at ∙ those-at k true waits)) ∙ so_far

    pub listed-other : waits_for awaited.Letter x k ≡ false → (list all : List ℕ) → list ++ those (rows_of p known (drop i living)) ≡ all
        → list ++ those rest ≡ all
    listed-other waits list all so_far = ap (λ ns. list ++ ns) (sym (ap those rows-at ∙ those-at k false waits)) ∙ so_far

  -- whether all serve
  abbrev all_serve : List ThreadRow → Bool
  all_serve rows = list_all (λ row. row.flags.server) rows

  serve-at : (o : Kind) → all_serve (row_onto (known_of p known n) n o rest) ≡ (serves o && all_serve rest)
  serve-at (kind.Thread rec) = refl
  serve-at kind.Agent = refl

  pub serve-on : serves k ≡ true → (all : Bool) → all_serve (rows_of p known (drop i living)) ≡ all → all_serve rest ≡ all
  serve-on is all so_far = sym (ap all_serve rows-at ∙ serve-at k ∙ ap (λ b. b && all_serve rest) is) ∙ so_far

  pub serve-not : serves k ≡ false → (all : Bool) → all_serve (rows_of p known (drop i living)) ≡ all → false ≡ all
  serve-not is all so_far = sym (ap all_serve rows-at ∙ serve-at k ∙ ap (λ b. b && all_serve rest) is) ∙ so_far
