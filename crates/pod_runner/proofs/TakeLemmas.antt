-- Takes by their rows and texts.
use Rattle.std.proofs.Common.{◌≡◌, ◌==◌, ◌+◌, ◌∙◌, sym, ℕ, zero, suc, ◌<◌, List, [], ◌∷◌, ◌++◌, length, refl, ap, arith}
use Rattle.lwp_types.specs.CountLaws.{count-cons, one}
use Rattle.std.specs.Prelude.{slice_index_or}
use Rattle.pod_runner.specs.Snapshots.{taken_of}
use Rattle.std.specs.List.{count_by}
use Rattle.pod_runner.specs.Takes.{is_of, take_of, takes_of}
use Rattle.pod_runner.specs.declared.session.Took.{Took}
use Rattle.pod_runner.specs.declared.take_list.TakeRow.{TakeRow}

-- as many takes as rows
pub takes_length : (rows : List TakeRow) (texts : List (List ℕ)) → length rows ≡ length texts → length (takes_of rows texts) ≡ length rows
takes_length [] texts same = refl
takes_length (row ∷ rows) [] same = absurd (omega (arith, same))
takes_length (row ∷ rows) (text ∷ texts) same = ap (λ n. suc n) (takes_length rows texts (omega (arith, same)))

-- one take more
pub takes_push : (rows : List TakeRow) (texts : List (List ℕ)) (row : TakeRow) (text : List ℕ) → length rows ≡ length texts
    → takes_of (rows ++ row ∷ []) (texts ++ text ∷ []) ≡ takes_of rows texts ++ take_of row text ∷ []
takes_push [] [] row text same = refl
takes_push [] (t ∷ texts) row text same = absurd (omega (arith, same))
takes_push (r ∷ rows) [] row text same = absurd (omega (arith, same))
takes_push (r ∷ rows) (t ∷ texts) row text same = ap (λ takes. take_of r t ∷ takes) (takes_push rows texts row text (omega (arith, same)))

-- the take at a place, by its row and its text
pub takes_at : (rows : List TakeRow) (texts : List (List ℕ)) (i : ℕ) (row : TakeRow) (text : List ℕ) (d : Took) → length rows ≡ length texts → i < length rows
    → row ≡ slice_index_or rows i row → text ≡ slice_index_or texts i [] → take_of row text ≡ slice_index_or (takes_of rows texts) i d
takes_at [] texts i row text d same within here there = absurd (omega (arith, within))
takes_at (r ∷ rows) [] i row text d same within here there = absurd (omega (arith, same))
takes_at (r ∷ rows) (t ∷ texts) zero row text d same within here there = rw (here, there) refl
takes_at (r ∷ rows) (t ∷ texts) (suc i) row text d same within here there =
    takes_at rows texts i row text d (omega (arith, same)) (omega (arith, within)) here there

-- as many takes of a client's lines as rows
pub taken_rows : (c : ℕ) (rows : List TakeRow) (texts : List (List ℕ)) → length rows ≡ length texts
    → taken_of (takes_of rows texts) c ≡ count_by (is_of c) rows
taken_rows c [] texts same = refl
taken_rows c (row ∷ rows) [] same = absurd (omega (arith, same))
taken_rows c (row ∷ rows) (text ∷ texts) same =
    count-cons (λ (took : Took). took.line.client == c) (take_of row text) (takes_of rows texts)
    ∙ ap (λ n. one (row.client == c) + n) (taken_rows c rows texts (omega (arith, same)))
    ∙ sym (count-cons (is_of c) row rows)
