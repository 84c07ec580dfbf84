-- The board: a tally for each event, and the word that says which events can be delivered.
use Rattle.agents.specs.Board.{IsMarked, is_ready, no_tally, tally_at}
use Rattle.agents.specs.declared.board.Tally.{Tally}
use Rattle.lists.specs.EventMarks.{is_marked}
use Rattle.std.proofs.Common.{List, ap, arith, false, inl, inr, replicate, set, sym, ℕ, ◌<◌, ◌≤◌, ◌∙◌, ◌≡◌, ◌≢◌, ◌⊎◌}
use Rattle.std.proofs.lemmas.Bool.{cases_eq, cases_lt}
use Rattle.std.proofs.lemmas.List.{get_or-replicate, get_or-set_other, get_or-set_same, get_or_past, length-replicate, length-set}

-- no agents
pub tally-none : (n e : ℕ) → tally_at (replicate n no_tally) e ≡ no_tally
tally-none n e = by_cases (cases_lt e n)
  where
    by_cases : (e < n) ⊎ (n ≤ e) → tally_at (replicate n no_tally) e ≡ no_tally
    by_cases (inl under) = get_or-replicate n e no_tally no_tally under
    by_cases (inr over) = get_or_past (replicate n no_tally) e no_tally (omega (arith, length-replicate n no_tally))

pub IsMarked-none : (word : ℕ) → ((e : ℕ) → is_marked word e ≡ false) → IsMarked (replicate 33 no_tally) word
IsMarked-none word none = record { wide = length-replicate 33 no_tally; marked = λ e. none e ∙ sym (ap is_ready (tally-none 33 e)) }

-- another tally of one event
module _ {board : List Tally} {word : ℕ} (was : IsMarked board word) (e : ℕ) (low : e < 33) (tally : Tally) where
  pub IsMarked-put : (new : ℕ) → is_marked new e ≡ is_ready tally → ((i : ℕ) → i ≢ e → is_marked new i ≡ is_marked word i) → IsMarked (set board e tally) new
  IsMarked-put new here others = record {
    wide = length-set board e tally ∙ was.wide;
    marked = λ i. elim (cases_eq i e) [
      | inl same
          ↦ ap (is_marked new) same ∙ here
          ∙ sym (ap is_ready (ap (tally_at (set board e tally)) same ∙ get_or-set_same board e tally no_tally (omega (arith, was.wide))))
      | inr apart ↦ others i apart ∙ was.marked i ∙ sym (ap is_ready (get_or-set_other board e i tally no_tally apart))
    ];
  }
