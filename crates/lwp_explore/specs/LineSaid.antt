-- What is said of a line that is looked for.
use Rattle.lwp_explore.specs.Cores.{World, after, first_core}
use Rattle.lwp_explore.specs.Ends.{IsSearched, Searched}
use Rattle.lwp_explore.specs.Searching.{writes}
use Rattle.lwp_explore.specs.Ways.{length_text, way}
use Rattle.lwp_explore.specs.declared.ending.Ending.{Ending}
use Rattle.lwp_explore.specs.declared.ending.Ending.TheVariants as ending
use Rattle.search.specs.Found.{Has}
use Rattle.search.specs.Moves.{walk}
use Rattle.search.specs.Paths.{IsBefore}
use Rattle.session_cores.specs.Core.{Core}
use Rattle.std.specs.Prelude.{List, Some, [], codes, false, true, ℕ, ◌++◌, ◌∷◌, ◌≡◌}

module _ {B : Type 0} (world : World B) (procs : List (List ℕ)) (line : List ℕ) where
  -- after this path the step of this number writes the line, and no step does so whose path comes before that
  pub record IsNearest (path : List ℕ) (number : ℕ) : Type 0 where
    pub core : Core B
    pub leads : walk (after world) (first_core world) path ≡ Some core
    pub told : writes world procs line core number ≡ true
    pub nearest : (other : List ℕ) (that : Core B) (n : ℕ) → walk (after world) (first_core world) other ≡ Some that
        → writes world procs line that n ≡ true → IsBefore (other ++ n ∷ []) (path ++ number ∷ []) → ⊥

  -- no step of any session writes it
  abbrev pub IsNever : Type 0
  IsNever = (path : List ℕ) (core : Core B) (number : ℕ) → walk (after world) (first_core world) path ≡ Some core
      → writes world procs line core number ≡ false

  -- a search was cut, and no step from the cores that it kept writes the line
  pub record IsLost (limit : ℕ) : Type 0 where
    pub found : Searched B
    pub right : IsSearched world limit found
    pub cut : found.whole ≡ false
    pub none : (core : Core B) (number : ℕ) → Has found.cores core → writes world procs line core number ≡ false

  -- the text, and what it comes to: how long the shortest way is, with the step that writes the line; or that there is none, or none was found
  abbrev pub LineSays : ℕ → List ℕ → Ending → Type 0
  LineSays limit text ending.Told = (path : List ℕ) × (number : ℕ) × IsNearest path number
      × (text ≡ length_text (way world (path ++ number ∷ [])) ++ 10 ∷ [])
  LineSays limit text ending.Well = IsNever × (text ≡ codes "never\n")
  LineSays limit text ending.Cut = IsLost limit × (text ≡ codes "cut\n")
  LineSays limit text ending.Missing = ⊥
  LineSays limit text (ending.Other e) = ⊥
