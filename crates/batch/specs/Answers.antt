-- What a job comes to for each part of a text.
use Rattle.batch.specs.Parts.{content}
use Rattle.batch.specs.declared.part.Part.{Part}
use Rattle.std.specs.Prelude.{List, map, ℕ}

-- what a job, by what it means for an input, answers to each of these parts, in order
abbrev pub answers_to : (List ℕ → List ℕ) → List ℕ → List Part → List (List ℕ)
answers_to means bytes parts = map (λ part. means (content bytes part)) parts
