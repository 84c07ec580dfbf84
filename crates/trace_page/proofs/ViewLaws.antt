-- What was read before memory was refused.
use Rattle.std.proofs.Common.{List, None, Option, Some, [], append-nil, sym, ℕ, ◌∙◌}
use Rattle.streams.specs.Reading.{HasRead, IsReadPart}

-- all that a source held is a part of it too
pub all_is_part : (old new : Option (List ℕ)) (text : List ℕ) → HasRead old new text → IsReadPart old new
all_is_part None new text gone = ([], gone)
all_is_part (Some told) new text read = (text, ([], read.1, read.0 ∙ sym (append-nil text)))
