-- Texts one after the other.
use Rattle.std.specs.Prelude.{ℕ, ◌+◌, ◌≤◌, List, [], map, take, drop, slice_index_or}
use Rattle.std.specs.List.{AllByRecursion}
use Rattle.lists.specs.declared.text_list.Span.{Span}

-- the text at this place of a list of texts; the empty one past the last
abbrev pub text_at : List (List ℕ) → ℕ → List ℕ
text_at texts n = slice_index_or texts n []

-- the bytes of a span
abbrev pub text_in : List ℕ → Span → List ℕ
text_in bytes s = take s.len (drop s.start bytes)

-- the texts of these spans
abbrev pub texts_in : List ℕ → List Span → List (List ℕ)
texts_in bytes spans = map (text_in bytes) spans

-- each span lies within so many bytes
abbrev pub AreWithin : ℕ → List Span → Type 0
AreWithin n spans = AllByRecursion (λ s. s.start + s.len ≤ n) spans
