-- Which words may stand in a slot, as the reader of lines takes them.
use Rattle.std.specs.Prelude.{ℕ, Bool, List, is_some}
use Rattle.script_lines.specs.declared.table.Kind.{Kind}
use Rattle.script_lines.specs.declared.table.Op.TheVariants as op
use Rattle.script_lines.specs.Line.{blank}
use Rattle.script_lines.specs.Reading.{built_at, fill_word, test_at}

-- the word fills the slot
abbrev pub fits : Kind → List ℕ → Bool
fits k w = is_some (fill_word k (blank op.Again) w)

-- the words are a condition
abbrev pub is_test : List ℕ → Bool
is_test w = is_some (test_at w)

-- the words say what a built-in procedure is
abbrev pub is_built : List ℕ → Bool
is_built w = is_some (built_at w)
