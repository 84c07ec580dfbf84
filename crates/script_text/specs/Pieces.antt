-- What a reader of pieces has read.
use Rattle.std.specs.Prelude.{◌≡◌, ℕ, Bool, true, false, List, [], fold, length, nat_lt, if◌then◌else◌}
use Rattle.script_text.specs.Kept.{kept_bytes}
use Rattle.script_text.specs.Spelling.{line_cut}
use Rattle.script_text.specs.Track.{start, step}
use Rattle.script_text.specs.declared.reader.Reader.{Reader}

-- the text has no end of a line in it
abbrev pub IsTail : List ℕ → Type 0
IsTail t = line_cut t ≡ ([], t)

-- all that is left of a text whose pieces are gone
pub record SoFar : Type 0 where
  -- how long it is
  pub total : ℕ
  -- what its lines say, where their end has come
  pub lines : Reader
  -- what is kept of the bytes after them
  pub tail : List ℕ

-- how a reader stands: memory was refused to it, or the text is too long, or it has this of the text
pub data Standing : Type 0 where
  Failed : Standing
  TooLong : Standing
  Reads : SoFar → Standing

-- a reader that memory was refused to knows nothing else
abbrev pub standing : Bool → Bool → SoFar → Standing
standing true is_large so_far = Failed
standing false true so_far = TooLong
standing false false so_far = Reads so_far

-- of a line that hasn't ended no more than 1,025 bytes are kept
abbrev pub so_far : List ℕ → SoFar
so_far text = record {
  total = length text;
  lines = fold step start (line_cut text).0;
  tail = kept_bytes (line_cut text).1;
}

-- how a reader stands once it was fed this text
abbrev pub standing_after : List ℕ → Standing
standing_after text = if nat_lt 16777216 (length text) then TooLong else Reads (so_far text)

-- the reader stands as after this text, whatever its pieces were; of a text that is too long it knows only that
abbrev pub StandsAfter : Standing → List ℕ → Type 0
StandsAfter r text = r ≡ standing_after text

-- memory was refused to the reader
abbrev pub HasFailed : Standing → Type 0
HasFailed r = r ≡ Failed
