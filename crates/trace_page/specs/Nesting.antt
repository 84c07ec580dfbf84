-- Whether the elements of a page are closed, each within the one around it. A page is read once, byte by byte.
use Rattle.std.specs.List.{fold}
use Rattle.std.specs.Prelude.{Bool, List, [], codes, false, if◌then◌else◌, nat_le, true, ℕ, ◌&&◌, ◌++◌, ◌==◌, ◌||◌, ◌∷◌}
use Rattle.std.specs.Str.{bytes_eq}

-- where a reader of a page is
pub data Place : Type 0 where
  -- in the text outside of all tags
  Outside : Place
  -- after a `<`
  Begun : Place
  -- in the name of a tag that opens an element, and in that of one that closes it; so much of the name was read
  Opening : List ℕ → Place
  Closing : List ℕ → Place
  -- in a tag, after its name or after a value
  Inside : Place
  -- after the space before an attribute, in the attribute's name, and after its `=`
  Spaced : Place
  Attribute : Place
  Equals : Place
  -- in a value, which ends with this quote
  Quoted : ℕ → Place
  -- after the `/` of an element that has nothing inside
  Slashed : Place
  -- in `<!DOCTYPE html>`
  Declared : Place
  -- after something that is out of place
  Lost : Place

-- a reader, and the names of the elements that are open around it, the innermost first
pub record Reader : Type 0 where
  pub place : Place
  pub names : List (List ℕ)

abbrev pub at : Place → List (List ℕ) → Reader
at place names = record { place = place; names = names }

abbrev pub is_letter : ℕ → Bool
is_letter b = (nat_le 97 b && nat_le b 122) || (nat_le 65 b && nat_le b 90)

-- an element of this name has no end
abbrev pub is_void : List ℕ → Bool
is_void name = bytes_eq name (codes "meta")

-- after the `>` of a tag that opens the innermost element
abbrev pub behind_start_tag : List (List ℕ) → Reader
behind_start_tag [] = at Lost []
behind_start_tag (name ∷ names) = at Outside (if is_void name then names else name ∷ names)

-- after the `>` of a tag that closes an element of this name: the innermost has to be one
abbrev pub behind_end_tag : List ℕ → List (List ℕ) → Reader
behind_end_tag name [] = at Lost []
behind_end_tag name (innermost ∷ names) = if bytes_eq innermost name then at Outside names else at Lost names

-- after the `/>` of the innermost element
abbrev pub behind_whole_tag : List (List ℕ) → Reader
behind_whole_tag [] = at Lost []
behind_whole_tag (name ∷ names) = at Outside names

-- a byte in a tag, after its name or after a value
abbrev pub inside : ℕ → List (List ℕ) → Reader
inside b names = if b == 62 then behind_start_tag names
    else at (if b == 47 then Slashed else if b == 32 then Spaced else Lost) names

-- a reader has read a byte more; 60 and 62 are angle brackets, 34 and 39 quotes, and the others are /, !, =, - and a
-- space
unfoldable pub after_byte : Place → List (List ℕ) → ℕ → Reader
after_byte Outside names b = at (if b == 60 then Begun else if b == 62 then Lost else Outside) names
after_byte Begun names b = at
    (if b == 47 then Closing [] else if b == 33 then Declared else if is_letter b then Opening (b ∷ []) else Lost) names
after_byte (Opening name) names b = if is_letter b then at (Opening (name ++ b ∷ [])) names else inside b (name ∷ names)
after_byte (Closing name) names b = if b == 62 then behind_end_tag name names
    else at (if is_letter b then Closing (name ++ b ∷ []) else Lost) names
after_byte Inside names b = inside b names
after_byte Spaced names b = at (if is_letter b then Attribute else Lost) names
after_byte Attribute names b =
    at (if b == 61 then Equals else if is_letter b || (b == 45) then Attribute else Lost) names
after_byte Equals names b = at (if (b == 34) || (b == 39) then Quoted b else Lost) names
after_byte (Quoted quote) names b = at (if b == quote then Inside else Quoted quote) names
after_byte Slashed names b = if b == 62 then behind_whole_tag names else at Lost names
after_byte Declared names b =
    at (if b == 62 then Outside else if is_letter b || (b == 32) then Declared else Lost) names
after_byte Lost names b = at Lost names

-- after all these bytes
unfoldable pub read_on : Reader → List ℕ → Reader
read_on reader bytes = fold (λ r b. after_byte r.place r.names b) reader bytes

-- all is closed
abbrev pub is_closed : Place → List (List ℕ) → Bool
is_closed Outside [] = true
is_closed place names = false

-- each element of a page is closed, and those in it before
unfoldable pub is_nested : List ℕ → Bool
is_nested page = let r = read_on (at Outside []) page in is_closed r.place r.names
