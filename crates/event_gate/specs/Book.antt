-- What the seats of a gauge know of the lines that posts announce.
use Rattle.std.specs.Prelude.{◌≡◌, ℕ, suc, ◌+◌, ◌-◌, ◌<◌, true, false, cond, eqb, ltb, List, [], ◌∷◌, ◌++◌, length, take, Option, Some, None}
use mathlib.Core.Option.{some}
use lib.ListN.{get_elem?}
use Rattle.lwp_types.specs.declared.call.Line.{Line}
use Rattle.event_gate.specs.declared.book.Book.{Book}
use Rattle.event_gate.specs.declared.view.Told.{Told}
use Rattle.event_gate.specs.Clients.{of, is_noted, is_told, lines_in_pass}

-- it posts nothing, takes nothing and knows nothing
abbrev pub blank : Book
blank = record { posts = false; client = 0; sent = []; lines = []; takes = false; noted = []; next = 0; known = [] }

-- the poster of client c, which has announced these lines and not taken them back
abbrev pub posters_book : ℕ → List Line → Book
posters_book c sent = record blank { posts = true; client = c; sent = sent }

-- the taker of a new port
abbrev pub takers_book : Book
takers_book = record blank { takes = true }

-- the line l is announced too, and its ticket is here
abbrev pub with_note : Book → Line → Book
with_note b l = record b { sent = b.sent ++ l ∷ []; lines = b.lines ++ l ∷ [] }

-- the line announced last is taken back, with its ticket
abbrev pub without_last : Book → Book
without_last b = record b { sent = take (length b.sent - 1) b.sent; lines = [] }

-- all tickets were handed on
abbrev pub without_lines : Book → Book
without_lines b = record b { lines = [] }

-- and here they are, and nothing else
abbrev pub lines_alone : Book → Book
lines_alone b = record blank { lines = b.lines }

-- another's tickets are here too
abbrev pub with_lines : Book → Book → Book
with_lines b other = record b { lines = b.lines ++ other.lines }

-- the next poster will be of client c
abbrev pub with_next : Book → ℕ → Book
with_next b c = record b { next = c }

-- the client of the next poster is noted
abbrev pub with_next_noted : Book → Book
with_next_noted b = record b { noted = b.noted ++ b.next ∷ [] }

-- what a poster's book tells
abbrev pub told_of_book : Book → Told
told_of_book b = record { client = b.client; posted = b.sent }

-- what a poster has announced in all is known
abbrev pub with_told : Book → Book → Book
with_told b other = record b { lines = b.lines ++ other.lines; known = told_of_book other ∷ b.known }

-- 1 where it is client c's line i
abbrev pub hit : ℕ → ℕ → Line → ℕ
hit c i l = cond (eqb l.client c) (cond (eqb l.seq i) 1 0) 0

-- how many of these lines are client c's line i
abbrev pub hits : ℕ → ℕ → List Line → ℕ
hits c i [] = 0
hits c i (l ∷ ls) = hit c i l + hits c i ls

-- how many tickets of client c's line i there are
abbrev pub tickets_in : ℕ → ℕ → List Book → ℕ
tickets_in c i [] = 0
tickets_in c i (b ∷ bs) = hits c i b.lines + tickets_in c i bs

-- 1 where there is a line i
abbrev pub below : ℕ → List Line → ℕ
below i ls = cond (ltb i (length ls)) 1 0

-- the lines are of client c, numbered from n on, below the greatest u32
abbrev pub IsRun : ℕ → ℕ → List Line → Type 0
IsRun c n [] = Unit {0}
IsRun c n (l ∷ ls) = (l.client ≡ c) × (l.seq ≡ n) × (n < 4294967295) × IsRun c (suc n) ls

-- the line is the one that its client has announced under its number
abbrev pub IsSent : (ℕ → List Line) → Line → Type 0
IsSent sent l = get_elem? (sent l.client) l.seq ≡ some l

-- so it is of each of these
abbrev pub AreSent : (ℕ → List Line) → List Line → Type 0
AreSent sent [] = Unit {0}
AreSent sent (l ∷ ls) = IsSent sent l × AreSent sent ls

-- a poster's book is the one of its client
abbrev pub FitsPoster : (ℕ → Option ℕ) → (ℕ → List Line) → ℕ → Book → Type 0
FitsPoster seat sent pass b = b.posts ≡ true → (seat b.client ≡ Some pass) × (b.sent ≡ sent b.client)

-- the one taker's book knows that no other client has announced anything, and what those have announced whose seats
-- came back
abbrev pub FitsTaker : ℕ → (ℕ → Option ℕ) → (ℕ → List Line) → ℕ → Book → Type 0
FitsTaker taker seat sent pass b =
    b.takes ≡ true
    → (pass ≡ taker)
    × ((c : ℕ) → is_noted c b.noted ≡ false → (seat c ≡ None) × (sent c ≡ []))
    × ((c : ℕ) → is_told c b.known ≡ true
    → (seat c ≡ None) × (lines_in_pass c b.known ≡ sent c) × (is_noted c b.noted ≡ true))

-- of each line that was announced and not taken back there is one ticket, at some seat
pub record AreBooked (books : List Book) : Type 0 where
  pub taker : ℕ
  pub seat : ℕ → Option ℕ
  pub sent : ℕ → List Line
  pub runs : (c : ℕ) → IsRun c 0 (sent c)
  pub once : (c i : ℕ) → tickets_in c i books ≡ below i (sent c)
  pub right : (pass : ℕ) (b : Book) → get_elem? books pass ≡ some b → AreSent sent b.lines
  pub fits : (pass : ℕ) (b : Book) → get_elem? books pass ≡ some b
      → FitsPoster seat sent pass b × FitsTaker taker seat sent pass b

-- what the taker knows of the lines of its tickets: each is the one that its client has announced under its number,
-- where that is told, and no other client has announced any
pub record Learns (b : Book) : Type 0 where
  pub runs : (c : ℕ) → is_told c b.known ≡ true → IsRun c 0 (lines_in_pass c b.known)
  pub sent : (c : ℕ) → is_told c b.known ≡ true → AreSent (λ d. lines_in_pass c b.known) (of c b.lines)
  pub stray : (c : ℕ) → is_noted c b.noted ≡ false → of c b.lines ≡ []
  pub noted_too : (c : ℕ) → is_told c b.known ≡ true → is_noted c b.noted ≡ true
