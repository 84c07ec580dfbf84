-- A poll of the body in one row. Callers see the session alone.
use Rattle.lwp_types.specs.Names.{Names}
use Rattle.lwp_types.specs.Poll.{Next, Polled}
use Rattle.lwp_types.specs.declared.call.Call.{Call}
use Rattle.pod_runner.specs.declared.session.Row.{Row}
use Rattle.std.specs.List.{AllByRecursion, remove}
use Rattle.std.specs.Prelude.{List, [], if◌then◌else◌, length, slice_set, suc, true, zero, ℕ, ◌<◌, ◌==◌, ◌∷◌, ◌≡◌}

-- the place of a thread's row, or the length
abbrev pub place_of : {B : Type 0} → ℕ → List (Row B) → ℕ
place_of t [] = 0
place_of t (row ∷ rows) = if row.tid == t then 0 else suc (place_of t rows)

-- the threads of these rows were all born before thread t
abbrev pub ComesLast : {B : Type 0} → ℕ → List (Row B) → Type 0
ComesLast t rows = AllByRecursion (λ row. row.tid < t) rows

-- each row's thread was born before those of the rows after it
abbrev pub AreRising : {B : Type 0} → List (Row B) → Type 0
AreRising [] = Unit {0}
AreRising (row ∷ rows) = AllByRecursion (λ later. row.tid < later.tid) rows × AreRising rows

-- a row whose body was polled so
abbrev pub polled_row : {B : Type 0} → Polled B → Row B → Row B
polled_row reply row = record row { body = reply.1; called = true; call = reply.0 }

-- the body of the row at a place was polled: it gave this call, and left these rows and names
pub record Polls {B : Type 0} (next : Next B) (row : Row B) (known : Names) (call : Call) (i : ℕ)
    (rows left : List (Row B)) (after : Names) : Type 0 where
  pub gives : call ≡ (next row.body known row.answer).0
  pub leaves : left ≡ slice_set rows i (polled_row (next row.body known row.answer) row)
  pub names : after ≡ (next row.body known row.answer).2

-- ---- the call of the row that was polled last

-- rows, and the call of the one that was polled last
pub record Rows (B : Type 0) : Type 0 where
  pub rows : List (Row B)
  pub call : Call

-- these rows are others only in the call of the row at a place, which goes next
pub record IsLeft {B : Type 0} (rows left : List (Row B)) (i : ℕ) : Type 0 where
  pub rest : remove left i ≡ remove rows i
  pub places : (t : ℕ) → place_of t left ≡ place_of t rows
  pub rising : AreRising rows → AreRising left
  pub as_many : length left ≡ length rows

-- the call in the row at a place, or this one if there is no such row
abbrev pub call_at : {B : Type 0} → Call → List (Row B) → ℕ → Call
call_at other [] i = other
call_at other (row ∷ rows) zero = row.call
call_at other (row ∷ rows) (suc i) = call_at other rows i
