-- Which statement of a procedure comes next.
use Rattle.lwp_types.specs.Poll.{is_refused}
use Rattle.lwp_types.specs.declared.call.Answer.{Answer}
use Rattle.script_text.specs.declared.script.Stmt.{Stmt}
use Rattle.script_lines.specs.declared.table.Test.{Test}
use Rattle.std.specs.Prelude.{Bool, List, [], false, not, pos, true, ℕ, ◌+◌, ◌==◌, ◌||◌, ◌∷◌}
use Rattle.lwp_types.specs.declared.call.Answer.TheVariants as answer
use Rattle.script_text.specs.declared.script.Stmt.TheVariants as stmt
use Rattle.script_lines.specs.declared.table.Test.TheVariants as test

-- a statement that makes a call, and the place after it
pub record At : Type 0 where
  pub stmt : Stmt
  pub place : ℕ

-- the answer is this value
abbrev pub is_value : ℕ → Answer → Bool
is_value n (answer.Value (pos m)) = m == n
is_value n _ = false

-- the answer is a catch
abbrev pub is_caught : Answer → Bool
is_caught (answer.Caught depth mark p) = true
is_caught _ = false

-- a skip with this condition passes over the next statement, after this answer
abbrev pub meets : Answer → Test → Bool
meets a test.Fine = not (is_refused a || is_caught a)
meets a test.Refused = is_refused a
meets a test.Caught = is_caught a
meets a (test.Value n) = is_value n a

-- `again` goes to the first statement, which makes a call
abbrev pub first_stmt : List Stmt → At
first_stmt [] = record { stmt = stmt.Return; place = 0 }
first_stmt (s ∷ rest) = record { stmt = s; place = 1 }

-- the next statement that makes a call, from `place` on, where these are left of all; the first of them is passed over,
-- or not
abbrev pub next_stmt : Answer → List Stmt → Bool → ℕ → List Stmt → At
next_stmt a all over place [] = record { stmt = stmt.Return; place = place }
next_stmt a all true place (s ∷ rest) = next_stmt a all false (place + 1) rest
next_stmt a all false place (stmt.Skip test ∷ rest) = next_stmt a all (meets a test) (place + 1) rest
next_stmt a all false place (stmt.Again ∷ rest) = first_stmt all
next_stmt a all false place (s ∷ rest) = record { stmt = s; place = place + 1 }
