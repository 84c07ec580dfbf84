-- What a line says: its row, and what is in the slots. A slot that the row doesn't have is empty.
use Rattle.std.specs.Prelude.{ℕ, List}
use Rattle.lwp_types.specs.declared.call.Flags.{Flags}
use Rattle.lwp_types.specs.declared.call.Func.{Func}
use Rattle.lwp_types.specs.declared.call.Mode.{Mode}
use Rattle.lwp_types.specs.declared.call.Pattern.{Pattern}
use Rattle.script_lines.specs.declared.table.Test.{Test}
use Rattle.script_lines.specs.declared.table.Op.{Op}
use Rattle.script_lines.specs.declared.table.Whom.{Whom}

-- words as their bytes; where a word isn't a name of a thread, `who` says what it is
pub record Phrase : Type 0 where
  pub op : Op
  pub who : Whom
  pub thread : List ℕ
  pub procedure : List ℕ
  pub monitor : List ℕ
  pub condition : List ℕ
  pub number : ℕ
  pub room : ℕ
  pub client : ℕ
  pub event : ℕ
  pub flags : Flags
  pub mode : Mode
  pub pattern : Pattern
  pub func : Func
  pub test : Test
  pub text : List ℕ
