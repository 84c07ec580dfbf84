-- The words of threads as numbers: each variant has its own, in the order in which they are declared, before what it holds.
use Rattle.keys.specs.Numbers.{bit, counted}
use Rattle.lwp_types.specs.declared.call.Answer.{Answer}
use Rattle.lwp_types.specs.declared.call.Answer.TheVariants as answer
use Rattle.lwp_types.specs.declared.call.ExitCall.{ExitCall}
use Rattle.lwp_types.specs.declared.call.ExitCall.TheVariants as exit
use Rattle.lwp_types.specs.declared.call.Flags.{Flags}
use Rattle.lwp_types.specs.declared.call.Func.{Func}
use Rattle.lwp_types.specs.declared.call.Func.TheVariants as func
use Rattle.lwp_types.specs.declared.call.IdKind.{IdKind}
use Rattle.lwp_types.specs.declared.call.IdKind.TheVariants as kind
use Rattle.lwp_types.specs.declared.call.LwpErr.{LwpErr}
use Rattle.lwp_types.specs.declared.call.LwpErr.TheVariants as error
use Rattle.lwp_types.specs.declared.call.Pattern.{Pattern}
use Rattle.lwp_types.specs.declared.call.Pattern.TheVariants as pattern
use Rattle.std.specs.Prelude.{List, [], negsuc, pos, ℕ, ℤ, ◌∷◌}

-- how a thread is created
abbrev pub flags_numbers : Flags → List ℕ
flags_numbers flags = bit flags.suspended ∷ bit flags.nolastrites ∷ bit flags.server ∷ []

-- what a handler catches
abbrev pub pattern_numbers : Pattern → List ℕ
pattern_numbers pattern.All = 0 ∷ []
pattern_numbers (pattern.Num n) = 1 ∷ n ∷ []

-- what a handler answers
abbrev pub func_number : Func → ℕ
func_number func.Nothing = 0
func_number func.Give = 1
func_number func.Sum = 2

-- what the numbers of a list are
abbrev pub kind_number : IdKind → ℕ
kind_number kind.Thread = 0
kind_number kind.Monitor = 1
kind_number kind.Cond = 2

-- why a call is refused
abbrev pub error_number : LwpErr → ℕ
error_number error.NoError = 0
error_number error.NonExist = 1
error_number error.Timeout = 2
error_number error.InUse = 3
error_number error.InvalidArg = 4
error_number error.NoRoom = 5
error_number error.NotOwned = 6
error_number error.IllPrio = 7
error_number error.NoWait = 8

-- a value: 0 and its size, or 1 and how far it lies below -1
abbrev pub value_numbers : ℤ → List ℕ
value_numbers (pos n) = 0 ∷ n ∷ []
value_numbers (negsuc n) = 1 ∷ n ∷ []

-- what an exit procedure does
abbrev pub exit_numbers : ExitCall → List ℕ
exit_numbers (exit.MonExit m) = 0 ∷ m ∷ []
exit_numbers (exit.MonBreak m) = 1 ∷ m ∷ []
exit_numbers (exit.Notify c) = 2 ∷ c ∷ []
exit_numbers (exit.Broadcast c) = 3 ∷ c ∷ []
exit_numbers (exit.Reply to text) = 4 ∷ to ∷ counted text
exit_numbers (exit.Resume t) = 5 ∷ t ∷ []
exit_numbers (exit.SetExit code) = 6 ∷ code ∷ []
exit_numbers (exit.Note text) = 7 ∷ counted text

-- what a thread is polled with
abbrev pub answer_numbers : Answer → List ℕ
answer_numbers (answer.Value v) = 0 ∷ value_numbers v
answer_numbers (answer.Thread t) = 1 ∷ t ∷ []
answer_numbers (answer.Monitor m) = 2 ∷ m ∷ []
answer_numbers (answer.Cond c) = 3 ∷ c ∷ []
answer_numbers (answer.Letter from text room) = 4 ∷ from ∷ room ∷ counted text
answer_numbers (answer.Reply text) = 5 ∷ counted text
answer_numbers (answer.Bound f arg) = 6 ∷ func_number f ∷ arg ∷ []
answer_numbers (answer.Caught depth mark p) = 7 ∷ depth ∷ mark ∷ p ∷ []
answer_numbers (answer.Ids k ids) = 8 ∷ kind_number k ∷ counted ids
answer_numbers (answer.Refused e) = 9 ∷ error_number e ∷ []
