-- A call that is answered changes no name list's length.
use Rattle.lwp_types.specs.Names.{KeepsLengths, Names}
use Rattle.lwp_types.specs.declared.call.Answer.{Answer}
use Rattle.lwp_types.specs.declared.call.Answer.TheVariants as answer
use Rattle.script_body.specs.Naming.{after_name, after_name_by, with_condition_name_by, with_monitor_name_by, with_thread_name_by}
use Rattle.script_body.specs.ScriptBody.{ScriptBody, after_take, poll_of_answer, script_next}
use Rattle.script_text.specs.declared.script.Stmt.{Stmt}
use Rattle.script_text.specs.declared.script.Stmt.TheVariants as stmt
use Rattle.std.proofs.Common.{None, Option, Some, refl, ℕ}
use Rattle.std.proofs.Math.ListN.{length-set}

same : (names : Names) → KeepsLengths names names
same names = record { threads = refl; monitors = refl; conditions = refl }

by_thread : (name : ℕ) (a : Answer) (names : Names) → KeepsLengths names (with_thread_name_by name a names)
by_thread name (answer.Thread t) names = record { threads = length-set _ _ _; monitors = refl; conditions = refl }
by_thread name _ names = same names

by_monitor : (name : ℕ) (a : Answer) (names : Names) → KeepsLengths names (with_monitor_name_by name a names)
by_monitor name (answer.Monitor m) names = record { threads = refl; monitors = length-set _ _ _; conditions = refl }
by_monitor name _ names = same names

by_condition : (name : ℕ) (a : Answer) (names : Names) → KeepsLengths names (with_condition_name_by name a names)
by_condition name (answer.Cond c) names = record { threads = refl; monitors = refl; conditions = length-set _ _ _ }
by_condition name _ names = same names

by_stmt : (a : Answer) (s : Stmt) (names : Names) → KeepsLengths names (after_name_by a s names)
by_stmt a (stmt.Create name number prio flags) names = by_thread name a names
by_stmt a (stmt.Agent name event) names = by_thread name a names
by_stmt a (stmt.MonCreate name) names = by_monitor name a names
by_stmt a (stmt.CvCreate name mon) names = by_condition name a names
by_stmt a _ names = same names

by_last : (a : Answer) (last : Option Stmt) (names : Names) → KeepsLengths names (after_name a last names)
by_last a None names = same names
by_last a (Some s) names = by_stmt a s names

by_taken : (body : ScriptBody) (names : Names) (a : Answer) (now : Option ScriptBody)
    → KeepsLengths names (poll_of_answer body names a now).2
by_taken body names a None = same names
by_taken body names a (Some now) = by_last a body.last names

pub script_next-keeps_lengths : (body : ScriptBody) (names : Names) (a : Answer)
    → KeepsLengths names (script_next body names a).2
unfolding script_next
script_next-keeps_lengths body names a = by_taken body names a (after_take body a)
