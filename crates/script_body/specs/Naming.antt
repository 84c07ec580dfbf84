-- The names that calls set.
use Rattle.lwp_types.specs.Names.{Names, with_condition_name, with_monitor_name, with_thread_name}
use Rattle.lwp_types.specs.declared.call.Answer.{Answer}
use Rattle.script_text.specs.declared.script.Stmt.{Stmt}
use Rattle.std.specs.Prelude.{None, Option, Some, ℕ}
use Rattle.lwp_types.specs.declared.call.Answer.TheVariants as answer
use Rattle.script_text.specs.declared.script.Stmt.TheVariants as stmt

-- a thread's or agent's name is set, if one was made
abbrev pub with_thread_name_by : ℕ → Answer → Names → Names
with_thread_name_by name (answer.Thread t) names = with_thread_name name t names
with_thread_name_by name _ names = names

-- a monitor's name is set, if one was made
abbrev pub with_monitor_name_by : ℕ → Answer → Names → Names
with_monitor_name_by name (answer.Monitor m) names = with_monitor_name name m names
with_monitor_name_by name _ names = names

-- a condition's name is set, if one was made
abbrev pub with_condition_name_by : ℕ → Answer → Names → Names
with_condition_name_by name (answer.Cond c) names = with_condition_name name c names
with_condition_name_by name _ names = names

-- the name of the last call's statement is set, if it has one
abbrev pub after_name_by : Answer → Stmt → Names → Names
after_name_by a (stmt.Create name number prio flags) names = with_thread_name_by name a names
after_name_by a (stmt.Agent name event) names = with_thread_name_by name a names
after_name_by a (stmt.MonCreate name) names = with_monitor_name_by name a names
after_name_by a (stmt.CvCreate name mon) names = with_condition_name_by name a names
after_name_by a _ names = names

-- the names after an answer, which change only if there was a call
abbrev pub after_name : Answer → Option Stmt → Names → Names
after_name a None names = names
after_name a (Some s) names = after_name_by a s names
