use Rattle.lwp_types.specs.declared.rows.TimerRow.{TimerRow}
use Rattle.std.proofs.Common.{is_some, rules}
use Rattle.std.proofs.lemmas.Fn.{filter_same}
use Rattle.pod_sched.proofs.timers.shelf.close_up.Goals as goal

-- the closure answers whether the leaf has a timer
pub returns-clause-items : goal.returns-clause-items
returns-clause-items c = filter_same _ (is_some {T = TimerRow}) _ (λ x b f' k. (search rules, search rules)) _ _ c.retain.ensures.filtered
