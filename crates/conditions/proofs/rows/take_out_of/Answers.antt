use Rattle.conditions.proofs.rows.take_out_of.Goals as goal
use Rattle.lwp_types.specs.Monitors.{is_of_monitor}
use Rattle.std.proofs.Common.{not, rules}
use Rattle.std.proofs.lemmas.Fn.{filter_same}

-- the closure answers whether it is a condition of another monitor
pub returns : goal.returns
returns c = filter_same _ (λ row. not (is_of_monitor c.args.mon row)) _ (λ x b f' k. (search rules, search rules)) _ _ c.retain.ensures.filtered
