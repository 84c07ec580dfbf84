use Rattle.lwp_types.specs.declared.rows.Letter.{Letter}
use Rattle.rendezvous.proofs.slots.close_up.Goals as goal
use Rattle.std.proofs.Common.{is_some, rules}
use Rattle.std.proofs.lemmas.Fn.{filter_same}

-- the closure answers whether the slot has a letter
pub returns-clause-items : goal.returns-clause-items
returns-clause-items c = filter_same _ (is_some {T = Letter}) _ (λ x b f' k. (search rules, search rules)) _ _ c.retain.ensures.filtered
