use Rattle.c_pods.proofs.origins.keep_living.Goals as goal
use Rattle.lwp_types.specs.State.{is_id}
use Rattle.std.proofs.Common.{rules}
use Rattle.std.proofs.lemmas.Fn.{filter_same}

-- the closure answers whether it lives
pub returns : goal.returns
returns c = filter_same _ (λ began. is_id c.args.pod.now.state began.tid) _ (λ x b f' k. (search rules, search rules)) _ _ c.retain.ensures.filtered
