use Rattle.lwp_explore.proofs.quiet.quiet_nexts.Goals as goal
use Rattle.lwp_explore.specs.Quiet.{quiet_next}
use Rattle.std.proofs.Common.{[], ap, arith, sym, ◌++◌, ◌∙◌, ◌∷◌}
use Rattle.std.proofs.lemmas.List.FromFn.{map-range_with_len_more}

pub loop-number-preserved : goal.loop-number-preserved
loop-number-preserved c =
    let rows = c.args.rows.now in
    let lasts = c.args.lasts.now in
    let number = c.loop-number.number in
    c.in_ok-push.ensures.items ∙ ap (λ next. c.loop-number.nexts.items ++ next ∷ []) c.quiet_next.ensures
    ∙ ap (λ nexts. nexts ++ quiet_next rows lasts number ∷ []) c.loop-number.invariant
    ∙ sym (map-range_with_len_more (quiet_next rows lasts) 0 number number (omega arith))
