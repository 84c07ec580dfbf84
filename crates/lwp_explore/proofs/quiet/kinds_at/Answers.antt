use Rattle.lwp_explore.proofs.quiet.kinds_at.Goals as goal
use Rattle.lwp_explore.specs.Quiet.{kind_at}
use Rattle.std.proofs.Common.{[], ap, arith, sym, ◌++◌, ◌∙◌, ◌∷◌}
use Rattle.std.proofs.lemmas.List.FromFn.{map-range_with_len_more}

pub loop-number-preserved : goal.loop-number-preserved
loop-number-preserved c =
    let rows = c.args.rows.now in
    let rounds = c.args.rounds.now in
    let number = c.loop-number.number in
    c.in_ok-push.ensures.items ∙ ap (λ kind. c.loop-number.kinds.items ++ kind ∷ []) c.kind_at.ensures
    ∙ ap (λ kinds. kinds ++ kind_at rows rounds number ∷ []) c.loop-number.invariant
    ∙ sym (map-range_with_len_more (kind_at rows rounds) 0 number number (omega arith))
