use Rattle.lwp_explore.proofs.TracingLaws.{after_path, no_round, no_round_stuck}
use Rattle.lwp_explore.proofs.tracing.whole_path.Goals as goal
use Rattle.lwp_explore.specs.KindCodes.{code_kind}
use Rattle.lwp_explore.specs.declared.kinds.Kind.{Kind}
use Rattle.std.proofs.Common.{ap, append-nil, arith, replicate, suc, sym, ◌++◌, ◌∙◌}

pub add_round-requires-clause-start : goal.add_round-requires-clause-start
add_round-requires-clause-start c = omega (arith, c.requires.start, c.requires.same)

pub returns-in_ok-add_round-in-Endless : goal.returns-in_ok-add_round-in-Endless
returns-in_ok-add_round-in-Endless c =
    let round = c.in_ok-add_round-in-Endless.ensures in (
      suc round.0,
      after_path c.args.nexts.now c.args.listed.now.first round.0 (code_kind c.args.listed.now.number).end
          (ap (λ (k : Kind). k.end) (sym c.kind_of.ensures.value) ∙ c.in-Endless.is) round.1,
      round.2 ∙ ap (λ l. l ++ replicate (suc round.0) 0) c.in-Ok.ensures,
    )

pub returns-in-Ended : goal.returns-in-Ended
returns-in-Ended c = (
  0,
  no_round c.args.nexts.now c.args.listed.now.first _ (code_kind c.args.listed.now.number).end
      (ap (λ (k : Kind). k.end) (sym c.kind_of.ensures.value) ∙ c.in-Ended.is),
  c.in-Ok.ensures ∙ sym (append-nil _),
)

pub returns-in-Stuck : goal.returns-in-Stuck
returns-in-Stuck c = (
  0,
  no_round_stuck c.args.nexts.now c.args.listed.now.first (code_kind c.args.listed.now.number).end
      (ap (λ (k : Kind). k.end) (sym c.kind_of.ensures.value) ∙ c.in-Stuck.is),
  c.in-Ok.ensures ∙ sym (append-nil _),
)
