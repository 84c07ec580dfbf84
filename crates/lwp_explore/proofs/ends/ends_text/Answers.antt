use Rattle.lwp_explore.proofs.SearchedLaws.{ends_say, nexts_within, reached, reached_now}
use Rattle.lwp_explore.proofs.ends.ends_text.Goals as goal
use Rattle.lwp_explore.specs.Sessions.{world_of}
use Rattle.std.proofs.Common.{◌∙◌}

pub kinds_in-requires : goal.kinds_in-requires
kinds_in-requires c =
    nexts_within c.args.machine.now.script c.args.machine.now.sought c.args.cores c.in_ok-found.found c.in_ok-found.ensures

pub add_lines-requires-clause-reached : goal.add_lines-requires-clause-reached
add_lines-requires-clause-reached c =
    let s = c.args.machine.now in
    let kinds = c.in_ok-all.ensures.kinds in
    reached_now (world_of s.script) _ _ _ _ c.deref.ensures.value (c.deref-2.ensures.value ∙ kinds.2)
    (reached s.script s.sought c.args.cores c.in_ok-found.found c.in_ok-found.ensures c.requires.posted.most c.requires.some c.requires.few
    kinds.0 kinds.1.sound (λ _. kinds.1.all))

pub returns : goal.returns
returns c =
    let s = c.args.machine.now in
    let kinds = c.in_ok-all.ensures.kinds in
    ends_say s.script s.sought c.args.cores c.in_ok-found.found c.in_ok-found.ensures c.requires.posted.most c.requires.some c.requires.few
    kinds.0 kinds.1.sound (λ _. kinds.1.all) _ _ _ _ _ _ _ _ (c.len.ensures ∙ c.in_ok-found.found.rows.ok.0) c.new-out.ensures.items
    c.in_ok-add_counts.ensures c.deref.ensures.value (c.deref-2.ensures.value ∙ kinds.2) (c.deref-3.ensures.value ∙ kinds.2)
    c.in_ok-add_lines.ensures c.ending_of-ending.ensures
