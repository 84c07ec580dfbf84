use Rattle.std.proofs.Common.{ap, arith, length, sym, ◌+◌, ◌<◌, ◌∙◌, ◌≡◌}
use Rattle.lists.proofs.WaitingLaws.RunLaws.{all_listed, run_end, run_start, run_step}
use Rattle.lists.proofs.waiting_list.rows.tids_filed.Goals as goal
use Rattle.lists.specs.declared.waiting_list.keys.Key.{Key}

pub loop-at-init : goal.loop-at-init
loop-at-init c = rw c.new-ids.ensures (run_start c.args.entries.now.items c.args.what c.args.arrived.now.items c.start_of-at.result c.start_of-at.ensures)

pub loop-at-preserved : goal.loop-at-preserved
loop-at-preserved c =
    let ks = c.args.arrived.now.items in
    let at = c.loop-at.at in
    let k = c.index.result.now in
    let here = c.index.ensures in
    let within : at < length ks = omega (arith, c.loop-at-test.true, c.end_of-at-end.ensures.within) in
    let same : k.what
    ≡ c.args.what = omega (
      arith,
      ap (λ (l : Key). l.what) here,
      c.end_of-at-end.ensures.before at k c.loop-at-test.true,
      c.start_of-at.ensures.after at k c.loop-at.auto.at within,
    ) in
    rw (c.in_ok-push.ensures.ok, c.tid_of.ensures)
    (run_step c.args.entries.now.items c.args.what ks at (at + 1) k c.loop-at.ids (omega arith) within here same c.loop-at.invariant)

pub returns : goal.returns
returns c =
    sym (run_end c.args.entries.now.items c.args.what c.args.arrived.now.items c.loop-at.at c.end_of-at-end.result c.loop-at.ids
    c.end_of-at-end.ensures c.loop-at-test.false c.loop-at.invariant)
    ∙ all_listed c.args.entries.now.items c.args.arrived.now.items c.requires.filed c.requires.rising c.args.what
