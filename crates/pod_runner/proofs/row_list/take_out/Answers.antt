use Rattle.std.proofs.Common.{length, rules, sym, ◌+◌, ◌∙◌, ◌≡◌}
use Rattle.pod_runner.proofs.Rising.{remove_last, rising_remove, without_row_at}
use Rattle.pod_runner.proofs.row_list.take_out.Goals as goal

pub returns-then-i-len-clause-after : goal.returns-then-i-len-clause-after
returns-then-i-len-clause-after g c =
    let last : c.args.i + 1 ≡ length c.args.rows.now.items = search rules in
    c.truncate.ensures.items ∙ sym (remove_last c.args.rows.now.items c.args.i last)
    ∙ sym (without_row_at c.args.tid c.args.rows.now.items c.args.i c.requires.at c.requires.within)

pub returns-then-i-len-clause-rising : goal.returns-then-i-len-clause-rising
returns-then-i-len-clause-rising g c = λ up.
    let last : c.args.i + 1 ≡ length c.args.rows.now.items = search rules in
    rw (c.truncate.ensures.items ∙ sym (remove_last c.args.rows.now.items c.args.i last)) (rising_remove c.args.rows.now.items c.args.i up)

pub returns-else-i-len-clause-after : goal.returns-else-i-len-clause-after
returns-else-i-len-clause-after g c = c.remove.ensures.items ∙ sym (without_row_at c.args.tid c.args.rows.now.items c.args.i c.requires.at c.requires.within)

pub returns-else-i-len-clause-rising : goal.returns-else-i-len-clause-rising
returns-else-i-len-clause-rising g c = λ up. rw c.remove.ensures.items (rising_remove c.args.rows.now.items c.args.i up)
