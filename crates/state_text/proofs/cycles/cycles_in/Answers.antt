use Rattle.snapshots.specs.Copies.{state_in}
use Rattle.snapshots.specs.declared.pod.ThreadCopy.{ThreadCopy}
use Rattle.state_text.proofs.Finding.{key_of}
use Rattle.state_text.proofs.Telling.{cycle_all, cycle_none, cycles_of, no_cycle}
use Rattle.state_text.specs.Covers.{IsCovered}
use Rattle.state_text.specs.Keys.{IsAbsent, key_at}
use Rattle.state_text.specs.Waiting.{next_of}
use Rattle.std.proofs.Common.{ap, get_or, length, subst, sym, ◌<◌, ◌∙◌, ◌≡◌}
use Rattle.state_text.proofs.cycles.cycles_in.Goals as goal

pub loop-row-preserved-then-is_missing : goal.loop-row-preserved-then-is_missing
loop-row-preserved-then-is_missing c =
    let copy = c.args.pod.now.state in
    let rows = copy.threads in
    let keys = c.args.tables.now.threads in
    let i = c.loop-row.row-index in
    let d = c.row-item.result in
    let least = c.in_ok-least.least in
    let same : c.as_slice-row-items.result.now ≡ rows = c.as_slice-row-items.ensures in
    let lt : i < length rows = rw same at c.loop-row-test.true in
    let here : d ≡ get_or rows i d = c.row-item.is ∙ ap (λ ls. get_or ls i d) same in
    let key_is : key_at keys i ≡ (get_or rows i d).number = key_of (λ (row : ThreadCopy). row.number) rows keys c.requires.threads 0 0 i d lt in
    let covered : IsCovered (next_of (state_in copy)) (length rows) least (get_or rows i d).number =
    subst (λ n. IsCovered (next_of (state_in copy)) (length rows) least n) key_is (c.in_ok-least.ensures i lt) in
    let absent : IsAbsent least (get_or rows i d).number 0 (length least) =
    subst (λ (x : ThreadCopy). IsAbsent least x.number 0 (length least)) here (c.is_missing.ensures c.if-is_missing.true) in
    cycle_none (state_in copy) c.loop-row.found _ rows i c.loop-row.invariant d lt (no_cycle copy least (get_or rows i d).number covered absent)

pub returns : goal.returns
returns c =
    let copy = c.args.pod.now.state in
    let same : c.as_slice-row-items.result.now ≡ copy.threads = c.as_slice-row-items.ensures in
    cycle_all (state_in copy) c.loop-row.found _ copy.threads c.loop-row.row-index c.loop-row.invariant (rw same at c.loop-row-test.false)
    ∙ sym (cycles_of copy)
