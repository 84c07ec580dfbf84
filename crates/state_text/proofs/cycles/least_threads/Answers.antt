use Rattle.snapshots.specs.Copies.{state_in}
use Rattle.snapshots.specs.declared.pod.ThreadCopy.{ThreadCopy}
use Rattle.state_text.proofs.Covering.{if_ok, nothing_new, one_new}
use Rattle.state_text.proofs.Finding.{key_of}
use Rattle.state_text.specs.Keys.{key_at}
use Rattle.state_text.specs.Waiting.{next_of}
use Rattle.std.proofs.Common.{List, ap, arith, get_or, length, sym, ◌<◌, ◌∙◌, ◌≡◌}
use Rattle.state_text.proofs.cycles.least_threads.Goals.{in-Some+in_ok-push, in_default}
use Rattle.state_text.proofs.cycles.least_threads.Goals as goal

pub loop-i-preserved : goal.loop-i-preserved
loop-i-preserved c =
    let s = state_in c.args.pod.now.state in
    let rows = c.args.pod.now.state.threads in
    let keys = c.args.tables.now.threads in
    let d = c.index-as_slice-i.result in
    let lt : c.loop-i.i < length rows = rw c.len-count.ensures at c.loop-i-test.true in
    let start = (get_or c.as_slice.result.now c.loop-i.i d).number in
    let at : key_at keys c.loop-i.i ≡ start =
    key_of (λ (row : ThreadCopy). row.number) rows keys c.requires.threads 0 0 c.loop-i.i d lt
    ∙ sym (ap (λ (ls : List ThreadCopy). (get_or ls c.loop-i.i d).number) c.as_slice.ensures) in
    elim c.match-seen_again.branch [
      | in-Some+in_ok-push w ↦
          rw (w.found-is, w.in_ok-push.ensures.items)
          (one_new (next_of s) (length rows) keys c.loop-i.i c.loop-i.colours.items c.loop-i.found.items c.loop-i.invariant start at
          c.seen_again.new.colours.items c.seen_again.ensures.places w.in-Some.tid w.least_of.result w.in-Some.ensures.followed w.least_of.ensures)
      | in_default w ↦
          rw w.found-is (nothing_new (next_of s) (length rows) keys c.loop-i.i c.loop-i.colours.items c.loop-i.found.items
          c.loop-i.invariant start at c.seen_again.new.colours.items c.seen_again.ensures.places w.in_default.ensures.followed)
    ]

pub returns : goal.returns
returns c =
    if_ok _ _ c.of.result c.of.ensures (λ found same i lt. rw same (c.loop-i.invariant.done i (omega (arith, lt, c.len-count.ensures, c.loop-i-test.false))))
