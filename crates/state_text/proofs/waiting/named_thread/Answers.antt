use Rattle.state_text.proofs.Finding.{named_missing, named_there}
use Rattle.state_text.proofs.waiting.named_thread.Goals as goal

pub returns-in_err-next : goal.returns-in_err-next
returns-in_err-next c =
    rw c.from_residual-in_err-next.ensures (named_missing c.args.pod.now.state c.args.tables.now.threads c.requires.threads c.in_ok-tid.tid
    c.args.from c.in_ok-tid.was (rw c.tid.view_is at c.in_err-next.ensures))

pub returns : goal.returns
returns c =
    named_there c.args.pod.now.state c.args.tables.now.threads c.requires.threads c.in_ok-tid.tid c.args.from c.in_ok-tid.was
    c.in_ok-next.field-0 (rw c.tid.view_is at c.in_ok-next.ensures)
