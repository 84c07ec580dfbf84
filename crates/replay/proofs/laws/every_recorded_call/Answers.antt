use Rattle.std.proofs.Common.{None, [], append-nil, subst, sym}
use Rattle.replay.proofs.Forcing.{forced-call}
use Rattle.replay.proofs.Peopled.{speaks}
use Rattle.replay.specs.Recorded.{Agree}
use Rattle.replay.specs.Walk.{move_lines}
use Rattle.replay.proofs.laws.every_recorded_call.Goals as goal

pub returns : goal.returns
returns g c asked fit peopled bytes n p rest here due agree =
    forced-call asked bytes fit (speaks asked peopled) n p rest here due []
    (subst (λ l. Agree 1 rest l) (sym (append-nil (move_lines asked.setting asked.procs p None))) agree)
