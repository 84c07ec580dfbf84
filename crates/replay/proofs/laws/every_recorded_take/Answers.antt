use Rattle.std.proofs.Common.{[], append-nil, subst, sym}
use Rattle.replay.proofs.Forcing.{forced-take, told_line}
use Rattle.replay.proofs.Peopled.{speaks}
use Rattle.replay.specs.Recorded.{Agree}
use Rattle.replay.proofs.laws.every_recorded_take.Goals as goal

pub returns : goal.returns
returns g c asked fit peopled bytes n p rest here t next agree =
    forced-take asked bytes fit (speaks asked peopled) n p rest here t next []
    (subst (λ l. Agree 1 rest l) (sym (append-nil (told_line asked bytes p t))) agree)
