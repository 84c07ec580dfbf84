use Rattle.std.proofs.Common.{arith, refl}
use Rattle.script_session.proofs.RunLaws.{is-new}
use Rattle.lwp_state.proofs.ReplayLaws.{last-of, lines-of, whole-way}
use Rattle.lwp_state.proofs.replaying.reach_within.Goals as goal

pub last_within-requires : goal.last_within-requires
last_within-requires c = λ k. (
  (refl, tt),
  (
    omega (arith, c.len.ensures),
    (
      is-new c.args.script.now c.args.calls c.in_ok-run.run' c.in_ok-run.ensures,
      whole-way c.args.script.now c.args.takes.now c.args.calls (record { takes = c.len.result; calls = c.args.calls }) c.in_ok-run.run'
          c.len.ensures refl c.in_ok-run.ensures c.requires.due,
    ),
  ),
)

pub returns-in-Ok-clause-last : goal.returns-in-Ok-clause-last
returns-in-Ok-clause-last c =
    last-of c.args.script.now c.args.lines c.args.takes.now c.args.calls (record { takes = c.len.result; calls = c.args.calls })
    c.in-Ok.stop.reach c.in_ok-run.run' c.in_ok-run.ensures c.len.ensures refl c.in-Ok.ensures.last

pub returns-in-Ok-clause-lines : goal.returns-in-Ok-clause-lines
returns-in-Ok-clause-lines c =
    lines-of c.args.script.now c.in-Ok.stop.lines c.args.takes.now c.args.calls c.in-Ok.stop.reach c.in_ok-run.run' c.in_ok-run.ensures c.in-Ok.ensures.lines
