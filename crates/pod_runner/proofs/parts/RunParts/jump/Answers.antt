use Rattle.std.proofs.Common.{arith}
use Rattle.pod_runner.specs.RunParts.{live_of}
use Rattle.pod_runner.proofs.Timing.{idle-due, next_later}
use Rattle.pod_runner.proofs.parts.RunParts.jump.Goals as goal

pub overflow_sub-ticks : goal.overflow_sub-ticks
overflow_sub-ticks g c =
    let idle = idle-due (live_of c.args.self.now) c.requires in
    omega (arith, next_later c.args.self.now.pod.state c.current-turn.ensures.lawful (omega (arith, idle.clock)), c.now.ensures, c.next_due.ensures)

pub overflow_sub-ticks-2 : goal.overflow_sub-ticks-2
overflow_sub-ticks-2 g c =
    let idle = idle-due (live_of c.args.self.now) c.requires in
    omega (arith, next_later c.args.self.now.pod.state c.current-turn.ensures.lawful (omega (arith, idle.clock)), c.now.ensures, c.next_due.ensures)

pub pass-requires-clause-quiet : goal.pass-requires-clause-quiet
pass-requires-clause-quiet g c =
    let idle = idle-due (live_of c.args.self.now) c.requires in
    omega (arith, next_later c.args.self.now.pod.state c.current-turn.ensures.lawful (omega (arith, idle.clock)), c.now.ensures, c.next_due.ensures)

pub pass-requires-clause-room : goal.pass-requires-clause-room
pass-requires-clause-room g c =
    let idle = idle-due (live_of c.args.self.now) c.requires in
    omega (arith, next_later c.args.self.now.pod.state c.current-turn.ensures.lawful (omega (arith, idle.clock)), c.now.ensures, c.next_due.ensures, idle.due)

pub returns-clause-early : goal.returns-clause-early
returns-clause-early g c =
    let idle = idle-due (live_of c.args.self.now) c.requires in
    next_later c.args.self.now.pod.state c.current-turn.ensures.lawful (omega (arith, idle.clock))
