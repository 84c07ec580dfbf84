use Rattle.std.proofs.Common.{List, subst, sym, ℕ, ◌+◌}
use Rattle.replay.proofs.EndWalk.{walk-asked}
use Rattle.replay.specs.Recorded.{is_ended, next_line}
use Rattle.replay.specs.Replayed.{Says, asked_of, moment_of}
use Rattle.replay.specs.Says.{DiffersBy}
use Rattle.std.specs.Prelude.{drop}
use Rattle.replay.proofs.following.missing_step.Goals as goal

pub returns : goal.returns
returns g c clients posts fit speaks here goes =
    let asked = asked_of g.B.Body.next g.P.Program.bodies g.P.Program.proc_names c.args.run.now clients posts in
    let lines = g.C.Posted.lines c.args.lines.now in
    let v = c.in_ok-verdict.verdict in
    let one : DiffersBy v (c.lines.result + 1) (next_line c.deref.result.now) (next_line c.rest.result.now) (is_ended c.rest.result.now) =
    c.in_ok-verdict.ensures in
    let two = subst
    (λ (l : List ℕ). DiffersBy v (c.lines.result + 1) (next_line l) (next_line c.rest.result.now) (is_ended c.rest.result.now)) c.deref.ensures.value one in
    let three = subst (λ (l : List ℕ). DiffersBy v (c.lines.result + 1) (next_line c.args.line.items) (next_line l) (is_ended l)) c.rest.ensures.rest two in
    let four = subst
    (λ (n : ℕ). DiffersBy v (n + 1) (next_line c.args.line.items) (next_line (drop c.args.follower.now.at c.args.follower.now.recorded))
    (is_ended (drop c.args.follower.now.at c.args.follower.now.recorded)))
    c.lines.ensures.same three in
    subst (λ (n : ℕ). Says asked c.args.follower.now.recorded v c.args.run.now.takes n) (sym c.calls.ensures)
    (walk-asked asked c.args.follower.now.recorded fit speaks (moment_of c.args.run.now) lines c.args.follower.now.at
    c.args.follower.now.lines c.args.follower.now.ticks here goes.0 c.args.line.items goes.1 goes.2 v four)
