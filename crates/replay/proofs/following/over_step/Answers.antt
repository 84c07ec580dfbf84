use Rattle.std.proofs.Common.{List, subst, sym, ℕ, ◌∙◌, ◌≡◌}
use Rattle.replay.proofs.EndWalk.{walk-over}
use Rattle.replay.specs.Next.{counts_in}
use Rattle.replay.specs.Replayed.{Says, asked_of, moment_of}
use Rattle.replay.specs.Says.{EndSays}
use Rattle.std.specs.Prelude.{drop}
use Rattle.trace_text.specs.Lines.{end_text}
use Rattle.replay.proofs.following.over_step.Goals as goal

pub returns : goal.returns
returns g c clients posts fit speaks here goes =
    let asked = asked_of g.B.Body.next g.P.Program.bodies g.P.Program.proc_names c.args.run.now clients posts in
    let lines = g.C.Posted.lines c.args.lines.now in
    let v = c.in_ok-verdict.verdict in
    let counts : c.deref.result.now ≡ counts_in lines = c.deref.ensures.value ∙ c.in_ok-counts.ensures in
    let one : EndSays (end_text c.args.turns c.deref.result.now c.args.halt.now) c.rest.result.now c.lines.result v = c.in_ok-verdict.ensures in
    let two = subst (λ (l : List ℕ). EndSays (end_text c.args.turns l c.args.halt.now) c.rest.result.now c.lines.result v) counts one in
    let three = subst (λ (t : ℕ). EndSays (end_text t (counts_in lines) c.args.halt.now) c.rest.result.now c.lines.result v) c.requires.turns two in
    let four = subst (λ (l : List ℕ). EndSays (end_text c.args.run.now.turns (counts_in lines) c.args.halt.now) l c.lines.result v) c.rest.ensures.rest three in
    let five = subst
    (λ (n : ℕ). EndSays (end_text c.args.run.now.turns (counts_in lines) c.args.halt.now) (drop c.args.follower.now.at c.args.follower.now.recorded) n v)
    c.lines.ensures.same four in
    subst (λ (n : ℕ). Says asked c.args.follower.now.recorded v c.args.run.now.takes n) (sym c.calls.ensures)
    (walk-over asked c.args.follower.now.recorded fit speaks (moment_of c.args.run.now) lines c.args.follower.now.at
    c.args.follower.now.lines c.args.follower.now.ticks here goes.0 c.args.halt.now goes.1 goes.2 v five)
