use Rattle.std.proofs.Common.{None, Some, ap, rules, arith, subst, sym, ⊎_elim, ◌∙◌, ◌<◌, ◌≡◌, ◌≤◌}
use Rattle.std.proofs.lemmas.Bool.{cases_lt}
use Rattle.pod_runner.specs.Run.{Played, Writes, trace_of, with_call}
use Rattle.replay.proofs.WalkLaws.{call-told-one, walk-call, walk-call-differs, walk-call-other, walk-keeps}
use Rattle.replay.specs.Following.{bytes_told}
use Rattle.replay.specs.Replayed.{Says, asked_of, moment_of}
use Rattle.replay.specs.Says.{ComparedBy}
use Rattle.replay.specs.Walk.{Going}
use Rattle.replay.proofs.following.call_step.Goals as goal

pub returns-in-None : goal.returns-in-None
returns-in-None g c = record {
  says = λ clients posts lines fit speaks here none lowest.
      let asked = asked_of g.B.Body.next g.P.Program.bodies g.P.Program.proc_names c.args.run.now clients posts in
      let p = moment_of c.args.run.now in
      let is : c.turn.new.self ≡ with_call c.args.run.now = c.in-Ok.ensures.after in
      let by : ComparedBy c.turn.new.sink c.compare.new.follower None =
      subst (λ o. ComparedBy c.turn.new.sink c.compare.new.follower o) c.in-None.is c.in_ok-compare.ensures in
      let wrote : Writes (Some (bytes_told c.args.follower.now)) (Some (bytes_told c.turn.new.sink))
      (trace_of g.B.Body.next g.P.Program.bodies g.P.Program.proc_names c.args.run.now)
      (trace_of g.B.Body.next g.P.Program.bodies g.P.Program.proc_names (with_call c.args.run.now)) =
      subst
      (λ (r : Played _). Writes (Some (bytes_told c.args.follower.now)) (Some (bytes_told c.turn.new.sink))
      (trace_of g.B.Body.next g.P.Program.bodies g.P.Program.proc_names c.args.run.now)
      (trace_of g.B.Body.next g.P.Program.bodies g.P.Program.proc_names r))
      is c.in-Ok.ensures.told.0 in
      let kept = walk-keeps asked fit speaks p lines c.args.follower.now c.turn.new.sink here c.requires.clean None wrote c.compare.new.follower by
      (call-told-one asked fit speaks p lines c.args.follower.now c.turn.new.sink here c.requires.clean c.requires.turn) in
      record {
        going = subst
            (λ (r : Played _).
            Going asked c.args.follower.now.recorded (moment_of r) lines c.compare.new.follower.at c.compare.new.follower.lines c.compare.new.follower.ticks)
            (sym is)
            (walk-call asked fit speaks p lines c.args.follower.now c.turn.new.sink here c.requires.clean c.requires.turn wrote c.compare.new.follower by);
        recorded = kept.0;
        clean = kept.1;
        further = kept.2;
        within = kept.3;
      };
  same = search (rules, c.in-Ok.ensures.after);
  unfailed = ap (λ (r : Played _). r.failed) c.in-Ok.ensures.after ∙ c.requires.sound;
}

pub returns-in-Some : goal.returns-in-Some
returns-in-Some g c = record {
  says = λ clients posts lines fit speaks here none lowest.
      let asked = asked_of g.B.Body.next g.P.Program.bodies g.P.Program.proc_names c.args.run.now clients posts in
      let p = moment_of c.args.run.now in
      let is : c.turn.new.self ≡ with_call c.args.run.now = c.in-Ok.ensures.after in
      let by : ComparedBy c.turn.new.sink c.compare.new.follower (Some c.in-Some.difference) =
      subst (λ o. ComparedBy c.turn.new.sink c.compare.new.follower o) c.in-Some.is c.in_ok-compare.ensures in
      let wrote : Writes (Some (bytes_told c.args.follower.now)) (Some (bytes_told c.turn.new.sink))
      (trace_of g.B.Body.next g.P.Program.bodies g.P.Program.proc_names c.args.run.now)
      (trace_of g.B.Body.next g.P.Program.bodies g.P.Program.proc_names (with_call c.args.run.now)) =
      subst
      (λ (r : Played _). Writes (Some (bytes_told c.args.follower.now)) (Some (bytes_told c.turn.new.sink))
      (trace_of g.B.Body.next g.P.Program.bodies g.P.Program.proc_names c.args.run.now)
      (trace_of g.B.Body.next g.P.Program.bodies g.P.Program.proc_names r))
      is c.in-Ok.ensures.told.0 in
      let out = c.called_outcome.result in
      let d = c.in-Some.difference in
      subst (λ v. Says asked c.args.follower.now.recorded v c.turn.new.self.takes out.calls) (sym c.called_outcome.ensures.verdict)
      (⊎_elim
      (λ (some : 0 < d.lines).
      subst (λ n. Says asked c.args.follower.now.recorded d.verdict c.turn.new.self.takes n)
      (sym c.calls.ensures ∙ sym (c.called_outcome.ensures.some (omega (arith, some))))
      (subst (λ (r : Played _). Says asked c.args.follower.now.recorded d.verdict r.takes r.calls) (sym is)
      (walk-call-differs asked fit speaks p lines c.args.follower.now c.turn.new.sink here c.requires.clean c.requires.turn wrote d by.0
      (omega (arith, some)))))
      (λ (zero_lines : d.lines ≤ 0).
      subst (λ n. Says asked c.args.follower.now.recorded d.verdict c.turn.new.self.takes n)
      (sym c.calls-calls.ensures ∙ sym (c.called_outcome.ensures.none (omega (arith, zero_lines))))
      (subst (λ (r : Played _). Says asked c.args.follower.now.recorded d.verdict r.takes c.args.run.now.calls) (sym is)
      (walk-call-other asked fit speaks p lines c.args.follower.now c.turn.new.sink here c.requires.clean c.requires.turn none lowest wrote
      d by.0 (omega (arith, zero_lines)))))
      (cases_lt 0 d.lines));
  same = search (rules, c.in-Ok.ensures.after);
  unfailed = ap (λ (r : Played _). r.failed) c.in-Ok.ensures.after ∙ c.requires.sound;
}
