use Rattle.std.proofs.Common.{None, Some, ap, arith, length, rules, subst, sym, ◌∙◌, ◌≡◌}
use Rattle.pod_runner.specs.Run.{Played, Writes, trace_of, with_took}
use Rattle.replay.proofs.WalkLaws.{take-told-one, walk-keeps, walk-take, walk-take-differs}
use Rattle.replay.specs.Following.{Following, bytes_told}
use Rattle.replay.specs.Next.{event_in}
use Rattle.replay.specs.Replayed.{Says, asked_of, moment_of}
use Rattle.replay.specs.Says.{ComparedBy}
use Rattle.replay.specs.Walk.{Going, ticks_after}
use Rattle.replay.proofs.following.take_step.Goals as goal

pub returns-in-None : goal.returns-in-None
returns-in-None g c = record {
  says = λ clients posts fit speaks here.
      let asked = asked_of g.B.Body.next g.P.Program.bodies g.P.Program.proc_names c.args.run.now clients posts in
      let lines = g.C.Posted.lines c.args.lines.now in
      let p = moment_of c.args.run.now in
      let is : c.offer.new.self ≡ with_took c.args.run.now (event_in lines c.args.told.client) c.args.told.line =
      c.in-Ok.ensures.after ∙ ap (λ e. with_took c.args.run.now e c.args.told.line) c.event-event.ensures in
      let by : ComparedBy c.offer.new.sink c.compare.new.follower None =
      subst (λ o. ComparedBy c.offer.new.sink c.compare.new.follower o) c.in-None.is c.in_ok-compare.ensures in
      let wrote : Writes (Some (bytes_told c.args.follower.now)) (Some (bytes_told c.offer.new.sink))
      (trace_of g.B.Body.next g.P.Program.bodies g.P.Program.proc_names c.args.run.now)
      (trace_of g.B.Body.next g.P.Program.bodies g.P.Program.proc_names (with_took c.args.run.now (event_in lines c.args.told.client) c.args.told.line)) =
      subst
      (λ (r : Played _). Writes (Some (bytes_told c.args.follower.now)) (Some (bytes_told c.offer.new.sink))
      (trace_of g.B.Body.next g.P.Program.bodies g.P.Program.proc_names c.args.run.now)
      (trace_of g.B.Body.next g.P.Program.bodies g.P.Program.proc_names r))
      is c.in-Ok.ensures.told.0 in
      let kept = walk-keeps asked fit speaks p lines c.args.follower.now c.offer.new.sink here c.requires.clean
      (Some (event_in lines c.args.told.client, c.args.told.line)) wrote c.compare.new.follower by
      (take-told-one asked fit speaks p lines c.args.follower.now c.offer.new.sink here c.requires.clean c.args.told.client c.args.told.line c.requires.told) in
      let f2 = c.compare.new.follower in
      let f3 = c.count.new.self in
      let counted : f3
      ≡ record f2 { ticks = ticks_after (event_in lines c.args.told.client) f2.ticks } = c.count.ensures
      ∙ ap (λ e. record f2 { ticks = ticks_after e f2.ticks }) c.event-event.ensures in
      record {
        going = subst
            (λ (f : Following). Going asked c.args.follower.now.recorded (moment_of c.offer.new.self) (g.C.Posted.lines c.take.new.self) f.at f.lines f.ticks)
            (sym counted)
            (subst
            (λ (r : Played _). Going asked c.args.follower.now.recorded (moment_of r) (g.C.Posted.lines c.take.new.self) f2.at f2.lines
            (ticks_after (event_in lines c.args.told.client) f2.ticks))
            (sym is)
            (subst
            (λ ls. Going asked c.args.follower.now.recorded
            (moment_of (with_took c.args.run.now (event_in lines c.args.told.client) c.args.told.line)) ls f2.at f2.lines
            (ticks_after (event_in lines c.args.told.client) f2.ticks))
            (sym c.take.ensures.taken)
            (walk-take asked fit speaks p lines c.args.follower.now c.offer.new.sink here c.requires.clean c.args.told.client
            c.args.told.line c.requires.told wrote c.compare.new.follower by)));
        recorded = ap (λ (f : Following). f.recorded) c.count.ensures ∙ kept.0;
        clean = ap (λ (f : Following). f.step) c.count.ensures ∙ kept.1;
        further = omega (arith, kept.2, ap (λ (f : Following). f.at) c.count.ensures);
        within = omega (arith, kept.3, ap (λ (f : Following). f.at) c.count.ensures, ap (λ (f : Following). length f.recorded) c.count.ensures);
      };
  same = search (rules, c.in-Ok.ensures.after);
  unfailed = ap (λ (r : Played _). r.failed) c.in-Ok.ensures.after ∙ c.requires.sound;
  posts = c.take.ensures.same;
  clients = ap (λ ls. ls.clients) c.take.ensures.taken;
}

pub returns-in-Some : goal.returns-in-Some
returns-in-Some g c = record {
  says = λ clients posts fit speaks here.
      let asked = asked_of g.B.Body.next g.P.Program.bodies g.P.Program.proc_names c.args.run.now clients posts in
      let lines = g.C.Posted.lines c.args.lines.now in
      let p = moment_of c.args.run.now in
      let is : c.offer.new.self ≡ with_took c.args.run.now (event_in lines c.args.told.client) c.args.told.line =
      c.in-Ok.ensures.after ∙ ap (λ e. with_took c.args.run.now e c.args.told.line) c.event-event.ensures in
      let by : ComparedBy c.offer.new.sink c.compare.new.follower (Some c.in-Some.difference) =
      subst (λ o. ComparedBy c.offer.new.sink c.compare.new.follower o) c.in-Some.is c.in_ok-compare.ensures in
      let wrote : Writes (Some (bytes_told c.args.follower.now)) (Some (bytes_told c.offer.new.sink))
      (trace_of g.B.Body.next g.P.Program.bodies g.P.Program.proc_names c.args.run.now)
      (trace_of g.B.Body.next g.P.Program.bodies g.P.Program.proc_names (with_took c.args.run.now (event_in lines c.args.told.client) c.args.told.line)) =
      subst
      (λ (r : Played _). Writes (Some (bytes_told c.args.follower.now)) (Some (bytes_told c.offer.new.sink))
      (trace_of g.B.Body.next g.P.Program.bodies g.P.Program.proc_names c.args.run.now)
      (trace_of g.B.Body.next g.P.Program.bodies g.P.Program.proc_names r))
      is c.in-Ok.ensures.told.0 in
      subst (λ n. Says asked c.args.follower.now.recorded c.in-Some.difference.verdict c.offer.new.self.takes n) (sym c.calls.ensures)
      (subst (λ (r : Played _). Says asked c.args.follower.now.recorded c.in-Some.difference.verdict r.takes r.calls) (sym is)
      (walk-take-differs asked fit speaks p lines c.args.follower.now c.offer.new.sink here c.requires.clean c.args.told.client
      c.args.told.line c.requires.told wrote c.in-Some.difference by.0));
  same = search (rules, c.in-Ok.ensures.after);
  unfailed = ap (λ (r : Played _). r.failed) c.in-Ok.ensures.after ∙ c.requires.sound;
  posts = c.take.ensures.same;
  clients = ap (λ ls. ls.clients) c.take.ensures.taken;
}
