use Rattle.std.proofs.Common.{false, refl, rules, true, ◌∙◌, ◌≡◌}
use Rattle.lwp_serve.proofs.Planning.MakeLaws.{counted, ending, make-of, ran-of, says-cut, says-late, says-stopped, says-whole, spelt-by, told-is}
use Rattle.script_body.proofs.PostLaws.{is_posted}
use Rattle.lwp_serve.specs.Plan.Make.{is_over, summary_of}
use Rattle.streams.specs.Streams.{Stream}
use Rattle.script_session.specs.declared.session.SessionEnd.TheVariants as end
use Rattle.lwp_serve.specs.Maker.Made.{made_script}
use Rattle.lwp_serve.proofs.plan.make.make_main.Goals as goal

pub script_of-requires : goal.script_of-requires
script_of-requires g c =
    spelt-by c.deref.result.now (made_script c.args.seed c.args.threads c.args.lines) (c.deref.ensures.value ∙ c.in-Ok.ensures)
    (c.made_spells.ensures c.args.seed c.args.threads c.args.lines c.requires)

pub play_script-session-requires-clause-posted : goal.play_script-session-requires-clause-posted
play_script-session-requires-clause-posted g c = is_posted c.deref.result.now c.in-Ok-script_of.script c.in-Ok-script_of.ensures.spelt

pub returns-then-not-is_over : goal.returns-then-not-is_over
returns-then-not-is_over g c =
    let session = c.play_script-session.result in
    let script = c.in-Ok-script_of.script in
    let sink : Stream = record {
      old = g.K.Sink.written c.args.sink.now;
      new = g.K.Sink.written c.args.sink.now;
      faults_old = g.K.Sink.faults c.args.sink.now;
      faults_new = g.K.Sink.faults c.args.sink.now;
    } in
    let over : is_over session.end ≡ false = search rules in
    rw c.ending.ensures (make-of c.args.seed c.args.threads c.args.lines c.deref.result.now script sink (ending session end.NoMemory)
    (c.deref.ensures.value ∙ c.in-Ok.ensures) c.in-Ok-script_of.ensures.spelt refl
    (says-stopped (summary_of c.args.seed c.args.threads c.args.lines script) script
    (counted c.new-counted.result c.play_script-session.new.sink) sink session (refl, refl) over c.play_script-session.ensures.says))

pub summary_of-summary-requires : goal.summary_of-summary-requires
summary_of-summary-requires g c =
    let session = c.play_script-session.result in
    let over : is_over session.end ≡ true = search rules in
    (ran-of c.in-Ok-script_of.script c.new-counted.result c.play_script-session.new.sink session c.new-counted.ensures over
    c.play_script-session.ensures.says).few

pub returns-in-Ok-tell : goal.returns-in-Ok-tell
returns-in-Ok-tell g c =
    let session = c.play_script-session.result in
    let script = c.in-Ok-script_of.script in
    let bytes = c.play_script-session.new.sink.bytes in
    let sink : Stream = record {
      old = g.K.Sink.written c.args.sink.now;
      new = g.K.Sink.written c.tell.new.sink;
      faults_old = g.K.Sink.faults c.args.sink.now;
      faults_new = g.K.Sink.faults c.tell.new.sink;
    } in
    let over : is_over session.end ≡ true = search rules in
    let ran = ran-of script c.new-counted.result c.play_script-session.new.sink session c.new-counted.ensures over c.play_script-session.ensures.says in
    let told = told-is c.args.seed c.args.threads c.args.lines script bytes session c.summary_of-summary.result c.len.result c.count.result
    c.summary_of-summary.ensures (search rules) c.count.ensures c.play_script-session.ensures.status ran in
    make-of c.args.seed c.args.threads c.args.lines c.deref.result.now script sink session (c.deref.ensures.value ∙ c.in-Ok.ensures)
    c.in-Ok-script_of.ensures.spelt c.play_script-session.ensures.status
    (says-whole (summary_of c.args.seed c.args.threads c.args.lines script) _ script bytes sink session told c.in-Ok-tell.ensures.whole
    c.in-Ok-tell.ensures.faultless over ran)

pub returns-in-Err-WriteFault : goal.returns-in-Err-WriteFault
returns-in-Err-WriteFault g c =
    let session = c.play_script-session.result in
    let script = c.in-Ok-script_of.script in
    let bytes = c.play_script-session.new.sink.bytes in
    let sink : Stream = record {
      old = g.K.Sink.written c.args.sink.now;
      new = g.K.Sink.written c.tell.new.sink;
      faults_old = g.K.Sink.faults c.args.sink.now;
      faults_new = g.K.Sink.faults c.tell.new.sink;
    } in
    let over : is_over session.end ≡ true = search rules in
    let ran = ran-of script c.new-counted.result c.play_script-session.new.sink session c.new-counted.ensures over c.play_script-session.ensures.says in
    let told = told-is c.args.seed c.args.threads c.args.lines script bytes session c.summary_of-summary.result c.len.result c.count.result
    c.summary_of-summary.ensures (search rules) c.count.ensures c.play_script-session.ensures.status ran in
    rw c.ending-in-Err-WriteFault.ensures (make-of c.args.seed c.args.threads c.args.lines c.deref.result.now script sink
    (ending session end.WriteFault) (c.deref.ensures.value ∙ c.in-Ok.ensures) c.in-Ok-script_of.ensures.spelt refl
    (says-cut (summary_of c.args.seed c.args.threads c.args.lines script) _ script bytes sink session told
    (c.tell.ensures.cut (search rules)) (c.tell.ensures.cause (search rules)) ran))

pub returns : goal.returns
returns g c =
    let session = c.play_script-session.result in
    let script = c.in-Ok-script_of.script in
    let bytes = c.play_script-session.new.sink.bytes in
    let sink : Stream = record {
      old = g.K.Sink.written c.args.sink.now;
      new = g.K.Sink.written c.tell.new.sink;
      faults_old = g.K.Sink.faults c.args.sink.now;
      faults_new = g.K.Sink.faults c.tell.new.sink;
    } in
    let over : is_over session.end ≡ true = search rules in
    let ran = ran-of script c.new-counted.result c.play_script-session.new.sink session c.new-counted.ensures over c.play_script-session.ensures.says in
    rw c.ending-in-Err-NoMemory.ensures (make-of c.args.seed c.args.threads c.args.lines c.deref.result.now script sink
    (ending session end.NoMemory) (c.deref.ensures.value ∙ c.in-Ok.ensures) c.in-Ok-script_of.ensures.spelt refl
    (says-late (summary_of c.args.seed c.args.threads c.args.lines script) script bytes sink session (c.tell.ensures.quiet (search rules)) ran))
