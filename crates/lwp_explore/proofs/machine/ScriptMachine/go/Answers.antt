use Rattle.lwp_explore.proofs.StepPlaces.{call_counts, call_gone, gone_there, on_both, on_ok, take_counts, take_gone}
use Rattle.lwp_explore.proofs.machine.ScriptMachine.go.Goals as goal
use Rattle.std.proofs.Common.{ap, arith, length}

pub returns-in-Some-clause-there : goal.returns-in-Some-clause-there
returns-in-Some-clause-there g c =
    on_ok c.take.result (λ taken. gone_there c.args.self.now c.take.new.self c.args.number c.requires.step
    (take_gone c.args.self.now c.take.new.self c.args.number c.in-Some.client c.in-Some.ensures.take taken)) c.take.ensures.there

pub returns-in-Some-clause-step : goal.returns-in-Some-clause-step
returns-in-Some-clause-step g c =
    on_ok c.take.result (take_gone c.args.self.now c.take.new.self c.args.number c.in-Some.client c.in-Some.ensures.take) c.take.ensures.there

pub returns-in-Some-clause-longer : goal.returns-in-Some-clause-longer
returns-in-Some-clause-longer g c =
    on_both c.take.result (λ longer calls. omega (arith, longer, calls)) c.take.ensures.longer c.take.ensures.calls

pub returns-in-Some-clause-counted : goal.returns-in-Some-clause-counted
returns-in-Some-clause-counted g c =
    on_both c.take.result (take_counts c.args.self.now c.take.new.self c.args.number c.in-Some.client c.in-Some.ensures.take)
    c.take.ensures.longer c.take.ensures.calls

pub returns-in-None-clause-there : goal.returns-in-None-clause-there
returns-in-None-clause-there g c =
    on_ok c.call.result (λ called. gone_there c.args.self.now c.call.new.self c.args.number c.requires.step
    (call_gone c.args.self.now c.call.new.self c.args.number c.in-None.ensures.call c.requires.step called)) c.call.ensures.there

pub returns-in-None-clause-step : goal.returns-in-None-clause-step
returns-in-None-clause-step g c =
    on_ok c.call.result (call_gone c.args.self.now c.call.new.self c.args.number c.in-None.ensures.call c.requires.step) c.call.ensures.there

pub returns-in-None-clause-longer : goal.returns-in-None-clause-longer
returns-in-None-clause-longer g c =
    on_both c.call.result (λ longer takes. omega (arith, longer, ap length takes)) c.call.ensures.longer c.call.ensures.takes

pub returns-in-None-clause-counted : goal.returns-in-None-clause-counted
returns-in-None-clause-counted g c =
    on_both c.call.result (λ longer takes. call_counts c.args.self.now c.call.new.self c.args.number c.in-None.ensures.call c.requires.step longer
    (ap length takes)) c.call.ensures.longer c.call.ensures.takes
