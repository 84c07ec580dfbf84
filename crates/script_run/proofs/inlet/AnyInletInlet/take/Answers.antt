use Rattle.script_run.proofs.Sound.{sound_after}
use Rattle.script_run.proofs.inlet.AnyInletInlet.take.Goals as goal

pub invariant_of-self : goal.invariant_of-self
invariant_of-self g c =
    let s = sound_after _ _ c.take.result c.take.ensures.line c.take.ensures.nothing in
    record { first = s.0; none = s.1 }

pub invariant_of-self-in-Port : goal.invariant_of-self-in-Port
invariant_of-self-in-Port g c =
    let s = sound_after _ _ c.take-in-Port.result c.take-in-Port.ensures.line c.take-in-Port.ensures.nothing in
    record { first = s.0; none = s.1 }

pub returns-in-Lane-clause-line : goal.returns-in-Lane-clause-line
returns-in-Lane-clause-line g c = rw c.in-Lane.is c.take.ensures.line

pub returns-in-Lane-clause-nothing : goal.returns-in-Lane-clause-nothing
returns-in-Lane-clause-nothing g c = rw c.in-Lane.is c.take.ensures.nothing

pub returns-in-Lane-clause-told : goal.returns-in-Lane-clause-told
returns-in-Lane-clause-told g c = rw c.in-Lane.is c.take.ensures.told

pub returns-in-Port-clause-line : goal.returns-in-Port-clause-line
returns-in-Port-clause-line g c = rw c.in-Port.is c.take-in-Port.ensures.line

pub returns-in-Port-clause-nothing : goal.returns-in-Port-clause-nothing
returns-in-Port-clause-nothing g c = rw c.in-Port.is c.take-in-Port.ensures.nothing

pub returns-in-Port-clause-told : goal.returns-in-Port-clause-told
returns-in-Port-clause-told g c = rw c.in-Port.is c.take-in-Port.ensures.told
