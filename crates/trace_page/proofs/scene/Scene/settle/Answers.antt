use Rattle.trace_page.proofs.scene.Scene.settle.Goals as goal

pub returns-in-Refused : goal.returns-in-Refused
returns-in-Refused c = rw c.in-Refused.is c.change.ensures
