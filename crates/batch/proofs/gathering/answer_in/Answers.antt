use Rattle.batch.proofs.SlotLaws.{fit-unset, slot-answer}
use Rattle.batch.specs.Answers.{answers_to}
use Rattle.batch.specs.Slots.{Fit}
use Rattle.std.proofs.Common.{slice_set, subst, sym, ◌∙◌}
use Rattle.batch.proofs.gathering.answer_in.Goals as goal

pub returns-in-Some-clause-fit : goal.returns-in-Some-clause-fit
returns-in-Some-clause-fit g c =
    let wanted = answers_to (g.J.Job.means c.args.job.now) c.args.bytes.now c.args.parts.now in
    subst (λ slot. Fit wanted (slice_set c.args.slots.now.items c.args.number slot)) (sym c.take.ensures.after)
    (fit-unset wanted c.args.slots.now.items c.args.number c.requires.fit)

pub returns-in-Some-clause-answer : goal.returns-in-Some-clause-answer
returns-in-Some-clause-answer g c =
    let wanted = answers_to (g.J.Job.means c.args.job.now) c.args.bytes.now c.args.parts.now in
    slot-answer wanted c.args.slots.now.items c.args.number _ c.in-Some.answer c.requires.fit c.requires.there
    (sym c.index_mut.ensures.value ∙ sym c.take.ensures.value ∙ c.in-Some.is)
