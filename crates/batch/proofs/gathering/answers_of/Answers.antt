use Rattle.batch.proofs.SlotLaws.{more_answers}
use Rattle.batch.specs.Answers.{answers_to}
use Rattle.std.proofs.Common.{◌∙◌}
use Rattle.batch.proofs.gathering.answers_of.Goals as goal

pub loop-number-preserved : goal.loop-number-preserved
loop-number-preserved g c =
    let wanted = answers_to (g.J.Job.means c.args.job.now) c.args.bytes.now c.args.parts.now in
    record {
      many = c.answer_in.ensures.many ∙ c.loop-number.invariant.many;
      fit = c.answer_in.ensures.fit;
      answers = more_answers wanted c.loop-number.number c.loop-number.answers.items c.push.new.self.items c.in_ok-answer_in.field-0
          c.loop-number.invariant.answers c.in_ok-answer_in.ensures.answer c.in_ok-push.ensures.items;
    }
