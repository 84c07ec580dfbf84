use Rattle.std.proofs.Common.{Err}
use Rattle.script_text.specs.declared.reason.ReadErr.TheVariants as err
use Rattle.script_text.specs.declared.reason.Reason.TheVariants as reason
use Rattle.script_text.proofs.PieceLaws.{finish_large, finish_gives, read_small, read_large}
use Rattle.script_text.proofs.ScriptLaws.{spelt_by, read_as}
use Rattle.script_text.proofs.LimitLaws.{within_by}
use Rattle.script_text.proofs.pieces.ScriptReader.finish.Goals as goal

pub returns-then-is_large-clause-exact : goal.returns-then-is_large-clause-exact
returns-then-is_large-clause-exact c = λ text h.
    finish_large text (read_large c.self.inside.failed c.self.inside.is_large _ c.args.self text c.self.view_is c.if-failed.false c.if-is_large.true h)

pub returns-then-is_large-clause-only : goal.returns-then-is_large-clause-only
returns-then-is_large-clause-only c = λ text h s spells. read_as text s (Err (err.Bad 0 reason.TooLarge))
    (finish_large text (read_large c.self.inside.failed c.self.inside.is_large _ c.args.self text c.self.view_is c.if-failed.false c.if-is_large.true h)) spells

pub returns-clause-exact : goal.returns-clause-exact
returns-clause-exact c = λ text h. finish_gives _ text c.finish.result
    (read_small c.self.inside.failed c.self.inside.is_large _ c.args.self text c.self.view_is c.if-failed.false c.if-is_large.false h) c.finish.ensures

pub returns-clause-spelt : goal.returns-clause-spelt
returns-clause-spelt c = λ text h. spelt_by text c.finish.result (finish_gives _ text c.finish.result
    (read_small c.self.inside.failed c.self.inside.is_large _ c.args.self text c.self.view_is c.if-failed.false c.if-is_large.false h) c.finish.ensures)

pub returns-clause-only : goal.returns-clause-only
returns-clause-only c = λ text h s spells. read_as text s c.finish.result
    (finish_gives _ text c.finish.result
    (read_small c.self.inside.failed c.self.inside.is_large _ c.args.self text c.self.view_is c.if-failed.false c.if-is_large.false h) c.finish.ensures)
    spells

pub returns-clause-within : goal.returns-clause-within
returns-clause-within c =
    λ text h. within_by text c.finish.result (spelt_by text c.finish.result (finish_gives _ text c.finish.result
    (read_small c.self.inside.failed c.self.inside.is_large _ c.args.self text c.self.view_is c.if-failed.false c.if-is_large.false h) c.finish.ensures))
