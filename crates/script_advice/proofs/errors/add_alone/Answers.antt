use Rattle.std.proofs.Common.{sym, ◌∙◌}
use Rattle.script_advice.proofs.TellLaws.{told_some}
use Rattle.script_advice.proofs.errors.add_alone.Goals as goal

pub returns-clause-out : goal.returns-clause-out
returns-clause-out c = λ others. told_some c.args.format c.args.known.now c.args.number c.args.line.now _ _ c.args.left c.args.out.now.items
    _ others (sym c.alone.ensures ∙ c.in-Some.is) c.requires (c.in_ok-add_error.ensures)
