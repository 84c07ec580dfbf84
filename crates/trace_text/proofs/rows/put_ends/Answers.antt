use Rattle.std.proofs.Common.{arith}
use Rattle.trace_text.proofs.Halves.{by_ends}
use Rattle.trace_text.proofs.rows.put_ends.Goals as goal

pub returns-clause-text : goal.returns-clause-text
returns-clause-text c =
    by_ends c.args.row.now c.args.text.now c.copy_from_slice.new.self c.copy_from_slice-2.new.self c.args.at c.args.half _ _
    (omega (arith, c.requires.room)) c.requires.least c.requires.most c.copy_from_slice.ensures.after c.copy_from_slice-2.ensures.after
