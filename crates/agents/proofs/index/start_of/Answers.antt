use Rattle.agents.proofs.IndexLemmas.{start_there}
use Rattle.agents.proofs.index.start_of.Goals as goal
use Rattle.std.proofs.Common.{length, sym, ◌<◌}
use Rattle.std.proofs.lemmas.Bool.{ltb-true}

pub returns-in-Some : goal.returns-in-Some
returns-in-Some c =
    let es = c.args.entries.now in
    let at = c.likely_start-at.result in
    let found = c.in-Some.ensures.lookup in
    let within : at < length es = ltb-true at (length es) (sym found.0) in
    start_there es c.args.key at c.in-Some.entry.now c.requires within found.1 c.if-entry-key.true (c.is_past_lesser.ensures c.if-is_past_lesser.true)
