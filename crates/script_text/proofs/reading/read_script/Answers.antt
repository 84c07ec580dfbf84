use Rattle.std.proofs.Common.{[]}
use Rattle.script_text.proofs.reading.read_script.Goals as goal

pub returns-clause-spelt : goal.returns-clause-spelt
returns-clause-spelt c = c.finish.ensures.spelt c.args.bytes.now (c.in_ok-feed.ensures.ok [] c.new-reader.ensures)

pub returns-clause-exact : goal.returns-clause-exact
returns-clause-exact c = c.finish.ensures.exact c.args.bytes.now (c.in_ok-feed.ensures.ok [] c.new-reader.ensures)

pub returns-clause-only : goal.returns-clause-only
returns-clause-only c = λ s h. c.finish.ensures.only c.args.bytes.now (c.in_ok-feed.ensures.ok [] c.new-reader.ensures) s h

pub returns-clause-within : goal.returns-clause-within
returns-clause-within c = c.finish.ensures.within c.args.bytes.now (c.in_ok-feed.ensures.ok [] c.new-reader.ensures)
