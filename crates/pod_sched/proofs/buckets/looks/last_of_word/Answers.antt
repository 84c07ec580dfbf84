use Rattle.pod_sched.proofs.BucketLaws.LastLaws.{last_in_word, none_in_word}
use Rattle.pod_sched.proofs.buckets.looks.last_of_word.Goals as goal

pub returns-then-word-eq0-clause-last : goal.returns-then-word-eq0-clause-last
returns-then-word-eq0-clause-last g c =
    none_in_word (g.B.Looks.firsts c.args.lists.now) c.args.at c.word-word.result c.word-word.ensures.value c.if-word-eq0.true

pub returns-else-word-eq0-clause-last : goal.returns-else-word-eq0-clause-last
returns-else-word-eq0-clause-last g c = last_in_word (g.B.Looks.firsts c.args.lists.now) c.args.at c.word-word.result c.top_bit.result
    c.word-word.ensures.value c.top_bit.ensures.bit c.top_bit.ensures.set c.top_bit.ensures.above
