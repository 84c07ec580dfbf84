use Rattle.std.proofs.Common.{arith, rules, take, ◌+◌, ◌≤◌}
use Rattle.streams.proofs.LimitLaws.{front-end, front-full, on_err, part-read, up-end, up-full}
use Rattle.streams.proofs.reading.feed_up_to.Goals as goal

pub returns-after-loop-total-clause-read : goal.returns-after-loop-total-clause-read
returns-after-loop-total-clause-read g c =
    let k = c.loop-total.invariant.read in
    let more : c.args.most ≤ c.loop-total.total = search rules in
    (k.0, front-full c.args.most (g.S.Source.left c.args.source.now) (g.S.Source.left c.loop-total.source) k.0 k.1 (omega (arith, more, c.loop-total.invariant.within, k.3)), k.2)

pub returns-after-loop-total-clause-up : goal.returns-after-loop-total-clause-up
returns-after-loop-total-clause-up g c =
    let k = c.loop-total.invariant.read in
    let more : c.args.most ≤ c.loop-total.total = search rules in
    up-full c.args.most (g.S.Source.left c.args.source.now) (g.S.Source.left c.loop-total.source) k.0 k.1
    (omega (arith, more, c.loop-total.invariant.within, k.3))

pub returns-then-count-eq0-clause-read : goal.returns-then-count-eq0-clause-read
returns-then-count-eq0-clause-read g c =
    let k = c.loop-total.invariant.read in
    (k.0, front-end c.args.most (g.S.Source.left c.args.source.now) (g.S.Source.left c.loop-total.source) (g.S.Source.left c.read.new.self) k.0 (take c.in_ok-count.count c.read.new.buf) c.in_ok-count.count k.1 c.in_ok-count.ensures.ok c.if-count-eq0.true (omega (arith, c.loop-total.invariant.within, k.3)), k.2)

pub returns-then-count-eq0-clause-up : goal.returns-then-count-eq0-clause-up
returns-then-count-eq0-clause-up g c =
    let k = c.loop-total.invariant.read in
    up-end c.args.most (g.S.Source.left c.args.source.now) (g.S.Source.left c.loop-total.source) (g.S.Source.left c.read.new.self) k.0
    (take c.in_ok-count.count c.read.new.buf) c.in_ok-count.count k.1 c.in_ok-count.ensures.ok c.if-count-eq0.true
    (omega (arith, c.loop-total.invariant.within, k.3))

pub returns-in_err-feed-clause-part : goal.returns-in_err-feed-clause-part
returns-in_err-feed-clause-part g c =
    let k = c.loop-total.invariant.read in
    let sum : c.loop-total.total + c.in_ok-count.count ≤ c.args.most = search rules in
    on_err c.from_residual-in_err-feed.result _
    (part-read c.args.most (g.S.Source.left c.args.source.now) (g.S.Source.left c.loop-total.source) (g.S.Source.left c.read.new.self)
    k.0 (take c.in_ok-count.count c.read.new.buf) c.in_ok-count.count k.1 c.in_ok-count.ensures.ok (omega (arith, sum, k.3)))
