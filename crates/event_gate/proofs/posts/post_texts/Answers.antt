use Rattle.std.proofs.Common.{ap, arith, take, true≢false, length, sym, ℕ, ◌+◌, ◌∙◌, ◌≡◌}
use Rattle.std.proofs.lemmas.List.{take_all}
use Rattle.lwp_types.specs.declared.call.Line.{Line}
use Rattle.event_gate.specs.Ends.{Posting, once_refused}
use Rattle.event_gate.proofs.Texts.{asked_short, asked_whole, asks_more, posted_more_is, posts_more, room_left, seq_is}
use Rattle.event_gate.proofs.posts.post_texts.Goals as goal
use Rattle.event_gate.specs.Texts.{after_asks, posting_with_texts}

pub post-requires-clause-room : goal.post-requires-clause-room
post-requires-clause-room g c =
    room_left c.args.poster.now c.args.texts.now c.loop-text.text-index c.loop-text.poster c.loop-text-test.true c.requires c.loop-text.invariant.0

pub loop-text-preserved : goal.loop-text-preserved
loop-text-preserved g c =
    let p = c.args.poster.now in
    let texts = c.args.texts.now in
    let i = c.loop-text.text-index in
    let q = c.loop-text.poster in
    let text = c.text-item.result in
    let line : Line = record { client = c.client-client.result; seq = c.count-seq.result; text = c.again.result } in (
      c.in-Ok.ensures.posted
          ∙ posts_more p texts i text q line c.loop-text-test.true c.loop-text.invariant.0
          (c.client-client.ensures ∙ sym (ap (λ (r : Posting). r.client) c.loop-text.invariant.0)) c.count-seq.ensures (c.again.ensures ∙ c.text-item.is),
      asks_more g.G.Asks.asked c.args.gate.now c.loop-text.gate c.ask.new.self p.client (length p.posted) c.count-seq.result texts i text
          c.loop-text-test.true c.loop-text.invariant.1
          (seq_is p q texts i c.count-seq.result c.loop-text-test.true c.loop-text.invariant.0 c.count-seq.ensures)
          (c.ask.ensures ∙ (λ k. g.G.Asks.asked c.loop-text.gate (ap (λ (r : Posting). r.client) c.loop-text.invariant.0 k) (sym c.count-seq.ensures k))),
    )

pub returns-in_default-clause-gate : goal.returns-in_default-clause-gate
returns-in_default-clause-gate g c =
    let p = c.args.poster.now in
    let texts = c.args.texts.now in
    let i = c.loop-text.text-index in
    let q = c.loop-text.poster in
    let posted : length c.post.new.self.posted
    ≡ length p.posted + i = ap (λ (r : Posting). length r.posted) c.in_default.ensures.refused.1
    ∙ posted_more_is p q texts i (let lt = c.loop-text-test.true in omega (arith, lt)) c.loop-text.invariant.0 in
    asks_more g.G.Asks.asked c.args.gate.now c.loop-text.gate c.ask.new.self p.client (length p.posted) c.count-seq.result texts i
    c.text-item.result c.loop-text-test.true c.loop-text.invariant.1
    (seq_is p q texts i c.count-seq.result c.loop-text-test.true c.loop-text.invariant.0 c.count-seq.ensures)
    (c.ask.ensures ∙ (λ k. g.G.Asks.asked c.loop-text.gate (ap (λ (r : Posting). r.client) c.loop-text.invariant.0 k) (sym c.count-seq.ensures k)))
    ∙ ap (after_asks g.G.Asks.asked c.args.gate.now) (asked_short p c.post.new.self texts i posted)

pub returns-clause-gate : goal.returns-clause-gate
returns-clause-gate g c =
    let past = c.loop-text-test.false in
    let within = c.loop-text.auto.text-index-end in
    c.loop-text.invariant.1
    ∙ ap (after_asks g.G.Asks.asked c.args.gate.now)
    (asked_whole c.args.poster.now c.loop-text.poster c.args.texts.now c.loop-text.text-index (omega (arith, past, within)) c.loop-text.invariant.0)

pub returns-in_default-clause-posts : goal.returns-in_default-clause-posts
returns-in_default-clause-posts g c =
    let p = c.args.poster.now in
    let texts = c.args.texts.now in
    let i = c.loop-text.text-index in
    let after : c.post.new.self
    ≡ once_refused (posting_with_texts p (take i texts)) = c.in_default.ensures.refused.1 ∙ ap once_refused c.loop-text.invariant.0 in
    record {
      count = i;
      after = after ∙ (λ k. record (posting_with_texts p (take i texts)) { refused = sym (ap (λ (r : Posting). r.refused) after) k });
      refusals = ap (λ (r : Posting). r.refused) after;
      whole = λ idly. absurd (true≢false (sym idly));
      short = λ is. c.loop-text-test.true;
    }

pub returns-clause-posts : goal.returns-clause-posts
returns-clause-posts g c =
    let p = c.args.poster.now in
    let texts = c.args.texts.now in
    let i = c.loop-text.text-index in
    let is = c.loop-text.invariant.0 in
    record {
      count = i;
      after = is ∙ (λ k. record (posting_with_texts p (take i texts)) { refused = sym (ap (λ (r : Posting). r.refused) is) k });
      refusals = (let e = ap (λ (r : Posting). r.refused) is in omega (arith, e));
      whole = λ yes. take_all i texts c.loop-text-test.false;
      short = λ idly. absurd (true≢false idly);
    }
