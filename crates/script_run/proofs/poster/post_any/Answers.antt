use Rattle.event_gate.specs.Ends.{Posting, port_place}
use Rattle.event_gate.proofs.Texts.{length-lines_from}
use Rattle.event_gate.specs.Texts.{PostsSome, after_asks, lines_asked, lines_from}
use Rattle.lanes.specs.Ends.{LanePosting, lane_place}
use Rattle.lanes.specs.Texts.{lane_posting_with_texts}
use Rattle.script_run.proofs.poster.post_any.Goals as goal
use Rattle.script_run.specs.Ends.{IsEnd, IsReady, lines_tried, of_lane, of_port}
use Rattle.script_run.specs.declared.poster.AnyPass.TheVariants.{Lane, Port}
use Rattle.std.proofs.Common.{Bool, List, ap, arith, cond, length, length-append, refl, sym, take, true, true≢false, ℕ, ◌+◌, ◌-◌, ◌++◌, ◌∙◌, ◌≡◌}
use Rattle.std.proofs.lemmas.List.{take_all}

lane_end : (p q : LanePosting) (texts : List (List ℕ)) → IsReady (lane_place p.lane) p.client texts (of_lane p) → q ≡ lane_posting_with_texts p texts
    → IsEnd (lane_place p.lane) p.client texts (record { pass = Lane q; all = true })
lane_end p q texts ready is =
    let all : texts ≡ take (length texts) texts = sym (take_all (length texts) texts (omega arith)) in
    record {
      place_is = ap (λ (r : LanePosting). lane_place r.lane) is;
      client_is = ap (λ (r : LanePosting). r.client) is;
      count = length texts;
      posted = ap (λ (r : LanePosting). r.posted) is ∙ (λ k. ready.posted_is k ++ lines_from p.client (length (ready.posted_is k)) (all k));
      whole = λ _. sym all;
      short = λ not. absurd (true≢false not);
      tried = refl;
      sure = λ _. refl;
    }

port_end : (p q : Posting) (texts : List (List ℕ)) (all : Bool) → IsReady (port_place p.port) p.client texts (of_port p) → PostsSome p texts all q
    → IsEnd (port_place p.port) p.client texts (record { pass = Port q; all = all })
port_end p q texts all ready some = record {
  place_is = ap (λ (r : Posting). port_place r.port) some.after;
  client_is = ap (λ (r : Posting). r.client) some.after;
  count = some.count;
  posted = ap (λ (r : Posting). r.posted) some.after ∙ (λ k. ready.posted_is k ++ lines_from p.client (length (ready.posted_is k)) (take some.count texts));
  whole = some.whole;
  short = some.short;
  tried = (let r = some.refusals in let n = ready.unrefused in omega (arith, r, n));
  sure = λ lane. absurd (true≢false (sym lane));
}

-- the lines of which the gate was asked
lane_tried : (p q : LanePosting) (texts : List (List ℕ)) → IsReady (lane_place p.lane) p.client texts (of_lane p) → q ≡ lane_posting_with_texts p texts
    → lines_from p.client (length p.posted) texts ≡ lines_tried p.client texts (record { pass = Lane q; all = true })
lane_tried p q texts ready is =
    let none : length p.posted ≡ 0 = ap length ready.posted_is in
    let size : length q.posted
    ≡ length texts = ap (λ (r : LanePosting). length r.posted) is ∙ length-append p.posted (lines_from p.client (length p.posted) texts)
    ∙ (let m = length-lines_from p.client (length p.posted) texts in omega (arith, none, m)) in
    let all : take (length q.posted + 0) texts ≡ texts = take_all (length q.posted + 0) texts (omega (arith, size)) in
    λ k. lines_from p.client (none k) (sym all k)

port_tried : (p q : Posting) (texts : List (List ℕ)) (all : Bool) → IsReady (port_place p.port) p.client texts (of_port p)
    → lines_asked p texts all q ≡ lines_tried p.client texts (record { pass = Port q; all = all })
port_tried p q texts all ready =
    let none : length p.posted ≡ 0 = ap length ready.posted_is in
    let count : length q.posted - length p.posted ≡ length q.posted = omega (arith, none) in
    λ k. lines_from p.client (none k) (take (count k + cond all 0 1) texts)

pub returns-in-Lane-clause-end : goal.returns-in-Lane-clause-end
returns-in-Lane-clause-end g c =
    let ready = rw c.in-Lane.is at c.requires in
    rw c.in-Lane.is (lane_end c.in-Lane.poster c.lane_post_all.result c.args.texts.now ready c.lane_post_all.ensures.posts)

pub returns-in-Port-clause-end : goal.returns-in-Port-clause-end
returns-in-Port-clause-end g c =
    let ready = rw c.in-Port.is at c.requires in
    rw c.in-Port.is (port_end c.in-Port.poster c.post_all-pass.result.pass c.args.texts.now c.post_all-pass.result.all ready c.post_all-pass.ensures.posts)

pub returns-in-Lane-clause-gate : goal.returns-in-Lane-clause-gate
returns-in-Lane-clause-gate g c =
    let ready = rw c.in-Lane.is at c.requires in
    rw c.in-Lane.is (c.lane_post_all.ensures.gate
    ∙ ap (after_asks g.G.PostGate.asked c.args.gate.now)
    (lane_tried c.in-Lane.poster c.lane_post_all.result c.args.texts.now ready c.lane_post_all.ensures.posts))

pub returns-in-Port-clause-gate : goal.returns-in-Port-clause-gate
returns-in-Port-clause-gate g c =
    let ready = rw c.in-Port.is at c.requires in
    rw c.in-Port.is (c.post_all-pass.ensures.gate
    ∙ ap (after_asks g.G.PostGate.asked c.args.gate.now)
    (port_tried c.in-Port.poster c.post_all-pass.result.pass c.args.texts.now c.post_all-pass.result.all ready))
