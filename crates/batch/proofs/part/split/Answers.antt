use Rattle.batch.proofs.PartLaws.{all_after, found-all, found-bad, found-more}
use Rattle.batch.specs.Parts.{LiesIn, parts_from}
use Rattle.std.proofs.Common.{Err, [], arith, ap, length, slice_index_or, subst, sym, ◌-◌, ◌∙◌, ◌∷◌, ◌<◌, ◌≡◌}
use Rattle.std.proofs.lemmas.List.{length-append}
use Rattle.std.proofs.lemmas.List.Elements.{All-push}
use Rattle.batch.proofs.part.split.Goals as goal

pub loop-at-preserved : goal.loop-at-preserved
loop-at-preserved c =
    let found = c.loop-at.parts.items in
    let few = c.loop-at.invariant.few in
    let len = c.len.ensures in
    let size = c.loop-at.parts.ok.0 in
    let other = c.if-len-eq-PARTS_MAX.false in
    let pushed = c.in-Ok.ensures.items in
    let grown = ap length pushed in
    let one_more = length-append found (c.in-Some.part ∷ []) in
    let room : length found < 1000 = omega (arith, few, len, size, other) in
    record {
      parts = c.loop-at.invariant.parts
          ∙ found-more found c.args.bytes.now c.loop-at.at (1000 - length c.push.new.self.items) (1000 - length found) c.in-Some.part
          (omega (arith, grown, one_more, room)) c.loop-at-test.true (sym c.in-Some.ensures.value)
          ∙ ap (λ xs. all_after xs (parts_from (1000 - length c.push.new.self.items) c.args.bytes.now c.in-Some.part.to)) (sym pushed);
      few = omega (arith, grown, one_more, room);
      within = subst (λ xs. (k : _) (d : _) → k < length xs → LiesIn c.args.bytes.now (slice_index_or xs k d)) (sym pushed)
          (All-push (LiesIn c.args.bytes.now) found c.in-Some.part c.loop-at.invariant.within c.in-Some.ensures.lies);
      at = c.in-Some.ensures.lies.1;
    }

pub returns-in_default-clause-bad : goal.returns-in_default-clause-bad
returns-in_default-clause-bad c = λ part is.
    let found = c.loop-at.parts.items in
    let few = c.loop-at.invariant.few in
    let len = c.len.ensures in
    let last = c.len-in_default.ensures in
    let size = c.loop-at.parts.ok.0 in
    let other = c.if-len-eq-PARTS_MAX.false in
    let told : c.len-in_default.result ≡ part = cc in
    let same : length found ≡ part = omega (arith, told, last, size) in
    c.loop-at.invariant.parts
    ∙ found-bad found c.args.bytes.now c.loop-at.at (999 - length found) (1000 - length found) (omega (arith, few, len, size, other))
    c.loop-at-test.true (sym c.part_at.ensures.value ∙ c.in_default.is)
    ∙ ap (λ n. Err n) same

pub returns-clause-parts : goal.returns-clause-parts
returns-clause-parts c = c.loop-at.invariant.parts
    ∙ found-all c.loop-at.parts.items c.args.bytes.now c.loop-at.at (1000 - length c.loop-at.parts.items) (omega (arith, c.loop-at-test.false))
