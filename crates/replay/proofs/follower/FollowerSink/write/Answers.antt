use Rattle.replay.proofs.AheadLaws.{told-ahead, unlike-more}
use Rattle.std.specs.Prelude.{Some}
use Rattle.std.proofs.Common.{ap, arith}
use Rattle.std.proofs.lemmas.Bool.{MatchBool-at_false}
use Rattle.std.proofs.lemmas.Grind.{common_steps}
use Rattle.std.proofs.lemmas.List.{nil_from_length}
use Rattle.replay.proofs.follower.FollowerSink.write.Goals.{else-is_empty-via-then-is_empty+else-begins_with, else-is_empty-via-else-is_empty}
use Rattle.replay.proofs.follower.FollowerSink.write.Goals as goal

pub returns-then-begins_with-clause-ok : goal.returns-then-begins_with-clause-ok
returns-then-begins_with-clause-ok c =
    let f = c.self.inside in
    let empty = c.if-is_empty.ensures in
    let none = nil_from_length f.unlike.items (grind (arith, common_steps)) in
    ap Some (told-ahead c.args.self.now f.recorded.now f.unlike.items c.args.bytes.now f.at f.ahead f.ticks f.faults c.self.view_is none
    c.self.invariant.0 c.if-begins_with.ensures)

pub invariant_of-self-in-Ok : goal.invariant_of-self-in-Ok
invariant_of-self-in-Ok c =
    let f = c.self.inside in (
      c.self.invariant.0,
      c.self.invariant.1,
      elim c.else-is_empty.branch [
        | else-is_empty-via-then-is_empty+else-begins_with w
            ↦ unlike-more f.recorded.now f.unlike.items c.args.bytes.now _ f.at f.ahead c.self.invariant.2 c.in-Ok.ensures.items
            (λ none. MatchBool-at_false _ _ w.if-begins_with.false w.begins_with.ensures)
        | else-is_empty-via-else-is_empty w
            ↦ let some = w.if-is_empty.false in
            unlike-more f.recorded.now f.unlike.items c.args.bytes.now _ f.at f.ahead c.self.invariant.2 c.in-Ok.ensures.items
            (λ none. grind (arith, common_steps))
      ],
    )
