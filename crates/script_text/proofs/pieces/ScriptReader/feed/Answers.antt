use Rattle.std.proofs.Common.{arith, ◌≤◌, ◌-◌, length, refl, rules}
use Rattle.script_text.proofs.PieceLaws.{feeds, feeds_more, feeds_over, read_small, read_large, reads_small, reads_large}
use Rattle.script_text.proofs.pieces.ScriptReader.feed.Goals as goal
use Rattle.script_text.proofs.pieces.ScriptReader.feed.Goals.{then-self-2-via-then-self-2, then-self-2-via-else-self-2+then-piece-saturating_sub}

pub returns-clause-ok : goal.returns-clause-ok
returns-clause-ok c = λ text h.
    let r = c.self.inside in
    let within : length c.args.piece.now ≤ 16777216 - r.total = search rules in
    let read = read_small r.failed r.is_large _ c.args.self.now text c.self.view_is c.if-self.false c.if-self-2.false h in
    reads_small r.is_large _ _ c.if-self-2.false (feeds _ _ c.args.piece.now within c.in_ok-feed.ensures.reader c.in_ok-feed.ensures.tail refl text read)

pub returns-then-self-2-clause-ok : goal.returns-then-self-2-clause-ok
returns-then-self-2-clause-ok c = λ text h.
    let r = c.self.inside in
    reads_large r.failed _ _ c.if-self.false (elim c.then-self-2.branch [
      | then-self-2-via-then-self-2 w
          ↦ feeds_more c.args.piece.now text (read_large r.failed r.is_large _ c.args.self.now text c.self.view_is c.if-self.false w.if-self-2.true h)
      | then-self-2-via-else-self-2+then-piece-saturating_sub w
          ↦ feeds_over _ c.args.piece.now (omega (arith, w.if-piece-saturating_sub.true, w.saturating_sub.ensures)) text
          (read_small r.failed r.is_large _ c.args.self.now text c.self.view_is c.if-self.false w.if-self-2.false h)
    ])
