use Rattle.std.proofs.Common.{Err, rules, ◌≡◌}
use Rattle.script_session.proofs.SaidLaws.{gives-bad, holds-of, refuses-of}
use Rattle.script_body.proofs.PostLaws.{is_posted}
use Rattle.script_text.specs.declared.reason.ReadErr.TheVariants as err
use Rattle.script_session.proofs.opening.read_whole.Goals as goal

pub returns-in-Ok-finish-clause-read : goal.returns-in-Ok-finish-clause-read
returns-in-Ok-finish-clause-read g c =
    let k = c.in-Ok.ensures.read in
    record {
      holds = holds-of (g.S.Source.left c.args.source.now) k.0 c.in-Ok-finish.script k.1 (c.in-Ok-finish.ensures.spelt k.0 k.2);
      faultless = c.in-Ok.ensures.same;
      up = c.in-Ok.ensures.up;
      posted = is_posted k.0 c.in-Ok-finish.script (c.in-Ok-finish.ensures.spelt k.0 k.2);
    }

pub returns-in-Ok-finish-clause-within : goal.returns-in-Ok-finish-clause-within
returns-in-Ok-finish-clause-within g c = let k = c.in-Ok.ensures.read in c.in-Ok-finish.ensures.within k.0 k.2

pub returns-in-Err-Bad-clause-not_read : goal.returns-in-Err-Bad-clause-not_read
returns-in-Err-Bad-clause-not_read g c =
    let k = c.in-Ok.ensures.read in
    let bad : c.finish.result ≡ Err (err.Bad c.in-Err-Bad.line c.in-Err-Bad.reason) = search rules in (
      c.in-Ok.ensures.same,
      refuses-of (g.S.Source.left c.args.source.now) k.0 c.in-Err-Bad.line c.in-Err-Bad.reason k.1
          (gives-bad k.0 c.finish.result c.in-Err-Bad.line c.in-Err-Bad.reason bad (c.finish.ensures.exact k.0 k.2)),
      c.in-Ok.ensures.up,
    )
