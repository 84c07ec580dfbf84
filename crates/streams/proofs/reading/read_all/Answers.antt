use Rattle.std.proofs.Common.{length, rules, ◌<◌}
use Rattle.streams.proofs.LimitLaws.{on_err, part-up, part-within, read-all}
use Rattle.streams.proofs.reading.read_all.Goals as goal

pub returns-in_err-text-clause-part : goal.returns-in_err-text-clause-part
returns-in_err-text-clause-part g c =
    on_err c.from_residual.result _
    (part-within 18446744073709551615 (g.S.Source.left c.args.source.now) (g.S.Source.left c.read_up_to.new.source) c.in_err-text.ensures.part)

pub returns-clause-read : goal.returns-clause-read
returns-clause-read g c =
    let short : length c.in_ok-text.text.items < 18446744073709551615 = search rules in
    read-all 18446744073709551615 (g.S.Source.left c.args.source.now) (g.S.Source.left c.read_up_to.new.source) c.in_ok-text.text.items
    c.in_ok-text.ensures.read c.in_ok-text.ensures.up short
