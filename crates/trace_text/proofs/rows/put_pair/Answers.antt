use Rattle.std.proofs.Common.{ap, take, ◌+◌, ◌/◌, ◌%◌, ◌≡◌}
use Rattle.std.specs.Prelude.{slice_index_or}
use Rattle.trace_text.proofs.Digits.{two_behind}
use Rattle.trace_text.proofs.rows.put_pair.Goals as goal

pub returns-clause-text : goal.returns-clause-text
returns-clause-text c =
    let n = c.args.n in
    let tens : slice_index_or c.pair-digits.result.now 0 0 ≡ 48 + n / 10 = ap (λ ds. slice_index_or ds 0 0) c.pair-digits.ensures in
    let ones : slice_index_or c.pair-digits.result.now 1 0 ≡ 48 + n % 10 = ap (λ ds. slice_index_or ds 1 0) c.pair-digits.ensures in
    two_behind (take c.args.at c.args.row.now) (take c.put_byte.result c.put_byte.new.row) (48 + n / 10) (48 + n % 10)
    (cc (c.put_byte.ensures.text, c.put_byte-next.ensures.text, tens, ones))
