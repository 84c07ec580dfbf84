use Rattle.lwp_serve.proofs.BatchLaws.TextLaws.{bad-so, said-bad, said-counts}
use Rattle.script_body.proofs.PostLaws.{is_posted}
use Rattle.script_text.specs.declared.reason.ReadErr.TheVariants as err
use Rattle.std.proofs.Common.{Err, rules, ◌≡◌}
use Rattle.lwp_serve.proofs.batches.planning.text_of.Goals as goal

pub counts_of-requires-clause-posted : goal.counts_of-requires-clause-posted
counts_of-requires-clause-posted c = is_posted c.args.input.now c.in-Ok.script c.in-Ok.ensures.spelt

pub returns-in_ok-counts-in-Ok : goal.returns-in_ok-counts-in-Ok
returns-in_ok-counts-in-Ok c =
    rw
    (said-counts c.args.turns c.args.input.now c.in-Ok.script c.in_ok-counts-in-Ok.counts c.in-Ok.ensures.exact c.in_ok-counts-in-Ok.ensures)
    c.counts_text.ensures

pub returns-in-Err-Bad : goal.returns-in-Err-Bad
returns-in-Err-Bad c =
    let bad : c.read_script.result ≡ Err (err.Bad c.in-Err-Bad.line c.in-Err-Bad.reason) = search rules in
    rw
    (said-bad c.args.turns c.args.input.now c.in-Err-Bad.line c.in-Err-Bad.reason
    (bad-so c.args.input.now c.read_script.result c.in-Err-Bad.line c.in-Err-Bad.reason bad c.read_script.ensures.exact))
    c.bad_text.ensures
