use Rattle.lwp_serve.proofs.BatchLaws.PlannedLaws.{ended-of, told-is}
use Rattle.lwp_serve.specs.Plan.Make.{is_over}
use Rattle.std.proofs.Common.{rules, true, ◌≡◌}
use Rattle.lwp_serve.proofs.batches.planning.counts_of.Goals as goal

pub counts_at_end-requires : goal.counts_at_end-requires
counts_at_end-requires c =
    let session = c.play_script-session.result in
    let over : is_over session.end ≡ true = search rules in
    (ended-of c.args.turns c.args.script.now c.new-counted.result c.play_script-session.new.sink session c.new-counted.ensures over
    c.play_script-session.ensures).few

pub returns : goal.returns
returns c =
    let session = c.play_script-session.result in
    let bytes = c.play_script-session.new.sink.bytes in
    let over : is_over session.end ≡ true = search rules in
    let ended = ended-of c.args.turns c.args.script.now c.new-counted.result c.play_script-session.new.sink session c.new-counted.ensures
    over c.play_script-session.ensures in
    told-is c.args.turns c.args.script.now bytes session c.counts_at_end.result c.count.result c.counts_at_end.ensures c.count.ensures ended
