use Rattle.lwp_explore.proofs.TopLaws.{top_says}
use Rattle.lwp_explore.proofs.command.explore_main.Goals as goal
use Rattle.std.specs.Prelude.{map, string_bytes}
use Rattle.streams.specs.Streams.{sides}

pub returns-in-Ok : goal.returns-in-Ok
returns-in-Ok g c = top_says (map string_bytes c.args.words.now.items) c.command_of.result c.in-Some.command c.second_word.result.now
    (sides g.S.Source.left g.S.Source.faults c.args.source.now c.read_whole.new.source)
    (sides g.K.Sink.written g.K.Sink.faults c.args.sink.now c.explore_script.new.sink) c.in-Ok.script c.explore_script.result
    c.command_of.ensures.value c.in-Some.is c.second_word.ensures c.in-Ok.ensures.read c.explore_script.ensures
