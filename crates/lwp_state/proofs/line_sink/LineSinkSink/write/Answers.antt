use Rattle.lwp_state.proofs.LineLaws.{adds, appended, fits}
use Rattle.lwp_state.proofs.line_sink.LineSinkSink.write.Goals as goal

pub added-self-inside-requires : goal.added-self-inside-requires
added-self-inside-requires c =
    fits c.self.inside.lines c.line_count-more.result c.count.result c.self.inside.taken.bytes c.write.new.self.bytes c.args.bytes.now
    c.self.invariant c.line_count-more.ensures
    (appended c.self.inside.taken.bytes c.write.new.self.bytes c.args.bytes.now c.in_ok-done.done c.in_ok-done.ensures.ok c.in_ok-done.ensures.all)
    c.count.ensures

pub invariant_of-self-2 : goal.invariant_of-self-2
invariant_of-self-2 c =
    adds c.self.inside.lines c.line_count-more.result c.added-self-inside.result c.self.inside.taken.bytes c.write.new.self.bytes
    c.args.bytes.now c.self.invariant c.line_count-more.ensures
    (appended c.self.inside.taken.bytes c.write.new.self.bytes c.args.bytes.now c.in_ok-done.done c.in_ok-done.ensures.ok c.in_ok-done.ensures.all)
    c.added-self-inside.ensures
