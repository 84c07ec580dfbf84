use Rattle.script_printer.proofs.LineLoops.{no_line_more, one_line_more}
use Rattle.script_printer.proofs.printing.add_posts.Goals as goal
use Rattle.script_printer.specs.Printing.{post_line}

pub loop-post-preserved : goal.loop-post-preserved
loop-post-preserved c =
    one_line_more (post_line c.args.texts.now) c.loop-post.out.items _ c.args.posts.now c.loop-post.post-index c.loop-post.invariant
    c.add_line.new.out.items _ c.loop-post-test.true (rw c.post_line.ensures at c.in_ok-add_line.ensures)

pub returns : goal.returns
returns c = no_line_more (post_line c.args.texts.now) c.loop-post.out.items _ c.args.posts.now c.loop-post.post-index c.loop-post.invariant
    c.loop-post-test.false
