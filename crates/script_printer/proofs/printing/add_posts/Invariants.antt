use Rattle.std.proofs.Common.{◌≡◌, ◌++◌, drop, map}
use Rattle.script_text.specs.Grammar.{spelling}
use Rattle.script_printer.specs.Printing.{post_line}
use Rattle.script_printer.proofs.printing.add_posts.Given as goal

abbrev pub invariant-loop-post : goal.invariant-loop-post
invariant-loop-post l = l.out.items ++ spelling (map (post_line l.texts) (drop l.post-index l.posts))
    ≡ l.initial.out.items ++ spelling (map (post_line l.texts) l.posts)
