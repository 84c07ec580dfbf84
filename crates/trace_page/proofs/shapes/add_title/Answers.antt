use Rattle.std.proofs.Common.{append_assoc, ◌++◌, ◌∙◌, ◌≡◌}
use Rattle.std.specs.Prelude.{codes}
use Rattle.trace_page.specs.Shapes.{escaped_text, title_text}
use Rattle.trace_page.proofs.shapes.add_title.Goals as goal

pub returns : goal.returns
unfolding title_text
returns c =
    let put : c.add_escaped.new.out.items ++ codes "</title>"
    ≡ c.args.out.now.items ++ (codes "<title>" ++ (escaped_text c.args.line.now ++ codes "</title>")) =
    rw c.in_ok-add_escaped.ensures
    (rw c.in_ok-add_text.ensures
    (append_assoc (c.args.out.now.items ++ codes "<title>") (escaped_text c.args.line.now) (codes "</title>")
    ∙ append_assoc c.args.out.now.items (codes "<title>") (escaped_text c.args.line.now ++ codes "</title>")))
    in
    rw put at c.add_text-2.ensures
