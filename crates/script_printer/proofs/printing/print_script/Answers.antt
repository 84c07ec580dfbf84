use Rattle.std.proofs.Common.{◌++◌, ℕ, List, ap, map, ◌∙◌}
use Rattle.std.specs.List.{flat_map}
use Rattle.script_lines.specs.Line.{phrase_text, with_newline}
use Rattle.script_text.specs.Grammar.{spelling}
use Rattle.script_lines.specs.Phrase.{Phrase}
use Rattle.script_printer.specs.Printing.{client_lines, native_line, proc_lines, post_line, limit_lines}
use Rattle.script_printer.proofs.SectionLaws.{printed_in_turn}
use Rattle.script_printer.proofs.printing.print_script.Goals as goal

pub returns : goal.returns
returns c =
    let s = c.args.s.now in
    let header = c.in_ok-add_line.ensures
    ∙ ap (λ (l : List ℕ). l ++ with_newline (phrase_text c.number_line.result)) c.new-out.ensures.items
    ∙ ap (λ (p : Phrase). with_newline (phrase_text p)) c.number_line.ensures in
    let pod = c.in_ok-add_line-2.ensures ∙ (λ i. header i ++ with_newline (phrase_text (c.number_line-2.ensures i))) in
    let limit = c.in_ok-add_limit.ensures ∙ ap (λ (l : List ℕ). l ++ spelling (limit_lines s.births)) pod in
    let clients = c.in_ok-add_clients.ensures ∙ (λ i. limit i ++ spelling (client_lines 0 (c.as_slice.ensures i))) in
    let natives = c.in_ok-add_natives.ensures ∙ (λ i. clients i ++ spelling (map (native_line s.names) (c.as_slice-2.ensures i))) in
    let procs = c.in_ok-add_procs.ensures ∙ (λ i. natives i ++ spelling (flat_map (proc_lines s.names s.texts) (c.as_slice-3.ensures i))) in
    c.in_ok-add_posts.ensures ∙ (λ i. procs i ++ spelling (map (post_line s.texts) (c.as_slice-4.ensures i))) ∙ printed_in_turn s
