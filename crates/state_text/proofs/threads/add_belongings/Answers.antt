use Rattle.lwp_types.specs.Agents.{belongs_to}
use Rattle.lwp_types.specs.Messages.{mailbox}
use Rattle.lwp_types.specs.MonitorRelease.{is_owned_by}
use Rattle.snapshots.specs.Copies.{row_in, state_in}
use Rattle.state_text.specs.Text.{agent_line, holds_line, letter_line, mark_line}
use Rattle.std.proofs.Common.{ap, append_assoc, drop, ◌++◌, ◌∙◌, ◌≡◌}
use Rattle.std.specs.List.{filter, flat_map}
use Rattle.state_text.proofs.threads.add_belongings.Goals as goal

pub returns : goal.returns
returns c =
    let s = state_in c.args.pod.now.state in
    let row = row_in c.args.row.now in
    let out = c.args.out.now.items in
    let held = flat_map holds_line (filter (is_owned_by row.number) s.locks) in
    let set = flat_map mark_line (drop 1 row.marks) in
    let sent = flat_map letter_line (mailbox s.letters row.number) in
    let own = flat_map agent_line (filter (belongs_to row.number) s.agents) in
    let locks : c.add_entries.new.out.items ≡ out ++ held =
    c.in_ok-add_entries.ensures ∙ ap (λ n. out ++ flat_map holds_line (filter (is_owned_by n) c.as_slice.result.now)) c.number_of-tid.ensures
    ∙ ap (λ ls. out ++ flat_map holds_line (filter (is_owned_by row.number) ls)) c.as_slice.ensures in
    let marks : c.add_marks.new.out.items ≡ c.add_entries.new.out.items ++ set =
    c.in_ok-add_marks.ensures ∙ ap (λ ms. c.add_entries.new.out.items ++ flat_map mark_line (drop 1 ms)) c.as_slice-2.ensures in
    let letters : c.add_entries-2.new.out.items ≡ c.add_marks.new.out.items ++ sent =
    c.in_ok-add_entries-2.ensures ∙ ap (λ n. c.add_marks.new.out.items ++ flat_map letter_line (mailbox c.as_slice-3.result.now n)) c.number_of-tid.ensures
    ∙ ap (λ ls. c.add_marks.new.out.items ++ flat_map letter_line (mailbox ls row.number)) c.as_slice-3.ensures in
    let agents : c.add_entries-3.new.out.items ≡ c.add_entries-2.new.out.items ++ own =
    c.in_ok-add_entries-3.ensures
    ∙ ap (λ n. c.add_entries-2.new.out.items ++ flat_map agent_line (filter (belongs_to n) c.as_slice-4.result.now)) c.number_of-tid.ensures
    ∙ ap (λ rows. c.add_entries-2.new.out.items ++ flat_map agent_line (filter (belongs_to row.number) rows)) c.as_slice-4.ensures in
    agents ∙ ap (λ o. o ++ own) (letters ∙ ap (λ o. o ++ sent) (marks ∙ ap (λ o. o ++ set) locks))
    ∙ append_assoc ((out ++ held) ++ set) sent own ∙ append_assoc (out ++ held) set (sent ++ own) ∙ append_assoc out held (set ++ (sent ++ own))
