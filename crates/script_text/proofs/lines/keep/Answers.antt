use Rattle.std.proofs.Common.{◌-◌, min, length, refl, ap, rules, ◌∙◌}
use Rattle.std.proofs.lemmas.List.{take_rest}
use Rattle.script_text.proofs.KeptLaws.{kept_parts}
use Rattle.script_text.proofs.lines.keep.Goals as goal

pub returns-in_ok-push : goal.returns-in_ok-push
returns-in_ok-push c =
    kept_parts c.args.tail.now.items c.args.part.now c.extend_from_slice.new.self.items _ c.min-room.result c.min-end.result
    c.are_printable-is_clear.result
    (c.min-room.ensures ∙ ap (λ n. min n (length c.args.part.now)) (c.saturating_sub.ensures ∙ ap (λ n. 1024 - n) (c.len.ensures ∙ c.args.tail.now.ok.0)))
    (search rules) (c.min-end.ensures ∙ ap (λ n. min n 1024) (c.len-2.ensures ∙ c.extend_from_slice.new.self.ok.0))
    (c.are_printable-is_clear.ensures ∙ rw (take_rest c.deref.result.now c.min-end.result, c.deref.ensures.value, c.split_at.ensures.back) refl) (search rules)

pub returns-else-not-is_clear : goal.returns-else-not-is_clear
returns-else-not-is_clear c =
    kept_parts c.args.tail.now.items c.args.part.now c.extend_from_slice.new.self.items _ c.min-room.result c.min-end.result
    c.are_printable-is_clear.result
    (c.min-room.ensures ∙ ap (λ n. min n (length c.args.part.now)) (c.saturating_sub.ensures ∙ ap (λ n. 1024 - n) (c.len.ensures ∙ c.args.tail.now.ok.0)))
    (search rules) (c.min-end.ensures ∙ ap (λ n. min n 1024) (c.len-2.ensures ∙ c.extend_from_slice.new.self.ok.0))
    (c.are_printable-is_clear.ensures ∙ rw (take_rest c.deref.result.now c.min-end.result, c.deref.ensures.value, c.split_at.ensures.back) refl) (search rules)
