use Rattle.std.proofs.Common.{ap, cond, sym, ◌∙◌}
use Rattle.std.proofs.lemmas.Bool.{le-leb, lt-leb}
use Rattle.std.specs.Map.{lookup}
use Rattle.std.specs.Option.{option_copied}
use Rattle.std.specs.Ordering.{is_eq, nat_cmp}
use Rattle.script_text.specs.WordIndex.{Numbered, entries_by_key, entry_under, number_of}
use Rattle.script_text.proofs.WordIndexLemmas.{found_keyed}
use Rattle.script_text.proofs.word_index.WordIndex.get.Goals as goal
use Rattle.script_text.proofs.word_index.WordIndex.get.Goals.{in-None, in-Some, in-Some-2}

pub returns : goal.returns
returns c =
    let word = c.args.word.now in
    let old : Numbered = record { short = c.self.inside.short.entries; wide = c.self.inside.wide.entries; long = entries_by_key c.self.inside.long.entries } in
    elim c.match-packed.branch [
      | in-Some w
          ↦ c.copied.ensures ∙ ap option_copied w.found-is ∙ w.get-found.ensures.value ∙ ap (λ k. lookup (λ key. is_eq (nat_cmp k key)) old.short) w.new.ensures
          ∙ sym (λ i. cond (le-leb w.in-Some.digits 18446744073709551615 w.if-digits-le-SHORT.true i)
          (lookup (λ key. is_eq (nat_cmp w.in-Some.digits key)) old.short) (lookup (λ key. is_eq (nat_cmp w.in-Some.digits key)) old.wide))
          ∙ ap (entry_under old word) (sym w.in-Some.is ∙ c.packed.ensures) ∙ ap (λ i. number_of i word) c.self.view_is
      | in-Some-2 w ↦ c.copied.ensures ∙ ap option_copied w.found-is ∙ w.get-found-in-Some-2.ensures.value
          ∙ sym (λ i. cond (lt-leb w.in-Some.digits 18446744073709551615 w.if-digits-le-SHORT.false i)
          (lookup (λ key. is_eq (nat_cmp w.in-Some.digits key)) old.short) (lookup (λ key. is_eq (nat_cmp w.in-Some.digits key)) old.wide))
          ∙ ap (entry_under old word) (sym w.in-Some.is ∙ c.packed.ensures) ∙ ap (λ i. number_of i word) c.self.view_is
      | in-None w ↦ c.copied.ensures ∙ ap option_copied w.found-is ∙ w.get-found-in-None.ensures.value ∙ sym (found_keyed word c.self.inside.long.entries)
          ∙ ap (entry_under old word) (sym w.in-None.is ∙ c.packed.ensures) ∙ ap (λ i. number_of i word) c.self.view_is
    ]
