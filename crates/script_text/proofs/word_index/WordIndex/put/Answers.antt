use Rattle.std.proofs.Common.{Some, ap, refl, subst, sym, ◌++◌, ◌∙◌, ◌≡◌}
use Rattle.std.specs.BTreeMap.{UpdatesBy}
use Rattle.std.specs.Cmp.Lexicographic.{slice_cmp}
use Rattle.std.specs.Ordering.{nat_cmp}
use Rattle.script_text.specs.WordIndex.{Numbered, Puts, entries_by_key}
use Rattle.script_text.proofs.WordIndexLemmas.{PutsAt, put_long, put_short, put_wide, updates_keyed}
use Rattle.script_text.proofs.word_index.WordIndex.put.Goals as goal

pub returns-in_ok-insert-in-Some-clause-ok : goal.returns-in_ok-insert-in-Some-clause-ok
returns-in_ok-insert-in-Some-clause-ok c =
    let word = c.args.word.now in
    let old : Numbered = record { short = c.self.inside.short.entries; wide = c.self.inside.wide.entries; long = entries_by_key c.self.inside.long.entries } in
    let new : Numbered = record old { short = c.insert.new.self.entries } in
    subst (λ was. Puts was new word (Some c.args.number)) c.self.view_is
    (put_short word (Some c.args.number) old new c.in-Some.digits (sym c.packed.ensures ∙ c.in-Some.is) c.if-digits-le-SHORT.true refl refl
    (subst (λ k. PutsAt old.short new.short k (Some c.args.number)) c.new.ensures c.in_ok-insert-in-Some.ensures.updates.0))

pub returns-in_ok-insert-in-Some-2-clause-ok : goal.returns-in_ok-insert-in-Some-2-clause-ok
returns-in_ok-insert-in-Some-2-clause-ok c =
    let word = c.args.word.now in
    let old : Numbered = record { short = c.self.inside.short.entries; wide = c.self.inside.wide.entries; long = entries_by_key c.self.inside.long.entries } in
    let new : Numbered = record old { wide = c.insert-in-Some-2.new.self.entries } in
    subst (λ was. Puts was new word (Some c.args.number)) c.self.view_is
    (put_wide word (Some c.args.number) old new c.in-Some.digits (sym c.packed.ensures ∙ c.in-Some.is) c.if-digits-le-SHORT.false refl refl
    c.in_ok-insert-in-Some-2.ensures.updates.0)

pub returns-in_ok-insert-in-None-clause-ok : goal.returns-in_ok-insert-in-None-clause-ok
returns-in_ok-insert-in-None-clause-ok c =
    let word = c.args.word.now in
    let old : Numbered = record { short = c.self.inside.short.entries; wide = c.self.inside.wide.entries; long = entries_by_key c.self.inside.long.entries } in
    let new : Numbered = record old { long = entries_by_key c.insert-in-None.new.self.entries } in
    let same : c.extend_from_slice.new.self.items ≡ word = c.in_ok-extend_from_slice-in-None.ensures.items ∙ ap (λ l. l ++ word) c.new-bytes.ensures.items in
    let updates = subst
    (λ bs. UpdatesBy (λ x y. slice_cmp nat_cmp x.items y.items) (λ key. slice_cmp nat_cmp bs key.items) c.self.inside.long
    c.insert-in-None.new.self (Some c.args.number))
    same c.in_ok-insert-in-None.ensures.updates in
    subst (λ was. Puts was new word (Some c.args.number)) c.self.view_is
    (put_long word (Some c.args.number) old new (sym c.packed.ensures ∙ c.in-None.is) refl refl
    (updates_keyed word (Some c.args.number) c.self.inside.long c.insert-in-None.new.self updates))
