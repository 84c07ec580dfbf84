use Rattle.std.proofs.Common.{None, refl, subst, sym, ◌∙◌}
use Rattle.script_text.specs.WordIndex.{Numbered, Puts, entries_by_key}
use Rattle.script_text.proofs.WordIndexLemmas.{PutsAt, put_long, put_short, put_wide, updates_keyed}
use Rattle.script_text.proofs.word_index.WordIndex.take.Goals as goal

pub returns-in-Some : goal.returns-in-Some
returns-in-Some c =
    let word = c.args.word.now in
    let old : Numbered = record { short = c.self.inside.short.entries; wide = c.self.inside.wide.entries; long = entries_by_key c.self.inside.long.entries } in
    let new : Numbered = record old { short = c.remove.new.self.entries } in
    subst (λ was. Puts was new word None) c.self.view_is
    (put_short word None old new c.in-Some.digits (sym c.packed.ensures ∙ c.in-Some.is) c.if-digits-le-SHORT.true refl refl
    (subst (λ k. PutsAt old.short new.short k None) c.new.ensures c.remove.ensures.updates.0))

pub returns-in-Some-2 : goal.returns-in-Some-2
returns-in-Some-2 c =
    let word = c.args.word.now in
    let old : Numbered = record { short = c.self.inside.short.entries; wide = c.self.inside.wide.entries; long = entries_by_key c.self.inside.long.entries } in
    let new : Numbered = record old { wide = c.remove-in-Some-2.new.self.entries } in
    subst (λ was. Puts was new word None) c.self.view_is
    (put_wide word None old new c.in-Some.digits (sym c.packed.ensures ∙ c.in-Some.is) c.if-digits-le-SHORT.false refl refl
    c.remove-in-Some-2.ensures.updates.0)

pub returns-in-None : goal.returns-in-None
returns-in-None c =
    let word = c.args.word.now in
    let old : Numbered = record { short = c.self.inside.short.entries; wide = c.self.inside.wide.entries; long = entries_by_key c.self.inside.long.entries } in
    let new : Numbered = record old { long = entries_by_key c.remove-in-None.new.self.entries } in
    subst (λ was. Puts was new word None) c.self.view_is
    (put_long word None old new (sym c.packed.ensures ∙ c.in-None.is) refl refl
    (updates_keyed word None c.self.inside.long c.remove-in-None.new.self c.remove-in-None.ensures.updates))
