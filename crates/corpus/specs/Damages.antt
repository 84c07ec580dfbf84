-- A file with one thing wrong.
use Rattle.std.specs.Prelude.{List, slice_set, take, ℕ}
use Rattle.corpus.specs.declared.damage.Damage.{Damage}
use Rattle.corpus.specs.declared.damage.Damage.TheVariants as damage

-- it ends early, or one byte of it is zero
abbrev pub after_damage : Damage → List ℕ → List ℕ
after_damage (damage.Cut n) file = take n file
after_damage (damage.Zero n) file = slice_set file n 0
