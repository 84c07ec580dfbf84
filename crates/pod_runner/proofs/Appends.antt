-- Appending to what is told.
use Rattle.std.proofs.Common.{List, [], ap, append-nil, append_assoc, arith, length, length-append, refl, sym, take, ℕ, ◌++◌, ◌+◌, ◌∙◌, ◌<◌, ◌≡◌, ◌≤◌}
use Rattle.std.proofs.Math.Seq.{take-append-add, take-length}
use Rattle.pod_runner.specs.Run.{AppendsCut, Writes, WritesCut, WritesPart}
use Rattle.std.specs.Prelude.{None, Option, Some}
use Rattle.lwp_types.specs.Streams.{AppendsPrefix, after_append}
use Rattle.streams.proofs.WriteLaws.{appended-append}
use Rattle.streams.specs.Writing.{AppendsPart}

pub writes_on : (old new : Option (List ℕ)) (before out after : List ℕ) → after ≡ before ++ out → new ≡ after_append old out → Writes old new before after
writes_on old new before out after e h = record { added = out; longer = e; told = h }

-- a write that may have broken off, after what was told before
pub cut_on : (old new : Option (List ℕ)) (before out after : List ℕ) → after ≡ before ++ out → AppendsPart old new out → WritesCut old new before before after
cut_on old new before out after e h = record {
  added = out;
  longer = e;
  kept = h.kept;
  told = h.told;
  some = omega arith;
  not_all = h.not_all;
}

-- ---- nothing is told

told-nothing : (w : Option (List ℕ)) → w ≡ after_append w []
told-nothing None = refl
told-nothing (Some told) = ap (λ x. Some x) (sym (append-nil told))

pub writes_none : (w : Option (List ℕ)) (t : List ℕ) → Writes w w t t
writes_none w t = record { added = []; longer = sym (append-nil t); told = told-nothing w }

-- ---- one after the other

joined : (t u v p q : List ℕ) → u ≡ t ++ p → v ≡ u ++ q → v ≡ t ++ (p ++ q)
joined t u v p q first then = then ∙ ap (λ l. l ++ q) first ∙ append_assoc t p q

pub writes_then : {a b c : Option (List ℕ)} {t u v : List ℕ} → Writes a b t u → Writes b c u v → Writes a c t v
writes_then {a} {b} {c} {t} {u} {v} p q = record {
  added = p.added ++ q.added;
  longer = joined t u v p.added q.added p.longer q.longer;
  told = q.told ∙ rw p.told (appended-append a p.added q.added);
}

pub cut_then : {a b c : Option (List ℕ)} {t u least v : List ℕ} → Writes a b t u → WritesCut b c u least v → WritesCut a c t least v
cut_then {a} {b} {c} {t} {u} {least} {v} p q = record {
  added = p.added ++ q.added;
  longer = joined t u v p.added q.added p.longer q.longer;
  kept = length p.added + q.kept;
  told = q.told ∙ rw (p.told, take-append-add p.added q.added q.kept) (appended-append a p.added (take q.kept q.added));
  some = omega (arith, q.some, ap length p.longer, length-append t p.added);
  not_all = omega (arith, length-append p.added q.added, q.not_all);
}

-- ---- first parts

pub writes_part : {old new : Option (List ℕ)} {t v : List ℕ} → Writes old new t v → WritesPart old new t v
writes_part {old} {new} {t} {v} w = record { added = w.added; longer = w.longer; first = (length w.added, w.told ∙ rw take-length refl) }

pub cut_part : {old new : Option (List ℕ)} {t least v : List ℕ} → WritesCut old new t least v → WritesPart old new t v
cut_part w = record { added = w.added; longer = w.longer; first = (w.kept, w.told) }

pub part_then : {a b c : Option (List ℕ)} {t u v : List ℕ} → Writes a b t u → WritesPart b c u v → WritesPart a c t v
part_then {a} {b} {c} {t} {u} {v} p q = record {
  added = p.added ++ q.added;
  longer = joined t u v p.added q.added p.longer q.longer;
  first = (
    length p.added + q.first.0,
    q.first.1 ∙ rw (p.told, take-append-add p.added q.added q.first.0) (appended-append a p.added (take q.first.0 q.added)),
  );
}

-- of what came, nothing was told
pub part_none : (w : Option (List ℕ)) (before after rest : List ℕ) → after ≡ before ++ rest → WritesPart w w before after
part_none w before after rest is = record { added = rest; longer = is; first = (0, told-nothing w) }

-- ---- after what was told before a trace began

pub writes_base : {old new : Option (List ℕ)} {before after : List ℕ} → Writes old new before after
    → (base : Option (List ℕ)) → old ≡ after_append base before → new ≡ after_append base after
writes_base {old} {new} {before} {after} w base is = w.told ∙ rw (is, w.longer) (appended-append base before w.added)

pub part_base : {old new : Option (List ℕ)} {before after : List ℕ} → WritesPart old new before after
    → (base : Option (List ℕ)) → old ≡ after_append base before → AppendsPrefix base new after
part_base {old} {new} {before} {after} w base is = (
  length before + w.first.0,
  w.first.1 ∙ rw (is, w.longer, take-append-add before w.added w.first.0) (appended-append base before (take w.first.0 w.added)),
)

pub cut_base : {old new : Option (List ℕ)} {before least after : List ℕ} → WritesCut old new before least after
    → (base : Option (List ℕ)) → old ≡ after_append base before → AppendsCut base new least after
cut_base {old} {new} {before} {least} {after} w base is = record {
  kept = length before + w.kept;
  told = w.told ∙ rw (is, w.longer, take-append-add before w.added w.kept) (appended-append base before (take w.kept w.added));
  some = w.some;
  not_all = rw w.longer (omega (arith, length-append before w.added, w.not_all));
}
