-- What a script's program gives by number: first the procedures of statements, then those that are built in.
use Rattle.script_body.specs.Bodies.{bodies_of, native_body, proc_bodies}
use Rattle.script_body.specs.BodyLaws.{length-proc_bodies}
use Rattle.script_body.specs.declared.thread_body.ThreadBody.{ThreadBody}
use Rattle.script_body.specs.declared.thread_body.ThreadBody.TheVariants.{Scripted}
use Rattle.script_body.specs.ScriptBody.{ScriptBody, script_opening}
use Rattle.script_text.specs.Script.{proc_names, proc_places}
use Rattle.script_text.specs.declared.script.Native.{Native}
use Rattle.script_text.specs.declared.script.Proc.{Proc}
use Rattle.script_text.specs.declared.script.Script.{Script}
use Rattle.std.proofs.Common.{List, Some, [], ap, arith, length, length-append, map, refl, slice_get, slice_index}
use Rattle.std.proofs.Common.{slice_index_or, suc, sym, zero, ℕ, ◌++◌, ◌+◌, ◌-◌, ◌<◌, ◌∙◌, ◌∷◌, ◌≡◌, ◌≤◌}
use Rattle.std.proofs.lemmas.List.{length-map}

pub length-bodies : (script : Script) → length (bodies_of script) ≡ length script.procs + length script.natives
length-bodies script = omega (
  arith,
  length-append (proc_bodies script 0 script.procs) (map (λ n. native_body n.kind) script.natives),
  length-proc_bodies script 0 script.procs,
  length-map script.natives (λ n. native_body n.kind),
)

pub length-places : (script : Script) → length (proc_places script) ≡ length script.procs + length script.natives
length-places script = omega (
  arith,
  length-append (map (λ p. p.name) script.procs) (map (λ n. n.name) script.natives),
  length-map script.procs (λ p. p.name),
  length-map script.natives (λ n. n.name),
)

-- ---- the bodies

proc-at : (script : Script) (n i : ℕ) (ps : List Proc) (natives : List Native) → i < length ps
    → slice_get (proc_bodies script n ps ++ map (λ m. native_body m.kind) natives) i ≡ Some (Scripted (script_opening script (n + i)))
proc-at script n i [] natives h = absurd (omega (arith, h))
proc-at script n zero (p ∷ ps) natives h = ap (λ k. Some (Scripted (script_opening script k))) (omega arith)
proc-at script n (suc i) (p ∷ ps) natives h = proc-at script (n + 1) i ps natives (omega (arith, h))
    ∙ ap (λ k. Some (Scripted (script_opening script k))) (omega arith)

native-in : (i : ℕ) (d : Native) (natives : List Native) → i < length natives
    → slice_get (map (λ m. native_body m.kind) natives) i ≡ Some (native_body (slice_index_or natives i d).kind)
native-in i d [] h = absurd (omega (arith, h))
native-in zero d (m ∷ natives) h = refl
native-in (suc i) d (m ∷ natives) h = native-in i d natives (omega (arith, h))

-- a number after those of the procedures of statements, whatever a look past the natives would give
native-at : (script : Script) (n i : ℕ) (d : Native) (ps : List Proc) (natives : List Native) → length ps ≤ i → i < length ps + length natives
    → slice_get (proc_bodies script n ps ++ map (λ m. native_body m.kind) natives) i ≡ Some (native_body (slice_index_or natives (i - length ps) d).kind)
native-at script n i d [] natives h less = native-in i d natives (omega (arith, less))
    ∙ ap (λ k. Some (native_body (slice_index_or natives k d).kind)) (omega arith)
native-at script n zero d (p ∷ ps) natives h less = absurd (omega (arith, h))
native-at script n (suc i) d (p ∷ ps) natives h less =
    native-at script (n + 1) i d ps natives (omega (arith, h)) (omega (arith, less))
    ∙ ap (λ k. Some (native_body (slice_index_or natives k d).kind)) (omega arith)

-- what the program gives by the number of a procedure of statements
pub scripted-at : (script seen : Script) (i : ℕ) (body : ScriptBody) → script ≡ seen → i < length script.procs
    → body ≡ script_opening script i → slice_get (bodies_of seen) i ≡ Some (Scripted body)
scripted-at script seen i body h less is = ap (λ s. slice_get (bodies_of s) i) (sym h) ∙ proc-at script 0 i script.procs script.natives less
    ∙ ap (λ k. Some (Scripted (script_opening script k))) (omega arith) ∙ ap (λ b. Some (Scripted b)) (sym is)

-- what it gives by that of a built-in one
pub built-at : (script seen : Script) (i n : ℕ) (d : Native) (natives : List Native) (body : ThreadBody) → script ≡ seen
    → n ≡ length script.procs → natives ≡ script.natives → n ≤ i
    → i < length (bodies_of seen) → body ≡ native_body (slice_index_or natives (i - n) d).kind → slice_get (bodies_of seen) i ≡ Some body
built-at script seen i n d natives body h many all past less is = ap (λ s. slice_get (bodies_of s) i) (sym h)
    ∙ native-at script 0 i d script.procs script.natives (omega (arith, many, past))
    (omega (arith, less, length-bodies script, ap (λ s. length (bodies_of s)) h))
    ∙ ap (λ k. Some (native_body (slice_index_or script.natives (i - k) d).kind)) (sym many)
    ∙ ap (λ ns. Some (native_body (slice_index_or ns (i - n) d).kind)) (sym all)
    ∙ ap (λ b. Some b) (sym is)

-- ---- the names

-- the place of the name of a procedure of statements, whatever a look past these would give
pub proc-place : (i : ℕ) (d : Proc) (ps : List Proc) (rest : List ℕ) → i < length ps
    → slice_index (map (λ p. p.name) ps ++ rest) i ≡ (slice_index_or ps i d).name
proc-place i d [] rest less = absurd (omega (arith, less))
proc-place zero d (p ∷ ps) rest less = refl
proc-place (suc i) d (p ∷ ps) rest less = proc-place i d ps rest (omega (arith, less))

native-name : (i : ℕ) (d : Native) (natives : List Native) → i < length natives → slice_index (map (λ m. m.name) natives) i ≡ (slice_index_or natives i d).name
native-name i d [] less = absurd (omega (arith, less))
native-name zero d (m ∷ natives) less = refl
native-name (suc i) d (m ∷ natives) less = native-name i d natives (omega (arith, less))

-- the place of the name of a built-in procedure
pub native-place : (i : ℕ) (d : Native) (ps : List Proc) (natives : List Native) → length ps ≤ i → i < length ps + length natives
    → slice_index (map (λ p. p.name) ps ++ map (λ m. m.name) natives) i ≡ (slice_index_or natives (i - length ps) d).name
native-place i d [] natives h less = native-name i d natives (omega (arith, less)) ∙ ap (λ k. (slice_index_or natives k d).name) (omega arith)
native-place zero d (p ∷ ps) natives h less = absurd (omega (arith, h))
native-place (suc i) d (p ∷ ps) natives h less = native-place i d ps natives (omega (arith, h)) (omega (arith, less))
    ∙ ap (λ k. (slice_index_or natives k d).name) (omega arith)

-- how a name's place is told
abbrev pub named : Script → ℕ → List ℕ
named script place = slice_index_or script.names.procs place []

name-in : (script : Script) (i : ℕ) (places : List ℕ) → i < length places → slice_get (map (named script) places) i ≡ Some (named script (slice_index places i))
name-in script i [] less = absurd (omega (arith, less))
name-in script zero (x ∷ places) less = refl
name-in script (suc i) (x ∷ places) less = name-in script i places (omega (arith, less))

-- how a procedure is called
pub name-at : (script seen : Script) (i : ℕ) → script ≡ seen → i < length (bodies_of seen)
    → slice_get (proc_names seen) i ≡ Some (named script (slice_index (proc_places script) i))
name-at script seen i h less = ap (λ s. slice_get (proc_names s) i) (sym h)
    ∙ name-in script i (proc_places script) (omega (arith, less, length-bodies script, length-places script, ap (λ s. length (bodies_of s)) h))
