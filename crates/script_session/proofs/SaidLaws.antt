-- From a script that was read, or wasn't, to what a session says.
use Rattle.script_session.specs.Outcome.{outcome_of, status_of}
use Rattle.script_session.specs.Said.{EndsBy, Holds, IsNotRead, IsOf, IsRead, IsReadOut, ReadSays, Refuses, Says, most_read}
use Rattle.streams.specs.Limited.{HasFront, IsReadUp, IsReadWithin}
use Rattle.streams.specs.Streams.{IsQuiet, Stream}
use Rattle.script_session.specs.declared.session.Session.{Session}
use Rattle.script_session.specs.declared.session.SessionEnd.{SessionEnd}
use Rattle.script_session.specs.declared.session.SessionEnd.TheVariants as end
use Rattle.script_text.specs.Grammar.{Spells}
use Rattle.script_text.specs.Spelling.{Gives, verdict}
use Rattle.script_text.specs.declared.reason.ReadErr.{ReadErr}
use Rattle.script_text.specs.declared.reason.ReadErr.TheVariants as err
use Rattle.script_text.proofs.ScriptLaws.{one_script, verdict_long}
use Rattle.script_text.specs.declared.reason.Reason.{Reason}
use Rattle.script_text.specs.declared.script.Script.{Script}
use Rattle.std.proofs.lemmas.Bool.{cases_lt, lt-ltb}
use Rattle.std.proofs.Common.{Err, inl, subst, List, None, Option, Result, Some, [], ap, arith, length}
use Rattle.std.proofs.Common.{length-take, refl, sym, take, take_all, inr, ℕ, ◌≤◌, ◌∙◌, ◌≡◌}
use Rattle.std.proofs.lemmas.List.{drop_all}

-- a text that isn't too long was read whole
short-read : (told : List ℕ) → length (take 16777217 told) ≤ 16777216 → take 16777217 told ≡ told
short-read told h = take_all 16777217 told (omega (arith, length-take 16777217 told, h))

-- a verdict on what was read is one on all that there was
same-verdict : (told : List ℕ) → verdict (take 16777217 told) ≡ verdict told
same-verdict told = elim (cases_lt 16777216 (length told)) [
  | inl long
      ↦ verdict_long (take 16777217 told) (lt-ltb 16777216 (length (take 16777217 told)) (omega (arith, length-take 16777217 told, long)))
      ∙ sym (verdict_long told (lt-ltb 16777216 (length told) long))
  | inr short ↦ ap verdict (take_all 16777217 told (omega (arith, short)))
]

pub holds-of : (left : Option (List ℕ)) (bytes : List ℕ) (script : Script) → HasFront most_read left bytes → Spells bytes script → Holds left script
holds-of None bytes script read spells = tt
holds-of (Some told) bytes script read spells = rw (sym (short-read told (rw (sym read) spells.1.short)), sym read) spells

-- what holds of a script that is spelt holds of whatever script is
pub says-all : (left : Option (List ℕ)) (script : Script) (says : Script → Type 0) → Holds left script → says script → Says left says
says-all None script says h s = (script, s)
says-all (Some told) script says h s = ((script, h), λ other spells. subst says (one_script told script other h spells) s)

pub refuses-of : (left : Option (List ℕ)) (bytes : List ℕ) (line : ℕ) (why : Reason) → HasFront most_read left bytes
    → verdict bytes ≡ Err (line, why) → Refuses left line why
refuses-of None bytes line why read v = tt
refuses-of (Some told) bytes line why read v = sym (same-verdict told) ∙ ap verdict (sym read) ∙ v

pub gives-bad : (bytes : List ℕ) (r : Result Script ReadErr) (line : ℕ) (why : Reason) → r ≡ Err (err.Bad line why)
    → Gives (verdict bytes) r → verdict bytes ≡ Err (line, why)
gives-bad bytes r line why is g = subst (λ (x : Result Script ReadErr). Gives (verdict bytes) x) is g

-- what is a script was read to its end
out-of : (source : Stream) (script : Script) → Holds source.old script → IsReadUp most_read source.old source.new → IsReadOut source.old source.new
out-of source script h up = by_told source.old h up
  where
    by_told : (old : Option (List ℕ)) → Holds old script → IsReadUp most_read old source.new → IsReadOut old source.new
    by_told None h up = up
    by_told (Some told) h up = up ∙ ap (λ xs. Some xs) (drop_all 16777217 told (omega (arith, h.1.short)))

part-of-up : (old new : Option (List ℕ)) → IsReadUp most_read old new → IsReadWithin most_read old new
part-of-up old new up = (16777217, omega arith, up)

-- an end of a script that was read
abbrev pub IsRanEnd : SessionEnd → Type 0
IsRanEnd end.Usage = ⊥
IsRanEnd end.ReadFault = ⊥
IsRanEnd (end.Script line reason) = ⊥
IsRanEnd (end.Input part) = ⊥
IsRanEnd end.Reported = ⊥
IsRanEnd end.Same = ⊥
IsRanEnd (end.Differs line) = ⊥
IsRanEnd _ = Unit {0}

pub read-of : (source : Stream) (script : Script) (e : SessionEnd) → IsRead source script → IsRanEnd e → ReadSays source e
read-of source script (end.Ended status) h r = out-of source script h.holds h.up
read-of source script end.Stuck h r = out-of source script h.holds h.up
read-of source script end.Spent h r = out-of source script h.holds h.up
read-of source script end.WriteFault h r = out-of source script h.holds h.up
read-of source script end.NoMemory h r = part-of-up source.old source.new h.up
read-of source script end.Usage h r = r
read-of source script end.ReadFault h r = absurd r
read-of source script (end.Script line reason) h r = absurd r
read-of source script (end.Input part) h r = absurd r
read-of source script end.Reported h r = absurd r
read-of source script end.Same h r = absurd r
read-of source script (end.Differs line) h r = absurd r

pub says-of : (ran : Script → SessionEnd → Type 0) (source sink : Stream) (session : Session) (script : Script) (e : SessionEnd)
    → IsRead source script → IsRanEnd e
    → ran script e → EndsBy ran source sink session e
says-of ran source sink session script (end.Ended status) h r s = (h.faultless, says-all source.old script (λ (x : Script). ran x (end.Ended status)) h.holds s)
says-of ran source sink session script end.Stuck h r s = (h.faultless, says-all source.old script (λ (x : Script). ran x end.Stuck) h.holds s)
says-of ran source sink session script end.Spent h r s = (h.faultless, says-all source.old script (λ (x : Script). ran x end.Spent) h.holds s)
says-of ran source sink session script end.WriteFault h r s = (h.faultless, says-all source.old script (λ (x : Script). ran x end.WriteFault) h.holds s)
says-of ran source sink session script end.NoMemory h r s = inr (h.faultless, says-all source.old script (λ (x : Script). ran x end.NoMemory) h.holds s)
says-of ran source sink session script end.Usage h r s = r
says-of ran source sink session script end.ReadFault h r s = absurd r
says-of ran source sink session script (end.Script line reason) h r s = absurd r
says-of ran source sink session script (end.Input part) h r s = absurd r
says-of ran source sink session script end.Reported h r s = absurd r
says-of ran source sink session script end.Same h r s = absurd r
says-of ran source sink session script (end.Differs line) h r s = absurd r

-- a session of a script that was read
pub session-of : (ran : Script → SessionEnd → Type 0) (source sink : Stream) (session : Session) (script : Script) → IsRead source script
    → session.status ≡ status_of session.end
    → IsRanEnd session.end → ran script session.end → IsOf ran source sink session
session-of ran source sink session script h status r s =
    record { status = status; read = read-of source script session.end h r; says = says-of ran source sink session script session.end h r s }

-- a session for which none was read
not-read-by : (ran : Script → SessionEnd → Type 0) (source sink : Stream) (e : SessionEnd) → IsQuiet sink → IsNotRead source e
    → IsOf ran source sink (outcome_of e [] 0)
not-read-by ran source sink end.ReadFault quiet h =
    record { status = refl; read = h.1; says = (h.0, record { quiet = quiet; taken = refl; calls = refl }) }
not-read-by ran source sink end.NoMemory quiet h =
    record { status = refl; read = h.1; says = inl (h.0, record { quiet = quiet; taken = refl; calls = refl }) }
not-read-by ran source sink (end.Script line reason) quiet h =
    record { status = refl; read = h.2; says = (h.0, h.1, record { quiet = quiet; taken = refl; calls = refl }) }
not-read-by ran source sink (end.Ended status) quiet h = absurd h
not-read-by ran source sink end.Stuck quiet h = absurd h
not-read-by ran source sink end.Spent quiet h = absurd h
not-read-by ran source sink end.WriteFault quiet h = absurd h
not-read-by ran source sink end.Usage quiet h = absurd h
not-read-by ran source sink (end.Input part) quiet h = absurd h
not-read-by ran source sink end.Reported quiet h = absurd h
not-read-by ran source sink end.Same quiet h = absurd h
not-read-by ran source sink (end.Differs line) quiet h = absurd h

pub not-read : (ran : Script → SessionEnd → Type 0) (source sink : Stream) (e : SessionEnd) (session : Session)
    → session ≡ outcome_of e [] 0 → IsQuiet sink → IsNotRead source e → IsOf ran source sink session
not-read ran source sink e session is quiet h = subst (λ (x : Session). IsOf ran source sink x) (sym is) (not-read-by ran source sink e quiet h)
