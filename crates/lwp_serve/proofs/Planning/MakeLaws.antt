-- From the clauses of a script's session to those of the summary that is told of it.
use Rattle.event_gate.proofs.Lines.{cond_other, cond_same, same_or}
use Rattle.event_gate.specs.History.{lines_of}
use Rattle.event_gate.specs.Port.{of}
use Rattle.script_session.specs.History.{pair_of, pairs_of, taken_of}
use Rattle.streams.specs.Counting.{Counting}
use Rattle.script_session.proofs.SaidLaws.{says-all}
use Rattle.lwp_serve.specs.Plan.Make.{IsMake, IsOver, IsSummedUp, MakeSays, TellsAll, TellsPart, is_over}
use Rattle.lwp_serve.specs.Plan.Make.{make_turns, status_by, summary_by, summary_of, summary_at_end}
use Rattle.script_session.specs.Outcome.{end_of, status_of}
use Rattle.lwp_serve.specs.Plan.Plan.{IsPart, IsRun, IsWhole, RunSays}
use Rattle.script_session.specs.SoFar.{IsHistory}
use Rattle.script_session.specs.Said.{Tells}
use Rattle.streams.specs.Streams.{IsFaultless, IsFaulty, IsQuiet, Stream}
use Rattle.streams.specs.Writing.{AppendsPart}
use Rattle.lwp_serve.specs.Plan.Planned.{halt_of, takes_of, trace_of}
use Rattle.script_session.specs.declared.session.Session.{Session}
use Rattle.script_session.specs.declared.session.SessionEnd.{SessionEnd}
use Rattle.script_session.specs.declared.session.SessionEnd.TheVariants as end
use Rattle.lwp_types.specs.Streams.{after_append}
use Rattle.lwp_types.specs.declared.call.Line.{Line}
use Rattle.pod_runner.specs.declared.session.Took.{Took}
use Rattle.lwp_serve.specs.Maker.Made.{made_script}
use Rattle.lwp_serve.specs.Maker.Summary.{summary_text}
use Rattle.lwp_serve.specs.declared.maker.summary.Summary.{Summary}
use Rattle.script_text.specs.Grammar.{Spells}
use Rattle.script_text.specs.Script.{line_of, lines_posted}
use Rattle.trace_text.specs.declared.ends.Halt.{Halt}
use Rattle.script_text.specs.declared.script.Script.{Script}
use Rattle.std.proofs.Common.{List, Some, [], ap, append-nil, arith, cond, eqb, false, inl, inr, length, length-append}
use Rattle.std.proofs.Common.{map, refl, subst, suc, sym, true, ℕ, ⊎_elim, ◌+◌, ◌<◌, ◌∙◌, ◌∷◌, ◌≡◌, ◌≢◌, ◌≤◌, ◌⊎◌}
use Rattle.std.proofs.lemmas.List.{length-map}

-- ---- no more lines are taken than are posted

head_same : (c : ℕ) (y : Line) (ys : List Line) → y.client ≡ c → of c (y ∷ ys) ≡ y ∷ of c ys
head_same c y ys e = cond_same y.client c (y ∷ of c ys) (of c ys) e

head_other : (c : ℕ) (y : Line) (ys : List Line) → y.client ≢ c → of c (y ∷ ys) ≡ of c ys
head_other c y ys n = cond_other y.client c (y ∷ of c ys) (of c ys) n

-- the lines without the first of a client
abbrev less : ℕ → List Line → List Line
less c [] = []
less c (y ∷ ys) = cond (eqb y.client c) ys (y ∷ less c ys)

less_same : (c : ℕ) (y : Line) (ys : List Line) → y.client ≡ c → less c (y ∷ ys) ≡ ys
less_same c y ys e = cond_same y.client c ys (y ∷ less c ys) e

less_other : (c : ℕ) (y : Line) (ys : List Line) → y.client ≢ c → less c (y ∷ ys) ≡ y ∷ less c ys
less_other c y ys n = cond_other y.client c ys (y ∷ less c ys) n

-- it is one line less, where the client has one
one_less : (c : ℕ) (ys : List Line) → 0 < length (of c ys) → length ys ≡ length (less c ys) + 1
one_less c [] h = absurd (omega (arith, h))
one_less c (y ∷ ys) h = ⊎_elim
    (λ (same : y.client ≡ c). omega (arith, ap length (less_same c y ys same)))
    (λ (other : y.client ≢ c). omega (arith, ap length (less_other c y ys other), one_less c ys (omega (arith, h, ap length (head_other c y ys other)))))
    (same_or y.client c)

-- of this client it is one less
one_of : (c : ℕ) (ys : List Line) → 0 < length (of c ys) → length (of c ys) ≡ length (of c (less c ys)) + 1
one_of c [] h = absurd (omega (arith, h))
one_of c (y ∷ ys) h = ⊎_elim
    (λ (same : y.client ≡ c). omega (arith, ap (λ ls. length (of c ls)) (less_same c y ys same), ap length (head_same c y ys same)))
    (λ (other : y.client ≢ c).
    let here : length (of c (y ∷ ys)) ≡ length (of c ys) = ap length (head_other c y ys other) in
    omega (
      arith,
      here,
      ap (λ ls. length (of c ls)) (less_other c y ys other),
      ap length (head_other c y (less c ys) other),
      one_of c ys (omega (arith, h, here)),
    ))
    (same_or y.client c)

-- of another they are the same
none_of : (c d : ℕ) (ys : List Line) → c ≢ d → of d (less c ys) ≡ of d ys
none_of c d [] n = refl
none_of c d (y ∷ ys) n = ⊎_elim
    (λ (same : y.client ≡ c). ap (of d) (less_same c y ys same) ∙ sym (head_other d y ys (λ e. n (sym same ∙ e))))
    (λ (other : y.client ≢ c). ap (of d) (less_other c y ys other) ∙ ap (λ ls. cond (eqb y.client d) (y ∷ ls) ls) (none_of c d ys n))
    (same_or y.client c)

-- where each client has no more lines here than there, there are no more lines here
no_more : (xs ys : List Line) → ((c : ℕ) → length (of c xs) ≤ length (of c ys)) → length xs ≤ length ys
no_more [] ys h = omega arith
no_more (x ∷ xs) ys h =
    let c = x.client in
    let mine : length (of c (x ∷ xs)) ≡ suc (length (of c xs)) = ap length (head_same c x xs refl) in
    let some : 0 < length (of c ys) = omega (arith, h c, mine) in
    let rest : length xs ≤ length (less c ys) = no_more xs (less c ys) (λ d. ⊎_elim
    (λ (same : c ≡ d). subst (λ (k : ℕ). length (of k xs) ≤ length (of k (less c ys))) same (omega (arith, h c, mine, one_of c ys some)))
    (λ (other : c ≢ d). omega (arith, h d, ap length (head_other d x xs other), ap length (none_of c d ys other)))
    (same_or c d)) in
    omega (arith, rest, one_less c ys some)

pub few_taken : (script : Script) (takes : List Took) (left : List Line) → IsHistory script takes left → length takes ≤ length script.posts
few_taken script takes left h =
    let taken = lines_of (pairs_of takes) in
    let all : length taken ≤ length (lines_posted script) =
    no_more taken (lines_posted script) (λ c. omega (arith, ap length (h.lines_are c), length-append (of c taken) (of c left))) in
    omega (arith, all, length-map takes pair_of, length-map (pairs_of takes) (λ (t : ℕ × Line). t.1), length-map script.posts (line_of script.texts))

-- ---- a session to its end

-- it came to the end of the script's session, whose trace is this
pub record Ran (script : Script) (bytes : List ℕ) (session : Session) : Type 0 where
  pub over : IsOver script session
  pub all : TellsAll script session
  pub trace : bytes ≡ trace_of script make_turns
  pub few : length session.taken ≤ length script.posts

ran-by : (script : Script) (bytes : List ℕ) (session : Session) (halt : Halt) (takes : List Took) → session.end ≡ end_of halt → Tells session takes
    → IsWhole make_turns script (Some []) (Some bytes) takes session.turns halt → Ran script bytes session
ran-by script bytes session halt takes ended tells w = record {
  over = record { halt = halt; halted = w.halted; ended = ended; stuck = w.stuck };
  all = record {
    calls = w.made;
    taken = tells ∙ ap (λ ts. map taken_of ts) w.taken;
    due = rw (← w.taken, ← w.made) w.due;
    left = w.left;
    history = rw (← w.taken) w.history;
  };
  trace = cc w.trace;
  few = omega (arith, few_taken script takes w.left w.history, ap length tells, length-map takes taken_of);
}

run-of : (script : Script) (sink : Stream) (session : Session) (e : SessionEnd) → is_over e ≡ true
    → RunSays make_turns script sink session e → IsRun make_turns script sink session
run-of script sink session (end.Ended status) o s = s
run-of script sink session end.Stuck o s = s
run-of script sink session end.Spent o s = s
run-of script sink session end.Usage o s = absurd (cc o)
run-of script sink session end.ReadFault o s = absurd (cc o)
run-of script sink session end.WriteFault o s = absurd (cc o)
run-of script sink session (end.Script line reason) o s = absurd (cc o)
run-of script sink session end.NoMemory o s = absurd (cc o)
run-of script sink session (end.Input part) o s = absurd (cc o)
run-of script sink session end.Reported o s = absurd (cc o)
run-of script sink session end.Same o s = absurd (cc o)
run-of script sink session (end.Differs line) o s = absurd (cc o)

-- a sink that counts, before and after
abbrev pub counted : Counting → Counting → Stream
counted before after = record { old = Some before.bytes; new = Some after.bytes; faults_old = before.faults; faults_new = after.faults }

-- a sink that has counted nothing
abbrev pub uncounted : Counting
uncounted = record { bytes = []; faults = 0 }

pub ran-of : (script : Script) (before after : Counting) (session : Session) → before ≡ uncounted → is_over session.end ≡ true
    → RunSays make_turns script (counted before after) session session.end → Ran script after.bytes session
ran-of script before after session fresh o s =
    let w = run-of script (counted uncounted after) session session.end o
    (subst (λ (x : Counting). RunSays make_turns script (counted x after) session session.end) fresh s) in
    ran-by script after.bytes session w.1.0 w.1.1 w.1.2 w.1.3 w.1.4

-- ---- a session as far as it came

part-by : (script : Script) (sink : Stream) (session : Session) (takes : List Took) → Tells session takes
    → IsPart make_turns script sink.old sink.new takes session.turns → TellsPart script session
part-by script sink session takes tells p =
    record { takes = takes; taken = tells; calls = p.made; later = p.later; first = p.taken; due = p.due; left = p.left; history = p.history }

-- it ended before its first call, or tells the first part
abbrev CameSo : Script → Session → Type 0
CameSo script session = ((session.taken ≡ []) × (session.turns ≡ 0)) ⊎ TellsPart script session

came-so : (script : Script) (sink : Stream) (session : Session) (e : SessionEnd) → is_over e ≡ false
    → RunSays make_turns script sink session e → CameSo script session
came-so script sink session (end.Ended status) o s = absurd (cc o)
came-so script sink session end.Stuck o s = absurd (cc o)
came-so script sink session end.Spent o s = absurd (cc o)
came-so script sink session end.Usage o s = absurd s
came-so script sink session (end.Input part) o s = absurd s
came-so script sink session end.Reported o s = absurd s
came-so script sink session end.Same o s = absurd s
came-so script sink session (end.Differs line) o s = absurd s
came-so script sink session end.ReadFault o s = absurd s
came-so script sink session end.WriteFault o s = inr (part-by script sink session s.1.0 s.1.1 s.1.2)
came-so script sink session (end.Script line reason) o s = absurd s
came-so script sink session end.NoMemory o s = elim s.1 [
  | inl u ↦ inl (u.taken, u.calls)
  | inr r ↦ inr (part-by script sink session r.0 r.1 r.2)
]

-- ---- what the end says

-- a session with another end
abbrev pub ending : Session → SessionEnd → Session
ending session e = record session { status = status_of e; end = e }

pub says-stopped : (summary : List ℕ) (script : Script) (inner sink : Stream) (session : Session) → IsQuiet sink → is_over session.end ≡ false
    → RunSays make_turns script inner session session.end → MakeSays summary script sink (ending session end.NoMemory) end.NoMemory
says-stopped summary script inner sink session quiet o s = elim (came-so script inner session session.end o s) [
  | inl u ↦ inl (record { quiet = quiet; taken = u.0; calls = u.1 })
  | inr p ↦ inr (
    quiet,
    record { takes = p.takes; taken = p.taken; calls = p.calls; later = p.later; first = p.first; due = p.due; left = p.left; history = p.history },
  )
]

pub says-late : (summary : List ℕ) (script : Script) (bytes : List ℕ) (sink : Stream) (session : Session) → IsQuiet sink
    → Ran script bytes session → MakeSays summary script sink (ending session end.NoMemory) end.NoMemory
says-late summary script bytes sink session quiet r = inr (
  quiet,
  record {
    takes = takes_of script make_turns;
    taken = r.all.taken;
    calls = omega (arith, r.all.calls);
    later = [];
    first = sym (append-nil (takes_of script make_turns));
    due = rw (r.all.calls) r.all.due;
    left = r.all.left;
    history = r.all.history;
  },
)

tells-all : (script : Script) (session : Session) (e : SessionEnd) → TellsAll script session → TellsAll script (ending session e)
tells-all script session e h = record { calls = h.calls; taken = h.taken; due = h.due; left = h.left; history = h.history }

pub says-cut : (summary told : List ℕ) (script : Script) (bytes : List ℕ) (sink : Stream) (session : Session) → told ≡ summary
    → AppendsPart sink.old sink.new told → IsFaulty sink
    → Ran script bytes session → MakeSays summary script sink (ending session end.WriteFault) end.WriteFault
says-cut summary told script bytes sink session is cut faulty r =
    record { written = subst (λ (b : List ℕ). AppendsPart sink.old sink.new b) is cut; faulty = faulty; all = tells-all script session end.WriteFault r.all }

pub says-whole : (summary told : List ℕ) (script : Script) (bytes : List ℕ) (sink : Stream) (session : Session) → told ≡ summary
    → sink.new ≡ after_append sink.old told → IsFaultless sink
    → is_over session.end ≡ true → Ran script bytes session → MakeSays summary script sink session session.end
says-whole summary told script bytes sink session is written faultless o r =
    by session.end o (record { written = written ∙ ap (after_append sink.old) is; faultless = faultless; over = r.over; all = r.all })
  where
    by : (e : SessionEnd) → is_over e ≡ true → IsSummedUp summary script sink session → MakeSays summary script sink session e
    by (end.Ended status) o s = s
    by end.Stuck o s = s
    by end.Spent o s = s
    by end.Usage o s = absurd (cc o)
    by end.ReadFault o s = absurd (cc o)
    by end.WriteFault o s = absurd (cc o)
    by (end.Script line reason) o s = absurd (cc o)
    by end.NoMemory o s = absurd (cc o)
    by (end.Input part) o s = absurd (cc o)
    by end.Reported o s = absurd (cc o)
    by end.Same o s = absurd (cc o)
    by (end.Differs line) o s = absurd (cc o)

-- ---- the summary

pub told-is : (seed threads lines : ℕ) (script : Script) (bytes : List ℕ) (session : Session) (told : Summary) (n m : ℕ)
    → told ≡ summary_at_end script n session m
    → n ≡ length (made_script seed threads lines) → m ≡ length bytes → session.status ≡ status_of session.end → Ran script bytes session
    → summary_text told ≡ summary_of seed threads lines script
told-is seed threads lines script bytes session told n m is text trace status r =
    let taken : length session.taken ≡ length (takes_of script make_turns) = ap length r.all.taken ∙ length-map (takes_of script make_turns) taken_of in
    let posted : length (lines_posted script) ≡ length script.posts = length-map script.posts (line_of script.texts) in
    let ended : session.status ≡ status_by (halt_of script make_turns) = status ∙ ap status_of r.over.ended ∙ sym (ap status_by r.over.halted) in
    let same : summary_at_end script n session m
    ≡ summary_by (made_script seed threads lines) script = rw (text, trace, r.all.calls, taken, ← posted, ended, r.trace) refl in
    ap summary_text (is ∙ same)

-- ---- the script that is made

pub spelt-by : (text made : List ℕ) → text ≡ made → (script : Script) × Spells made script → (script : Script) × Spells text script
spelt-by text made is h = subst (λ (b : List ℕ). (script : Script) × Spells b script) (sym is) h

pub make-of : (seed threads lines : ℕ) (text : List ℕ) (script : Script) (sink : Stream) (session : Session)
    → text ≡ made_script seed threads lines → Spells text script
    → session.status ≡ status_of session.end → MakeSays (summary_of seed threads lines script) script sink session session.end
    → IsMake seed threads lines sink session
make-of seed threads lines text script sink session is spells status says = record {
  status = status;
  says = says-all (Some (made_script seed threads lines)) script (λ (x : Script). MakeSays (summary_of seed threads lines x) x sink session session.end)
      (subst (λ (b : List ℕ). Spells b script) is spells) says;
}
