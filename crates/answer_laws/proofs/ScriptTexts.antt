-- A script that bytes spell tells of the lengths of lines, of births and of priorities, so nothing is asked of these.
use Rattle.answer_laws.proofs.Naming.{from_null_names}
use Rattle.answer_laws.proofs.Writing.{clients_are_written}
use Rattle.answer_laws.specs.Lengths.{is_short}
use Rattle.answer_laws.specs.Scripts.{IsShortLine, SpeltBirthsAreFew, SpeltClientsAreAnswered, SpeltClientsAreWritten, SpeltLinesAreShort, TakenLinesAreShort}
use Rattle.answer_laws.specs.Served.{line_is_short}
use Rattle.event_gate.proofs.Lines.{cond_other, cond_same, of-append, same_or}
use Rattle.event_gate.specs.History.{lines_of}
use Rattle.event_gate.specs.Port.{of}
use Rattle.lwp_types.specs.TextFields.{is_printable, is_text}
use Rattle.lwp_types.specs.declared.call.Line.{Line}
use Rattle.pod_runner.specs.Due.{AllDue, IsDefined, TakeDue, is_call_due, is_take_due}
use Rattle.pod_runner.specs.Play.{play, session_of_calls, session_of_takes, with_take}
use Rattle.pod_runner.specs.Session.{Made, Session, Setting, call_step, take_step}
use Rattle.pod_runner.specs.declared.session.Took.{Took}
use Rattle.script_body.specs.Bodies.{bodies_of}
use Rattle.script_lines.specs.Line.{IsLine, SlotFits}
use Rattle.script_lines.specs.Phrase.{Phrase}
use Rattle.script_lines.specs.Table.{has, role_of, says, slots_of}
use Rattle.script_lines.specs.contracts.table.Kind.{the_type as kind_type}
use Rattle.script_lines.specs.declared.table.Kind.{Kind}
use Rattle.script_lines.specs.declared.table.Kind.TheVariants as kind
use Rattle.script_lines.specs.declared.table.Role.{Role}
use Rattle.script_lines.specs.declared.table.Role.TheVariants as role
use Rattle.script_session.specs.History.{pairs_of}
use Rattle.script_session.specs.SoFar.{setting_of}
use Rattle.script_text.proofs.LimitLaws.{within_by}
use Rattle.script_text.proofs.TrackLaws.{fold_push}
use Rattle.script_text.specs.Grammar.{SpelledBy, Spells}
use Rattle.script_text.specs.Limits.{IsWithinLimits}
use Rattle.script_text.specs.Meaning.{after_add, after_add_at, after_enter, after_name, draft_of, empty_draft, places_of, script_of, with_text_of}
use Rattle.script_text.specs.Script.{line_of, lines_posted, params_of}
use Rattle.script_text.specs.declared.draft.Draft.{Draft}
use Rattle.script_text.specs.declared.draft.Places.{Places}
use Rattle.script_text.specs.declared.reason.ReadErr.{ReadErr}
use Rattle.script_text.specs.declared.script.Post.{Post}
use Rattle.script_text.specs.declared.script.Script.{Script}
use Rattle.session_laws.proofs.Numbering.{births_are_limited}
use Rattle.std.proofs.Common.{Bool, List, None, Ok, Option, Some, [], ap, append_assoc, arith, cond, false, length, map, refl, reverse}
use Rattle.std.proofs.Common.{subst, suc, sym, true, true≢false, zero, ℕ, ⊎_elim, ◌&&◌, ◌++◌, ◌<◌, ◌^◌, ◌∙◌, ◌∷◌, ◌≡◌, ◌≢◌, ◌||◌}
use Rattle.std.proofs.lemmas.Bool.{and_from, and_parts}
use Rattle.std.proofs.lemmas.List.{append-nil}
use Rattle.std.proofs.lemmas.List.Folds.{list_all-append}
use denote.Enum.Bare.{same_true, sameb}
use Rattle.std.specs.List.{AllByRecursion, list_all, slice_index_or}
use Rattle.std.specs.Prelude.{IsTrue, MatchBool, if◌then◌else◌, ◌==◌}
use mathlib.Core.List.{reverse-cons}

-- ---- the texts of a script

all_push : {A : Type 0} (P : A → Type 0) (xs : List A) (x : A) → AllByRecursion P xs → P x → AllByRecursion P (xs ++ x ∷ [])
all_push P [] x h one = (one, tt)
all_push P (y ∷ ys) x h one = (h.0, all_push P ys x h.1 one)

all_first : {A : Type 0} (P : A → Type 0) (xs ys : List A) → AllByRecursion P (xs ++ ys) → AllByRecursion P xs
all_first P [] ys h = tt
all_first P (x ∷ xs) ys h = (h.0, all_first P xs ys h.1)

abbrev IsShortText : List ℕ → Type 0
IsShortText text = IsTrue (is_short text)

-- a line with a slot for a text holds one there
text_fits : (p : Phrase) (ks : List Kind) → has kind.Text ks ≡ true → AllByRecursion (SlotFits p) ks → IsTrue (is_text p.text)
text_fits p [] is fits = absurd (true≢false (sym is))
text_fits p (k ∷ ks) is fits = by_kind (sameb kind_type k kind.Text) refl is (λ more. text_fits p ks more fits.1)
  where
    by_kind : (b : Bool) → sameb kind_type k kind.Text ≡ b → (b || has kind.Text ks) ≡ true
        → (has kind.Text ks ≡ true → IsTrue (is_text p.text)) → IsTrue (is_text p.text)
    by_kind true same more later = subst (SlotFits p) (same_true kind_type tt k kind.Text same) fits.0
    by_kind false other more later = later more

-- only a line that says a text brings one
texts_more : (r : Role) (at : Places) (d : Draft) (p : Phrase) → (after_add_at r at (after_enter d p) p).script.texts ≡ with_text_of d.script.texts p
texts_more role.Header at d p = refl
texts_more role.Pod at d p = refl
texts_more role.Limit at d p = refl
texts_more role.Client at d p = refl
texts_more role.Native at d p = refl
texts_more role.Proc at d p = refl
texts_more role.Post at d p = refl
texts_more role.Statement at d p = refl
texts_more role.Skip at d p = refl
texts_more role.Again at d p = refl

short_said : (texts : List (List ℕ)) (p : Phrase) → IsLine p → AllByRecursion IsShortText texts → AllByRecursion IsShortText (with_text_of texts p)
short_said texts p line h = by_case (says p.op) (λ is. (and_parts (is_short p.text) (is_printable p.text) (text_fits p (slots_of p.op) is line.0)).0)
  where
    by_case : (b : Bool) → (b ≡ true → IsShortText p.text) → AllByRecursion IsShortText (if b then texts ++ p.text ∷ [] else texts)
    by_case true short = all_push IsShortText texts p.text h (short refl)
    by_case false short = h

short_on : (before ps : List Phrase) → AllByRecursion IsLine ps → AllByRecursion IsShortText (draft_of before).script.texts
    → AllByRecursion IsShortText (draft_of (before ++ ps)).script.texts
short_on before [] lines h = subst (λ (x : List Phrase). AllByRecursion IsShortText (draft_of x).script.texts) (sym (append-nil before)) h
short_on before (p ∷ ps) lines h =
    let d = draft_of before in
    let at = places_of (after_name d.script.names p) d.script.texts p in
    let one : AllByRecursion IsShortText (after_add d p).script.texts =
    subst (AllByRecursion IsShortText) (sym (texts_more (role_of p.op) at d p)) (short_said d.script.texts p lines.0 h) in
    let more : AllByRecursion IsShortText (draft_of (before ++ p ∷ [])).script.texts =
    subst (λ (x : Draft). AllByRecursion IsShortText x.script.texts) (sym (fold_push after_add empty_draft before p)) one in
    subst (λ (x : List Phrase). AllByRecursion IsShortText (draft_of x).script.texts) (append_assoc before (p ∷ []) ps)
    (short_on (before ++ p ∷ []) ps lines.1 more)

short_at : (texts : List (List ℕ)) (n : ℕ) → AllByRecursion IsShortText texts → IsShortText (slice_index_or texts n [])
short_at [] n h = refl
short_at (t ∷ ts) zero h = h.0
short_at (t ∷ ts) (suc n) h = short_at ts n h.1

short_posts : (texts : List (List ℕ)) (posts : List Post) → AllByRecursion IsShortText texts → AllByRecursion IsShortLine (map (line_of texts) posts)
short_posts texts [] h = tt
short_posts texts (post ∷ posts) h = (short_at texts post.text h, short_posts texts posts h)

short_lines : (text : List ℕ) (script : Script) (lines : List Phrase) → SpelledBy text script lines → AllByRecursion IsShortLine (lines_posted script)
short_lines text script lines h =
    let texts : AllByRecursion IsShortText (script_of lines).texts = short_on [] lines h.are_lines tt in
    short_posts script.texts script.posts (subst (λ (s : Script). AllByRecursion IsShortText s.texts) (sym h.script_is) texts)

pub spelt_lines_are_short : SpeltLinesAreShort
spelt_lines_are_short text script h = short_lines text script h.0 h.1

-- ---- the lines taken

-- of lines that all are short, those of one client are
short_of : (c : ℕ) (ls : List Line) → AllByRecursion IsShortLine ls → AllByRecursion IsShortLine (of c ls)
short_of c [] h = tt
short_of c (l ∷ ls) h = ⊎_elim
    (λ (e : l.client ≡ c). subst (AllByRecursion IsShortLine) (sym (cond_same l.client c (l ∷ of c ls) (of c ls) e)) (h.0, short_of c ls h.1))
    (λ (n : l.client ≢ c). subst (AllByRecursion IsShortLine) (sym (cond_other l.client c (l ∷ of c ls) (of c ls) n)) (short_of c ls h.1))
    (same_or l.client c)

-- and where those of each client are, all are
short_each : (ls : List Line) → ((c : ℕ) → AllByRecursion IsShortLine (of c ls)) → AllByRecursion IsShortLine ls
short_each [] h = tt
short_each (l ∷ ls) h =
    let mine : AllByRecursion IsShortLine (l ∷ of l.client ls) =
    subst (AllByRecursion IsShortLine) (cond_same l.client l.client (l ∷ of l.client ls) (of l.client ls) refl) (h l.client) in
    let rest : (c : ℕ) → AllByRecursion IsShortLine (of c ls) = λ c. ⊎_elim
    (λ (e : l.client ≡ c). (subst (AllByRecursion IsShortLine) (cond_same l.client c (l ∷ of c ls) (of c ls) e) (h c)).1)
    (λ (n : l.client ≢ c). subst (AllByRecursion IsShortLine) (cond_other l.client c (l ∷ of c ls) (of c ls) n) (h c))
    (same_or l.client c) in
    (mine.0, short_each ls rest)

short_takes : (takes : List Took) → AllByRecursion IsShortLine (lines_of (pairs_of takes)) → AllByRecursion (λ (took : Took). IsShortLine took.line) takes
short_takes [] h = tt
short_takes (took ∷ takes) h = (h.0, short_takes takes h.1)

pub taken_lines_are_short : TakenLinesAreShort
taken_lines_are_short text script h takes left history =
    let posted = spelt_lines_are_short text script h in
    short_takes takes (short_each (lines_of (pairs_of takes)) (λ c.
    all_first IsShortLine (of c (lines_of (pairs_of takes))) (of c left)
    (subst (AllByRecursion IsShortLine) (sym (history.lines_are c)) (short_of c (lines_posted script) posted))))

-- ---- the lines of a session's steps

module _ {B : Type 0} (setting : Setting B) where
  abbrev AreShort : Session B → Type 0
  AreShort session = list_all (λ (made : Made). line_is_short made.take) session.steps ≡ true

  short_step : (steps : List Made) (made : Made) → line_is_short made.take ≡ true
      → list_all (λ (made : Made). line_is_short made.take) steps ≡ true → list_all (λ (made : Made). line_is_short made.take) (steps ++ made ∷ []) ≡ true
  short_step steps made one h = list_all-append (λ (made : Made). line_is_short made.take) steps (made ∷ []) ∙ and_from _ _ h (and_from _ _ one refl)

  call_short : (s : Session B) → AreShort s → AreShort (call_step setting s)
  call_short s h = short_step s.steps _ refl h

  take_short : (took : Took) (s : Session B) → IsShortLine took.line → AreShort s → AreShort (take_step setting took s)
  take_short took s one h = short_step s.steps _ one h

  calls_short : (n : ℕ) → AreShort (session_of_calls setting n)
  calls_short zero = refl
  calls_short (suc n) = call_short (session_of_calls setting n) (calls_short n)

  with_short : (took : Took) (before : ℕ → Session B) → IsShortLine took.line → ((n : ℕ) → AreShort (before n)) → (n : ℕ)
      → AreShort (with_take setting took before n)
  with_short took before one was zero = take_short took (before 0) one (was 0)
  with_short took before one was (suc n) = by_turn (took.turn == suc n) (with_short took before one was n)
    where
      by_turn : (b : Bool) → AreShort (with_take setting took before n)
          → AreShort (if b then take_step setting took (before (suc n)) else call_step setting (with_take setting took before n))
      by_turn true rest = take_short took (before (suc n)) one (was (suc n))
      by_turn false rest = call_short (with_take setting took before n) rest

  played_short : (takes : List Took) → AllByRecursion (λ (took : Took). IsShortLine took.line) takes → (n : ℕ) → AreShort (session_of_takes setting takes n)
  played_short [] h n = calls_short n
  played_short (took ∷ takes) h n = with_short took (session_of_takes setting takes) h.0 (λ m. played_short takes h.1 m) n

  reversed : (takes : List Took) → AllByRecursion (λ (took : Took). IsShortLine took.line) takes
      → AllByRecursion (λ (took : Took). IsShortLine took.line) (reverse takes)
  reversed [] h = tt
  reversed (took ∷ takes) h = subst (AllByRecursion (λ (t : Took). IsShortLine t.line)) (sym (reverse-cons took takes))
      (all_push (λ (t : Took). IsShortLine t.line) (reverse takes) took (reversed takes h.1) h.0)

  play_short : (takes : List Took) (n : ℕ) → AllByRecursion (λ (took : Took). IsShortLine took.line) takes → AreShort (play setting takes n)
  unfolding play
  play_short takes n h = played_short (reverse takes) (reversed takes h) n

-- ---- what the bytes tell

within : (text : List ℕ) (script : Script) → Spells text script → IsWithinLimits script
within text script h = within_by text (Ok script) h

pub spelt_births_are_few : SpeltBirthsAreFew
spelt_births_are_few text script h takes n due =
    let w = within text script h in
    let few = births_are_limited _ (setting_of script) w.least_births takes n due in
    let most = w.most_births in
    omega (arith, few, most)

pub spelt_clients_are_answered : SpeltClientsAreAnswered
spelt_clients_are_answered text script h takes n left due history s k in_s in_k event place apart begins_s body_s begins_k body_k served =
    let w = within text script h in
    let births = spelt_births_are_few text script h takes n due in
    from_null_names (bodies_of script) (params_of script) (length script.names.threads) (length script.names.mons)
    (length script.names.conds) w.least_priority w.most_priority takes n due s k in_s in_k event place apart (λ less. tt) begins_s body_s begins_k body_k
    (record { lives = served.lives; sends = served.sends; few = omega (arith, births) })
    (play_short (setting_of script) takes n (taken_lines_are_short text script h takes left history))

pub spelt_clients_are_written : SpeltClientsAreWritten
spelt_clients_are_written text script h takes n left due history s k in_s in_k event place apart begins_s body_s begins_k body_k served =
    let w = within text script h in
    let births = spelt_births_are_few text script h takes n due in
    clients_are_written script w.least_priority w.most_priority takes n due s k in_s in_k event place apart (λ less. tt) begins_s body_s begins_k body_k
    (record { lives = served.lives; sends = served.sends; few = omega (arith, births) })
    (play_short (setting_of script) takes n (taken_lines_are_short text script h takes left history))
