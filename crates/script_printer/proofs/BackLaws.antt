-- A line is given back by what its statement says, once all names and texts are known.
use Rattle.std.proofs.Common.{◌≡◌, ℕ, ◌<◌, ◌≤◌, Bool, true, false, cond, eqb, List, [], ◌∷◌, ◌++◌, length}
use Rattle.std.proofs.Common.{fold, Some, refl, sym, ap, subst, ◌∙◌, arith, inl, inr, length-append}
use Rattle.std.specs.List.{AllByRecursion}
use Rattle.std.proofs.lemmas.Bool.{ne_eqb}
use Rattle.std.proofs.lemmas.List.{get_or_append_left}
use Rattle.script_lines.specs.declared.table.Op.{Op}
use Rattle.script_lines.specs.declared.table.Op.TheVariants as op
use Rattle.script_lines.specs.declared.table.Role.{Role}
use Rattle.script_lines.specs.declared.table.Role.TheVariants as role
use Rattle.script_lines.specs.declared.table.Whom.{Whom}
use Rattle.script_lines.specs.declared.table.Whom.TheVariants as whom
use Rattle.script_text.specs.declared.draft.Draft.{Draft}
use Rattle.script_text.specs.declared.draft.Places.{Places}
use Rattle.script_text.specs.declared.script.ExitStmt.TheVariants as exit
use Rattle.script_text.specs.declared.script.Names.{Names}
use Rattle.script_text.specs.declared.script.NativeKind.TheVariants as native
use Rattle.script_text.specs.declared.script.Stmt.{Stmt}
use Rattle.script_text.specs.declared.script.Stmt.TheVariants as stmt
use Rattle.script_lines.specs.Phrase.{Phrase}
use Rattle.script_lines.specs.Words.{is_name}
use Rattle.script_lines.specs.Table.{row_of, role_of, slots_of, says}
use Rattle.script_lines.specs.Line.{WhoFits, SourceFits, BuiltFits, SlotFits, IsLine, blank, copy_slots}
use Rattle.script_text.specs.Meaning.{enter, place, place_of, after_name, with_text_of, places_of, who_of, from_of}
use Rattle.script_text.specs.Meaning.{statement_of, native_kind, after_enter, after_add_at, after_add}
use Rattle.script_printer.specs.Building.{proc_line}
use Rattle.script_printer.specs.Printing.{with_who, with_source, stmt_line, client_line, native_as}
use Rattle.script_text.specs.Track.{name_at}
use Rattle.script_text.proofs.TrackLaws.{name_place, entered_there, place_there, name_stays, few_names}

-- ---- Lists that only grow.

-- an entry of the first list is one of the second, at the same place
pub record Holds (xs ys : List (List ℕ)) : Type 0 where
  long : length xs ≤ length ys
  same : (k : ℕ) → k < length xs → name_at ys k ≡ name_at xs k

holds_all : (xs : List (List ℕ)) → Holds xs xs
holds_all xs = record { long = omega arith; same = λ k h. refl }

holds_on : (xs ys zs : List (List ℕ)) → Holds xs ys → Holds ys zs → Holds xs zs
holds_on xs ys zs h k = record { long = omega (arith, h.long, k.long); same = λ n l. k.same n (omega (arith, l, h.long)) ∙ h.same n l }

holds_entered : (names : List (List ℕ)) (w : List ℕ) → Holds names (enter names w)
holds_entered names w = record { long = few_names names w; same = λ k h. name_stays names w k h }

holds_pushed : (xs : List (List ℕ)) (x : List ℕ) → Holds xs (xs ++ x ∷ [])
holds_pushed xs x = record { long = omega (arith, length-append xs (x ∷ [])); same = λ k h. get_or_append_left xs (x ∷ []) [] k h }

holds_spoken : (texts : List (List ℕ)) (p : Phrase) → Holds texts (with_text_of texts p)
holds_spoken texts p = elim (says p.op) as (λ v. Holds texts (cond v (texts ++ p.text ∷ []) texts)) [
  | true ↦ holds_pushed texts p.text
  | false ↦ holds_all texts
]

-- the names and texts so far stand in those in the end
pub record Later (names : Names) (texts : List (List ℕ)) (N : Names) (T : List (List ℕ)) : Type 0 where
  in_procs : Holds names.procs N.procs
  in_threads : Holds names.threads N.threads
  in_mons : Holds names.mons N.mons
  in_conds : Holds names.conds N.conds
  in_texts : Holds texts T

pub later_all : (names : Names) (texts : List (List ℕ)) → Later names texts names texts
later_all names texts = record {
  in_procs = holds_all names.procs;
  in_threads = holds_all names.threads;
  in_mons = holds_all names.mons;
  in_conds = holds_all names.conds;
  in_texts = holds_all texts;
}

pub later_entered : (names : Names) (texts : List (List ℕ)) (p : Phrase) (N : Names) (T : List (List ℕ))
    → Later (after_name names p) (with_text_of texts p) N T → Later names texts N T
later_entered names texts p N T h = record {
  in_procs = holds_on names.procs (enter names.procs p.procedure) N.procs (holds_entered names.procs p.procedure) h.in_procs;
  in_threads = holds_on names.threads (enter names.threads p.thread) N.threads (holds_entered names.threads p.thread) h.in_threads;
  in_mons = holds_on names.mons (enter names.mons p.monitor) N.mons (holds_entered names.mons p.monitor) h.in_mons;
  in_conds = holds_on names.conds (enter names.conds p.condition) N.conds (holds_entered names.conds p.condition) h.in_conds;
  in_texts = holds_on texts (with_text_of texts p) T (holds_spoken texts p) h.in_texts;
}

names_after : (d : Draft) (p : Phrase) → (after_add d p).script.names ≡ after_name d.script.names p
names_after d p = by_role (role_of p.op) (places_of (after_name d.script.names p) d.script.texts p) (after_enter d p) p
  where
    by_role : (r : Role) (at : Places) (d : Draft) (p : Phrase) → (after_add_at r at d p).script.names ≡ d.script.names
    by_role role.Header at d p = refl
    by_role role.Pod at d p = refl
    by_role role.Limit at d p = refl
    by_role role.Client at d p = refl
    by_role role.Native at d p = refl
    by_role role.Proc at d p = refl
    by_role role.Post at d p = refl
    by_role role.Statement at d p = refl
    by_role role.Skip at d p = refl
    by_role role.Again at d p = refl

texts_after : (d : Draft) (p : Phrase) → (after_add d p).script.texts ≡ with_text_of d.script.texts p
texts_after d p = by_role (role_of p.op) (places_of (after_name d.script.names p) d.script.texts p) (after_enter d p) p
  where
    by_role : (r : Role) (at : Places) (d : Draft) (p : Phrase) → (after_add_at r at d p).script.texts ≡ d.script.texts
    by_role role.Header at d p = refl
    by_role role.Pod at d p = refl
    by_role role.Limit at d p = refl
    by_role role.Client at d p = refl
    by_role role.Native at d p = refl
    by_role role.Proc at d p = refl
    by_role role.Post at d p = refl
    by_role role.Statement at d p = refl
    by_role role.Skip at d p = refl
    by_role role.Again at d p = refl

-- after one line, before all that follow
pub later_step : (d : Draft) (p : Phrase) (N : Names) (T : List (List ℕ))
    → Later (after_add d p).script.names (after_add d p).script.texts N T → Later (after_name d.script.names p) (with_text_of d.script.texts p) N T
later_step d p N T h =
    subst (λ (n : Names). Later n (with_text_of d.script.texts p) N T) (names_after d p)
    (subst (λ (t : List (List ℕ)). Later (after_add d p).script.names t N T) (texts_after d p) h)

pub later_on : (ps : List Phrase) (d : Draft) → Later d.script.names d.script.texts (fold after_add d ps).script.names (fold after_add d ps).script.texts
later_on [] d = later_all d.script.names d.script.texts
later_on (p ∷ ps) d = later_entered d.script.names d.script.texts p (fold after_add (after_add d p) ps).script.names
    (fold after_add (after_add d p) ps).script.texts
    (later_step d p (fold after_add (after_add d p) ps).script.names (fold after_add (after_add d p) ps).script.texts (later_on ps (after_add d p)))

-- ---- A line is given back by what it says.

at_end : (xs : List (List ℕ)) (x : List ℕ) → name_at (xs ++ x ∷ []) (length xs) ≡ x
at_end [] x = refl
at_end (y ∷ ys) x = at_end ys x

name_back : (names all : List (List ℕ)) (w : List ℕ) → is_name w ≡ true → Holds (enter names w) all → name_at all (place_of (enter names w) w) ≡ w
name_back names all w h k =
    let there = place_there (enter names w) w (entered_there names w h) in
    ap (name_at all) (name_place (enter names w) w h) ∙ k.same (place (enter names w) w) there.0 ∙ there.1

-- the names and the text of a line stand at its places in the end
pub record Backs (o : Op) (N : Names) (T : List (List ℕ)) (at : Places) (p : Phrase) : Type 0 where
  thread : is_name p.thread ≡ true → name_at N.threads at.thread ≡ p.thread
  procedure : is_name p.procedure ≡ true → name_at N.procs at.procedure ≡ p.procedure
  monitor : is_name p.monitor ≡ true → name_at N.mons at.monitor ≡ p.monitor
  condition : is_name p.condition ≡ true → name_at N.conds at.condition ≡ p.condition
  text : says o ≡ true → name_at T at.text ≡ p.text

text_back : (texts T : List (List ℕ)) (p : Phrase) → says p.op ≡ true → Holds (with_text_of texts p) T → name_at T (length texts) ≡ p.text
text_back texts T p s h =
    let k : Holds (texts ++ p.text ∷ []) T = subst (λ (b : Bool). Holds (cond b (texts ++ p.text ∷ []) texts) T) s h in
    k.same (length texts) (omega (arith, length-append texts (p.text ∷ []))) ∙ at_end texts p.text

pub backs : (names : Names) (texts : List (List ℕ)) (p : Phrase) (N : Names) (T : List (List ℕ))
    → Later (after_name names p) (with_text_of texts p) N T → Backs p.op N T (places_of (after_name names p) texts p) p
backs names texts p N T h = record {
  thread = λ i. name_back names.threads N.threads p.thread i h.in_threads;
  procedure = λ i. name_back names.procs N.procs p.procedure i h.in_procs;
  monitor = λ i. name_back names.mons N.mons p.monitor i h.in_mons;
  condition = λ i. name_back names.conds N.conds p.condition i h.in_conds;
  text = λ s. text_back texts T p s h.in_texts;
}

who_back : (N : Names) (n : ℕ) (x : Whom) (w : List ℕ) (q : Phrase) → (is_name w ≡ true → name_at N.threads n ≡ w) → WhoFits x w
    → with_who N (who_of x n) q ≡ record q { who = x; thread = w }
who_back N n whom.Named w q b h = ap (λ t. record q { who = whom.Named; thread = t }) (b h)
who_back N n whom.Me w q b h = ap (λ t. record q { who = whom.Me; thread = t }) (sym h)
who_back N n whom.First w q b h = ap (λ t. record q { who = whom.First; thread = t }) (sym h)
who_back N n whom.Sender w q b h = ap (λ t. record q { who = whom.Sender; thread = t }) (sym h)
who_back N n whom.Nobody w q b h = ap (λ t. record q { who = whom.Nobody; thread = t }) (sym h)
who_back N n whom.Any w q b h = absurd h

source_back : (N : Names) (n : ℕ) (x : Whom) (w : List ℕ) (q : Phrase) → (is_name w ≡ true → name_at N.threads n ≡ w) → SourceFits x w
    → with_source N (from_of x n) q ≡ record q { who = x; thread = w }
source_back N n whom.Named w q b h = ap (λ t. record q { who = whom.Named; thread = t }) (b h)
source_back N n whom.Me w q b h = ap (λ t. record q { who = whom.Me; thread = t }) (sym h)
source_back N n whom.First w q b h = ap (λ t. record q { who = whom.First; thread = t }) (sym h)
source_back N n whom.Sender w q b h = ap (λ t. record q { who = whom.Sender; thread = t }) (sym h)
source_back N n whom.Nobody w q b h = ap (λ t. record q { who = whom.Nobody; thread = t }) (sym h)
source_back N n whom.Any w q b h = ap (λ t. record q { who = whom.Any; thread = t }) (sym h)

native_back : (N : Names) (n event : ℕ) (w name : List ℕ) → (is_name w ≡ true → name_at N.threads n ≡ w) → BuiltFits event w
    → native_as N (native_kind event n) (proc_line op.Native name) ≡ record (proc_line op.Native name) { event = event; thread = w }
native_back N n event w name b (inl h) =
    ap (λ e. native_as N (native_kind e n) (proc_line op.Native name)) h.0
    ∙ (λ i. record (proc_line op.Native name) { event = sym h.0 i; thread = sym h.1 i })
native_back N n event w name b (inr h) =
    let some : eqb event 0 ≡ false = ne_eqb event 0 (λ z. omega (arith, h.0.0)) in
    ap (λ v. native_as N (cond v native.Store (native.Session event n)) (proc_line op.Native name)) some
    ∙ ap (λ t. record (proc_line op.Native name) { event = event; thread = t }) (b h.1)

-- what a line of this role adds is printed as the line
abbrev pub SaidBy : Role → Op → Names → List (List ℕ) → Places → Phrase → Type 0
SaidBy role.Header o N T at p = Unit {0}
SaidBy role.Pod o N T at p = Unit {0}
SaidBy role.Limit o N T at p = Unit {0}
SaidBy role.Client o N T at p = client_line p.client p.event ≡ p
SaidBy role.Native o N T at p = native_as N (native_kind p.event at.thread) (proc_line op.Native (name_at N.procs at.procedure)) ≡ p
SaidBy role.Proc o N T at p = proc_line op.Proc (name_at N.procs at.procedure) ≡ p
SaidBy role.Post o N T at p = record (blank op.Post) { client = p.client; text = name_at T at.text } ≡ p
SaidBy role.Statement o N T at p = (st : Stmt) × (statement_of o at p ≡ Some st) × (stmt_line N T st ≡ p)
SaidBy role.Skip o N T at p = (st : Stmt) × (statement_of o at p ≡ Some st) × (stmt_line N T st ≡ p)
SaidBy role.Again o N T at p = (st : Stmt) × (statement_of o at p ≡ Some st) × (stmt_line N T st ≡ p)

said_by : (N : Names) (T : List (List ℕ)) (at : Places) (p : Phrase) (o : Op) → Backs o N T at p → AllByRecursion (SlotFits p) (slots_of o)
    → copy_slots (slots_of o) p (blank o) ≡ p → SaidBy (role_of o) o N T at p
unfolding row_of
said_by N T at p op.Lwp b f e = tt
said_by N T at p op.Pod b f e = tt
said_by N T at p op.Limit b f e = tt
said_by N T at p op.Client b f e = e
said_by N T at p op.Native b f e = ap (λ x. native_as N (native_kind p.event at.thread) (proc_line op.Native x)) (b.procedure f.0)
    ∙ native_back N at.thread p.event p.thread p.procedure b.thread f.1.0 ∙ e
said_by N T at p op.Proc b f e = ap (proc_line op.Proc) (b.procedure f.0) ∙ e
said_by N T at p op.Post b f e = (λ i. record (blank op.Post) { client = p.client; text = b.text refl i }) ∙ e
said_by N T at p op.Create b f e = (
  stmt.Create at.thread at.procedure p.number p.flags,
  refl,
  (λ i. record (blank op.Create) { thread = b.thread f.0 i; procedure = b.procedure f.1.0 i; number = p.number; flags = p.flags }) ∙ e,
)
said_by N T at p op.Destroy b f e = (stmt.Destroy (who_of p.who at.thread), refl, who_back N at.thread p.who p.thread (blank op.Destroy) b.thread f.0 ∙ e)
said_by N T at p op.Ping b f e = (stmt.Ping (who_of p.who at.thread), refl, who_back N at.thread p.who p.thread (blank op.Ping) b.thread f.0 ∙ e)
said_by N T at p op.Yield b f e = (stmt.Yield (who_of p.who at.thread), refl, who_back N at.thread p.who p.thread (blank op.Yield) b.thread f.0 ∙ e)
said_by N T at p op.Suspend b f e = (stmt.Suspend (who_of p.who at.thread), refl, who_back N at.thread p.who p.thread (blank op.Suspend) b.thread f.0 ∙ e)
said_by N T at p op.Resume b f e = (stmt.Resume (who_of p.who at.thread), refl, who_back N at.thread p.who p.thread (blank op.Resume) b.thread f.0 ∙ e)
said_by N T at p op.Join b f e = (stmt.Join (who_of p.who at.thread), refl, who_back N at.thread p.who p.thread (blank op.Join) b.thread f.0 ∙ e)
said_by N T at p op.SetPri b f e =
    (stmt.SetPri (who_of p.who at.thread) p.number, refl, who_back N at.thread p.who p.thread (record (blank op.SetPri) { number = p.number }) b.thread f.0 ∙ e)
said_by N T at p op.Send b f e = (
  stmt.Send (who_of p.who at.thread) p.room at.text,
  refl,
  who_back N at.thread p.who p.thread (record (blank op.Send) { room = p.room; text = name_at T at.text }) b.thread f.0
      ∙ (λ i. record (blank op.Send) { who = p.who; thread = p.thread; room = p.room; text = b.text refl i }) ∙ e,
)
said_by N T at p op.Recv b f e =
    (stmt.Recv (from_of p.who at.thread) p.mode, refl, source_back N at.thread p.who p.thread (record (blank op.Recv) { mode = p.mode }) b.thread f.0 ∙ e)
said_by N T at p op.Reply b f e = (
  stmt.Reply (who_of p.who at.thread) at.text,
  refl,
  who_back N at.thread p.who p.thread (record (blank op.Reply) { text = name_at T at.text }) b.thread f.0
      ∙ (λ i. record (blank op.Reply) { who = p.who; thread = p.thread; text = b.text refl i }) ∙ e,
)
said_by N T at p op.MonCreate b f e = (stmt.MonCreate at.monitor, refl, (λ i. record (blank op.MonCreate) { monitor = b.monitor f.0 i }) ∙ e)
said_by N T at p op.CvCreate b f e =
    (stmt.CvCreate at.condition at.monitor, refl, (λ i. record (blank op.CvCreate) { condition = b.condition f.0 i; monitor = b.monitor f.1.0 i }) ∙ e)
said_by N T at p op.MonDestroy b f e = (stmt.MonDestroy at.monitor, refl, (λ i. record (blank op.MonDestroy) { monitor = b.monitor f.0 i }) ∙ e)
said_by N T at p op.Enter b f e = (stmt.Enter at.monitor, refl, (λ i. record (blank op.Enter) { monitor = b.monitor f.0 i }) ∙ e)
said_by N T at p op.CondEnter b f e = (stmt.CondEnter at.monitor, refl, (λ i. record (blank op.CondEnter) { monitor = b.monitor f.0 i }) ∙ e)
said_by N T at p op.MonExit b f e = (stmt.MonExit at.monitor, refl, (λ i. record (blank op.MonExit) { monitor = b.monitor f.0 i }) ∙ e)
said_by N T at p op.MonBreak b f e = (stmt.MonBreak at.monitor, refl, (λ i. record (blank op.MonBreak) { monitor = b.monitor f.0 i }) ∙ e)
said_by N T at p op.MonWaiters b f e = (stmt.MonWaiters at.monitor, refl, (λ i. record (blank op.MonWaiters) { monitor = b.monitor f.0 i }) ∙ e)
said_by N T at p op.CvDestroy b f e = (stmt.CvDestroy at.condition, refl, (λ i. record (blank op.CvDestroy) { condition = b.condition f.0 i }) ∙ e)
said_by N T at p op.Wait b f e = (stmt.Wait at.condition, refl, (λ i. record (blank op.Wait) { condition = b.condition f.0 i }) ∙ e)
said_by N T at p op.Notify b f e = (stmt.Notify at.condition, refl, (λ i. record (blank op.Notify) { condition = b.condition f.0 i }) ∙ e)
said_by N T at p op.Broadcast b f e = (stmt.Broadcast at.condition, refl, (λ i. record (blank op.Broadcast) { condition = b.condition f.0 i }) ∙ e)
said_by N T at p op.CvSend b f e = (
  stmt.CvSend at.condition (who_of p.who at.thread),
  refl,
  who_back N at.thread p.who p.thread (record (blank op.CvSend) { condition = name_at N.conds at.condition }) b.thread f.1.0
      ∙ (λ i. record (blank op.CvSend) { who = p.who; thread = p.thread; condition = b.condition f.0 i }) ∙ e,
)
said_by N T at p op.CvWaiters b f e = (stmt.CvWaiters at.condition, refl, (λ i. record (blank op.CvWaiters) { condition = b.condition f.0 i }) ∙ e)
said_by N T at p op.CallProc b f e = (stmt.CallProc at.procedure, refl, (λ i. record (blank op.CallProc) { procedure = b.procedure f.0 i }) ∙ e)
said_by N T at p op.ExitMonExit b f e = (stmt.OnExit (exit.MonExit at.monitor), refl, (λ i. record (blank op.ExitMonExit) { monitor = b.monitor f.0 i }) ∙ e)
said_by N T at p op.ExitMonBreak b f e = (stmt.OnExit (exit.MonBreak at.monitor), refl, (λ i. record (blank op.ExitMonBreak) { monitor = b.monitor f.0 i }) ∙ e)
said_by N T at p op.ExitNotify b f e = (stmt.OnExit (exit.Notify at.condition), refl, (λ i. record (blank op.ExitNotify) { condition = b.condition f.0 i }) ∙ e)
said_by N T at p op.ExitBroadcast b f e =
    (stmt.OnExit (exit.Broadcast at.condition), refl, (λ i. record (blank op.ExitBroadcast) { condition = b.condition f.0 i }) ∙ e)
said_by N T at p op.ExitReply b f e = (
  stmt.OnExit (exit.Reply (who_of p.who at.thread) at.text),
  refl,
  who_back N at.thread p.who p.thread (record (blank op.ExitReply) { text = name_at T at.text }) b.thread f.0
      ∙ (λ i. record (blank op.ExitReply) { who = p.who; thread = p.thread; text = b.text refl i }) ∙ e,
)
said_by N T at p op.ExitResume b f e =
    (stmt.OnExit (exit.Resume (who_of p.who at.thread)), refl, who_back N at.thread p.who p.thread (blank op.ExitResume) b.thread f.0 ∙ e)
said_by N T at p op.ExitNote b f e = (stmt.OnExit (exit.Note at.text), refl, (λ i. record (blank op.ExitNote) { text = b.text refl i }) ∙ e)
said_by N T at p op.Agent b f e = (stmt.Agent at.thread p.number, refl, (λ i. record (blank op.Agent) { thread = b.thread f.0 i; number = p.number }) ∙ e)
said_by N T at p op.Say b f e = (stmt.Say at.text, refl, (λ i. record (blank op.Say) { text = b.text refl i }) ∙ e)
said_by N T at p _ b f e = (_, refl, e)

pub said : (N : Names) (T : List (List ℕ)) (at : Places) (p : Phrase) → Backs p.op N T at p → IsLine p → SaidBy (role_of p.op) p.op N T at p
said N T at p b h = said_by N T at p p.op b h.0 h.1
