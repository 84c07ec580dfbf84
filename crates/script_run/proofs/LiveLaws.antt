-- From a run while threads post to what a session of `run` says.
use Rattle.event_gate.proofs.Lines.{cond_other, cond_same, same_or}
use Rattle.event_gate.specs.Inlet.{HasEvent, Intake, IsInletTaken}
use Rattle.event_gate.specs.Port.{of}
use Rattle.event_gate.specs.Shelves.{event_of, full_shelves}
use Rattle.event_gate.specs.Texts.{lines_from}
use Rattle.script_run.specs.Inlets.{fresh}
use Rattle.script_run.specs.Served.{HasLines, IsServed, lines_in_all, texts_of}
use Rattle.script_run.proofs.BesideLaws.{fed-fresh}
use Rattle.script_run.proofs.ClientLaws.{items_of}
use Rattle.script_run.proofs.LeftLaws.{ArePosts, IsAway, IsGiven, counts-are, counts_by, history-of, left-past}
use Rattle.script_run.proofs.LeftLaws.{left_lines, lines-for, none-left-of, over-with, wants-none}
use Rattle.script_session.proofs.RunLaws.{Plays, before-is, lines-is, plays, session-is, setting-is}
use Rattle.streams.proofs.WriteLaws.{appended-append}
use Rattle.script_session.proofs.SaidLaws.{IsRanEnd}
use Rattle.script_run.specs.Beside.{AreBack, GoesBeside, IsFed, KnowAll}
use Rattle.script_body.specs.Bodies.{bodies_of, body_next}
use Rattle.script_run.specs.Clients.{count_taken, counts_of, texts_for, texts_from}
use Rattle.script_session.specs.History.{counts_from}
use Rattle.script_run.specs.Live.{EndsSo, IsAllPosted, IsLiveBroken, IsLiveStopped, IsLived, IsSoFar, LiveSays, PostsSay, bytes_to_end}
use Rattle.script_session.specs.Outcome.{end_of}
use Rattle.script_session.specs.SoFar.{AreDue, lines_after, lines_before, opening_run, session_at}
use Rattle.streams.specs.Streams.{Stream}
use Rattle.streams.specs.Writing.{AppendsPart}
use Rattle.script_body.specs.Posted.{IsPosted}
use Rattle.script_body.specs.declared.thread_body.ThreadBody.{ThreadBody}
use Rattle.script_session.specs.declared.session.Session.{Session}
use Rattle.script_session.specs.declared.session.SessionEnd.{SessionEnd}
use Rattle.script_session.specs.declared.session.SessionEnd.TheVariants as end
use Rattle.pod_events.specs.Events.{is_takeable}
use Rattle.lwp_types.specs.Streams.{after_append}
use Rattle.lwp_types.specs.declared.call.Line.{Line}
use Rattle.lwp_types.specs.declared.text.Text.{Text}
use Rattle.pod_runner.specs.Due.{IsDefined}
use Rattle.pod_runner.specs.Live.{Halts, NoneComes, lines_of_takes, may_lose}
use Rattle.pod_runner.specs.Over.{is_wanted, over}
use Rattle.pod_runner.specs.Run as run
use Rattle.pod_runner.specs.Run.{AppendsCut, Played}
use Rattle.pod_runner.specs.Session.{Setting}
use Rattle.pod_runner.specs.Session as Sessions
use Rattle.pod_runner.specs.declared.phase.RunErr.{RunErr}
use Rattle.pod_runner.specs.declared.session.Took.{Took}
use Rattle.script_text.specs.Script.{lines_posted, proc_names}
use Rattle.script_text.specs.declared.script.Script.{Script}
use Rattle.trace_text.specs.Lines.{end_text}
use Rattle.trace_text.specs.declared.ends.Halt.{Halt}
use Rattle.trace_text.specs.declared.ends.Halt.TheVariants as halts
use Rattle.std.specs.List.{All, AllByRecursion}
use Rattle.std.specs.Prelude.{Ok, Option, Result, sum_by, ◌⊎◌}
use Rattle.std.proofs.Common.{Global, List, Vec, [], ap, append-nil, append_assoc, arith, false, inl, inr, length, length-append, map, refl}
use Rattle.std.proofs.Common.{slice_index_or, subst, suc, sym, take, true, zero, ℕ, ⊎_elim, ◌++◌, ◌+◌, ◌-◌, ◌<◌, ◌∙◌, ◌∷◌, ◌≡◌, ◌≢◌, ◌≤◌}
use Rattle.std.proofs.Math.Seq.{take-append-add}
use Rattle.std.proofs.lemmas.Bool.{cases_lt}
use Rattle.std.proofs.lemmas.List.{length-map}
use Rattle.std.proofs.lemmas.List.Sums.{sum_by-cons}
use Rattle.std.proofs.lemmas.List.Elements.{recursion_from_All}

-- ---- what the inlets gave is what was posted

texts-at : (c a : ℕ) (clients : List ℕ) (posts : List Line) → c < length clients → slice_index_or (texts_from a clients posts) c [] ≡ texts_for (a + c) posts
texts-at c a [] posts low = absurd (omega (arith, low))
texts-at zero a (e ∷ es) posts low = ap (λ k. texts_for k posts) (omega arith)
texts-at (suc c) a (e ∷ es) posts low = texts-at c (a + 1) es posts (omega (arith, low)) ∙ ap (λ k. texts_for k posts) (omega arith)

-- the lines of the first texts are the first lines
first-lines : (c n k : ℕ) (ts : List (List ℕ)) → (rest : List Line) × (lines_from c n (take k ts) ++ rest ≡ lines_from c n ts)
first-lines c n zero ts = (lines_from c n ts, refl)
first-lines c n (suc k) [] = ([], refl)
first-lines c n (suc k) (t ∷ ts) = let h = first-lines c (suc n) k ts in (h.0, ap (λ ls. record { client = c; seq = n; text = t } ∷ ls) h.1)

none-of-another : (clients : List ℕ) (e c : ℕ) (xs : List Line)
    → AllByRecursion (λ (line : Line). (line.client < length clients) × (event_of clients line.client ≡ e)) xs → IsAway clients e c → of c xs ≡ []
none-of-another clients e c [] all away = refl
none-of-another clients e c (l ∷ ls) all away = cond_other l.client c (l ∷ of c ls) (of c ls) (λ is. by is away) ∙ none-of-another clients e c ls all.1 away
  where
    by : l.client ≡ c → IsAway clients e c → ⊥
    by is (inl other) = other (sym (ap (event_of clients) is) ∙ all.0.1)
    by is (inr past) = absurd (let under = all.0.0 in omega (arith, is, past, under))

-- the texts that a client was given, as those of its lines
texts-are : (clients : List ℕ) (posts : List Line) (texts : List (List (List ℕ))) (c : ℕ) → texts ≡ texts_from 0 clients posts
    → ArePosts clients posts → c < length clients → lines_from c 0 (texts_of texts c) ≡ of c posts
texts-are clients posts texts c is p low =
    ap (lines_from c 0) (ap (λ ts. texts_of ts c) is ∙ texts-at c 0 clients posts low ∙ ap (λ k. texts_for k posts) (let e : 0 + c ≡ c = omega arith in e))
    ∙ lines-for clients posts c p

pub are-posts : (script : Script) → IsPosted script → ArePosts script.clients (lines_posted script)
are-posts script h = record { clients_are = h.clients; numbered = h.numbered }

module _ (clients : List ℕ) (posts : List Line) (texts : List (List (List ℕ))) (inlets : List Intake)
    (texts_is : texts ≡ texts_from 0 clients posts) (p : ArePosts clients posts) where
  pub given-of : (takes : List Took) (most : ℕ) (f : IsFed takes inlets most) → AreBack clients texts inlets
      → IsGiven (HasEvent inlets) clients posts takes f.lost
  given-of takes most f back = record {
    stray = λ e c has away.
        let t = slice_index_or inlets has.0 blank in
        let s : IsServed clients texts back.0 t = back.1.served has.0 blank has.1 in
        let at : t.event ≡ e = has.2 blank in
        ap (λ k. of c (lines_of_takes k (takes ++ f.lost))) (sym at) ∙ ap (of c) (sym (f.given has.0 blank has.1))
        ∙ none-of-another clients t.event c t.taken
        (recursion_from_All (λ (line : Line). (line.client < length clients) × (event_of clients line.client ≡ t.event)) t.taken s.mine)
        (subst (λ (k : ℕ). IsAway clients k c) (sym at) away);
    first = λ c low.
        let has : HasEvent inlets (event_of clients c) = back.1.are_for.found c 0 low in
        let t = slice_index_or inlets has.0 blank in
        let s : IsServed clients texts back.0 t = back.1.served has.0 blank has.1 in
        let at : t.event ≡ event_of clients c = has.2 blank in
        let h : HasLines c (texts_of texts c) back.0 t = s.lines c low (sym at) in
        let more = first-lines c 0 h.count (texts_of texts c) in (
          h.rest ++ more.0,
          ap (λ ls. of c ls ++ (h.rest ++ more.0)) (ap (λ k. lines_of_takes k (takes ++ f.lost)) (sym at) ∙ sym (f.given has.0 blank has.1))
              ∙ sym (append_assoc (of c t.taken) h.rest more.0)
              ∙ ap (λ ls. ls ++ more.0) h.lines
              ∙ more.1
              ∙ texts-are clients posts texts c texts_is p low,
        );
    known = recursion_from_All (λ (took : Took). HasEvent inlets took.event) takes f.known;
  }
    where
      blank : Intake
      blank = record { place = []; event = 0; taken = []; finds = 0; noted = []; known = [] }

-- ---- what the threads are given

-- a client's texts stand in its place
texts-in : (vs : List (Vec Text Global)) (k : ℕ) (d : Vec Text Global) → k < length vs → (slice_index_or vs k d).items ≡ slice_index_or (map items_of vs) k []
texts-in [] k d low = absurd (omega (arith, low))
texts-in (v ∷ vs) zero d low = refl
texts-in (v ∷ vs) (suc k) d low = texts-in vs k d (omega (arith, low))

length-texts : (c : ℕ) (clients : List ℕ) (posts : List Line) → length (texts_from c clients posts) ≡ length clients
length-texts c [] posts = refl
length-texts c (e ∷ es) posts = ap suc (length-texts (c + 1) es posts)

-- there are as many texts as clients
pub texts-many : (clients : List ℕ) (posts : List Line) (vs : List (Vec Text Global)) → map items_of vs ≡ texts_from 0 clients posts
    → length vs ≡ length clients
texts-many clients posts vs is = sym (length-map vs items_of) ∙ ap length is ∙ length-texts 0 clients posts

-- and no more of each than a client may post
pub texts-few : (script : Script) (vs : List (Vec Text Global)) → map items_of vs ≡ texts_from 0 script.clients (lines_posted script)
    → IsPosted script → All (λ ts. length ts.items ≤ 20000) vs
texts-few script vs is posted = λ k d low.
    let many = texts-many script.clients (lines_posted script) vs is in
    let at : (slice_index_or vs k d).items ≡ texts_for k (lines_posted script)
    = texts-in vs k d low ∙ ap (λ ts. slice_index_or ts k []) is
    ∙ texts-at k 0 script.clients (lines_posted script) (omega (arith, low, many))
    ∙ ap (λ n. texts_for n (lines_posted script)) (let e : 0 + k ≡ k = omega arith in e) in
    omega (arith, ap length at, length-map (of k (lines_posted script)) (λ (line : Line). line.text), posted.each k)

-- of the clients after that of a line, none has one text more by it
none-more : (a : ℕ) (clients : List ℕ) (l : Line) (ls : List Line) → l.client < a
    → sum_by length (texts_from a clients (l ∷ ls)) ≡ sum_by length (texts_from a clients ls)
none-more a [] l ls low = refl
none-more a (e ∷ es) l ls low =
    let rest = none-more (a + 1) es l ls (omega (arith, low)) in
    let same : texts_for a (l ∷ ls)
    ≡ texts_for a ls = ap (map (λ (line : Line). line.text)) (cond_other l.client a (l ∷ of a ls) (of a ls) (λ is. omega (arith, low, is))) in
    sum_by-cons length (texts_for a (l ∷ ls)) (texts_from (a + 1) es (l ∷ ls)) ∙ (λ k. length (same k) + rest k)
    ∙ sym (sum_by-cons length (texts_for a ls) (texts_from (a + 1) es ls))

-- of those among which its client is, one has
one-more : (a : ℕ) (clients : List ℕ) (l : Line) (ls : List Line) → a ≤ l.client → l.client < a + length clients
    → sum_by length (texts_from a clients (l ∷ ls)) ≡ suc (sum_by length (texts_from a clients ls))
one-more a [] l ls from to = absurd (omega (arith, from, to))
one-more a (e ∷ es) l ls from to = ⊎_elim
    (λ (is : l.client ≡ a).
    let rest = none-more (a + 1) es l ls (omega (arith, is)) in
    let more : length (texts_for a (l ∷ ls))
    ≡ suc (length (texts_for a ls)) =
    ap (λ (xs : List Line). length (map (λ (line : Line). line.text) xs)) (cond_same l.client a (l ∷ of a ls) (of a ls) is) in
    let now = sum_by-cons length (texts_for a (l ∷ ls)) (texts_from (a + 1) es (l ∷ ls)) in
    let was = sum_by-cons length (texts_for a ls) (texts_from (a + 1) es ls) in
    omega (arith, rest, more, now, was))
    (λ (other : l.client ≢ a).
    let rest = one-more (a + 1) es l ls (omega (arith, from, other)) (omega (arith, to)) in
    let same : length (texts_for a (l ∷ ls))
    ≡ length (texts_for a ls) =
    ap (λ (xs : List Line). length (map (λ (line : Line). line.text) xs)) (cond_other l.client a (l ∷ of a ls) (of a ls) other) in
    let now = sum_by-cons length (texts_for a (l ∷ ls)) (texts_from (a + 1) es (l ∷ ls)) in
    let was = sum_by-cons length (texts_for a ls) (texts_from (a + 1) es ls) in
    omega (arith, rest, same, now, was))
    (same_or l.client a)

no-lines : (a : ℕ) (clients : List ℕ) → sum_by length (texts_from a clients []) ≡ 0
no-lines a [] = refl
no-lines a (e ∷ es) =
    let now = sum_by-cons length (texts_for a []) (texts_from (a + 1) es []) in
    let none : length (texts_for a []) ≡ 0 = refl in
    let rest = no-lines (a + 1) es in
    omega (arith, now, none, rest)

each-line : (clients : List ℕ) (ls : List Line) → AllByRecursion (λ (line : Line). line.client < length clients) ls
    → sum_by length (texts_from 0 clients ls) ≡ length ls
each-line clients [] h = no-lines 0 clients
each-line clients (l ∷ ls) h = one-more 0 clients l ls (omega arith) (omega (arith, h.0)) ∙ ap suc (each-line clients ls h.1)

-- the texts of all clients are as many as the lines of the script
pub lines-are : (script : Script) (texts : List (List (List ℕ))) → texts ≡ texts_from 0 script.clients (lines_posted script)
    → IsPosted script → lines_in_all texts ≡ length (lines_posted script)
lines-are script texts is posted = ap lines_in_all is
    ∙ each-line script.clients (lines_posted script)
    (recursion_from_All (λ (line : Line). line.client < length script.clients) (lines_posted script) posted.clients)

-- each client has an event
pub events-are : (script : Script) → IsPosted script → All (λ e. e ≤ 31) script.clients
events-are script posted = posted.events

-- ---- a session of the script

-- a run of this script came so far: what its inlets gave is what it took, and perhaps one line that was lost
pub record Ran (script : Script) (turns : ℕ) (r : Played Script) (inlets : List Intake) : Type 0 where
  pub plays_it : Plays script turns r
  pub due : AreDue script r.takes r.calls
  pub room : r.calls ≤ turns
  pub lost : List Took
  pub given : IsGiven (HasEvent inlets) script.clients (lines_posted script) r.takes lost

pub ran-of : {T : Type 0} (script : Script) (turns : ℕ) (s : Stream) (o r : Played Script) (before after : List Intake)
    (texts : List (List (List ℕ))) (result : Result T RunErr)
    → GoesBeside s o r before after result
    → o ≡ opening_run script turns → All (λ t. t ≡ fresh t.place t.event t.noted) before
    → texts ≡ texts_from 0 script.clients (lines_posted script) → IsPosted script → AreBack script.clients texts after → Ran script turns r after
ran-of script turns s o r before after texts result h opening new is posted back =
    let it = plays script turns o r opening h.ran.same in
    let fed = h.fed (subst (λ (takes : List Took). IsFed takes before 0) (sym (ap (λ (x : Played Script). x.takes) opening)) (fed-fresh before new)) in
    record {
      plays_it = it;
      due = subst (λ (x : Setting ThreadBody). IsDefined x r.takes r.calls) (setting-is script turns r it) h.ran.made;
      room = omega (arith, h.ran.room, it.turns_same);
      lost = fed.lost;
      given = given-of script.clients (lines_posted script) texts after is (are-posts script posted) r.takes (may_lose result) fed back;
    }

-- the lines that it left
abbrev left_by : Script → Played Script → List Line
left_by script r = left_lines script.clients (lines_posted script) r.takes

so-far-of : (script : Script) (turns : ℕ) (r : Played Script) (inlets : List Intake) → IsPosted script → Ran script turns r inlets
    → IsSoFar turns script r.takes r.calls (left_by script r)
so-far-of script turns r inlets posted h = record {
  due = h.due;
  room = h.room;
  history = history-of (HasEvent inlets) script.clients (lines_posted script) r.takes h.lost h.given (are-posts script posted);
}

-- what is told after all its steps
told-of : (script : Script) (turns : ℕ) (r : Played Script) (old new : Option (List ℕ)) → Plays script turns r
    → new ≡ after_append old (run.trace_of body_next bodies_of proc_names r) → new ≡ after_append old (lines_after script r.takes r.calls)
told-of script turns r old new it h = h ∙ ap (after_append old) (lines-is script turns r it)

pub live-stopped : (script : Script) (turns : ℕ) (r : Played Script) (inlets : List Intake) (old new : Option (List ℕ)) → IsPosted script
    → Ran script turns r inlets
    → new ≡ after_append old (run.trace_of body_next bodies_of proc_names r) → IsLiveStopped turns script old new r.takes r.calls
live-stopped script turns r inlets old new posted h w = record {
  left = left_by script r;
  so_far = so-far-of script turns r inlets posted h;
  written = told-of script turns r old new h.plays_it w;
}

pub live-broken : (script : Script) (turns : ℕ) (r : Played Script) (inlets : List Intake) (old new : Option (List ℕ)) → IsPosted script
    → Ran script turns r inlets
    → AppendsCut old new (run.trace_before body_next bodies_of proc_names r) (run.trace_of body_next bodies_of proc_names r)
    → IsLiveBroken turns script old new r.takes r.calls
live-broken script turns r inlets old new posted h p = record {
  left = left_by script r;
  so_far = so-far-of script turns r inlets posted h;
  cut = inl (subst (λ (bytes : List ℕ). AppendsCut old new (lines_before script r.takes r.calls) bytes) (lines-is script turns r h.plays_it)
      (subst (λ (least : List ℕ). AppendsCut old new least (run.trace_of body_next bodies_of proc_names r)) (before-is script turns r h.plays_it) p));
}

-- ---- to its end

-- it is over, and each inlet knows all lines of its clients
pub record Over (script : Script) (turns : ℕ) (r : Played Script) (inlets : List Intake) (halt : Halt) : Type 0 where
  pub ran : Ran script turns r inlets
  pub halted : Halts body_next bodies_of r inlets halt
  pub none_lost : (c : ℕ) → c < length script.clients
      → is_takeable (run.session_of body_next bodies_of r).live.pod (event_of script.clients c) ≡ true → NoneComes body_next bodies_of r inlets
      → of c (lines_of_takes (event_of script.clients c) r.takes) ≡ of c (lines_posted script)

pub over-of : {T : Type 0} (script : Script) (turns : ℕ) (s : Stream) (o r : Played Script) (before after : List Intake)
    (texts : List (List (List ℕ))) (x : T) (halt : Halt)
    → GoesBeside s o r before after (Ok x)
    → o ≡ opening_run script turns → All (λ t. t ≡ fresh t.place t.event t.noted) before
    → texts ≡ texts_from 0 script.clients (lines_posted script) → IsPosted script → AreBack script.clients texts after
    → Halts body_next bodies_of r after halt → KnowAll script.clients texts after → Over script turns r after halt
over-of script turns s o r before after texts x halt h opening new is posted back halts know = record {
  ran = ran-of script turns s o r before after texts (Ok x) h opening new is posted back;
  halted = halts;
  none_lost = λ c low wanted none.
      let clients = script.clients in
      let has : HasEvent after (event_of clients c) = back.1.are_for.found c 0 low in
      let t = slice_index_or after has.0 blank in
      let at : t.event ≡ event_of clients c = has.2 blank in
      let served : IsServed clients texts back.0 t = back.1.served has.0 blank has.1 in
      let l : HasLines c (texts_of texts c) back.0 t = served.lines c low (sym at) in
      let taken : IsInletTaken t = none.1 has.0 blank has.1 (ap (is_takeable (run.session_of body_next bodies_of r).live.pod) at ∙ wanted) in
      let fed = h.fed (subst (λ (takes : List Took). IsFed takes before 0) (sym (ap (λ (x : Played Script). x.takes) opening)) (fed-fresh before new)) in
      ap (λ k. of c (lines_of_takes k r.takes)) (sym at)
      ∙ ap (λ xs. of c (lines_of_takes t.event xs)) (sym (append-nil r.takes) ∙ ap (λ xs. r.takes ++ xs) (sym (none-of fed.lost fed.few)))
      ∙ ap (of c) (sym (fed.given has.0 blank has.1))
      ∙ sym (append-nil (of c t.taken)) ∙ ap (λ xs. of c t.taken ++ xs) (sym (l.done taken)) ∙ l.lines ∙ sym l.posted
      ∙ know has.0 blank has.1 c low (sym at)
      ∙ texts-are clients (lines_posted script) texts c is (are-posts script posted) low;
}
  where
    blank : Intake
    blank = record { place = []; event = 0; taken = []; finds = 0; noted = []; known = [] }

    none-of : (xs : List Took) → length xs ≤ 0 → xs ≡ []
    none-of [] e = refl
    none-of (x ∷ xs) e = absurd (omega (arith, e))

stuck-wants : (script : Script) (turns : ℕ) (r : Played Script) (inlets : List Intake) (halt : Halt) → IsPosted script
    → Over script turns r inlets halt → halt ≡ halts.Stuck
    → is_wanted (session_at script r.takes r.calls).live.pod (full_shelves script.clients (left_by script r)) ≡ false
stuck-wants script turns r inlets halt posted h stuck =
    wants-none (session_at script r.takes r.calls).live.pod script.clients (left_by script r)
    (λ e c wanted at. by e c wanted at (cases_lt c (length script.clients)))
  where
    by : (e c : ℕ) → is_takeable (session_at script r.takes r.calls).live.pod e ≡ true → event_of script.clients c ≡ e
        → (c < length script.clients) ⊎ (length script.clients ≤ c) → of c (left_by script r) ≡ []
    by e c wanted at (inl low) = none-left-of (HasEvent inlets) script.clients (lines_posted script) r.takes h.ran.lost h.ran.given (are-posts script posted) c
        (h.none_lost c low
        (ap (λ (x : Sessions.Session ThreadBody). is_takeable x.live.pod (event_of script.clients c)) (session-is script turns r h.ran.plays_it)
        ∙ ap (is_takeable (session_at script r.takes r.calls).live.pod) at ∙ wanted)
        (h.halted.1 stuck))
    by e c wanted at (inr past) = left-past (lines_posted script) r.takes c 0 script.clients (omega (arith, past))

ends-so : (script : Script) (turns : ℕ) (r : Played Script) (inlets : List Intake) (halt : Halt) → IsPosted script
    → Over script turns r inlets halt → EndsSo turns script r.takes r.calls (left_by script r) halt
ends-so script turns r inlets halt posted h = over-with turns (session_at script r.takes r.calls).live.pod r.calls (left_by script r) script.clients halt
    (ap (λ (x : Sessions.Session ThreadBody). over turns x.live.pod r.calls []) (sym (session-is script turns r h.ran.plays_it))
    ∙ ap (λ n. over n (run.session_of body_next bodies_of r).live.pod r.calls []) (sym h.ran.plays_it.turns_same) ∙ h.halted.0)
    (stuck-wants script turns r inlets halt posted h)

-- how many lines of each client are left
counts-same : (c : ℕ) (clients : List ℕ) (posts : List Line) (takes : List Took)
    → counts_of c (texts_from c clients posts) takes ≡ counts_by posts takes c clients
counts-same c [] posts takes = refl
counts-same c (e ∷ es) posts takes =
    ap (λ n. (n - count_taken c takes) ∷ counts_of (c + 1) (texts_from (c + 1) es posts) takes) (length-map (of c posts) (λ (line : Line). line.text))
    ∙ ap (λ ns. (length (of c posts) - count_taken c takes) ∷ ns) (counts-same (c + 1) es posts takes)

pub tail-of : (script : Script) (turns : ℕ) (r : Played Script) (texts : List (List (List ℕ))) (halt : Halt) (last counts : List ℕ)
    → texts ≡ texts_from 0 script.clients (lines_posted script)
    → counts ≡ counts_of 0 texts r.takes → last ≡ end_text turns counts halt → last ≡ end_text turns (counts_from 0 script.clients (left_by script r)) halt
tail-of script turns r texts halt last counts is n e = e
    ∙ ap (λ ns. end_text turns ns halt) (n ∙ ap (λ ts. counts_of 0 ts r.takes) is
    ∙ counts-same 0 script.clients (lines_posted script) r.takes ∙ counts-are script.clients (lines_posted script) r.takes)

pub lived-of : (script : Script) (turns : ℕ) (r : Played Script) (inlets : List Intake) (halt : Halt) (old mid new : Option (List ℕ)) (last : List ℕ)
    → IsPosted script → Over script turns r inlets halt
    → mid ≡ after_append old (run.trace_of body_next bodies_of proc_names r)
    → last ≡ end_text turns (counts_from 0 script.clients (left_by script r)) halt → new ≡ after_append mid last
    → IsLived turns script old new r.takes r.calls halt
lived-of script turns r inlets halt old mid new last posted h g e n = record {
  left = left_by script r;
  so_far = so-far-of script turns r inlets posted h.ran;
  halted = ends-so script turns r inlets halt posted h;
  written = n ∙ ap (λ w. after_append w last) (told-of script turns r old mid h.ran.plays_it g)
      ∙ appended-append old (lines_after script r.takes r.calls) last ∙ ap (λ xs. after_append old (lines_after script r.takes r.calls ++ xs)) e;
  stuck = stuck-wants script turns r inlets halt posted h;
}

pub live-cut : (script : Script) (turns : ℕ) (r : Played Script) (inlets : List Intake) (halt : Halt) (old mid new : Option (List ℕ)) (last : List ℕ)
    → IsPosted script → Over script turns r inlets halt
    → mid ≡ after_append old (run.trace_of body_next bodies_of proc_names r)
    → last ≡ end_text turns (counts_from 0 script.clients (left_by script r)) halt → AppendsPart mid new last
    → IsLiveBroken turns script old new r.takes r.calls
live-cut script turns r inlets halt old mid new last posted h g e p =
    let all = lines_after script r.takes r.calls in
    let whole : bytes_to_end turns script r.takes r.calls (left_by script r) halt ≡ all ++ last = ap (λ xs. all ++ xs) (sym e) in
    record {
      left = left_by script r;
      so_far = so-far-of script turns r inlets posted h.ran;
      cut = inr (record {
        halt = halt;
        halted = ends-so script turns r inlets halt posted h;
        cut = record {
          kept = length all + p.kept;
          told = p.told ∙ ap (λ w. after_append w (take p.kept last)) (told-of script turns r old mid h.ran.plays_it g)
              ∙ appended-append old all (take p.kept last)
              ∙ ap (after_append old) (sym (take-append-add all last p.kept) ∙ ap (take (length all + p.kept)) (sym whole));
          some = omega arith;
          not_all = omega (arith, p.not_all, ap length whole, length-append all last);
        };
      });
    }

-- ---- what the end says

-- where all lines were posted, each end that a run comes to says so
pub posts-of : (script : Script) (posted : Option ℕ) (halt : Halt) → IsAllPosted script posted → PostsSay script posted (end_of halt)
posts-of script posted (halts.Ended status) h = h
posts-of script posted halts.Stuck h = h
posts-of script posted halts.Spent h = h

-- a run ends so only where a script was read
pub live-ran : (turns : ℕ) (script : Script) (sink : Stream) (session : Session) (e : SessionEnd) → LiveSays turns script sink session e → IsRanEnd e
live-ran turns script sink session (end.Ended status) s = tt
live-ran turns script sink session end.Stuck s = tt
live-ran turns script sink session end.Spent s = tt
live-ran turns script sink session end.WriteFault s = tt
live-ran turns script sink session end.NoMemory s = tt
live-ran turns script sink session end.Usage s = s
live-ran turns script sink session end.ReadFault s = s
live-ran turns script sink session (end.Script line reason) s = s
live-ran turns script sink session (end.Input part) s = s
live-ran turns script sink session end.Reported s = s
live-ran turns script sink session end.Same s = s
live-ran turns script sink session (end.Differs line) s = s
