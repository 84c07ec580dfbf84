-- Each line is read back.
use Rattle.lwp_types.specs.Names.{null_id}
use Rattle.lwp_types.specs.declared.call.Answer.{Answer}
use Rattle.lwp_types.specs.declared.call.Answer.TheVariants as answer
use Rattle.lwp_types.specs.declared.call.Call.{Call}
use Rattle.lwp_types.specs.declared.call.Call.TheVariants as call
use Rattle.lwp_types.specs.declared.call.ExitCall.{ExitCall}
use Rattle.lwp_types.specs.declared.call.ExitCall.TheVariants as exit
use Rattle.lwp_types.specs.declared.call.Flags.{Flags}
use Rattle.lwp_types.specs.declared.call.IdKind.TheVariants as kind
use Rattle.lwp_types.specs.declared.call.Line.{Line}
use Rattle.lwp_types.specs.declared.call.LwpErr.{LwpErr}
use Rattle.lwp_types.specs.declared.call.LwpErr.TheVariants as error
use Rattle.std.proofs.Common.{Bool, List, None, Option, Some, [], ap, arith, codes, cond, eqb, false, length, length-append}
use Rattle.std.proofs.Common.{refl, subst, suc, sym, true, ℕ, ◌++◌, ◌-◌, ◌<◌, ◌∙◌, ◌∷◌, ◌≡◌, ◌≤◌, ◌^◌, drop}
use Rattle.std.proofs.lemmas.Bool.{eqb-false, eqb-true}
use Rattle.std.specs.Fmt.{decimal, digits}
use Rattle.std.specs.Prelude.{IsTrue, bytes_eq, negsuc, not, pos}
use Rattle.script_lines.specs.Table.{op_at, row_of}
use Rattle.trace_lines.proofs.WordLaws.{EndsDigits, behind_again, id_again, id_alone, not_number, not_number_on, number_again}
use Rattle.trace_lines.proofs.WordLaws.{number_alone, number_is_word, rest_again, who_again, who_alone, whole_alone}
use Rattle.trace_lines.specs.Entries.{also_entry_by, call_entry, entry_of, event_entry_by, exit_entry_by, gain_of, id_of, is_suspended, rites_entry_by}
use Rattle.trace_lines.specs.Entries.{taken_post, target_of, thread_entry, tick_entry_by, trap_entry_by, verb_of, who_of}
use Rattle.trace_lines.specs.Told.{AlsoIsRead, AnswersAreRead, CallsAreRead, DeathsAreRead, EndsAreRead, EventsAreRead, ExitsAreRead}
use Rattle.trace_lines.specs.Told.{IsAnswer, IsPrinted, RitesAreRead, TicksAreRead, TrapsAreRead, exit_target, exit_verb, gain_in_answer}
use Rattle.trace_lines.specs.Told.{is_outcome, is_refused, is_created_suspended, target_of_call, verb_of_call}
use Rattle.trace_lines.specs.Words.{ends, reach, rest, starts, word}
use Rattle.trace_lines.specs.declared.entry.Entry.TheVariants as entry
use Rattle.trace_lines.specs.declared.entry.Gain.TheVariants as gain
use Rattle.trace_lines.specs.declared.entry.Verb.TheVariants as verb
use Rattle.trace_text.specs.Lines.{answer_text, call_text, exit_text, flags_text, id_text, posted_text, proc_text, thread_text, with_space}

-- a line that begins with a thread
thread_line : (t : ℕ) (r : List ℕ) → t < null_id → EndsDigits r → entry_of (thread_text t ++ r) ≡ thread_entry (Some t) r
thread_line t r lt e = by_null (eqb t null_id) refl
  where
    by_null : (v : Bool) → eqb t null_id ≡ v → entry_of (cond v (codes "none") (116 ∷ decimal t) ++ r) ≡ thread_entry (Some t) r
    by_null true h = absurd (omega (arith, eqb-true t null_id h))
    by_null false h =
        let fits : t < 2 ^ 64 = omega (arith, lt) in
        rw (not_number_on 105 (codes "ck ") t r fits refl, number_again t r fits e, behind_again t r fits e) refl

-- ---- calls

flags_again : (s n v : Bool) → starts (codes "s") (flags_text (record { suspended = s; nolastrites = n; server = v })) ≡ s
flags_again true n v = refl
flags_again false true v = refl
flags_again false false true = refl
flags_again false false false = refl

created : (procs : List (List ℕ)) (number prio : ℕ) (flags : Flags) → reach 32 (proc_text procs number) ≡ length (proc_text procs number) → prio < 2 ^ 32
    → is_suspended verb.Create (proc_text procs number ++ (codes " " ++ (decimal prio ++ (codes " " ++ flags_text flags)))) ≡ flags.suspended
created procs number prio flags one lt =
    rw (
      rest_again (proc_text procs number) (decimal prio ++ (codes " " ++ flags_text flags)) one,
      rest_again (decimal prio) (flags_text flags) (number_is_word prio (omega (arith, lt))),
    )
    (flags_again flags.suspended flags.nolastrites flags.server)

said : (t : ℕ) (text : List ℕ) → call_entry t (codes "say" ++ with_space text) ≡ Some (entry.Called t verb.Say null_id false)
unfolding op_at row_of
said t [] = refl
said t (b ∷ bs) = refl

received : (procs : List (List ℕ)) (t : ℕ) (from : Option ℕ) (mode : _) → target_of_call (call.Recv from mode) ≤ null_id
    → call_entry t (call_text procs (Some t) (call.Recv from mode)) ≡ Some (entry.Called t verb.Receive (target_of_call (call.Recv from mode)) false)
unfolding op_at row_of
received procs t None mode le = refl
received procs t (Some u) mode le = rw (who_again t u _ le refl) refl

replied : (procs : List (List ℕ)) (t u : ℕ) (text : List ℕ)
    → call_entry t (call_text procs (Some t) (call.Reply u text)) ≡ Some (entry.Called t verb.Other null_id false)
unfolding op_at row_of
replied procs t u text = refl

asked : (procs : List (List ℕ)) (t : ℕ) (c : Call) → IsPrinted procs c
    → call_entry t (call_text procs (Some t) c) ≡ Some (entry.Called t (verb_of_call c) (target_of_call c) (is_created_suspended c))
unfolding op_at row_of
asked procs t (call.Create number prio flags) h = ap (λ s. Some (entry.Called t verb.Create null_id s)) (created procs number prio flags h.0 h.1)
asked procs t (call.Destroy u) h = ap (λ n. Some (entry.Called t verb.Destroy n false)) (who_alone t u h)
asked procs t (call.Suspend u) h = ap (λ n. Some (entry.Called t verb.Suspend n false)) (who_alone t u h)
asked procs t (call.Resume u) h = ap (λ n. Some (entry.Called t verb.Resume n false)) (who_alone t u h)
asked procs t (call.Join u) h = ap (λ n. Some (entry.Called t verb.Join n false)) (who_alone t u h)
asked procs t (call.Send u room text) h =
    ap (λ n. Some (entry.Called t verb.Send n false)) (who_again t u (codes " " ++ (decimal room ++ with_space text)) h refl)
asked procs t (call.Recv from mode) h = received procs t from mode h
asked procs t (call.Reply u text) h = replied procs t u text
asked procs t (call.Enter m) h = ap (λ n. Some (entry.Called t verb.Enter n false)) (id_alone 109 m h)
asked procs t (call.CondEnter m) h = ap (λ n. Some (entry.Called t verb.CondEnter n false)) (id_alone 109 m h)
asked procs t (call.MonExit m) h = ap (λ n. Some (entry.Called t verb.MonExit n false)) (id_alone 109 m h)
asked procs t (call.MonBreak m) h = ap (λ n. Some (entry.Called t verb.MonBreak n false)) (id_alone 109 m h)
asked procs t (call.Wait c) h = ap (λ n. Some (entry.Called t verb.Wait n false)) (id_alone 99 c h)
asked procs t (call.Agent e) h = rw (number_alone e (omega (arith, h))) refl
asked procs t (call.Say text) h = said t text
asked procs t _ h = refl

pub called_again : (procs : List (List ℕ)) (took : Option Line) (t : ℕ) (c : Call) → CallsAreRead procs took t c
called_again procs took t c lt h = thread_line t (58 ∷ 32 ∷ call_text procs (Some t) c) lt refl ∙ asked procs t c h

-- ---- answers

valued : (n : ℕ) → n < 2 ^ 63 → gain_of (decimal n) ≡ gain.Value n
valued n lt =
    let fits : n < 2 ^ 64 = omega (arith, lt) in
    rw (not_number 108 (codes "etter ") n fits refl, not_number 114 (codes "eply") n fits refl, not_number 116 [] n fits refl, number_alone n fits) refl

born : (u : ℕ) → u < null_id → gain_of (thread_text u) ≡ gain.Thread u
born u lt = by_null (eqb u null_id) refl
  where
    by_null : (v : Bool) → eqb u null_id ≡ v → gain_of (cond v (codes "none") (116 ∷ decimal u)) ≡ gain.Thread u
    by_null true h = absurd (omega (arith, eqb-true u null_id h))
    by_null false h = let fits : u < 2 ^ 64 = omega (arith, lt) in rw (number_alone u fits) refl

-- a monitor and a condition don't show
other_id : (n : ℕ) → (v : Bool) → gain_of (cond v (codes "none") (109 ∷ decimal n)) ≡ gain.Other
other_id n true = refl
other_id n false = refl

other_condition : (n : ℕ) → (v : Bool) → gain_of (cond v (codes "none") (99 ∷ decimal n)) ≡ gain.Other
other_condition n true = refl
other_condition n false = refl

answered : (t : ℕ) (a : Answer) → IsAnswer a → thread_entry (Some t) (answer_text a) ≡ Some (entry.Answered t (gain_in_answer a))
answered t (answer.Value (pos n)) h = ap (λ g. Some (entry.Answered t g)) (valued n h)
answered t (answer.Value (negsuc n)) h = refl
answered t (answer.Thread u) h = ap (λ g. Some (entry.Answered t g)) (born u h)
answered t (answer.Monitor m) h = ap (λ g. Some (entry.Answered t g)) (other_id m (eqb m null_id))
answered t (answer.Cond c) h = ap (λ g. Some (entry.Answered t g)) (other_condition c (eqb c null_id))
answered t (answer.Letter from text room) h =
    ap (λ n. Some (entry.Answered t (gain.Letter n))) (id_again 116 from (codes " " ++ (decimal room ++ with_space text)) h refl)
answered t (answer.Reply text) h = refl
answered t (answer.Bound func arg) h = refl
answered t (answer.Caught depth mark p) h = refl
answered t (answer.Ids kind.Thread ids) h = refl
answered t (answer.Ids kind.Monitor ids) h = refl
answered t (answer.Ids kind.Cond ids) h = refl
answered t (answer.Refused e) h = refl

begins : (a : Answer) → EndsDigits (answer_text a)
begins (answer.Value v) = refl
begins (answer.Thread u) = refl
begins (answer.Monitor m) = refl
begins (answer.Cond c) = refl
begins (answer.Letter from text room) = refl
begins (answer.Reply text) = refl
begins (answer.Bound func arg) = refl
begins (answer.Caught depth mark p) = refl
begins (answer.Ids k ids) = refl
begins (answer.Refused e) = refl

pub answered_again : (procs : List (List ℕ)) (took : Option Line) (t : ℕ) (a : Answer) → AnswersAreRead procs took t a
answered_again procs took t a lt h = thread_line t (answer_text a) lt (begins a) ∙ answered t a h

-- ---- deaths

pub died_again : (procs : List (List ℕ)) (took : Option Line) (t : ℕ) → DeathsAreRead procs took t
died_again procs took t lt = thread_line t (codes " dies") lt refl

-- ---- deliveries

ends_spaced : (text : List ℕ) → EndsDigits (with_space text)
ends_spaced [] = tt
ends_spaced (b ∷ bs) = refl

posted_again : (line : Line) → line.client < 2 ^ 8 → line.seq < 2 ^ 32 → taken_post (posted_text line) ≡ Some (line.client, line.seq)
posted_again line hc hs =
    let tail = with_space line.text in
    let third = decimal line.seq ++ tail in
    rw (
      number_again line.client (codes " seq " ++ third) (omega (arith, hc)) refl,
      behind_again line.client (codes " seq " ++ third) (omega (arith, hc)) refl,
      number_again line.seq tail (omega (arith, hs)) (ends_spaced line.text),
    ) refl

pub delivered_again : (procs : List (List ℕ)) (line : Line) (agent e : ℕ) → EventsAreRead procs line agent e
delivered_again procs line agent e he hc hs =
    let fits : e < 2 ^ 64 = omega (arith, he) in
    rw (number_again e (posted_text line) fits refl, behind_again e (posted_text line) fits refl) (ap (event_entry_by e) (posted_again line hc hs))

-- ---- later deliveries

pub also_again : (procs : List (List ℕ)) (agent e : ℕ) → AlsoIsRead procs agent e
also_again procs agent e lt = by_null (eqb agent null_id) refl
  where
    by_null : (v : Bool) → eqb agent null_id ≡ v → entry_of (codes "also " ++ cond v (codes "none") (116 ∷ decimal agent)) ≡ Some (entry.Also agent)
    by_null true h = absurd (omega (arith, eqb-true agent null_id h))
    by_null false h = ap also_entry_by (whole_alone agent (omega (arith, lt)))

-- ---- ticks

pub ticked_again : (procs : List (List ℕ)) (line : Line) (now : ℕ) → TicksAreRead procs line now
ticked_again procs line now fits hc hs =
    rw (number_again now (posted_text line) fits refl, behind_again now (posted_text line) fits refl) (ap (tick_entry_by now) (posted_again line hc hs))

-- ---- traps

pub trapped_again : (procs : List (List ℕ)) (took : Option Line) (t e : ℕ) → TrapsAreRead procs took t e
trapped_again procs took t e lt fits = thread_line t (codes " trap " ++ decimal e) lt refl ∙ ap (trap_entry_by t) (whole_alone e (omega (arith, fits)))

-- ---- reports

pub reported_again : (procs : List (List ℕ)) (took : Option Line) (agent dead : ℕ) → RitesAreRead procs took agent dead
reported_again procs took agent dead la ld = by_null (eqb dead null_id) (eqb agent null_id) refl refl
  where
    by_null : (v w : Bool) → eqb dead null_id ≡ v → eqb agent null_id ≡ w
        → entry_of (codes "rites " ++ (cond v (codes "none") (116 ∷ decimal dead) ++ (codes " to " ++ cond w (codes "none") (116 ∷ decimal agent))))
        ≡ Some (entry.Rites agent dead)
    by_null true w h g = absurd (omega (arith, eqb-true dead null_id h))
    by_null false true h g = absurd (omega (arith, eqb-true agent null_id g))
    by_null false false h g =
        let fits : dead < 2 ^ 64 = omega (arith, ld) in
        let more = codes " to t" ++ decimal agent in
        rw (number_again dead more fits refl, behind_again dead more fits refl) (ap (rites_entry_by dead) (whole_alone agent (omega (arith, la))))

-- ---- ends

pub ends_again : EndsAreRead
ends_again = record {
  pod = λ procs took status. refl;
  stuck = refl;
  spent = λ turns. refl;
  left = λ client count. refl;
}

-- ---- exit procedures

headed : (a : Answer) → answer_text a ≡ 32 ∷ drop 1 (answer_text a)
headed (answer.Value v) = refl
headed (answer.Thread u) = refl
headed (answer.Monitor m) = refl
headed (answer.Cond c) = refl
headed (answer.Letter from text room) = refl
headed (answer.Reply text) = refl
headed (answer.Bound func arg) = refl
headed (answer.Caught depth mark p) = refl
headed (answer.Ids k ids) = refl
headed (answer.Refused e) = refl

-- what becomes of an exit procedure stands at the end of its line
past : (xs s : List ℕ) (k : ℕ) → k ≤ length s → drop (length (xs ++ s) - k) (xs ++ s) ≡ drop (length s - k) s
past [] s k le = refl
past (x ∷ xs) s k le =
    let more : length (x ∷ (xs ++ s)) - k ≡ suc (length (xs ++ s) - k) = omega (arith, le, length-append xs s) in
    rw more (past xs s k le)

refusal : (e : LwpErr) → (4 ≤ length (answer_text (answer.Refused e))) × (ends (codes " = 0") (answer_text (answer.Refused e)) ≡ false)
refusal error.NoError = (omega arith, refl)
refusal error.NonExist = (omega arith, refl)
refusal error.Timeout = (omega arith, refl)
refusal error.InUse = (omega arith, refl)
refusal error.InvalidArg = (omega arith, refl)
refusal error.NoRoom = (omega arith, refl)
refusal error.NotOwned = (omega arith, refl)
refusal error.IllPrio = (omega arith, refl)
refusal error.NoWait = (omega arith, refl)

ended : (xs s : List ℕ) → 4 ≤ length s → ends (codes " = 0") (xs ++ s) ≡ ends (codes " = 0") s
ended xs s le = ap (λ l. bytes_eq l (codes " = 0")) (past xs s 4 le)

done : (xs : List ℕ) → not (ends (codes " = 0") (xs ++ answer_text (answer.Value (pos 0)))) ≡ false
unfolding digits
done xs = ap not (ended xs (codes " = 0") (omega arith))

outcome : (xs : List ℕ) (a : Answer) → IsTrue (is_outcome a) → not (ends (codes " = 0") (xs ++ answer_text a)) ≡ is_refused a
outcome xs (answer.Value (pos n)) h = subst (λ m. not (ends (codes " = 0") (xs ++ answer_text (answer.Value (pos m)))) ≡ false) (sym (eqb-true n 0 h)) (done xs)
outcome xs (answer.Value (negsuc n)) h = absurd (cc)
outcome xs (answer.Thread u) h = absurd (cc)
outcome xs (answer.Monitor m) h = absurd (cc)
outcome xs (answer.Cond c) h = absurd (cc)
outcome xs (answer.Letter from text room) h = absurd (cc)
outcome xs (answer.Reply text) h = absurd (cc)
outcome xs (answer.Bound func arg) h = absurd (cc)
outcome xs (answer.Caught depth mark p) h = absurd (cc)
outcome xs (answer.Ids k ids) h = absurd (cc)
outcome xs (answer.Refused e) h = let r = refusal e in rw (ended xs (answer_text (answer.Refused e)) r.0, r.1) refl

-- an id with an answer after it
named : (b m : ℕ) (a : Answer) → m ≤ null_id → id_of (id_text (b ∷ []) m ++ answer_text a) ≡ m
named b m a le = id_again b m (answer_text a) le (begins a)

-- nobody's own call: no thread is `self`
named_who : (m : ℕ) (l : List ℕ) → m ≤ null_id → EndsDigits l → who_of null_id (thread_text m ++ l) ≡ m
named_who m l le e = by_null (eqb m null_id) refl
  where
    by_null : (v : Bool) → eqb m null_id ≡ v → who_of null_id (cond v (codes "none") (116 ∷ decimal m) ++ l) ≡ m
    by_null true h = sym (eqb-true m null_id h)
    by_null false h = let fits : m < 2 ^ 64 = omega (arith, eqb-false m null_id h) in rw (number_again m l fits e) refl

noted : (text : List ℕ) (a : Answer) → verb_of (word ((codes "note" ++ with_space text) ++ answer_text a)) ≡ Some verb.Other
noted [] a = rw (headed a) refl
noted (b ∷ bs) a = refl

exit_named : (x : ExitCall) (a : Answer) → verb_of (word (exit_text None x ++ answer_text a)) ≡ Some (exit_verb x)
unfolding op_at row_of
exit_named (exit.MonExit m) a = refl
exit_named (exit.MonBreak m) a = refl
exit_named (exit.Notify c) a = refl
exit_named (exit.Broadcast c) a = refl
exit_named (exit.Reply u text) a = refl
exit_named (exit.Resume t) a = refl
exit_named (exit.SetExit code) a = refl
exit_named (exit.Note text) a = noted text a

exit_targets : (x : ExitCall) (a : Answer) → exit_target x ≤ null_id
    → target_of (exit_verb x) null_id (rest (exit_text None x ++ answer_text a)) ≡ exit_target x
exit_targets (exit.MonExit m) a h = named 109 m a h
exit_targets (exit.MonBreak m) a h = named 109 m a h
exit_targets (exit.Notify c) a h = refl
exit_targets (exit.Broadcast c) a h = refl
exit_targets (exit.Reply u text) a h = refl
exit_targets (exit.Resume t) a h = named_who t (answer_text a) h (begins a)
exit_targets (exit.SetExit code) a h = refl
exit_targets (exit.Note text) a h = refl

ran : (reg : ℕ) (x : ExitCall) (a : Answer) → exit_target x ≤ null_id → IsTrue (is_outcome a)
    → exit_entry_by reg (exit_text None x ++ answer_text a) (verb_of (word (exit_text None x ++ answer_text a)))
    ≡ Some (entry.Exited reg (exit_verb x) (exit_target x) (is_refused a))
ran reg x a h o =
    ap (exit_entry_by reg (exit_text None x ++ answer_text a)) (exit_named x a)
    ∙ ap (λ n. Some (entry.Exited reg (exit_verb x) n (not (ends (codes " = 0") (exit_text None x ++ answer_text a))))) (exit_targets x a h)
    ∙ ap (λ r. Some (entry.Exited reg (exit_verb x) (exit_target x) r)) (outcome (exit_text None x) a o)

pub exited_again : (procs : List (List ℕ)) (took : Option Line) (t reg : ℕ) (x : ExitCall) (a : Answer) → ExitsAreRead procs took t reg x a
exited_again procs took t reg x a lt h o =
    rw (number_again reg (32 ∷ (exit_text None x ++ answer_text a)) lt refl, behind_again reg (32 ∷ (exit_text None x ++ answer_text a)) lt refl) (ran
    reg x a h o)
