-- What a session of `replay` says, from what was read, found and written.
use Rattle.batch.specs.Parts.{content}
use Rattle.batch.specs.declared.part.Part.{Part}
use Rattle.lwp_serve.proofs.ReplayingLaws.InputLaws.{holds-of}
use Rattle.lwp_serve.specs.Replaying.Found.{IsInput, IsNoInput, IsNotTold, IsTold}
use Rattle.lwp_serve.specs.Replaying.Input.{recorded_in, script_in}
use Rattle.lwp_serve.specs.Replaying.Replay.{HoldsBad, asked_of}
use Rattle.lwp_serve.specs.Replaying.Texts.{end_of, text_of}
use Rattle.lwp_serve.specs.declared.replaying.told.Told.{Told}
use Rattle.lwp_state.specs.Along.{IsLastWithin, IsOnWay, lines_by, moment_at, moment_of}
use Rattle.lwp_state.specs.Replay.{IsFound, IsReplayed, IsShown, IsShownOf, IsStateAt, IsStateInReplay, IsVerdict, ReplaySays, differs_within, lines_asked}
use Rattle.lwp_state.specs.Shown.{IsCut, IsStateOf, IsToldBy, IsWritten}
use Rattle.lwp_state.specs.declared.along.Reach.{Reach}
use Rattle.lwp_types.specs.declared.call.PodParams.{PodParams}
use Rattle.pod_runner.proofs.Plays.{IsDefined-zero}
use Rattle.pod_runner.specs.Due.{IsDefined}
use Rattle.pod_runner.specs.Run as run
use Rattle.pod_runner.specs.Run.{Played}
use Rattle.pod_runner.specs.Session.{Setting}
use Rattle.pod_runner.specs.declared.session.Took.{Took}
use Rattle.replay.proofs.Moves.{reached}
use Rattle.replay.specs.Replayed.{Says}
use Rattle.replay.specs.Walk.{Moment}
use Rattle.replay.specs.declared.verdict.Verdict.{Verdict}
use Rattle.replay.specs.declared.verdict.Verdict.TheVariants as verdicts
use Rattle.script_body.specs.BodyLaws.{length-proc_bodies}
use Rattle.script_body.specs.Bodies.{bodies_of, body_next, native_body, proc_bodies}
use Rattle.script_body.specs.declared.thread_body.ThreadBody.{ThreadBody}
use Rattle.script_session.specs.Outcome.{outcome_of}
use Rattle.script_session.specs.Said.{IsUnread}
use Rattle.script_session.specs.SoFar.{AreDue, opening_names, opening_run, setting_of}
use Rattle.script_session.specs.declared.session.Session.{Session}
use Rattle.script_session.specs.declared.session.SessionEnd.{SessionEnd}
use Rattle.script_session.specs.declared.session.SessionEnd.TheVariants as end
use Rattle.script_text.specs.Script.{proc_names, proc_places}
use Rattle.script_text.specs.Spelling.{verdict}
use Rattle.script_text.specs.declared.reason.Reason.{Reason}
use Rattle.script_text.specs.declared.script.Script.{Script}
use Rattle.std.proofs.Common.{Bool, Err, List, None, Ok, Option, Some, [], ap, arith, false, inl, inr, length, length-append}
use Rattle.std.proofs.Common.{map, refl, subst, sym, take, true, ℕ, ◌++◌, ◌+◌, ◌∙◌, ◌≡◌, ◌≤◌, ◌⊎◌}
use Rattle.std.proofs.Math.Seq.{take-length}
use Rattle.std.proofs.lemmas.List.{length-map}
use Rattle.std.specs.Prelude.{nat_lt, MatchBool, slice_index_or}
use Rattle.streams.specs.Limited.{IsReadUp, IsReadWithin}
use Rattle.streams.specs.Streams.{IsFaultless, IsFaulty, IsQuiet, Stream}

-- ---- the sessions that a trace is compared with are those of the script

as-many : (script : Script) → length (bodies_of script) ≡ length (proc_places script)
as-many script =
    length-append (proc_bodies script 0 script.procs) (map (λ n. native_body n.kind) script.natives)
    ∙ ap (λ n. n + length (map (λ n. native_body n.kind) script.natives))
    (length-proc_bodies script 0 script.procs ∙ sym (length-map script.procs (λ p. p.name)))
    ∙ ap (λ n. length (map (λ p. p.name) script.procs) + n)
    (length-map script.natives (λ n. native_body n.kind) ∙ sym (length-map script.natives (λ n. n.name)))
    ∙ sym (length-append (map (λ p. p.name) script.procs) (map (λ n. n.name) script.natives))

-- each procedure has a name
pub named-all : (script : Script) → length (proc_names script) ≡ length (bodies_of script)
named-all script = length-map (proc_places script) (λ place. slice_index_or script.names.procs place []) ∙ sym (as-many script)

same-setting : (script : Script) (turns : ℕ) → (asked_of script turns).setting ≡ setting_of script
same-setting script turns = ap with_procs (as-many script)
  where
    with_procs : ℕ → Setting ThreadBody
    with_procs n = record {
      next = body_next;
      bodies = bodies_of script;
      params = record { maxpri = script.maxpri; births = script.births; procs = n };
      names = opening_names script;
    }

-- the session of a verdict is one that there is
pub due-of : (script : Script) (turns : ℕ) (recorded : List ℕ) (v : Verdict) (takes : List Took) (calls : ℕ)
    → Says (asked_of script turns) recorded v takes calls → AreDue script takes calls
due-of script turns recorded (verdicts.Same lines) takes calls h =
    subst (λ (s : Setting ThreadBody). IsDefined s takes calls) (same-setting script turns) h.trace.reached.due
due-of script turns recorded (verdicts.Differs line want got ended) takes calls h =
    subst (λ (s : Setting ThreadBody). IsDefined s takes calls) (same-setting script turns) h.followed.reached.due

-- ---- runs that go along it

pub on-way : (script : Script) (to : Moment) (r : Played Script) → r ≡ opening_run script to.calls → AreDue script to.takes to.calls
    → IsOnWay body_next bodies_of to r
on-way script to r is due = subst (λ (x : Played Script). IsOnWay body_next bodies_of to x) (sym is) (record {
  sound = refl;
  made = IsDefined-zero (setting_of script);
  way = reached (setting_of script) to due;
  room = omega arith;
})

pub whole-moment : (takes : List Took) (calls : ℕ) (end : Reach) → end.takes ≡ length takes → end.calls ≡ calls → moment_at takes end ≡ moment_of takes calls
whole-moment takes calls end some made = ap (λ n. moment_of (take n takes) end.calls) some
    ∙ ap (λ ts. moment_of ts end.calls) (take-length takes) ∙ ap (moment_of takes) made

-- to its end
pub whole-way : (script : Script) (takes : List Took) (calls : ℕ) (end : Reach) (r : Played Script) → end.takes ≡ length takes
    → end.calls ≡ calls → r ≡ opening_run script calls → AreDue script takes calls
    → IsOnWay body_next bodies_of (moment_at takes end) r
whole-way script takes calls end r some made is due =
    subst (λ (to : Moment). IsOnWay body_next bodies_of to r) (sym (whole-moment takes calls end some made)) (on-way script (moment_of takes calls) r is due)

-- the moment that was found is one of the script's session
pub last-of : (script : Script) (n : ℕ) (takes : List Took) (calls : ℕ) (end reach : Reach) (r : Played Script)
    → r ≡ opening_run script calls → end.takes ≡ length takes → end.calls ≡ calls
    → IsLastWithin (run.setting_of body_next bodies_of r) (proc_names r.program) n (moment_at takes end) (moment_at takes reach)
    → IsLastWithin (setting_of script) (proc_names script) n (moment_of takes calls) (moment_at takes reach)
last-of script n takes calls end reach r is some made h =
    subst (λ (to : Moment). IsLastWithin (setting_of script) (proc_names script) n to (moment_at takes reach)) (whole-moment takes calls end some made)
    (subst
    (λ (x : Played Script). IsLastWithin (run.setting_of body_next bodies_of x) (proc_names x.program) n (moment_at takes end) (moment_at takes reach))
    is h)

-- so many lines were written by then
pub lines-of : (script : Script) (n : ℕ) (takes : List Took) (calls : ℕ) (reach : Reach) (r : Played Script) → r ≡ opening_run script calls
    → n ≡ lines_by (run.setting_of body_next bodies_of r) (proc_names r.program) (moment_at takes reach)
    → n ≡ lines_by (setting_of script) (proc_names script) (moment_at takes reach)
lines-of script n takes calls reach r is h =
    subst (λ (x : Played Script). n ≡ lines_by (run.setting_of body_next bodies_of x) (proc_names x.program) (moment_at takes reach)) is h

-- ---- what is told

-- of a verdict by which one of the lines differs
pub found-verdict : (script : Script) (recorded : List ℕ) (n turns : ℕ) (told : Told) → turns ≡ 100000
    → IsTold turns script recorded told.end told.text.items told.taken told.turns → differs_within n told.end ≡ true
    → IsFound script recorded n told
found-verdict script recorded n turns told is h differs = record {
  verdict = h.verdict;
  takes = told.taken;
  calls = told.turns;
  right = subst (λ k. Says (asked_of script k) recorded h.verdict told.taken told.turns) is h.right;
  shown = rw (ap (differs_within n) (sym h.ended) ∙ differs) (record { ended = h.ended; text = h.told; taken = refl; made = refl });
}

-- of a state
pub found-state : (script : Script) (recorded : List ℕ) (n turns : ℕ) (before told : Told) (at : Moment) → turns ≡ 100000
    → IsTold turns script recorded before.end before.text.items before.taken before.turns → differs_within n before.end ≡ false
    → IsLastWithin (setting_of script) (proc_names script) n (moment_of before.taken before.turns) at → told.end ≡ end.Reported
    → told.taken ≡ at.takes → told.turns ≡ at.calls
    → IsStateOf (nat_lt (lines_by (setting_of script) (proc_names script) at) n) script at.takes at.calls told.text.items
    → IsFound script recorded n told
found-state script recorded n turns before told at is h differs last ended taken made state = record {
  verdict = h.verdict;
  takes = before.taken;
  calls = before.turns;
  right = subst (λ k. Says (asked_of script k) recorded h.verdict before.taken before.turns) is h.right;
  shown = rw (ap (differs_within n) (sym h.ended) ∙ differs) (record {
    ended = ended;
    last = rw (taken, made) last;
    state = rw (taken, made) state;
  });
}

-- ---- the ends

replay-of : (line : Option ℕ) (source sink : Stream) (e : SessionEnd) (takes : List Took) (made : ℕ) (session : Session) → session ≡ outcome_of e takes made
    → ReplaySays line source sink (outcome_of e takes made) e → IsStateInReplay line source sink session
replay-of line source sink e takes made session is says =
    subst (λ (x : Session). IsStateInReplay line source sink x) (sym is) (record { status = refl; says = says })

unread : (sink : Stream) (e : SessionEnd) → IsQuiet sink → IsUnread sink (outcome_of e [] 0)
unread sink e quiet = record { quiet = quiet; taken = refl; calls = refl }

no-input : (line : Option ℕ) (source sink : Stream) (e : SessionEnd) → IsQuiet sink → IsNoInput source e → ReplaySays line source sink (outcome_of e [] 0) e
no-input line source sink end.ReadFault quiet h = (h.0, h.1, unread sink end.ReadFault quiet)
no-input line source sink end.NoMemory quiet h = (h.0, h.1, unread sink end.NoMemory quiet)
no-input line source sink (end.Input part) quiet h = (h.0, h.1, h.2, h.3, unread sink (end.Input part) quiet)
no-input line source sink (end.Script at why) quiet h = absurd h
no-input line source sink (end.Ended status) quiet h = absurd h
no-input line source sink end.Stuck quiet h = absurd h
no-input line source sink end.Spent quiet h = absurd h
no-input line source sink end.WriteFault quiet h = absurd h
no-input line source sink end.Usage quiet h = absurd h
no-input line source sink end.Reported quiet h = absurd h
no-input line source sink end.Same quiet h = absurd h
no-input line source sink (end.Differs at) quiet h = absurd h

-- no input was read
pub replay-unread : (line : Option ℕ) (source sink : Stream) (e : SessionEnd) (session : Session) → session ≡ outcome_of e [] 0
    → IsQuiet sink → IsNoInput source e → IsStateInReplay line source sink session
replay-unread line source sink e session is quiet h = replay-of line source sink e [] 0 session is (no-input line source sink e quiet h)

part-of-up : (old new : Option (List ℕ)) → IsReadUp 268435457 old new → IsReadWithin 268435457 old new
part-of-up old new up = (268435457, omega arith, up)

-- memory ran out after that
replay-refused : (line : Option ℕ) (source sink : Stream) (session : Session) → session ≡ outcome_of end.NoMemory [] 0 → IsQuiet sink
    → IsFaultless source → IsReadUp 268435457 source.old source.new → IsStateInReplay line source sink session
replay-refused line source sink session is quiet same up =
    replay-of line source sink end.NoMemory [] 0 session is (same, part-of-up source.old source.new up, unread sink end.NoMemory quiet)

bad-of : (left : Option (List ℕ)) (text : List ℕ) (part : Part) (line : ℕ) (why : Reason) → IsInput left text part
    → verdict (content text part) ≡ Err (line, why) → HoldsBad left line why
bad-of None text part line why input bad = tt
bad-of (Some told) text part line why input bad = (part, ap script_in input.0 ∙ input.1, ap (λ bytes. verdict (content bytes part)) input.0 ∙ bad)

no-script : (line : Option ℕ) (source sink : Stream) (text : List ℕ) (part : Part) (e : SessionEnd) → IsQuiet sink → IsFaultless source
    → IsReadUp 268435457 source.old source.new → IsInput source.old text part
    → IsNotTold text part e → ReplaySays line source sink (outcome_of e [] 0) e
no-script line source sink text part end.NoMemory quiet same up input h = (same, part-of-up source.old source.new up, unread sink end.NoMemory quiet)
no-script line source sink text part (end.Script at why) quiet same up input h =
    (same, up, bad-of source.old text part at why input h, unread sink (end.Script at why) quiet)
no-script line source sink text part end.ReadFault quiet same up input h = absurd h
no-script line source sink text part (end.Input n) quiet same up input h = absurd h
no-script line source sink text part (end.Ended status) quiet same up input h = absurd h
no-script line source sink text part end.Stuck quiet same up input h = absurd h
no-script line source sink text part end.Spent quiet same up input h = absurd h
no-script line source sink text part end.WriteFault quiet same up input h = absurd h
no-script line source sink text part end.Usage quiet same up input h = absurd h
no-script line source sink text part end.Reported quiet same up input h = absurd h
no-script line source sink text part end.Same quiet same up input h = absurd h
no-script line source sink text part (end.Differs at) quiet same up input h = absurd h

-- an input was read whose script is none
replay-bad : (line : Option ℕ) (source sink : Stream) (text : List ℕ) (part : Part) (e : SessionEnd) (session : Session)
    → session ≡ outcome_of e [] 0 → IsQuiet sink → IsFaultless source
    → IsReadUp 268435457 source.old source.new → IsInput source.old text part → IsNotTold text part e → IsStateInReplay line source sink session
replay-bad line source sink text part e session is quiet same up input h =
    replay-of line source sink e [] 0 session is (no-script line source sink text part e quiet same up input h)

-- of a text that was found
record IsAnEnd (e : SessionEnd) : Type 0 where
  says : (line : Option ℕ) (source sink : Stream) (session : Session) → IsWritten (IsReplayed line source session e) sink
      → ReplaySays line source sink session e

reported-end : IsAnEnd end.Reported
reported-end = record { says = λ line source sink session h. h }

verdict-end : (n : ℕ) (v : Verdict) → differs_within n (end_of v) ≡ true → IsAnEnd (end_of v)
verdict-end n (verdicts.Same lines) differs = absurd (cc differs)
verdict-end n (verdicts.Differs line want got ended) differs = record { says = λ asked source sink session h. h }

found-end : (script : Script) (recorded : List ℕ) (n : ℕ) (told : Told) → IsFound script recorded n told → IsAnEnd told.end
found-end script recorded n told h = by (differs_within n (end_of h.verdict)) refl h.shown
  where
    by : (b : Bool) → differs_within n (end_of h.verdict) ≡ b
        → MatchBool b (IsVerdict h.verdict h.takes h.calls told) (IsStateAt script n h.takes h.calls told) → IsAnEnd told.end
    by true is s = subst IsAnEnd (sym s.ended) (verdict-end n h.verdict is)
    by false is s = subst IsAnEnd (sym s.ended) reported-end

replayed : (line : Option ℕ) (source : Stream) (text : List ℕ) (part : Part) (script : Script) (told : Told) (e : SessionEnd)
    → IsFaultless source → IsReadUp 268435457 source.old source.new → IsInput source.old text part
    → verdict (content text part) ≡ Ok script → IsFound script (recorded_in text part) (lines_asked line (recorded_in text part)) told
    → IsReplayed line source (outcome_of e told.taken told.turns) told.end told.text.items
replayed line source text part script told e same up input spelt found = record {
  faultless = same;
  up = up;
  script = script;
  recorded = recorded_in text part;
  holds = holds-of source.old text part script input spelt;
  told = told;
  found = found;
  ended = refl;
  said = refl;
  taken = refl;
  made = refl;
}

told-says : (line : Option ℕ) (source sink : Stream) (text : List ℕ) (part : Part) (script : Script) (told : Told) (session : Session)
    → IsFaultless source → IsReadUp 268435457 source.old source.new → IsInput source.old text part
    → verdict (content text part) ≡ Ok script → IsFound script (recorded_in text part) (lines_asked line (recorded_in text part)) told
    → IsToldBy told.end told.taken told.turns told.text.items sink session → IsStateInReplay line source sink session
told-says line source sink text part script told session same up input spelt found (inl t) =
    let whole = replayed line source text part script told told.end same up input spelt found in
    let ends = found-end script (recorded_in text part) (lines_asked line (recorded_in text part)) told found in
    replay-of line source sink told.end told.taken told.turns session t.0
    (ends.says line source sink (outcome_of told.end told.taken told.turns) (t.1, (told.text.items, whole, t.2)))
told-says line source sink text part script told session same up input spelt found (inr t) =
    let part_of = replayed line source text part script told end.WriteFault same up input spelt found in
    replay-of line source sink end.WriteFault told.taken told.turns session t.0 (told.end, (t.1, (told.text.items, part_of, t.2)))

-- an input was read, and shown
pub replay-shown : (line : Option ℕ) (source sink : Stream) (text : List ℕ) (part : Part) (session : Session) → IsFaultless source
    → IsReadUp 268435457 source.old source.new → IsInput source.old text part
    → IsShownOf line text part sink session → IsStateInReplay line source sink session
replay-shown line source sink text part session same up input (inl bad) = replay-bad line source sink text part bad.0 session bad.2 bad.3 same up input bad.1
replay-shown line source sink text part session same up input (inr good) = by good.2
  where
    by : IsShown good.0 (recorded_in text part) (lines_asked line (recorded_in text part)) sink session → IsStateInReplay line source sink session
    by (inl refused) = replay-refused line source sink session refused.0 refused.1 same up
    by (inr shown) = told-says line source sink text part good.0 shown.0 session same up input good.1 shown.1 shown.2
