-- From the clauses of a run to those of a session of `plan`.
use Rattle.script_session.proofs.RunLaws.{Plays, plays, setting-is, lines-is, before-is, is-new}
use Rattle.streams.proofs.WriteLaws.{appended-append}
use Rattle.script_session.proofs.SaidLaws.{IsRanEnd}
use Rattle.event_gate.specs.History.{IsClientHistory, lines_of}
use Rattle.event_gate.specs.Shelves.{Shelves}
use Rattle.lwp_serve.proofs.Planning.HistoryLaws.{counts_left, part_history, whole_history}
use Rattle.script_body.specs.Bodies.{bodies_of, body_next}
use Rattle.script_body.specs.declared.thread_body.ThreadBody.{ThreadBody}
use Rattle.script_session.specs.History.{lines_left, pairs_of}
use Rattle.lwp_serve.specs.Plan.Plan.{IsBroken, IsPart, IsStopped, IsWhole, RunSays}
use Rattle.script_session.specs.SoFar.{AreDue, lines_after, lines_before, opening_run}
use Rattle.streams.specs.Streams.{Stream}
use Rattle.streams.specs.Writing.{AppendsPart}
use Rattle.script_body.specs.Posted.{IsPosted}
use Rattle.script_body.specs.Stocked.{stock_of}
use Rattle.lwp_serve.specs.Plan.Planned.{calls_of, halt_of, plan_of, planned_of, takes_of, trace_of}
use Rattle.script_session.specs.declared.session.Session.{Session}
use Rattle.script_session.specs.declared.session.SessionEnd.{SessionEnd}
use Rattle.script_session.specs.declared.session.SessionEnd.TheVariants as end
use Rattle.pod_events.specs.Events.{EventState}
use Rattle.lwp_types.specs.Choice.{choice}
use Rattle.lwp_types.specs.Streams.{AppendsPrefix, after_append}
use Rattle.pod_runner.specs.Due.{IsDefined}
use Rattle.pod_runner.specs.Eager.{IsFirstPart, Plan, plan_over, plan_whole}
use Rattle.pod_runner.specs.Over.{halt_if, is_wanted, over}
use Rattle.pod_runner.specs.Run as run
use Rattle.pod_runner.specs.Run.{AppendsCut, EndsAt, GoesOn, IsNew, Played}
use Rattle.pod_runner.specs.Session.{Setting}
use Rattle.pod_runner.specs.Trace.{left_counts_from, lines, made_lines, tail, tail_by, trace}
use Rattle.pod_runner.specs.declared.session.Took.{Took}
use Rattle.trace_text.specs.Lines.{end_text}
use Rattle.script_text.specs.Script.{lines_posted, proc_names}
use Rattle.trace_text.specs.declared.ends.Halt.{Halt}
use Rattle.trace_text.specs.declared.ends.Halt.TheVariants as halts
use Rattle.script_text.specs.declared.script.Script.{Script}
use Rattle.std.specs.Prelude.{if◌then◌else◌, nat_le}
use Rattle.std.proofs.Common.{Bool, false, inl, subst, true, List, None, Option, Some, [], ap, append_assoc, arith, length}
use Rattle.std.proofs.Common.{length-append, refl, suc, sym, take, inr, zero, ℕ, ◌++◌, ◌+◌, ◌∙◌, ◌∷◌, ◌≡◌}
use Rattle.std.proofs.Math.Seq.{take-append-add, take-length}
use Rattle.std.proofs.lemmas.List.Concat.{flat_map-append}

-- the first bytes of some are the first of more
first-of : (k : ℕ) (a rest : List ℕ) → (n : ℕ) × (take k a ≡ take n (a ++ rest))
first-of zero a rest = (0, refl)
first-of (suc k) [] rest = (0, refl)
first-of (suc k) (x ∷ a) rest = let h = first-of k a rest in (suc h.0, ap (λ xs. x ∷ xs) h.1)

pub prefix-more : (old new : Option (List ℕ)) (a rest whole : List ℕ) → whole ≡ a ++ rest → AppendsPrefix old new a → AppendsPrefix old new whole
prefix-more old new a rest whole h p = let found = first-of p.0 a rest in
    (found.0, p.1 ∙ ap (after_append old) (found.1 ∙ ap (take found.0) (sym h)))

pub prefix-all : (old new : Option (List ℕ)) (a : List ℕ) → new ≡ after_append old a → AppendsPrefix old new a
prefix-all old new a h = (length a, h ∙ ap (after_append old) (sym (take-length a)))

prefix-then : (old mid new : Option (List ℕ)) (a b whole : List ℕ) → whole ≡ a ++ b → mid ≡ after_append old a → AppendsPrefix mid new b
    → AppendsPrefix old new whole
prefix-then old mid new a b whole h g p = (
  length a + p.0,
  p.1 ∙ ap (λ w. after_append w (take p.0 b)) g ∙ appended-append old a (take p.0 b)
      ∙ ap (after_append old) (sym (take-append-add a b p.0) ∙ ap (take (length a + p.0)) (sym h)),
)

-- the session planned for it is the script's
pub whole-is : (script : Script) (turns : ℕ) (o : Played Script) (s : Shelves) → o ≡ opening_run script turns → s ≡ stock_of script
    → plan_whole (run.planned_of body_next bodies_of o) s ≡ plan_of script turns
whole-is script turns o s h t = ap (λ x. plan_whole (run.planned_of body_next bodies_of x) s) h ∙ ap (plan_whole (planned_of script turns)) t

-- a run of this script over its lines, of which these are left, as far as it came
pub record Came (script : Script) (turns : ℕ) (r : Played Script) (stock : Shelves) : Type 0 where
  pub plays_it : Plays script turns r
  pub first : IsFirstPart (run.plan_now body_next bodies_of r stock) (plan_of script turns)
  pub due : IsDefined (run.setting_of body_next bodies_of r) r.takes r.calls

pub came : (script : Script) (turns : ℕ) (o r : Played Script) (s stock : Shelves) → o ≡ opening_run script turns → s ≡ stock_of script → GoesOn o r
    → (IsNew o → IsFirstPart (run.plan_now body_next bodies_of r stock) (plan_whole (run.planned_of body_next bodies_of o) s))
    → IsDefined (run.setting_of body_next bodies_of r) r.takes r.calls → Came script turns r stock
came script turns o r s stock h t g begun due = record {
  plays_it = plays script turns o r h g;
  first = subst (λ (w : Plan ThreadBody). IsFirstPart (run.plan_now body_next bodies_of r stock) w) (whole-is script turns o s h t)
      (begun (is-new script turns o h));
  due = due;
}

due-of : (script : Script) (turns : ℕ) (r : Played Script) (stock : Shelves) → Came script turns r stock → AreDue script r.takes r.calls
due-of script turns r stock h = subst (λ (s : Setting ThreadBody). IsDefined s r.takes r.calls) (setting-is script turns r h.plays_it) h.due

-- its lines are the first of the script's trace
rest-of : (script : Script) (turns : ℕ) (r : Played Script) (stock : Shelves) → Came script turns r stock
    → (rest : List ℕ) × (trace_of script turns ≡ run.trace_of body_next bodies_of proc_names r ++ rest)
unfolding trace_of
rest-of script turns r stock h =
    let procs = proc_names script in
    let now = (run.session_of body_next bodies_of r).steps in
    let behind = tail script.clients (planned_of script turns) (plan_of script turns) in (
      lines procs h.first.rest ++ behind,
      ap (λ steps. lines procs steps ++ behind) h.first.steps
          ∙ ap (λ ls. ls ++ behind) (flat_map-append (made_lines procs) now h.first.rest)
          ∙ append_assoc (lines procs now) (lines procs h.first.rest) behind
          ∙ ap (λ p. lines (proc_names p) now ++ (lines procs h.first.rest ++ behind)) (sym h.plays_it.program),
    )

part-by : (script : Script) (turns : ℕ) (r : Played Script) (stock : Shelves) (old new : Option (List ℕ)) → Came script turns r stock → IsPosted script
    → AppendsPrefix old new (trace_of script turns) → IsPart turns script old new r.takes r.calls
unfolding calls_of takes_of
part-by script turns r stock old new h posted p = record {
  trace = p;
  made = h.first.calls_up;
  later = h.first.later;
  taken = h.first.takes;
  due = due-of script turns r stock h;
  left = lines_of (pairs_of h.first.later) ++ lines_left (plan_of script turns).left;
  history = part_history script.clients (lines_posted script) r.takes h.first.later (lines_left (plan_of script turns).left)
      (subst
      (λ (takes : List Took). IsClientHistory script.clients (lines_posted script) (pairs_of takes) (lines_left (plan_of script turns).left))
      h.first.takes (whole_history script turns posted));
}

pub part-of : (script : Script) (turns : ℕ) (r : Played Script) (stock : Shelves) (old new : Option (List ℕ)) → Came script turns r stock → IsPosted script
    → AppendsPrefix old new (run.trace_of body_next bodies_of proc_names r) → IsPart turns script old new r.takes r.calls
part-of script turns r stock old new h posted p = let found = rest-of script turns r stock h in
    part-by script turns r stock old new h posted
    (prefix-more old new (run.trace_of body_next bodies_of proc_names r) found.0 (trace_of script turns) found.1 p)

pub part-all : (script : Script) (turns : ℕ) (r : Played Script) (stock : Shelves) (old new : Option (List ℕ)) → Came script turns r stock → IsPosted script
    → new ≡ after_append old (run.trace_of body_next bodies_of proc_names r) → IsPart turns script old new r.takes r.calls
part-all script turns r stock old new h posted p =
    part-of script turns r stock old new h posted (prefix-all old new (run.trace_of body_next bodies_of proc_names r) p)

-- the run was out of memory
pub stopped-of : (script : Script) (turns : ℕ) (r : Played Script) (stock : Shelves) (old new : Option (List ℕ)) → Came script turns r stock
    → new ≡ after_append old (run.trace_of body_next bodies_of proc_names r) → IsStopped script old new r.takes r.calls
stopped-of script turns r stock old new h p = p ∙ ap (after_append old) (lines-is script turns r h.plays_it)

-- a write of lines failed
pub broken-of : (script : Script) (turns : ℕ) (r : Played Script) (stock : Shelves) (old new : Option (List ℕ)) → Came script turns r stock
    → AppendsCut old new (run.trace_before body_next bodies_of proc_names r) (run.trace_of body_next bodies_of proc_names r)
    → IsBroken turns script old new r.takes r.calls
broken-of script turns r stock old new h p =
    inl (subst (λ (bytes : List ℕ). AppendsCut old new (lines_before script r.takes r.calls) bytes) (lines-is script turns r h.plays_it)
    (subst (λ (least : List ℕ). AppendsCut old new least (run.trace_of body_next bodies_of proc_names r)) (before-is script turns r h.plays_it) p))

not-spent : (b : Bool) → (if b then Some halts.Spent else None) ≡ Some halts.Stuck → ⊥
not-spent true h = cc h
not-spent false h = cc h

-- a session is stuck only where no line can be taken
stuck-wants : (turns : ℕ) (s : EventState) (calls : ℕ) (left : Shelves) → over turns s calls left ≡ Some halts.Stuck → is_wanted s left ≡ false
stuck-wants turns s calls left = by s.state.ended (is_wanted s left) (choice s.state)
  where
    by : (b wanted : Bool) (c : Option ℕ) → (if b then Some (halts.Ended s.state.status) else halt_if turns calls wanted c) ≡ Some halts.Stuck → wanted ≡ false
    by true wanted c h = absurd (cc h)
    by false false None h = refl
    by false true None h = absurd (cc h)
    by false wanted (Some t) h = absurd (not-spent (nat_le turns calls) h)

-- the run came to the end of the script's session, and ended so
pub record Finished (script : Script) (turns : ℕ) (r : Played Script) (stock : Shelves) (halt : Halt) : Type 0 where
  pub came_so : Came script turns r stock
  pub whole : plan_of script turns ≡ run.plan_now body_next bodies_of r stock
  pub ends : EndsAt body_next bodies_of r stock halt

pub finished : (script : Script) (turns : ℕ) (o r : Played Script) (s stock : Shelves) (halt : Halt) → Came script turns r stock
    → o ≡ opening_run script turns → s ≡ stock_of script
    → (IsNew o → run.plan_now body_next bodies_of r stock ≡ plan_whole (run.planned_of body_next bodies_of o) s)
    → EndsAt body_next bodies_of r stock halt → Finished script turns r stock halt
finished script turns o r s stock halt h opening stocked eager ends =
    record { came_so = h; whole = sym (eager (is-new script turns o opening) ∙ whole-is script turns o s opening stocked); ends = ends }

over-is : (script : Script) (turns : ℕ) (r : Played Script) (stock : Shelves) (halt : Halt) → Finished script turns r stock halt
    → plan_over (planned_of script turns) (run.plan_now body_next bodies_of r stock) ≡ Some halt
over-is script turns r stock halt h = ap (λ t. over t (run.session_of body_next bodies_of r).live.pod r.calls stock) (sym h.came_so.plays_it.turns_same)
    ∙ h.ends

end-trace : (script : Script) (turns : ℕ) (r : Played Script) (stock : Shelves) (halt : Halt) → Finished script turns r stock halt
    → trace_of script turns ≡ run.trace_of body_next bodies_of proc_names r ++ end_text turns (left_counts_from 0 script.clients stock) halt
unfolding trace_of
end-trace script turns r stock halt h =
    ap (trace (proc_names script) script.clients (planned_of script turns)) h.whole
    ∙ ap (λ o. lines (proc_names script) (run.session_of body_next bodies_of r).steps ++ tail_by turns script.clients stock o)
    (over-is script turns r stock halt h)
    ∙ ap (λ p. lines (proc_names p) (run.session_of body_next bodies_of r).steps ++ end_text turns (left_counts_from 0 script.clients stock) halt) (sym
    h.came_so.plays_it.program)

pub whole-of : (script : Script) (turns : ℕ) (r : Played Script) (stock : Shelves) (halt : Halt) (old mid new : Option (List ℕ)) (last : List ℕ)
    → Finished script turns r stock halt → IsPosted script
    → mid ≡ after_append old (run.trace_of body_next bodies_of proc_names r)
    → last ≡ end_text turns (left_counts_from 0 script.clients stock) halt → new ≡ after_append mid last
    → IsWhole turns script old new r.takes r.calls halt
unfolding halt_of calls_of takes_of
whole-of script turns r stock halt old mid new last h posted g e n =
    let all = run.trace_of body_next bodies_of proc_names r in
    let halted : plan_over (planned_of script turns) (plan_of script turns)
    ≡ Some halt = ap (plan_over (planned_of script turns)) h.whole ∙ over-is script turns r stock halt h in
    record {
      trace = n ∙ ap (λ w. after_append w last) g ∙ appended-append old all last
          ∙ ap (after_append old) (ap (λ xs. all ++ xs) e ∙ sym (end-trace script turns r stock halt h));
      halted = halted;
      made = sym (ap (λ (p : Plan ThreadBody). p.calls) h.whole);
      taken = sym (ap (λ (p : Plan ThreadBody). p.takes) h.whole);
      due = due-of script turns r stock h.came_so;
      left = lines_left stock;
      history = subst (λ (p : Plan ThreadBody). IsClientHistory script.clients (lines_posted script) (pairs_of p.takes) (lines_left p.left))
          h.whole (whole_history script turns posted);
      printed = end-trace script turns r stock halt h
          ∙ ap (λ ls. ls ++ end_text turns (left_counts_from 0 script.clients stock) halt) (lines-is script turns r h.came_so.plays_it)
          ∙ ap (λ ns. lines_after script r.takes r.calls ++ end_text turns ns halt) (counts_left 0 script.clients stock);
      stuck = λ is. let plan = plan_of script turns in stuck-wants turns plan.session.live.pod plan.calls plan.left (halted ∙ ap Some is);
    }

-- the last write failed
pub part-last : (script : Script) (turns : ℕ) (r : Played Script) (stock : Shelves) (halt : Halt) (old mid new : Option (List ℕ)) (last : List ℕ)
    → Finished script turns r stock halt → IsPosted script
    → mid ≡ after_append old (run.trace_of body_next bodies_of proc_names r)
    → last ≡ end_text turns (left_counts_from 0 script.clients stock) halt → AppendsPart mid new last
    → IsPart turns script old new r.takes r.calls
part-last script turns r stock halt old mid new last h posted g e p = let all = run.trace_of body_next bodies_of proc_names r in
    part-by script turns r stock old new h.came_so posted
    (prefix-then old mid new all last (trace_of script turns) (end-trace script turns r stock halt h ∙ ap (λ xs. all ++ xs) (sym e)) g (p.kept, p.told))

pub broken-last : (script : Script) (turns : ℕ) (r : Played Script) (stock : Shelves) (halt : Halt) (old mid new : Option (List ℕ)) (last : List ℕ)
    → Finished script turns r stock halt
    → mid ≡ after_append old (run.trace_of body_next bodies_of proc_names r)
    → last ≡ end_text turns (left_counts_from 0 script.clients stock) halt → AppendsPart mid new last
    → IsBroken turns script old new r.takes r.calls
unfolding calls_of takes_of
broken-last script turns r stock halt old mid new last h g e p =
    let all = run.trace_of body_next bodies_of proc_names r in
    let whole : trace_of script turns ≡ all ++ last = end-trace script turns r stock halt h ∙ ap (λ xs. all ++ xs) (sym e) in
    inr (record {
      cut = record {
        kept = length all + p.kept;
        told = p.told ∙ ap (λ w. after_append w (take p.kept last)) g ∙ appended-append old all (take p.kept last)
            ∙ ap (after_append old) (sym (take-append-add all last p.kept) ∙ ap (take (length all + p.kept)) (sym whole));
        some = omega (arith, ap length (lines-is script turns r h.came_so.plays_it));
        not_all = omega (arith, p.not_all, ap length whole, length-append all last);
      };
      made = sym (ap (λ (p : Plan ThreadBody). p.calls) h.whole);
      taken = sym (ap (λ (p : Plan ThreadBody). p.takes) h.whole);
    })

-- a plan ends so only where a script was read
pub plan-ran : (turns : ℕ) (script : Script) (sink : Stream) (session : Session) (e : SessionEnd) → RunSays turns script sink session e → IsRanEnd e
plan-ran turns script sink session (end.Ended status) s = tt
plan-ran turns script sink session end.Stuck s = tt
plan-ran turns script sink session end.Spent s = tt
plan-ran turns script sink session end.WriteFault s = tt
plan-ran turns script sink session end.NoMemory s = tt
plan-ran turns script sink session end.Usage s = s
plan-ran turns script sink session end.ReadFault s = s
plan-ran turns script sink session (end.Script line reason) s = s
plan-ran turns script sink session (end.Input part) s = s
plan-ran turns script sink session end.Reported s = s
plan-ran turns script sink session end.Same s = s
plan-ran turns script sink session (end.Differs line) s = s
