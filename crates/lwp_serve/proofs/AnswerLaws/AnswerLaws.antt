-- From the rounds of a run to what a session of `answers` says.
use Rattle.event_gate.specs.Shelves.{Shelves, left_in_all}
use Rattle.lwp_types.specs.Streams.{AppendsPrefix, Rose, after_append}
use Rattle.pod_runner.proofs.Appends.{cut_base, cut_on, writes_none}
use Rattle.pod_runner.proofs.Eagers.{finished-grows}
use Rattle.pod_runner.proofs.Rounds.{Going, going-falls, going-finishes, going-on, going-part, goes-same, goes-then, new-whole, stream}
use Rattle.pod_runner.specs.Calls.{last_call}
use Rattle.pod_runner.specs.Does.{Does}
use Rattle.pod_runner.specs.Due.{IsDefined}
use Rattle.pod_runner.specs.Eager.{IsFirstPart, Plan, Planned, after_advance, plan_over, plan_whole, round}
use Rattle.pod_runner.specs.Eager as eager
use Rattle.pod_runner.specs.Over.{over}
use Rattle.pod_runner.specs.Play.{play}
use Rattle.pod_runner.specs.Run as run
use Rattle.pod_runner.specs.Run.{AppendsCut, EndsAt, GoesOn, IsNew, Played, but_last}
use Rattle.pod_runner.specs.Session as Sessions
use Rattle.pod_runner.specs.Session.{Setting}
use Rattle.pod_runner.specs.declared.phase.RunErr.{RunErr}
use Rattle.pod_runner.specs.declared.phase.RunErr.TheVariants as fails
use Rattle.lwp_serve.proofs.AnswerLaws.KnownLaws.{advanced-before, advanced-called, advanced-still, replies-grow, round-ends, round-goes-on}
use Rattle.lwp_serve.specs.Answers.Answers.{AnswersSay, IsCutOff, IsStopped, IsTold}
use Rattle.lwp_serve.specs.Answers.Replies.{Known, agents_after, event_of, known_after_call, known_after_steps, nothing_known, replies_in, texts_told}
use Rattle.script_body.specs.Posted.{IsPosted}
use Rattle.script_body.specs.Stocked.{stock_of}
use Rattle.lwp_serve.proofs.Planning.PlanLaws.{Came, came, finished, part-all, prefix-all, prefix-more, whole-is, whole-of}
use Rattle.lwp_serve.specs.Plan.Planned.{plan_of}
use Rattle.script_body.specs.Bodies.{bodies_of, body_next}
use Rattle.script_body.specs.declared.thread_body.ThreadBody.{ThreadBody}
use Rattle.script_session.proofs.RunLaws.{appended-nil, is-new, session-is}
use Rattle.script_session.proofs.SaidLaws.{IsRanEnd}
use Rattle.script_session.specs.declared.session.Session.{Session}
use Rattle.script_session.specs.declared.session.SessionEnd.{SessionEnd}
use Rattle.script_session.specs.declared.session.SessionEnd.TheVariants as end
use Rattle.script_session.specs.SoFar.{opening_run}
use Rattle.script_text.specs.Script.{proc_names}
use Rattle.script_text.specs.declared.script.Script.{Script}
use Rattle.std.proofs.Common.{Err, List, None, Ok, Option, Result, Some, [], ap, arith, false, refl, subst, sym, ℕ, ◌++◌, ◌+◌, ◌-◌, ◌∙◌, ◌≡◌, ◌≢◌, ◌≤◌}
use Rattle.trace_text.specs.Lines.{end_text}
use Rattle.pod_runner.specs.Trace.{left_counts_from}
use Rattle.trace_text.specs.declared.ends.Halt.{Halt}
use Rattle.streams.proofs.WriteLaws.{appended-append}
use Rattle.streams.specs.Streams.{Stream}
use Rattle.streams.specs.Writing.{AppendsPart}

-- the trace goes where nothing is told
abbrev silence : Stream
silence = stream None None 0 0

abbrev plan_at : Played Script → Shelves → Plan ThreadBody
plan_at r stock = run.plan_now body_next bodies_of r stock

abbrev planned_by : Played Script → Planned ThreadBody
planned_by r = run.planned_of body_next bodies_of r

abbrev steps_of : Played Script → List Sessions.Made
steps_of r = (run.session_of body_next bodies_of r).steps

abbrev pub Round : {T : Type 0} → Played Script → Played Script → Shelves → Shelves → Result T RunErr → Type 0
Round now new some left r = Does body_next bodies_of proc_names silence (λ planned plan. round planned plan) now new some left r

abbrev pub Goes : Played Script → Played Script → Shelves → Shelves → Type 0
Goes old now stock left = Going body_next bodies_of proc_names silence old now stock left

-- so far, a run has gone towards its end, and what its client was told is written
pub record Answering (event : Option ℕ) (old now : Played Script) (stock left : Shelves) (known : Option ℕ) (agents : List ℕ)
    (w v : Option (List ℕ)) (f g : ℕ) : Type 0 where
  pub going : Goes old now stock left
  pub is_event : known ≡ event
  pub has_agents : agents ≡ (known_after_steps event (steps_of now)).agents
  pub written : v ≡ after_append w (known_after_steps event (steps_of now)).replies
  pub same : g ≡ f

-- a count that stays 0 hasn't risen
no-rise : Rose 0 0 → ⊥
no-rise h = omega (arith, h)

-- in silence no write fails
pub never-fails : {T : Type 0} (now new : Played Script) (some left : Shelves) (e : RunErr) → Round {T = T} now new some left (Err e) → e ≡ fails.NoMemory
never-fails now new some left fails.NoMemory h = refl
never-fails now new some left fails.WriteFault h = absurd (no-rise h.ran.told.1)

-- each round but the last brings the end nearer
pub falls-so : (now new : Played Script) (some left : Shelves) (x : Option Halt) → Round now new some left (Ok x)
    → plan_over (planned_by now) (plan_at now some) ≡ None
    → (new.turns - new.calls) + left_in_all left + 1 ≤ (now.turns - now.calls) + left_in_all some
falls-so now new some left x p is = going-falls body_next bodies_of proc_names silence now new some left x p is

module _ (event : Option ℕ) (old now new : Played Script) (stock some left : Shelves) (known : Option ℕ) (agents : List ℕ) (w v : Option (List ℕ)) (f g : ℕ)
    (so : Answering event old now stock some known agents w v f g) where
  module _ (x : Option Halt) (p : Round now new some left (Ok x)) (none : plan_over (planned_by now) (plan_at now some) ≡ None) where
    -- the round, by its calls
    comes : plan_at new left ≡ after_advance (planned_by now) (plan_at now some)
    comes = p.comes ∙ round-goes-on event (planned_by now) (plan_at now some) none

    calls-are : new.calls ≢ now.calls → (after_advance (planned_by now) (plan_at now some)).calls ≢ now.calls
    calls-are h is = h (ap (λ (plan : Plan ThreadBody). plan.calls) comes ∙ is)

    pub called : new.calls ≢ now.calls
        → known_after_steps event (steps_of new) ≡ known_after_call event (known_after_steps event (steps_of now)) (last_call (steps_of new))
    called h = subst (λ (plan : Plan ThreadBody). known_after_steps event plan.session.steps
        ≡ known_after_call event (known_after_steps event (steps_of now)) (last_call plan.session.steps))
        (sym comes) (advanced-called event (planned_by now) (plan_at now some) (calls-are h))

    before : new.calls ≢ now.calls → known_after_steps event (but_last (steps_of new)) ≡ known_after_steps event (steps_of now)
    before h = subst (λ (plan : Plan ThreadBody). known_after_steps event (but_last plan.session.steps) ≡ known_after_steps event (steps_of now))
        (sym comes) (advanced-before event (planned_by now) (plan_at now some) (calls-are h))

    still : new.calls ≡ now.calls → known_after_steps event (steps_of new) ≡ known_after_steps event (steps_of now)
    still h = subst (λ (plan : Plan ThreadBody). known_after_steps event plan.session.steps ≡ known_after_steps event (steps_of now))
        (sym comes) (advanced-still event (planned_by now) (plan_at now some) (sym (ap (λ (plan : Plan ThreadBody). plan.calls) comes) ∙ h))

    pub goes-on : Goes old new stock left
    goes-on = going-on body_next bodies_of proc_names None None None 0 0 0 old now new stock some left x so.going p

    -- without a call, nothing is told
    pub answering-still : new.calls ≡ now.calls → Answering event old new stock left known agents w v f g
    answering-still h = record {
      going = goes-on;
      is_event = so.is_event;
      has_agents = so.has_agents ∙ ap (λ (k : Known). k.agents) (sym (still h));
      written = so.written ∙ ap (λ (k : Known). after_append w k.replies) (sym (still h));
      same = so.same;
    }

    -- a call was told
    pub answering-told : new.calls ≢ now.calls → (later : Option ℕ) (told : List ℕ) (after : List ℕ) (u : Option (List ℕ)) (h : ℕ)
        → later ≡ known → told ≡ texts_told agents (last_call (steps_of new)) → after ≡ agents_after known agents (last_call (steps_of new))
        → u ≡ after_append v told → h ≡ g → Answering event old new stock left later after w u f h
    answering-told differs later told after u h kept is-told is-after wrote quiet = record {
      going = goes-on;
      is_event = kept ∙ so.is_event;
      has_agents = is-after ∙ ap (λ e. agents_after e agents (last_call (steps_of new))) so.is_event
          ∙ ap (λ those. agents_after event those (last_call (steps_of new))) so.has_agents
          ∙ ap (λ (k : Known). k.agents) (sym (called differs));
      written = wrote ∙ ap (λ x. after_append x told) so.written ∙ appended-append w (known_after_steps event (steps_of now)).replies told
          ∙ ap (λ x. after_append w ((known_after_steps event (steps_of now)).replies ++ x))
          (is-told ∙ ap (λ those. texts_told those (last_call (steps_of new))) so.has_agents)
          ∙ ap (λ (k : Known). after_append w k.replies) (sym (called differs));
      same = quiet ∙ so.same;
    }

    -- a call was told in part
    pub answering-cut : new.calls ≢ now.calls → (told : List ℕ) (u : Option (List ℕ)) → told ≡ texts_told agents (last_call (steps_of new))
        → AppendsPart v u told
        → AppendsCut w u (replies_in event (but_last (steps_of new))) (replies_in event (steps_of new))
    unfolding replies_in
    answering-cut differs told u is-told part =
        let least = ap (λ (k : Known). k.replies) (before differs) in
        let longer : (known_after_steps event (steps_of new)).replies ≡ (known_after_steps event (steps_of now)).replies ++ told
        = ap (λ (k : Known). k.replies) (called differs)
        ∙ ap (λ x. (known_after_steps event (steps_of now)).replies ++ x)
        (sym (is-told ∙ ap (λ those. texts_told those (last_call (steps_of new))) so.has_agents)) in
        subst (λ bytes. AppendsCut w u bytes (known_after_steps event (steps_of new)).replies) (sym least)
        (cut_base (cut_on v u (known_after_steps event (steps_of now)).replies told (known_after_steps event (steps_of new)).replies longer part) w so.written)

-- ---- a run of a script

-- before the first step nothing is known
no-steps : (event : Option ℕ) (setting : Setting ThreadBody) → known_after_steps event (play setting [] 0).steps ≡ nothing_known
unfolding play
no-steps event setting = refl

module _ (client : ℕ) (script : Script) (o : Played Script) (stock : Shelves) (opening : o ≡ opening_run script o.turns)
    (stocked : stock ≡ stock_of script) where
  -- where it goes is the script's own session
  end-is : eager.after_finish (planned_by o) (plan_at o stock) ≡ plan_of script o.turns
  end-is = new-whole body_next bodies_of proc_names o stock (is-new script o.turns o opening) ∙ whole-is script o.turns o stock opening stocked

  pub first-of : (now : Played Script) (some : Shelves) → Goes o now stock some → IsFirstPart (plan_at now some) (plan_of script o.turns)
  first-of now some going =
      subst (λ (whole : Plan ThreadBody). IsFirstPart (plan_at now some) whole) (going.ends ∙ end-is) (finished-grows (planned_by o) (plan_at now some))

  came-by : (r : Played Script) (left : Shelves) → GoesOn o r → IsFirstPart (plan_at r left) (eager.after_finish (planned_by o) (plan_at o stock))
      → IsDefined (run.setting_of body_next bodies_of r) r.takes r.calls → Came script o.turns r left
  came-by r left goes first made = came script o.turns o r stock left opening stocked goes
      (λ new. subst (λ (whole : Plan ThreadBody). IsFirstPart (plan_at r left) whole) (new-whole body_next bodies_of proc_names o stock new) first) made

  -- a round failed, and with it the run
  pub came-failing : (now new : Played Script) (some left : Shelves) (e : RunErr) → Goes o now stock some
      → Round {T = Option Halt} now new some left (Err e) → Came script o.turns new left
  came-failing now new some left e going p = came-by new left (goes-then body_next bodies_of proc_names o now new going.same p.ran.same)
      (going-part body_next bodies_of proc_names silence silence o now new stock some left e going p) p.ran.made

  -- a round was made
  pub came-going : (now new : Played Script) (some left : Shelves) (x : Option Halt) → Goes o now stock some
      → Round now new some left (Ok x) → Came script o.turns new left
  came-going now new some left x going p =
      let on = going-on body_next bodies_of proc_names None None None 0 0 0 o now new stock some left x going p in
      came-by new left on.same
      (subst (λ (whole : Plan ThreadBody). IsFirstPart (plan_at new left) whole) on.ends (finished-grows (planned_by o) (plan_at new left))) p.ran.made

  -- what is written is the first part of all that the client is told
  prefix-by : (now : Played Script) (some : Shelves) (w v : Option (List ℕ)) → IsFirstPart (plan_at now some) (plan_of script o.turns)
      → AppendsPrefix w v (replies_in (event_of script client) (steps_of now))
      → AppendsPrefix w v (replies_in (event_of script client) (plan_of script o.turns).session.steps)
  prefix-by now some w v first p =
      let found = replies-grow (event_of script client) (steps_of now) first.rest (plan_of script o.turns).session.steps first.steps in
      prefix-more w v (replies_in (event_of script client) (steps_of now)) found.0
      (replies_in (event_of script client) (plan_of script o.turns).session.steps) found.1 p

  module _ (posted : IsPosted script) (now : Played Script) (some : Shelves) (known : Option ℕ) (agents : List ℕ) (w v : Option (List ℕ)) (f g : ℕ)
      (so : Answering (event_of script client) o now stock some known agents w v f g) where
    prefix-now : AppendsPrefix w v (replies_in (event_of script client) (plan_of script o.turns).session.steps)
    unfolding replies_in
    prefix-now = prefix-by now some w v (first-of now some so.going)
        (prefix-all w v (known_after_steps (event_of script client) (steps_of now)).replies so.written)

    module _ (new : Played Script) (left : Shelves) where
      -- the run was out of memory
      pub stopped-by : Came script o.turns new left → (u : Option (List ℕ)) → u ≡ v → IsStopped client o.turns script w u new.takes new.calls
      stopped-by h u quiet = record {
        planned = part-all script o.turns new left None None h posted refl;
        first = subst (λ x. AppendsPrefix w x (replies_in (event_of script client) (plan_of script o.turns).session.steps)) (sym quiet) prefix-now;
      }

      -- a write failed
      pub cut-by : (x : Option Halt) → (p : Round now new some left (Ok x)) → plan_over (planned_by now) (plan_at now some) ≡ None → new.calls ≢ now.calls
          → (told : List ℕ) (u : Option (List ℕ)) → told ≡ texts_told agents (last_call (steps_of new)) → AppendsPart v u told
          → IsCutOff client o.turns script w u new.takes new.calls
      cut-by x p none differs told u is-told part =
          let h = came-going now new some left x so.going p in
          let cut = answering-cut (event_of script client) o now new stock some left known agents w v f g so x p none differs told u is-told part in
          let same = session-is script o.turns new h.plays_it in
          record {
            planned = part-all script o.turns new left None None h posted refl;
            cut = subst
                (λ (s : Sessions.Session ThreadBody).
                AppendsCut w u (replies_in (event_of script client) (but_last s.steps)) (replies_in (event_of script client) s.steps))
                same cut;
            first = prefix-by new left w u h.first (cut.kept, cut.told);
          }

      -- it came to its end
      pub whole-by : (halt : Halt) (x : Option Halt) → Round now new some left (Ok x) → plan_over (planned_by now) (plan_at now some) ≡ Some halt
          → IsTold client o.turns script w v new.takes new.calls halt
      unfolding replies_in
      whole-by halt x p is =
          let still : plan_at new left ≡ plan_at now some = p.comes ∙ round-ends (event_of script client) (planned_by now) (plan_at now some) halt is in
          let over-new : plan_over (planned_by now) (plan_at new left) ≡ Some halt = ap (plan_over (planned_by now)) still ∙ is in
          let ends : EndsAt body_next bodies_of new left halt =
          ap (λ t. over t (run.session_of body_next bodies_of new).live.pod new.calls left) p.ran.same.turns
          ∙ over-new in
          let eagerly : IsNew o
          → plan_at new left
          ≡ plan_whole (planned_by o) stock =
          λ fresh. going-finishes body_next bodies_of proc_names silence silence o now new stock some left halt x so.going p is
          ∙ new-whole body_next bodies_of proc_names o stock fresh in
          let done = finished script o.turns o new stock left halt (came-going now new some left x so.going p) opening stocked eagerly ends in
          let last = end_text o.turns (left_counts_from 0 script.clients left) halt in
          record {
            planned = whole-of script o.turns new left halt None None None last done posted refl refl refl;
            written = so.written
                ∙ ap (λ (plan : Plan ThreadBody). after_append w (known_after_steps (event_of script client) plan.session.steps).replies)
                (sym still ∙ sym done.whole);
          }

  -- before the first round
  pub answering-opens : (known : Option ℕ) (agents : List ℕ) (w : Option (List ℕ)) (f : ℕ) → o.failed ≡ false → known ≡ event_of script client → agents ≡ []
      → Answering (event_of script client) o o stock stock known agents w w f f
  answering-opens known agents w f sound is none =
      let fresh : (known_after_steps (event_of script client) (steps_of o)) ≡ nothing_known
      = ap (λ (r : Played Script). known_after_steps (event_of script client) (steps_of r)) opening
      ∙ no-steps (event_of script client) (run.setting_of body_next bodies_of (opening_run script o.turns)) in
      record {
        going = record {
          same = goes-same body_next bodies_of proc_names o;
          sound = sound;
          told = (writes_none None (run.trace_of body_next bodies_of proc_names o), refl);
          ends = refl;
        };
        is_event = is;
        has_agents = none ∙ ap (λ (k : Known). k.agents) (sym fresh);
        written = sym (ap (λ (k : Known). after_append w k.replies) fresh ∙ appended-nil w);
        same = refl;
      }

-- it ends so only where a script was read
pub answers-ran : (client turns : ℕ) (script : Script) (sink : Stream) (session : Session) (e : SessionEnd)
    → AnswersSay client turns script sink session e → IsRanEnd e
answers-ran client turns script sink session (end.Ended status) s = tt
answers-ran client turns script sink session end.Stuck s = tt
answers-ran client turns script sink session end.Spent s = tt
answers-ran client turns script sink session end.WriteFault s = tt
answers-ran client turns script sink session end.NoMemory s = tt
answers-ran client turns script sink session end.Usage s = s
answers-ran client turns script sink session end.ReadFault s = s
answers-ran client turns script sink session (end.Script line reason) s = s
answers-ran client turns script sink session (end.Input part) s = s
answers-ran client turns script sink session end.Reported s = s
answers-ran client turns script sink session end.Same s = s
answers-ran client turns script sink session (end.Differs line) s = s
