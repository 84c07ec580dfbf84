-- How a run goes on while threads post to it, part by part.
use Rattle.event_gate.specs.Inlet.{AllTold, EachInlet, HasEvent, Intake, IsInletTold}
use Rattle.event_gate.specs.Port.{lines_in_pass}
use Rattle.event_gate.specs.Texts.{lines_from}
use Rattle.script_run.specs.Inlets.{fresh}
use Rattle.script_run.specs.Served.{AreServed, Gave, Hears}
use Rattle.script_run.proofs.LeftLaws.{taken-append}
use Rattle.script_run.specs.Beside.{GoesBeside, IsFed, KnowAll}
use Rattle.script_body.specs.Bodies.{bodies_of, body_next}
use Rattle.pod_runner.proofs.Appends.{writes_none}
use Rattle.pod_runner.proofs.Rounds.{goes-same, ran-answer, ran-behind, ran-other, stream, tells-broke, tells-wrote}
use Rattle.pod_runner.specs.Live.{Answers, Draws, Gives, LivesOn, lines_of_takes, may_lose}
use Rattle.pod_runner.specs.Run.{Broke, GoesOn, Played, Wrote, trace_before, trace_of}
use Rattle.streams.specs.Streams.{Stream}
use Rattle.pod_runner.specs.declared.live.Live.{Live}
use Rattle.pod_runner.specs.declared.live.Live.TheVariants as live
use Rattle.pod_runner.specs.declared.phase.RunErr.{RunErr}
use Rattle.pod_runner.specs.declared.phase.RunErr.TheVariants as fails
use Rattle.pod_runner.specs.declared.session.Took.{Took}
use Rattle.script_text.specs.Script.{proc_names}
use Rattle.script_text.specs.declared.script.Script.{Script}
use Rattle.std.specs.List.{All, AllByRecursion}
use Rattle.std.specs.Prelude.{Bool, Err, IsErrAnd, IsErrOf, Ok, Option, Result}
use Rattle.std.proofs.Common.{List, [], ap, append-nil, append_assoc, arith, false, length, refl, slice_index_or}
use Rattle.std.proofs.Common.{subst, sym, true, ℕ, ◌++◌, ◌<◌, ◌∙◌, ◌∷◌, ◌≡◌, ◌≤◌}
use Rattle.std.proofs.lemmas.List.Elements.{All-append, All-from_recursion, recursion_from_All}

-- the lines of a run's steps
abbrev told_by : Played Script → List ℕ
told_by r = trace_of body_next bodies_of proc_names r

-- the lines of all its steps but the last
abbrev told_before : Played Script → List ℕ
told_before r = trace_before body_next bodies_of proc_names r

-- ---- what was fed to it

empty : {A : Type 0} (xs : List A) → length xs ≤ 0 → xs ≡ []
empty [] h = refl
empty (x ∷ xs) h = absurd (omega (arith, h))

-- an inlet of the same event stands in the same place
has-after : (R : Intake → Intake → Type 0) (a b : List Intake) (e : ℕ) → ((t u : Intake) → R t u → u.event ≡ t.event) → EachInlet R a b
    → HasEvent a e → HasEvent b e
has-after R a b e same h has =
    (has.0, subst (λ n. has.0 < n) (sym h.0) has.1, λ d. same (slice_index_or a has.0 d) (slice_index_or b has.0 d) (h.1 has.0 d has.1) ∙ has.2 d)

hears-event : (t u : Intake) → Hears t u → u.event ≡ t.event
hears-event t u h = ap (λ (w : Intake). w.event) h

pub fed-heard : (takes : List Took) (a b : List Intake) (most : ℕ) → EachInlet Hears a b → IsFed takes a most → IsFed takes b most
fed-heard takes a b most h f = record {
  lost = f.lost;
  few = f.few;
  given = λ k d low.
      let under : k < length a = subst (λ n. k < n) h.0 low in
      ap (λ (w : Intake). w.taken) (h.1 k d under) ∙ f.given k d under
      ∙ ap (λ e. lines_of_takes e (takes ++ f.lost)) (sym (hears-event (slice_index_or a k d) (slice_index_or b k d) (h.1 k d under)));
  known = λ k d low. has-after Hears a b (slice_index_or takes k d).event hears-event h (f.known k d low);
}

gives-same : (takes : List Took) (t u : Intake) → Gives takes t u → u.event ≡ t.event
gives-same takes t u h = ap (λ (w : Intake). w.event) h.after

pub fed-drawn : (old new : Played Script) (a b : List Intake) (most : ℕ) → Draws body_next bodies_of old new a b most → IsFed old.takes a 0
    → IsFed new.takes b most
fed-drawn old new a b most p f = record {
  lost = p.lost;
  few = p.few;
  given = λ k d low.
      let under : k < length a = subst (λ n. k < n) p.given.0 low in
      let t = slice_index_or a k d in
      let u = slice_index_or b k d in
      let g : Gives (p.later ++ p.lost) t u = p.given.1 k d under in
      ap (λ (w : Intake). w.taken) g.after
      ∙ ap (λ ls. ls ++ lines_of_takes t.event (p.later ++ p.lost))
      (f.given k d under ∙ ap (λ xs. lines_of_takes t.event xs) (ap (λ xs. old.takes ++ xs) (empty f.lost f.few) ∙ append-nil old.takes))
      ∙ sym (taken-append t.event old.takes (p.later ++ p.lost))
      ∙ ap (lines_of_takes t.event) (sym (append_assoc old.takes p.later p.lost) ∙ ap (λ xs. xs ++ p.lost) (sym p.extends.takes))
      ∙ ap (λ e. lines_of_takes e (new.takes ++ p.lost)) (sym (gives-same (p.later ++ p.lost) t u g));
  known = subst (All (λ (took : Took). HasEvent b took.event)) (sym p.extends.takes)
      (All-append (λ (took : Took). HasEvent b took.event) old.takes p.later
      (λ k d low. has-after (Gives (p.later ++ p.lost)) a b (slice_index_or old.takes k d).event (gives-same (p.later ++ p.lost)) p.given (f.known k d low))
      (λ k d low. has-after (Gives (p.later ++ p.lost)) a b (slice_index_or p.later k d).event (gives-same (p.later ++ p.lost)) p.given
      (front k d low)));
}
  where
    part : (xs ys : List Took) → AllByRecursion (λ (took : Took). HasEvent a took.event) (xs ++ ys) → AllByRecursion (λ (took : Took). HasEvent a took.event) xs
    part [] ys all = tt
    part (x ∷ xs) ys all = (all.0, part xs ys all.1)

    front : (k : ℕ) (d : Took) → k < length p.later → HasEvent a (slice_index_or p.later k d).event
    front = All-from_recursion (λ (took : Took). HasEvent a took.event) p.later
        (part p.later p.lost (recursion_from_All (λ (took : Took). HasEvent a took.event) (p.later ++ p.lost) p.known))

-- inlets that gave nothing yet have fed nothing
pub fed-fresh : (inlets : List Intake) → All (λ t. t ≡ fresh t.place t.event t.noted) inlets → IsFed [] inlets 0
fed-fresh inlets h = record {
  lost = [];
  few = omega arith;
  given = λ k d low. ap (λ (w : Intake). w.taken) (h k d low);
  known = λ k d low. absurd (omega (arith, low));
}

-- what draws gives
pub gave-drawn : (old new : Played Script) (a b : List Intake) (most : ℕ) → Draws body_next bodies_of old new a b most → EachInlet Gave a b
gave-drawn old new a b most p = (
  p.given.0,
  λ k d low.
      let g = p.given.1 k d low in record { lines = lines_of_takes (slice_index_or a k d).event (p.later ++ p.lost); nothing = g.nothing; after = g.after },
)

-- ---- one after the other

-- what a run comes to over its inlets alone
pub goes-live : {T : Type 0} (s : Stream) (old new : Played Script) (a b : List Intake) (r : Result T RunErr)
    → LivesOn body_next bodies_of proc_names s old new a b r → GoesBeside s old new a b r
goes-live s old new a b r h = record { ran = h.ran; fed = fed-drawn old new a b (may_lose r) h.draws }

-- so far, a run has gone on
pub record WentBeside (s : Stream) (old now : Played Script) (before some : List Intake) : Type 0 where
  pub same : GoesOn old now
  pub sound : now.failed ≡ false
  pub told : Wrote s (told_by old) (told_by now)
  pub fed : IsFed old.takes before 0 → IsFed now.takes some 0

pub went-same : (w : Option (List ℕ)) (f : ℕ) (r : Played Script) (inlets : List Intake) → r.failed ≡ false → WentBeside (stream w w f f) r r inlets inlets
went-same w f r inlets sound = record { same = goes-same body_next bodies_of proc_names r; sound = sound; told = (writes_none w (told_by r), refl); fed = λ h. h }

pub went-of : {T : Type 0} (s : Stream) (old now : Played Script) (before some : List Intake) (x : T)
    → GoesBeside s old now before some (Ok x) → WentBeside s old now before some
went-of s old now before some x h = record { same = h.ran.same; sound = h.ran.sound; told = h.ran.told; fed = h.fed }

-- a sink that hands on what it has tells as much and fails as often
pub went-handed : (a b c : Option (List ℕ)) (i j k : ℕ) (old now : Played Script) (before some : List Intake) → c ≡ b → k ≡ j
    → WentBeside (stream a b i j) old now before some → WentBeside (stream a c i k) old now before some
went-handed a b c i j k old now before some same faults p = rw (same, faults) p

pub went-heard : (s : Stream) (old now : Played Script) (before some heard : List Intake) → EachInlet Hears some heard
    → WentBeside s old now before some → WentBeside s old now before heard
went-heard s old now before some heard h p = record { same = p.same; sound = p.sound; told = p.told; fed = λ f. fed-heard now.takes some heard 0 h (p.fed f) }

pub goes-heard : {T : Type 0} (s : Stream) (old new : Played Script) (before after heard : List Intake) (r : Result T RunErr)
    → EachInlet Hears after heard → GoesBeside s old new before after r → GoesBeside s old new before heard r
goes-heard s old new before after heard r h p =
    record { ran = p.ran; fed = λ f. fed-heard new.takes after heard (may_lose r) h (p.fed f) }

pub went-then : {T : Type 0} (a b c : Option (List ℕ)) (i j k : ℕ) (old mid new : Played Script) (before some after : List Intake) (r : Result T RunErr)
    → WentBeside (stream a b i j) old mid before some → GoesBeside (stream b c j k) mid new some after r → GoesBeside (stream a c i k) old new before after r
went-then a b c i j k old mid new before some after r p q = record {
  ran = ran-behind body_next bodies_of proc_names a b c i j k old mid new r p.same p.told q.ran;
  fed = λ f. q.fed (p.fed f);
}

pub goes-answer : {T U : Type 0} (s : Stream) (old new : Played Script) (before after : List Intake) (x : T) (y : U)
    → GoesBeside s old new before after (Ok x) → GoesBeside s old new before after (Ok y)
goes-answer s old new before after x y h = record { ran = ran-answer body_next bodies_of proc_names s old new x y h.ran; fed = h.fed }

goes-other : (T U : Type 0) (s : Stream) (old new : Played Script) (before after : List Intake) (e : RunErr)
    → GoesBeside {T = T} s old new before after (Err e) → GoesBeside {T = U} s old new before after (Err e)
goes-other T U s old new before after fails.NoMemory h = record {
  ran = ran-other body_next bodies_of proc_names T U s old new fails.NoMemory h.ran;
  fed = h.fed;
}
goes-other T U s old new before after fails.WriteFault h = record {
  ran = ran-other body_next bodies_of proc_names T U s old new fails.WriteFault h.ran;
  fed = h.fed;
}

-- where the last part fails, so does the whole
pub goes-err : (T U : Type 0) (s : Stream) (old new : Played Script) (before after : List Intake) (r : Result U RunErr) (e : RunErr)
    → IsErrAnd r (λ given. given ≡ e) → GoesBeside {T = T} s old new before after (Err e) → GoesBeside s old new before after r
goes-err T U s old new before after (Ok x) e is h = absurd is
goes-err T U s old new before after (Err given) e is h =
    subst (λ given. GoesBeside {T = U} s old new before after (Err given)) (sym is) (goes-other T U s old new before after e h)

-- a post was refused: what was done until then stands
pub goes-refused : (T U : Type 0) (s : Stream) (old new : Played Script) (before after : List Intake) (x : T)
    → GoesBeside s old new before after (Ok x) → GoesBeside {T = U} s old new before after (Err fails.NoMemory)
goes-refused T U s old new before after x h = record {
  ran = record { same = h.ran.same; made = h.ran.made; room = h.ran.room; told = h.ran.told; sound = tt };
  fed = λ f. let g = h.fed f in record { lost = g.lost; few = omega (arith, g.few); given = g.given; known = g.known };
}

-- ---- once all threads have ended

-- inlets that only give lines know as much as before
pub told-gave : (events : List ℕ) (texts : List (List (List ℕ))) (all : Bool) (a b : List Intake) → AreServed events texts all a
    → EachInlet Gave a b → AllTold b
told-gave events texts all a b s gave = λ k d low.
    let under : k < length a = subst (λ n. k < n) gave.0 low in
    subst (λ (t : Intake). IsInletTold t) (sym (gave.1 k d under).after) (s.served k d under).told

pub know-all : (events : List ℕ) (texts : List (List (List ℕ))) (all : Bool) (a b : List Intake) → all ≡ true → AreServed events texts all a
    → EachInlet Gave a b → KnowAll events texts b
know-all events texts all a b is s gave = λ k d low c under_c at.
    let under : k < length a = subst (λ n. k < n) gave.0 low in
    let g = gave.1 k d under in
    let h = (s.served k d under).lines c under_c (at ∙ ap (λ (t : Intake). t.event) g.after) in
    ap (λ (t : Intake). lines_in_pass c t.known) g.after ∙ h.posted ∙ ap (lines_from c 0) (h.whole is)

-- where all passes came back, a run isn't quiet
pub never-quiet : (r : Played Script) (before after : List Intake) (answer : Live) → answer ≡ live.Quiet
    → Answers body_next bodies_of r before after answer → AllTold after → ⊥
never-quiet r before after answer is h told = let quiet = subst (λ (x : Live). Answers body_next bodies_of r before after x) is h in quiet.1 told

-- ---- what an error says

pub wrote-of : {T : Type 0} (s : Stream) (old new : Played Script) (before after : List Intake) (r : Result T RunErr)
    → GoesBeside s old new before after r → IsErrOf r fails.NoMemory → Wrote s (told_by old) (told_by new)
wrote-of s old new before after r h is = tells-wrote s (told_by old) (told_before new) (told_by new) r h.ran.told is

pub broke-of : {T : Type 0} (s : Stream) (old new : Played Script) (before after : List Intake) (r : Result T RunErr)
    → GoesBeside s old new before after r → IsErrOf r fails.WriteFault → Broke s (told_by old) (told_before new) (told_by new)
broke-of s old new before after r h is = tells-broke s (told_by old) (told_before new) (told_by new) r h.ran.told is
