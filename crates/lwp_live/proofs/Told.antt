-- What clients are told, step after step.
use Rattle.event_gate.specs.Shelves.{event_of}
use Rattle.lwp_live.specs.Answers.{Known, Telling, after_step, agents_with, answers_in, event_in, holder_of, known_after_call, last_client, nothing_known}
use Rattle.lwp_live.specs.Answers.{nothing_told, replies_in, reply_by, reply_in, reply_line, reply_lines, reply_of, reply_to, told_in, with_took}
use Rattle.lwp_live.specs.Laws.{AllKeep, AnswersAreReplies, AnswersGrow, IsOfItsEvent, KeepsRules, is_fresh, is_held, texts_told_on}
use Rattle.lwp_live.specs.declared.notes.AgentOf.{AgentOf}
use Rattle.lwp_live.specs.declared.notes.Reply.{Reply}
use Rattle.lwp_serve.specs.Answers.Replies as Replies
use Rattle.lwp_types.specs.declared.call.Call.{Call}
use Rattle.lwp_types.specs.declared.call.Call.TheVariants as call
use Rattle.pod_runner.specs.Session as Sessions
use Rattle.pod_runner.specs.declared.session.Made.{Made}
use Rattle.pod_runner.specs.declared.session.Took.{Took}
use Rattle.std.proofs.Common.{Bool, IsTrue, List, None, Option, Some, [], ap, append_assoc, append-nil, cond, eqb, eqb-true, false, filter, flat_map, IfSome}
use Rattle.std.proofs.Common.{fold, if◌then◌else◌, is_none, is_some, not, refl, subst, sym, true, true≢false, ℕ, ◌++◌, ◌==◌, ◌||◌, ◌∙◌, ◌∷◌, ◌≡◌}
use Rattle.std.proofs.lemmas.List.Concat.{flat_map-append}
use Rattle.std.proofs.lemmas.List.Elements.{filter-append}
use Rattle.std.proofs.lemmas.List.Folds.{list_any-append}
use Rattle.std.proofs.lemmas.List.Sums.{fold-append}

-- ---- what was told stays

-- more steps tell more
pub more_told : (t : Telling) (steps : List Sessions.Made) → (rs : List Reply) × ((fold after_step t steps).replies ≡ t.replies ++ rs)
more_told t [] = ([], sym (append-nil t.replies))
more_told t (s ∷ steps) =
    let later = more_told (after_step t s) steps in
    (reply_by t.known s ++ later.0, later.1 ∙ append_assoc t.replies (reply_by t.known s) later.0)

pub told_more : (steps more : List Sessions.Made) → told_in (steps ++ more) ≡ fold after_step (told_in steps) more
unfolding told_in
told_more steps more = fold-append after_step nothing_told steps more

pub answers_grow : AnswersGrow
answers_grow steps more =
    let m = more_told (told_in steps) more in (
      reply_lines m.0,
      ap (λ (t : Telling). reply_lines t.replies) (told_more steps more) ∙ ap reply_lines m.1 ∙ flat_map-append reply_line (replies_in steps) m.0,
    )

-- a step more
pub told_step : (steps : List Sessions.Made) (s : Sessions.Made) → told_in (steps ++ s ∷ []) ≡ after_step (told_in steps) s
told_step steps s = told_more steps (s ∷ [])

pub answers_step : (steps : List Sessions.Made) (s : Sessions.Made)
    → answers_in (steps ++ s ∷ []) ≡ answers_in steps ++ reply_lines (reply_by (told_in steps).known s)
answers_step steps s =
    ap (λ (t : Telling). reply_lines t.replies) (told_step steps s) ∙ flat_map-append reply_line (replies_in steps) (reply_by (told_in steps).known s)

-- ---- answers and replies

-- the event that somebody waits for is this one
abbrev is_at : ℕ → Option ℕ → Bool
is_at e None = false
is_at e (Some d) = d == e

-- the agents of the event are those of which it is known that it is theirs
abbrev AgentsMatch : ℕ → List AgentOf → List ℕ → Type 0
AgentsMatch e agents theirs = (x : ℕ) → Replies.is_among theirs x ≡ is_at e (event_in agents x)

or_true : (b : Bool) → (b || (true || false)) ≡ true
or_true true = refl
or_true false = refl

or_false : (b : Bool) → (b || (false || false)) ≡ b
or_false true = refl
or_false false = refl

not_at_none : (e : ℕ) (o : Option ℕ) → IsTrue (is_none o) → is_at e o ≡ false
not_at_none e None h = refl
not_at_none e (Some d) h = absurd (true≢false (sym h))

neither : (t : Option ℕ) (b : Bool) → (if b then t else t) ≡ t
neither t true = refl
neither t false = refl

-- one agent more, of the event or not
one_born : (b c : Bool) (e d t x : ℕ) (o : Option ℕ) (theirs : List ℕ) → (d == e) ≡ b → (t == x) ≡ c
    → (c ≡ true → Replies.is_among theirs x ≡ false) → Replies.is_among theirs x ≡ is_at e o
    → Replies.is_among (Replies.with_agent theirs (if b then Some t else None)) x ≡ is_at e (if c then Some d else o)
one_born true true e d t x o theirs of is fresh same =
    list_any-append (λ a. a == x) theirs (t ∷ []) ∙ ap (λ b. Replies.is_among theirs x || (b || false)) is ∙ or_true (Replies.is_among theirs x) ∙ sym of
one_born true false e d t x o theirs of is fresh same =
    list_any-append (λ a. a == x) theirs (t ∷ []) ∙ ap (λ b. Replies.is_among theirs x || (b || false)) is ∙ or_false (Replies.is_among theirs x) ∙ same
one_born false true e d t x o theirs of is fresh same = fresh refl ∙ sym of
one_born false false e d t x o theirs of is fresh same = same

born : (e : ℕ) (known : Known) (theirs : List ℕ) (a t : Option ℕ) → AgentsMatch e known.agents theirs → IsTrue (is_fresh known a t)
    → AgentsMatch e (agents_with a t known.agents) (Replies.with_agent theirs (if Replies.is_event (Some e) a then t else None))
born e known theirs None t h fresh = h
born e known theirs (Some d) None h fresh = λ x. ap (λ o. Replies.is_among (Replies.with_agent theirs o) x) (neither None (d == e)) ∙ h x
born e known theirs (Some d) (Some t) h fresh = λ x.
    one_born (d == e) (t == x) e d t x (event_in known.agents x) theirs refl refl
    (λ is. h x ∙ ap (λ y. is_at e (event_in known.agents y)) (sym (eqb-true t x is)) ∙ not_at_none e (event_in known.agents t) fresh)
    (h x)

born_by : (e : ℕ) (known : Known) (theirs : List ℕ) (made : Option Made) → AgentsMatch e known.agents theirs → KeepsRules known made
    → AgentsMatch e (known_after_call known made).agents (Replies.agents_after (Some e) theirs made)
born_by e known theirs None h keeps = h
born_by e known theirs (Some m) h keeps = born e known theirs (Replies.agent_event m.call) m.thread h keeps.0

-- each line that was taken last is of its client's event
abbrev TakesMatch : List ℕ → List Took → Type 0
TakesMatch clients takes = (d c : ℕ) → last_client takes d ≡ Some c → event_of clients c ≡ d

took_by : (clients : List ℕ) (b : Bool) (took : Took) (takes : List Took) (d c : ℕ) → (took.event == d) ≡ b
    → event_of clients took.line.client ≡ took.event → TakesMatch clients takes
    → (if b then Some took.line.client else last_client takes d) ≡ Some c → event_of clients c ≡ d
took_by clients true took takes d c is of h at = let same : took.line.client ≡ c = cc at in ap (event_of clients) (sym same) ∙ of ∙ eqb-true took.event d is
took_by clients false took takes d c is of h at = h d c at

takes_more : (clients : List ℕ) (known : Known) (step : Sessions.Made) → TakesMatch clients known.takes → IsOfItsEvent clients step
    → TakesMatch clients (with_took known step.take).takes
takes_more clients known step h of = by step.take of
  where
    by : (o : Option Took) → IfSome o (λ took. event_of clients took.line.client ≡ took.event) → TakesMatch clients (with_took known o).takes
    by None is = h
    by (Some took) is = λ d c at. took_by clients (took.event == d) took known.takes d c refl is h at

takes_after_call : (known : Known) (made : Option Made) → (known_after_call known made).takes ≡ known.takes
takes_after_call known None = refl
takes_after_call known (Some m) = refl

agents_with_took : (known : Known) (o : Option Took) → (with_took known o).agents ≡ known.agents
agents_with_took known None = refl
agents_with_took known (Some took) = refl

-- what an agent's reply tells the clients of an event
abbrev text_if : ℕ → Option ℕ → List ℕ → List ℕ
text_if e o text = if is_at e o then text ++ 10 ∷ [] else []

if_told : (b : Bool) (c : ℕ) (text : List ℕ)
    → flat_map (λ (r : Reply). r.text ++ 10 ∷ []) (cond b (record { client = c; text = text } ∷ []) []) ≡ (if b then text ++ 10 ∷ [] else [])
if_told true c text = append-nil (text ++ 10 ∷ [])
if_told false c text = refl

told_to : (clients : List ℕ) (e d c : ℕ) (text : List ℕ) → event_of clients c ≡ d
    → texts_told_on clients e (record { client = c; text = text } ∷ []) ≡ text_if e (Some d) text
told_to clients e d c text is =
    ap (λ n. flat_map (λ (r : Reply). r.text ++ 10 ∷ []) (cond (eqb n e) (record { client = c; text = text } ∷ []) [])) is ∙ if_told (d == e) c text

told_by_holder : (clients : List ℕ) (takes : List Took) (e d : ℕ) (text : List ℕ) (w : Option ℕ) → TakesMatch clients takes
    → last_client takes d ≡ w → (false || is_some w) ≡ true
    → texts_told_on clients e (reply_to w text) ≡ text_if e (Some d) text
told_by_holder clients takes e d text None h is held = absurd (true≢false (sym held))
told_by_holder clients takes e d text (Some c) h is held = told_to clients e d c text (h d c is)

told_by_event : (clients : List ℕ) (takes : List Took) (e : ℕ) (text : List ℕ) (o : Option ℕ) → TakesMatch clients takes
    → (is_none o || is_some (holder_of takes o)) ≡ true
    → texts_told_on clients e (reply_to (holder_of takes o) text) ≡ text_if e o text
told_by_event clients takes e text None h held = refl
told_by_event clients takes e text (Some d) h held = told_by_holder clients takes e d text (last_client takes d) h refl held

-- a call that is accepted tells the clients of an event what it replies to its agents
told_of_call : (clients : List ℕ) (e : ℕ) (known : Known) (theirs : List ℕ) (asked : Call) → AgentsMatch e known.agents theirs
    → TakesMatch clients known.takes → IsTrue (is_held known asked)
    → texts_told_on clients e (reply_of known asked) ≡ Replies.reply_line theirs asked
told_of_call clients e known theirs (call.Reply t text) agents takes held =
    told_by_event clients known.takes e text (event_in known.agents t) takes held ∙ ap (λ b. if b then text ++ 10 ∷ [] else []) (sym (agents t))
told_of_call clients e known theirs _ agents takes held = refl

told_if : (clients : List ℕ) (e : ℕ) (known : Known) (theirs : List ℕ) (zero' : Bool) (asked : Call) → AgentsMatch e known.agents theirs
    → TakesMatch clients known.takes
    → (not zero' || is_held known asked) ≡ true
    → texts_told_on clients e (if zero' then reply_of known asked else []) ≡ (if zero' then Replies.reply_line theirs asked else [])
told_if clients e known theirs true asked agents takes held = told_of_call clients e known theirs asked agents takes held
told_if clients e known theirs false asked agents takes held = refl

told_of : (clients : List ℕ) (e : ℕ) (known : Known) (theirs : List ℕ) (made : Option Made) → AgentsMatch e known.agents theirs
    → TakesMatch clients known.takes → KeepsRules known made
    → texts_told_on clients e (reply_in known made) ≡ Replies.texts_told theirs made
told_of clients e known theirs None agents takes keeps = refl
told_of clients e known theirs (Some m) agents takes keeps = told_if clients e known theirs m.zero m.call agents takes keeps.1

-- ---- step after step

record Matches (clients : List ℕ) (e : ℕ) (t : Telling) (k : Replies.Known) : Type 0 where
  agents : AgentsMatch e t.known.agents k.agents
  takes : TakesMatch clients t.known.takes
  texts : texts_told_on clients e t.replies ≡ k.replies

told_more_on : (clients : List ℕ) (e : ℕ) (a b : List Reply) → texts_told_on clients e (a ++ b) ≡ texts_told_on clients e a ++ texts_told_on clients e b
told_more_on clients e a b =
    ap (flat_map (λ (r : Reply). r.text ++ 10 ∷ [])) (filter-append (λ (r : Reply). eqb (event_of clients r.client) e) a b)
    ∙ flat_map-append (λ (r : Reply). r.text ++ 10 ∷ []) (filter (λ (r : Reply). eqb (event_of clients r.client) e) a)
    (filter (λ (r : Reply). eqb (event_of clients r.client) e) b)

agents_after_step : (e : ℕ) (known : Known) (theirs : List ℕ) (o : Option Took) (made : Option Made) → AgentsMatch e known.agents theirs → KeepsRules known made
    → AgentsMatch e (known_after_call (with_took known o) made).agents (Replies.agents_after (Some e) theirs made)
agents_after_step e known theirs None made h keeps = born_by e known theirs made h keeps
agents_after_step e known theirs (Some took) None h keeps = h
agents_after_step e known theirs (Some took) (Some m) h keeps = born e known theirs (Replies.agent_event m.call) m.thread h keeps.0

matches_on : (clients : List ℕ) (e : ℕ) (t : Telling) (k : Replies.Known) (s : Sessions.Made) → Matches clients e t k → IsOfItsEvent clients s
    → KeepsRules t.known (Replies.call_in s.take s.effects) → Matches clients e (after_step t s) (Replies.known_after_step (Some e) k s)
matches_on clients e t k s h of keeps = record {
  agents = agents_after_step e t.known k.agents s.take (Replies.call_in s.take s.effects) h.agents keeps;
  takes = subst (TakesMatch clients) (sym (takes_after_call (with_took t.known s.take) (Replies.call_in s.take s.effects)))
      (takes_more clients t.known s h.takes of);
  texts = told_more_on clients e t.replies (reply_by t.known s)
      ∙ (λ i. h.texts i ++ told_of clients e t.known k.agents (Replies.call_in s.take s.effects) h.agents h.takes keeps i);
}

matches_all : (clients : List ℕ) (e : ℕ) (steps : List Sessions.Made) (t : Telling) (k : Replies.Known) → Matches clients e t k → AllKeep clients t.known steps
    → Matches clients e (fold after_step t steps) (fold (Replies.known_after_step (Some e)) k steps)
matches_all clients e [] t k h keeps = h
matches_all clients e (s ∷ steps) t k h keeps =
    matches_all clients e steps (after_step t s) (Replies.known_after_step (Some e) k s) (matches_on clients e t k s h keeps.0 keeps.1) keeps.2

pub answers_are_replies : AnswersAreReplies
unfolding told_in Replies.replies_in
answers_are_replies clients e steps keeps =
    (matches_all clients e steps nothing_told Replies.nothing_known (record {
      agents = λ x. refl;
      takes = λ d c none. absurd (cc none);
      texts = refl;
    }) keeps).texts
