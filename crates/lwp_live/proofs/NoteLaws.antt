-- What notes are of what is known, as agents are made and lines taken.
use Rattle.event_gate.proofs.Lines.{same_or}
use Rattle.lists.specs.ThreadIndex.{Found, place_of, width_of}
use Rattle.lwp_live.specs.Answers.{Known, agents_with, event_in, holder_of, known_after_call, last_client}
use Rattle.lwp_live.specs.Telling.{AreNotes}
use Rattle.lwp_live.specs.declared.notes.AgentOf.{AgentOf}
use Rattle.lwp_live.specs.declared.notes.Notes.{Notes}
use Rattle.lwp_serve.specs.Answers.Replies.{agent_event}
use Rattle.pod_runner.specs.declared.session.Made.{Made}
use Rattle.pod_runner.specs.declared.session.Took.{Took}
use Rattle.std.proofs.Common.{List, None, Option, Some, ap, arith, cond, eq-eqb, eqb, get_or-set_other, get_or-set_same, length}
use Rattle.std.proofs.Common.{length-set, ne_eqb, set, slice_index_or, subst, sym, ℕ, ◌<◌, ◌∙◌, ◌∷◌, ◌≡◌, ◌≢◌, ◌≤◌, ⊎_elim}

last_here : (took : Took) (takes : List Took) (e : ℕ) → took.event ≡ e → last_client (took ∷ takes) e ≡ Some took.line.client
last_here took takes e is = ap (λ b. cond b (Some took.line.client) (last_client takes e)) (eq-eqb took.event e is)

last_else : (took : Took) (takes : List Took) (e : ℕ) → took.event ≢ e → last_client (took ∷ takes) e ≡ last_client takes e
last_else took takes e other = ap (λ b. cond b (Some took.line.client) (last_client takes e)) (ne_eqb took.event e other)

-- a line was taken
pub notes_took : (notes next : Notes) (known : Known) (took : Took) → took.event < 256 → next.agents ≡ notes.agents
    → next.lasts.items ≡ set notes.lasts.items took.event (Some took.line.client) → AreNotes notes known
    → AreNotes next (record known { takes = took ∷ known.takes })
notes_took notes next known took small same put h =
    let size : length notes.lasts.items ≡ 256 = h.size in
    let inside : took.event < length notes.lasts.items = omega (arith, size, small) in
    record {
      agents_are = λ t. ap (λ (f : Found). place_of f t) same ∙ h.agents_are t;
      width = subst (λ (f : Found). 1 ≤ width_of f) (sym same) h.width;
      lasts_are = λ e low. ap (λ xs. slice_index_or xs e None) put ∙ ⊎_elim
          (λ (it : took.event ≡ e).
          subst (λ d. slice_index_or (set notes.lasts.items took.event (Some took.line.client)) d None ≡ Some took.line.client) it
          (get_or-set_same notes.lasts.items took.event (Some took.line.client) None inside)
          ∙ sym (last_here took known.takes e it))
          (λ (other : took.event ≢ e).
          get_or-set_other notes.lasts.items took.event e (Some took.line.client) None (λ q. other (sym q)) ∙ h.lasts_are e low
          ∙ sym (last_else took known.takes e other))
          (same_or took.event e);
      size = ap length put ∙ length-set notes.lasts.items took.event (Some took.line.client) ∙ size;
      low = λ e high. last_else took known.takes e (λ q. omega (arith, q, high, small)) ∙ h.low e high;
    }

-- the client whose line of an event was taken last
pub last_known : (notes : Notes) (known : Known) (e : ℕ) (last : Option ℕ) → e < length notes.lasts.items → last ≡ slice_index_or notes.lasts.items e None
    → AreNotes notes known → last ≡ holder_of known.takes (Some e)
last_known notes known e last low is h = let size = h.size in is ∙ h.lasts_are e (omega (arith, low, size))

pub last_unknown : (notes : Notes) (known : Known) (e : ℕ) → length notes.lasts.items ≤ e → AreNotes notes known
    → None ≡ holder_of known.takes (Some e)
last_unknown notes known e high h = let size = h.size in sym (h.low e (omega (arith, high, size)))

-- the client whose line an agent holds
pub holder_is : (notes : Notes) (known : Known) (t : ℕ) (place client : Option ℕ) → place ≡ place_of notes.agents t → AreNotes notes known
    → client ≡ holder_of known.takes place → client ≡ holder_of known.takes (event_in known.agents t)
holder_is notes known t place client is h by = by ∙ ap (holder_of known.takes) (is ∙ h.agents_are t)

event_here : (agents : List AgentOf) (n e t : ℕ) → n ≡ t → event_in (record { number = n; event = e } ∷ agents) t ≡ Some e
event_here agents n e t is = ap (λ b. cond b (Some e) (event_in agents t)) (eq-eqb n t is)

event_else : (agents : List AgentOf) (n e t : ℕ) → n ≢ t → event_in (record { number = n; event = e } ∷ agents) t ≡ event_in agents t
event_else agents n e t other = ap (λ b. cond b (Some e) (event_in agents t)) (ne_eqb n t other)

-- an agent was made
pub notes_added : (notes next : Notes) (known : Known) (n e : ℕ) → place_of next.agents n ≡ Some e
    → ((t : ℕ) → t ≢ n → place_of next.agents t ≡ place_of notes.agents t) → width_of next.agents ≡ width_of notes.agents
    → next.lasts ≡ notes.lasts → AreNotes notes known
    → AreNotes next (record known { agents = record { number = n; event = e } ∷ known.agents })
notes_added notes next known n e here others width lasts h = record {
  agents_are = λ t. ⊎_elim
      (λ (it : n ≡ t). subst (λ (s : ℕ). place_of next.agents s ≡ Some e) it here ∙ sym (event_here known.agents n e t it))
      (λ (other : n ≢ t). others t (λ q. other (sym q)) ∙ h.agents_are t ∙ sym (event_else known.agents n e t other))
      (same_or n t);
  width = (let w = h.width in omega (arith, w, width));
  lasts_are = λ d low. ap (λ v. slice_index_or v.items d None) lasts ∙ h.lasts_are d low;
  size = ap (λ v. length v.items) lasts ∙ h.size;
  low = h.low;
}

-- a call was made, which has made an agent
pub pass_added : (notes : Notes) (known : Known) (made : Made) (n e : ℕ) → agent_event made.call ≡ Some e → made.thread ≡ Some n
    → AreNotes notes (record known { agents = record { number = n; event = e } ∷ known.agents })
    → AreNotes notes (known_after_call known (Some made))
pass_added notes known made n e asked answered h =
    subst (λ (x : Option ℕ). AreNotes notes (record known { agents = agents_with x made.thread known.agents })) (sym asked)
    (subst (λ (y : Option ℕ). AreNotes notes (record known { agents = agents_with (Some e) y known.agents })) (sym answered) h)
