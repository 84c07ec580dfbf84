use Rattle.std.proofs.Common.{Some, ap, arith, length, length-set, sym, ◌∙◌}
use Rattle.script_body.proofs.PlaceLaws.{after-is, first-is, line_taken, none_taken}
use Rattle.event_gate.specs.Shelves.{after_take_from, first_left}
use Rattle.script_body.specs.Places.{line_at, shelves_by}
use Rattle.script_text.specs.Script.{lines_posted}
use Rattle.std.specs.Prelude.{option_map}
use Rattle.script_body.proofs.gate.ScriptGateGate.take.Goals as goal

pub overflow_sub-index_mut : goal.overflow_sub-index_mut
overflow_sub-index_mut c =
    (line_taken (lines_posted c.self.inside.script.now) c.self.inside.left.items c.self.inside.places c.args.event c.from-client.result
    c.index_mut.result.now c.in_ok-place.place c.self.invariant.2 (omega (arith, c.self.invariant.0)) (omega (arith, c.self.invariant.1))
    (sym c.next.ensures.item ∙ c.in_ok-place.was) (c.from-client.ensures ∙ c.client_of.ensures ∙ ap (λ l. l.client) c.line_at-line.ensures)
    c.index_mut.ensures.value).0

pub invariant_of-self : goal.invariant_of-self
invariant_of-self c = rw (c.next.ensures.after ∙ none_taken c.self.inside.places c.args.event (sym c.next.ensures.item ∙ c.in_err-place.was)) c.self.invariant

pub invariant_of-self-2 : goal.invariant_of-self-2
invariant_of-self-2 c = (
  ap length c.next.ensures.after ∙ length-set _ _ _ ∙ c.self.invariant.0,
  length-set _ _ _ ∙ c.self.invariant.1,
  rw c.next.ensures.after (line_taken (lines_posted c.self.inside.script.now) c.self.inside.left.items c.self.inside.places c.args.event
      c.from-client.result c.index_mut.result.now c.in_ok-place.place c.self.invariant.2 (omega (arith, c.self.invariant.0)) (omega (arith, c.self.invariant.1))
      (sym c.next.ensures.item ∙ c.in_ok-place.was)
      (c.from-client.ensures ∙ c.client_of.ensures ∙ ap (λ l. l.client) c.line_at-line.ensures) c.index_mut.ensures.value).1,
)

pub returns-clause-after : goal.returns-clause-after
returns-clause-after c =
    ap (shelves_by (lines_posted c.self.inside.script.now)) c.next.ensures.after
    ∙ after-is (lines_posted c.self.inside.script.now) c.self.inside.places c.args.event (omega (arith, c.self.invariant.0))
    ∙ ap (λ s. after_take_from s c.args.event) c.self.view_is

pub returns-clause-line : goal.returns-clause-line
returns-clause-line c =
    let lines = lines_posted c.self.inside.script.now in
    ap Some c.line_at-line.ensures ∙ ap (option_map (line_at lines)) (sym c.in_ok-place.was ∙ c.next.ensures.item)
    ∙ first-is lines c.self.inside.places c.args.event (omega (arith, c.self.invariant.0)) ∙ ap (λ s. first_left s c.args.event) c.self.view_is
