use Rattle.script_run.proofs.Back.{hears_nothing, hears_on}
use Rattle.script_run.proofs.Served.{closed_are_served}
use Rattle.script_run.proofs.outside.Outside.join_all.Goals as goal
use Rattle.script_run.specs.Ties.{AreTied, all_texts, events_of, intakes}
use Rattle.script_run.specs.declared.outside.Client.{Client}
use Rattle.std.proofs.Common.{List, [], ap, arith, length, refl, subst, ◌++◌, ◌∙◌, ◌≡◌}
use Rattle.std.proofs.lemmas.List.{append-nil, length_push, nil_from_length}

pub loop-client-init : goal.loop-client-init
loop-client-init g c = (c.requires, record { events = refl; texts = refl }, hears_nothing (intakes c.args.self.now))

pub loop-client-preserved : goal.loop-client-preserved
loop-client-preserved g c =
    let i = c.loop-client.invariant in
    let s = c.take_back.ensures.same in (
      c.take_back.ensures.tied,
      record { events = s.events ∙ i.1.events; texts = s.texts ∙ i.1.texts },
      hears_on (intakes c.args.self.now) (intakes c.loop-client.self) (intakes c.take_back.new.self) i.2 c.take_back.ensures.inlets,
    )

pub take_back-requires : goal.take_back-requires
take_back-requires g c =
    let o = c.loop-client.self in
    subst (λ (out : List Client). AreTied (events_of o) (all_texts o) o.all out (intakes o)) c.in-Some.ensures.items c.loop-client.invariant.0

pub loop-client-smaller : goal.loop-client-smaller
loop-client-smaller g c =
    let less = ap length c.in-Some.ensures.items ∙ length_push c.pop.new.self.items c.in-Some.client in
    let same = ap length c.take_back.ensures.out in
    omega (arith, less, same)

same_rest : (before after : List Client) → before ≡ after ++ [] → before ≡ after
same_rest before after e = e ∙ append-nil after

pub returns-clause-tied : goal.returns-clause-tied
returns-clause-tied g c =
    let o = c.loop-client.self in
    subst (λ (out : List Client). AreTied (events_of o) (all_texts o) o.all out (intakes o))
    (same_rest o.out.items c.pop.new.self.items c.in_default.ensures.items) c.loop-client.invariant.0

pub returns-clause-closed : goal.returns-clause-closed
returns-clause-closed g c =
    let none = c.in_default.ensures.cases.1 in
    let size = c.pop.new.self.ok.0 in
    nil_from_length c.pop.new.self.items (omega (arith, none, size))

pub returns-clause-served : goal.returns-clause-served
returns-clause-served g c =
    let o = c.loop-client.self in
    let none = c.in_default.ensures.cases.0 in
    let size = o.out.ok.0 in
    closed_are_served o c.loop-client.invariant.0 (nil_from_length o.out.items (omega (arith, none, size)))
