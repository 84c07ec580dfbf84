use Rattle.death_cleanup.proofs.Keeping.{InStep-mail}
use Rattle.death_cleanup.specs.View.{state_of}
use Rattle.lwp_calls.proofs.Made.{ComesTo-is, told-own}
use Rattle.lwp_calls.proofs.Messaging.{awaited-is, awaited_comes, polled-is, received-is, timed_await-is, timed_comes}
use Rattle.lwp_calls.proofs.Messaging.{timed_out-is, unless_passed, unless_struck, untouched}
use Rattle.lwp_calls.proofs.message_calls.receive.Goals as goal
use Rattle.rendezvous.specs.MessageTable.{after_take}
use Rattle.std.proofs.Common.{append-nil, refl, sym, ◌∙◌, ◌≡◌}

pub returns-in-Some-clause-told : goal.returns-in-Some-clause-told
returns-in-Some-clause-told c = told-own
    (ComesTo-is (unless_struck (state_of c.args.parts.now) _ _ c.in-Some.err (sym c.source_refusal.ensures ∙ c.in-Some.is)) c.requires.lawful.step refl)
    c.args.caller c.done.ensures

pub returns-in-Some-take_letter-clause-told : goal.returns-in-Some-take_letter-clause-told
returns-in-Some-take_letter-clause-told c =
    rw c.take_letter.ensures.after (told-own (ComesTo-is (unless_passed (state_of c.args.parts.now) _ _ (sym c.source_refusal.ensures ∙ c.in_default.is)
    ∙ received-is c.args.parts.now c.args.caller c.args.from.now c.args.mode c.in-Some-take_letter.letter
    (sym c.take_letter.ensures.value ∙ c.in-Some-take_letter.is))
    (InStep-mail c.args.parts.now c.requires.lawful.step (after_take c.args.parts.now.mail c.args.caller c.args.from.now) refl) refl)
    c.args.caller c.lettered.ensures)

pub returns-in-Poll-clause-told : goal.returns-in-Poll-clause-told
returns-in-Poll-clause-told c =
    let none = sym c.take_letter.ensures.value ∙ c.in_default-take_letter.is in
    rw (c.take_letter.ensures.after, untouched c.args.parts.now c.args.caller c.args.from.now none, c.in-Poll.is)
    (told-own
    (ComesTo-is
    (unless_passed (state_of c.args.parts.now) _ _ (sym c.source_refusal.ensures ∙ c.in_default.is)
    ∙ polled-is c.args.parts.now c.args.caller c.args.from.now none)
    c.requires.lawful.step refl)
    c.args.caller c.done-in-Poll.ensures)

pub returns-in-Block-clause-told : goal.returns-in-Block-clause-told
returns-in-Block-clause-told c =
    let none = sym c.take_letter.ensures.value ∙ c.in_default-take_letter.is in
    rw c.in-Block.is (told-own (awaited_comes c.args.parts.now c.block.new.parts c.args.caller c.args.from.now c.take_letter.new.self _
    (c.take_letter.ensures.after ∙ untouched c.args.parts.now c.args.caller c.args.from.now none) c.block.ensures
    (unless_passed (state_of c.args.parts.now) _ _ (sym c.source_refusal.ensures ∙ c.in_default.is)
    ∙ awaited-is c.args.parts.now c.args.caller c.args.from.now none))
    c.args.caller (sym (append-nil c.args.effects.now)))

pub returns-in-Until-eq0-clause-told : goal.returns-in-Until-eq0-clause-told
returns-in-Until-eq0-clause-told c =
    let none = sym c.take_letter.ensures.value ∙ c.in_default-take_letter.is in
    let zero : c.in-Until-eq0.ticks ≡ 0 = rw c.in-Until-eq0.is at c.in-Until-eq0.ticks-test in
    rw (c.take_letter.ensures.after, untouched c.args.parts.now c.args.caller c.args.from.now none, c.in-Until-eq0.is)
    (told-own
    (ComesTo-is
    (unless_passed (state_of c.args.parts.now) _ _ (sym c.source_refusal.ensures ∙ c.in_default.is)
    ∙ timed_out-is c.args.parts.now c.args.caller c.args.from.now c.in-Until-eq0.ticks zero none)
    c.requires.lawful.step refl)
    c.args.caller c.done-in-Until-eq0.ensures)

pub returns-in-Until-clause-told : goal.returns-in-Until-clause-told
returns-in-Until-clause-told c =
    let none = sym c.take_letter.ensures.value ∙ c.in_default-take_letter.is in
    let some : c.in-Until.ticks ≡ 0 → ⊥ = rw c.in-Until.is at c.in-Until.ticks-test.1 in
    rw c.in-Until.is (told-own (timed_comes c.args.parts.now c.block_for.new.parts c.args.caller c.args.from.now c.in-Until.ticks
    c.take_letter.new.self _ (c.take_letter.ensures.after ∙ untouched c.args.parts.now c.args.caller c.args.from.now none) c.block_for.ensures
    (unless_passed (state_of c.args.parts.now) _ _ (sym c.source_refusal.ensures ∙ c.in_default.is)
    ∙ timed_await-is c.args.parts.now c.args.caller c.args.from.now c.in-Until.ticks some none))
    c.args.caller (sym (append-nil c.args.effects.now)))
