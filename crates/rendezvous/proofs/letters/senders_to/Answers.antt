use Rattle.lwp_types.specs.Messages.{is_to}
use Rattle.rendezvous.proofs.Senders.{a_key, cut, few_keys, first_behind, none_past, sender_of, take_one}
use Rattle.rendezvous.proofs.letters.senders_to.Goals as goal
use Rattle.rendezvous.proofs.letters.senders_to.Goals.{in-Some-sender_at+in_ok-push, in_default-sender_at}
use Rattle.rendezvous.specs.Kept.{keys_of}
use Rattle.rendezvous.specs.Slots.{keys_from}
use Rattle.std.proofs.Common.{Some, [], ap, arith, drop, length, map, suc, sym, take, ◌+◌, ◌++◌, ◌∙◌, ◌∷◌, ◌≡◌, ◌≤◌}
use Rattle.rendezvous.proofs.Walk.{listed, sender_there, sender_known, whole}

pub returns-in_default : goal.returns-in_default
returns-in_default c =
    let d = c.args.directory.now in
    let none = c.requires.filed.held c.args.to in
    c.new-ids.ensures ∙ listed d.width c.args.to c.args.slots.now.items (sym none ∙ ap (keys_of d.held) (sym c.list_of.ensures ∙ c.in_default.is))

pub returns-in_default-next : goal.returns-in_default-next
returns-in_default-next c =
    let was = c.loop-letter.invariant in
    whole c.args.directory.now.width c.args.to c.args.slots.now.items c.loop-letter._letter c.loop-letter.ids (sym was.next ∙ c.in_default-next.is) was.ids

pub overflow_sub-key : goal.overflow_sub-key
overflow_sub-key c =
    let key = a_key c.args.directory.now.width (is_to c.args.to) c.args.slots.now.items c.loop-letter._letter c.in-Some-next.key
    (sym c.loop-letter.invariant.next ∙ c.in-Some-next.is) in
    omega (arith, key.is)

pub sender_at-requires : goal.sender_at-requires
sender_at-requires c =
    let key = a_key c.args.directory.now.width (is_to c.args.to) c.args.slots.now.items c.loop-letter._letter c.in-Some-next.key
    (sym c.loop-letter.invariant.next ∙ c.in-Some-next.is) in
    omega (arith, key.is, key.within)

pub behind-next-requires-clause-in_limit : goal.behind-next-requires-clause-in_limit
behind-next-requires-clause-in_limit c =
    let key = a_key c.args.directory.now.width (is_to c.args.to) c.args.slots.now.items c.loop-letter._letter c.in-Some-next.key
    (sym c.loop-letter.invariant.next ∙ c.in-Some-next.is) in
    omega (arith, key.is, key.within, c.requires.within, c.requires.sound.held_limit)

pub loop-letter-preserved : goal.loop-letter-preserved
loop-letter-preserved c =
    let d = c.args.directory.now in
    let slots = c.args.slots.now.items in
    let keys = keys_from d.width (is_to c.args.to) slots in
    let i = c.loop-letter._letter in
    let was = c.loop-letter.invariant in
    let is = sym was.next ∙ c.in-Some-next.is in
    let of_list = sym (c.requires.filed.held c.args.to) ∙ ap (keys_of d.held) (sym c.list_of.ensures ∙ c.in-Some.is) in
    let next = c.behind-next.ensures (take i keys) (drop (suc i) keys) (sym of_list ∙ cut keys i c.in-Some-next.key is) ∙ first_behind keys (suc i) in
    let more : i + 1 ≡ suc i = omega arith in
    rw more
    (record {
      next = next;
      ids = elim c.match-sender_at.branch [
        | in-Some-sender_at+in_ok-push w ↦
            let from = sym c.sender_at.ensures ∙ w.in-Some-sender_at.is ∙ ap Some (sym w.from.view_is) in
            w.ids-is ∙ w.in_ok-push.ensures.ok ∙ ap (λ ids. ids ++ w.from.inside.number ∷ []) was.ids
            ∙ ap (λ n. map (sender_of d.width slots) (take i keys) ++ n ∷ []) (sender_known d.width slots c.in-Some-next.key w.from.inside.number from)
            ∙ sym (take_one (sender_of d.width slots) keys i c.in-Some-next.key is)
        | in_default-sender_at w ↦
            sender_there d.width c.args.to slots i c.in-Some-next.key is (sym c.sender_at.ensures ∙ w.in_default-sender_at.is)
      ];
    })

pub returns : goal.returns
returns c =
    let d = c.args.directory.now in
    let slots = c.args.slots.now.items in
    let was = c.loop-letter.invariant in
    let past : length slots ≤ c.loop-letter._letter = omega (arith, c.loop-letter-test.false, c.len-letter-end.ensures) in
    let few = few_keys d.width (is_to c.args.to) slots in
    whole d.width c.args.to slots c.loop-letter._letter c.loop-letter.ids
    (none_past (keys_from d.width (is_to c.args.to) slots) c.loop-letter._letter (omega (arith, few, past))) was.ids
