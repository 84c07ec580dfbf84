-- What a walk over the keys of a list tells.
use Rattle.lwp_types.specs.Messages.{is_to, senders_to}
use Rattle.lwp_types.specs.declared.rows.Letter.{Letter}
use Rattle.rendezvous.proofs.Senders.{a_key, sender_of, take_whole, told}
use Rattle.rendezvous.proofs.SlotLemmas.{has_one}
use Rattle.rendezvous.specs.Slots.{keys_from}
use Rattle.std.proofs.Common.{List, None, Option, Some, [], ap, arith, get_or, map, option_map, refl, slice_get, sym, take, ℕ, ◌-◌, ◌∙◌, ◌≡◌}
use Rattle.lists.specs.Living.{living}

-- no keys, no senders
pub listed : (n t : ℕ) (slots : List (Option Letter)) → keys_from n (is_to t) slots ≡ [] → [] ≡ senders_to (living slots) t
listed n t slots none = ap (map (sender_of n slots)) (sym none) ∙ told n (is_to t) slots

-- after the last key all senders were told
pub whole : (n t : ℕ) (slots : List (Option Letter)) (i : ℕ) (ids : List ℕ) → slice_get (keys_from n (is_to t) slots) i ≡ None
    → ids ≡ map (sender_of n slots) (take i (keys_from n (is_to t) slots)) → ids ≡ senders_to (living slots) t
whole n t slots i ids none is = is ∙ ap (map (sender_of n slots)) (take_whole (keys_from n (is_to t) slots) i none) ∙ told n (is_to t) slots

pub sender_known : (n : ℕ) (slots : List (Option Letter)) (key from : ℕ)
    → option_map (λ (l : Letter). l.from) (get_or slots (key - n) None) ≡ Some from → from ≡ sender_of n slots key
sender_known n slots key from is = by_slot (get_or slots (key - n) None) refl is
  where
    by_slot : (o : Option Letter) → get_or slots (key - n) None ≡ o → option_map (λ (l : Letter). l.from) o ≡ Some from → from ≡ sender_of n slots key
    by_slot None at is = absurd (cc)
    by_slot (Some l) at is = let same : l.from ≡ from = cc in rw at (sym same)

-- a key is of a slot that has a letter
pub sender_there : (n t : ℕ) (slots : List (Option Letter)) (i key : ℕ) {P : Type 0} → slice_get (keys_from n (is_to t) slots) i ≡ Some key
    → option_map (λ (l : Letter). l.from) (get_or slots (key - n) None) ≡ None → P
sender_there n t slots i key is none =
    let k = a_key n (is_to t) slots i key is in
    let one = has_one (is_to t) (get_or slots k.place None) k.passed in
    let place : k.place ≡ key - n = omega (arith, k.is) in
    let here : get_or slots (key - n) None ≡ Some one.letter = ap (λ j. get_or slots j None) (sym place) ∙ one.is in
    let told_none : Some one.letter.from ≡ None = sym (ap (option_map (λ (l : Letter). l.from)) here) ∙ none in
    absurd (cc)
