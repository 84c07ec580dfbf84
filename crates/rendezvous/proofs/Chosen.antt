-- Which letter is meant, where its sender is named.
use Rattle.lwp_types.specs.FirstLaws.{find-filter}
use Rattle.lwp_types.specs.Messages.{is_letter_of, is_open, is_to, letters_of, received_letter}
use Rattle.lwp_types.specs.State.{passes}
use Rattle.lwp_types.specs.declared.rows.Letter.{Letter}
use Rattle.rendezvous.proofs.Found.{last_of_three}
use Rattle.rendezvous.proofs.SlotLemmas.{find_absent, find_only, has_one, slot_within}
use Rattle.rendezvous.specs.Slots.{IsFirstAt, IsOnce, IsSlotOf, is_held_by, is_unread_by, letter_if}
use Rattle.rendezvous.specs.Kept.{IsFiled}
use Rattle.rendezvous.specs.declared.directory.Directory.{Directory}
use Rattle.std.proofs.Common.{Bool, List, None, Option, Some, ap, cond, false, get_or, not, refl, sym, true, ℕ, ◌&&◌, ◌∙◌, ◌≡◌}
use Rattle.std.specs.List.{find}
use Rattle.lists.specs.ThreadIndex.{place_of}
use Rattle.lists.specs.Living.{living}

-- whether the directory has a slot for the sender

pub absent : (slots : List (Option Letter)) (d : Directory) (x : ℕ) → IsFiled slots d → place_of d.senders x ≡ None → letters_of (living slots) x ≡ 0
absent slots d x filed none = by_place (place_of d.senders x) none (filed.found x)
  where
    by_place : (o : Option ℕ) → o ≡ None → IsSlotOf slots x o → letters_of (living slots) x ≡ 0
    by_place None is at = at
    by_place (Some i) is at = absurd (cc)

pub present : (slots : List (Option Letter)) (d : Directory) (x i : ℕ) → IsFiled slots d → place_of d.senders x ≡ Some i
    → passes (is_letter_of x) (get_or slots i None) ≡ true
present slots d x i filed some = by_place (place_of d.senders x) some (filed.found x)
  where
    by_place : (o : Option ℕ) → o ≡ Some i → IsSlotOf slots x o → passes (is_letter_of x) (get_or slots i None) ≡ true
    by_place None is at = absurd (cc)
    by_place (Some j) is at = let same : j ≡ i = cc in ap (λ k. passes (is_letter_of x) (get_or slots k None)) (sym same) ∙ at

module _ (slots : List (Option Letter)) (once : IsOnce slots) (t x : ℕ) where
  only_open : (l : Letter) → (is_to t l && is_open (Some x) l) ≡ true → is_letter_of x l ≡ true
  only_open l all = last_of_three (is_to t l) (not l.received) (is_letter_of x l) all

  only_held : (l : Letter) → (is_to t l && (l.received && is_letter_of x l)) ≡ true → is_letter_of x l ≡ true
  only_held l all = last_of_three (is_to t l) l.received (is_letter_of x l) all

  pub none_open : letters_of (living slots) x ≡ 0 → find (λ l. is_to t l && is_open (Some x) l) (living slots) ≡ None
  none_open none = find_absent x (λ l. is_to t l && is_open (Some x) l) only_open (living slots) none

  pub none_held : letters_of (living slots) x ≡ 0 → received_letter (living slots) t x ≡ None
  none_held none =
      find-filter (λ l. l.received && is_letter_of x l) (is_to t) (living slots)
      ∙ find_absent x (λ l. is_to t l && (l.received && is_letter_of x l)) only_held (living slots) none

  module _ (i : ℕ) (its : passes (is_letter_of x) (get_or slots i None) ≡ true) where
    abbrev letter : Letter
    letter = (has_one (is_letter_of x) (get_or slots i None) its).letter

    letter_is : get_or slots i None ≡ Some letter
    letter_is = (has_one (is_letter_of x) (get_or slots i None) its).is

    from_x : is_letter_of x letter ≡ true
    from_x = (has_one (is_letter_of x) (get_or slots i None) its).passed

    as_unread : (is_to t letter && is_open (Some x) letter) ≡ is_unread_by t letter
    as_unread = ap (λ b. is_to t letter && (not letter.received && b)) from_x

    found_open : find (λ l. is_to t l && is_open (Some x) l) (living slots) ≡ cond (is_unread_by t letter) (Some letter) None
    found_open =
        find_only x (λ l. is_to t l && is_open (Some x) l) only_open slots i letter letter_is from_x (once x)
        ∙ ap (λ b. cond b (Some letter) None) as_unread

    pub open_first : passes (is_unread_by t) (get_or slots i None) ≡ true → IsFirstAt (λ l. is_to t l && is_open (Some x) l) slots i
    open_first unread =
        let here : is_unread_by t letter ≡ true = ap (passes (is_unread_by t)) (sym letter_is) ∙ unread in
        record {
          within = slot_within slots i letter letter_is;
          passed = ap (passes (λ l. is_to t l && is_open (Some x) l)) letter_is ∙ as_unread ∙ here;
          first = found_open ∙ ap (λ b. cond b (Some letter) None) here ∙ sym letter_is;
        }

    pub open_none : passes (is_unread_by t) (get_or slots i None) ≡ false → find (λ l. is_to t l && is_open (Some x) l) (living slots) ≡ None
    open_none not_unread =
        let here : is_unread_by t letter ≡ false = ap (passes (is_unread_by t)) (sym letter_is) ∙ not_unread in
        found_open ∙ ap (λ b. cond b (Some letter) None) here

    as_held : (is_to t letter && (letter.received && is_letter_of x letter)) ≡ is_held_by t letter
    as_held = rw from_x (ap (λ b. is_to t letter && b) (and-true letter.received))
      where
        and-true : (b : Bool) → (b && true) ≡ b
        and-true true = refl
        and-true false = refl

    pub held_found : received_letter (living slots) t x ≡ letter_if (is_held_by t) (get_or slots i None)
    held_found =
        find-filter (λ l. l.received && is_letter_of x l) (is_to t) (living slots)
        ∙ find_only x (λ l. is_to t l && (l.received && is_letter_of x l)) only_held slots i letter letter_is from_x (once x)
        ∙ ap (λ b. cond b (Some letter) None) as_held
        ∙ ap (letter_if (is_held_by t)) (sym letter_is)
