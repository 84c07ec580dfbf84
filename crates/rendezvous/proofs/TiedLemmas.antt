-- Each change of the letters leaves them tied to their directory.
use Rattle.lwp_types.specs.CountLaws.{count-filter-le, count-map, count-push, one, one-le}
use Rattle.lwp_types.specs.Messages.{as_received, is_letter_of, letters_of, letter_with_reception}
use Rattle.lwp_types.specs.State.{passes}
use Rattle.lwp_types.specs.declared.rows.Letter.{Letter}
use Rattle.rendezvous.proofs.FiledLemmas.{IsFiled-trimmed, living-nothing, living_gone, living_received}
use Rattle.rendezvous.proofs.SlotLemmas.{few_living, length-closed, living-closed, living-push}
use Rattle.rendezvous.specs.Kept.{IsFiled, IsSound, IsTied}
use Rattle.rendezvous.specs.MessageTable.{with_found_received}
use Rattle.rendezvous.specs.Slots.{IsEmptied, IsOnce}
use Rattle.rendezvous.specs.declared.directory.Directory.{Directory}
use Rattle.std.proofs.Common.{List, None, Option, Some, [], ap, arith, get_or, inl, inr, is_some, length, length-set, map}
use Rattle.std.proofs.Common.{not, option_map, refl, set, suc, sym, true, ℕ, ◌++◌, ◌+◌, ◌<◌, ◌∙◌, ◌∷◌, ◌≡◌, ◌≤◌}
use Rattle.std.proofs.lemmas.Bool.{cases_eq, ne_eqb}
use Rattle.std.proofs.lemmas.List.{length_push}
use Rattle.std.specs.List.{filter}
use Rattle.lists.specs.Living.{living}

-- there is a letter
pub record IsThere (o : Option Letter) : Type 0 where
  pub letter : Letter
  pub is : o ≡ Some letter

pub is_there : (o : Option Letter) → is_some o ≡ true → IsThere o
is_there None none = absurd (cc)
is_there (Some letter) there = record { letter = letter; is = refl }

module _ (slots : List (Option Letter)) (d : Directory) (capacity : ℕ) (was : IsTied slots d capacity) where
  pub tied_with : (new : List (Option Letter)) (d' : Directory) (capacity' : ℕ) → IsFiled new d' → IsSound d' → IsOnce new
      → length new ≤ length slots → d'.width ≡ d.width → capacity' ≡ capacity → IsTied new d' capacity'
  tied_with new d' capacity' filed sound once fewer width same = record {
    filed = filed;
    sound = sound;
    once = once;
    within = omega (arith, fewer, was.within, width);
    capacity_fit = omega (arith, was.capacity_fit, width, same);
  }

  -- ---- a letter is received

  module _ (slot : ℕ) (there : is_some (get_or slots slot None) ≡ true) where
    abbrev letter : Letter
    letter = (is_there (get_or slots slot None) there).letter

    letter_is : get_or slots slot None ≡ Some letter
    letter_is = (is_there (get_or slots slot None) there).is

    slots_received : set slots slot (option_map as_received (get_or slots slot None)) ≡ set slots slot (Some (as_received letter))
    slots_received = ap (λ o. set slots slot (option_map as_received o)) letter_is

    living_marked : living (set slots slot (Some (as_received letter))) ≡ map (letter_with_reception letter.from) (living slots)
    living_marked = living_received d was.sound (d.width + slot) slots slot letter refl letter_is was.once

    pub letters_received : living (set slots slot (option_map as_received (get_or slots slot None)))
        ≡ with_found_received (get_or slots slot None) (living slots)
    letters_received = ap living slots_received ∙ living_marked ∙ ap (λ o. with_found_received o (living slots)) (sym letter_is)

    once_received : IsOnce (set slots slot (Some (as_received letter)))
    once_received x =
        omega (arith, was.once x, ap (λ ls. letters_of ls x) living_marked, count-map (is_letter_of x) (letter_with_reception letter.from) (living slots))

    pub tied_received : (d' : Directory) (capacity' : ℕ)
        → ((ss : List (Option Letter)) (l : Letter) → IsOnce ss → get_or ss slot None ≡ Some l → IsFiled ss d → IsFiled (set ss slot (Some (as_received l))) d')
        → IsSound d' → d'.width ≡ d.width → capacity' ≡ capacity → IsTied (set slots slot (option_map as_received (get_or slots slot None))) d' capacity'
    tied_received d' capacity' filed sound width same =
        rw slots_received
        (tied_with _ d' capacity' (filed slots letter was.once letter_is was.filed) sound once_received
        (omega (arith, length-set slots slot (Some (as_received letter)))) width same)

  -- ---- a letter goes

  module _ (slot from : ℕ) (its : passes (is_letter_of from) (get_or slots slot None) ≡ true) (new : List (Option Letter))
      (emptied : IsEmptied slots new slot) where
    living_emptied : living new ≡ living (set slots slot None)
    living_emptied = elim (cases_eq (suc slot) (length slots)) [
      | inl same ↦ sym (living-nothing new d) ∙ ap living (emptied.last same)
      | inr away ↦ ap living (emptied.inner away)
    ]

    filed_emptied : (d' : Directory) → IsFiled (set slots slot None) d' → IsFiled new d'
    filed_emptied d' filed = elim (cases_eq (suc slot) (length slots)) [
      | inl same ↦ IsFiled-trimmed new d' (rw (emptied.last same) filed)
      | inr away ↦ rw (emptied.inner away) filed
    ]

    fewer_emptied : length new ≤ length slots
    fewer_emptied = elim (cases_eq (suc slot) (length slots)) [
      | inl same ↦ omega (arith, ap length (emptied.last same), length_push new None, length-set slots slot None)
      | inr away ↦ omega (arith, ap length (emptied.inner away), length-set slots slot None)
    ]

    pub letters_removed : living new ≡ filter (λ l. not (is_letter_of from l)) (living slots)
    letters_removed = living_emptied ∙ living_gone slots slot from was.once its

    once_removed : IsOnce new
    once_removed x =
        omega (arith, was.once x, ap (λ ls. letters_of ls x) letters_removed, count-filter-le (is_letter_of x) (λ l. not (is_letter_of from l)) (living slots))

    pub tied_removed : (d' : Directory) (capacity' : ℕ)
        → ((ss : List (Option Letter)) → IsOnce ss → passes (is_letter_of from) (get_or ss slot None) ≡ true → IsFiled ss d → IsFiled (set ss slot None) d')
        → IsSound d' → d'.width ≡ d.width → capacity' ≡ capacity → IsTied new d' capacity'
    tied_removed d' capacity' filed sound width same =
        tied_with new d' capacity' (filed_emptied d' (filed slots was.once its was.filed)) sound once_removed fewer_emptied width same

  -- ---- the empty slots go

  pub once_closed : IsOnce (filter is_some slots)
  once_closed x = omega (arith, was.once x, ap (λ ls. letters_of ls x) (living-closed slots))

  pub closed_fits : length (filter is_some slots) ≤ d.width
  closed_fits = omega (arith, length-closed slots, few_living slots, was.within)

  pub tied_closed : (d' : Directory) (capacity' : ℕ) → IsFiled (filter is_some slots) d' → IsSound d' → d'.width ≡ d.width
      → capacity' ≡ capacity → IsTied (filter is_some slots) d' capacity'
  tied_closed d' capacity' filed sound width same =
      tied_with (filter is_some slots) d' capacity' filed sound once_closed (omega (arith, length-closed slots, few_living slots)) width same

  -- ---- a letter comes

  module _ (letter : Letter) (new : letters_of (living slots) letter.from ≡ 0) (room : length slots < d.width) where
    once_posted : IsOnce (slots ++ Some letter ∷ [])
    once_posted x = elim (cases_eq letter.from x) [
      | inl same
          ↦ omega (
            arith,
            ap (λ ls. letters_of ls x) (living-push slots (Some letter)),
            count-push (is_letter_of x) (living slots) letter,
            one-le (is_letter_of x letter),
            ap (letters_of (living slots)) same,
            new,
          )
      | inr away
          ↦ omega (
            arith,
            ap (λ ls. letters_of ls x) (living-push slots (Some letter)),
            count-push (is_letter_of x) (living slots) letter,
            ap one (ne_eqb letter.from x away),
            was.once x,
          )
    ]

    pub tied_posted : (d' : Directory) (capacity' : ℕ) → IsFiled (slots ++ Some letter ∷ []) d' → IsSound d' → d'.width ≡ d.width
        → capacity' ≡ capacity → IsTied (slots ++ Some letter ∷ []) d' capacity'
    tied_posted d' capacity' filed sound width same = record {
      filed = filed;
      sound = sound;
      once = once_posted;
      within = omega (arith, length_push slots (Some letter), room, width);
      capacity_fit = omega (arith, was.capacity_fit, width, same);
    }
