-- The locks are found by their monitors and by their owners, and stay so through each change.
use Rattle.lwp_types.specs.CountLaws.{count-cons, count-push, find_none, one}
use Rattle.lwp_types.specs.MonitorRelease.{is_lock, is_owned_by, lock_of, locks_on}
use Rattle.lwp_types.specs.State.{passes}
use Rattle.lwp_types.specs.declared.rows.Lock.{Lock}
use Rattle.monitors.proofs.SlotLaws.{counted_at, counted_none, has_emptied, has_lock, has_other, has_push, has_pushed}
use Rattle.monitors.proofs.SlotLaws.{has_taken, has_within, living-push, none_counted, only_at, slot_within}
use Rattle.monitors.specs.Slots.{AreLinked, IsByMonitor, IsByOwner, IsLastIn, IsSlotOf, LeadsOn, NoneIn, goes_on, has_in, link_at, lock_in}
use Rattle.monitors.specs.declared.slots.Link.{Link}
use Rattle.std.proofs.Common.{Bool, List, None, Option, Some, [], ap, arith, count_by, eqb, false, get_or, inl, inr, is_some, length}
use Rattle.std.proofs.Common.{refl, set, subst, suc, sym, take, true, zero, ℕ, ◌++◌, ◌+◌, ◌<◌, ◌∙◌, ◌∷◌, ◌≡◌, ◌≢◌, ◌≤◌, ◌⊎◌}
use Rattle.std.proofs.lemmas.Bool.{cases_eq, cases_lt, eq-eqb, eqb-true, ne_eqb}
use Rattle.std.proofs.lemmas.List.{get_or-take, get_or_append_left, get_or_push, length-set, length-take-le, length_push}
use Rattle.std.specs.List.{find}
use Rattle.std.specs.Option.{option_eq}
use Rattle.lists.proofs.LivingLemmas.{held as one_of, living-set}
use Rattle.lists.specs.ThreadIndex.{Found, Puts, count_of, place_of}
use Rattle.lists.specs.Living.{living}

-- whatever has none before has none now
abbrev pub HasFewer : List (Option Lock) → List (Option Lock) → Type 0
HasFewer slots new = (t j : ℕ) → has_in (is_owned_by t) slots j ≡ false → has_in (is_owned_by t) new j ≡ false

still_has : (b d : Bool) → (b ≡ false → d ≡ false) → d ≡ true → b ≡ true
still_has true d fewer has = refl
still_has false d fewer has = absurd (let none : d ≡ false = fewer refl in cc)

-- two slots have two locks
two_counted : (p : Lock → Bool) (slots : List (Option Lock)) (i j : ℕ) → i ≢ j → has_in p slots i ≡ true → has_in p slots j ≡ true
    → 2 ≤ count_by p (living slots)
two_counted p [] i j apart one_ two_ = absurd (cc)
two_counted p (None ∷ slots) zero j apart one_ two_ = absurd (cc)
two_counted p (None ∷ slots) (suc i) zero apart one_ two_ = absurd (cc)
two_counted p (None ∷ slots) (suc i) (suc j) apart one_ two_ = two_counted p slots i j (λ e. apart (ap suc e)) one_ two_
two_counted p (Some x ∷ slots) zero zero apart one_ two_ = absurd (apart refl)
two_counted p (Some x ∷ slots) zero (suc j) apart one_ two_ = omega (arith, count-cons p x (living slots), ap one one_, counted_at p slots j two_)
two_counted p (Some x ∷ slots) (suc i) zero apart one_ two_ = omega (arith, count-cons p x (living slots), ap one two_, counted_at p slots i one_)
two_counted p (Some x ∷ slots) (suc i) (suc j) apart one_ two_ =
    omega (arith, count-cons p x (living slots), two_counted p slots i j (λ e. apart (ap suc e)) one_ two_)

-- ---- by their monitors

module _ (slots : List (Option Lock)) (held : Found) (was : IsByMonitor slots held) where
  pub found_lock : ((m : ℕ) → locks_on (living slots) m ≤ 1) → (m : ℕ) → lock_of (living slots) m ≡ lock_in slots (place_of held m)
  found_lock once m = by_place (place_of held m) (was.each m)
    where
      by_place : (o : Option ℕ) → IsSlotOf slots m o → find (is_lock m) (living slots) ≡ lock_in slots o
      by_place None none = find_none (is_lock m) (living slots) none
      by_place (Some i) there = only_at (is_lock m) slots i (once m) there

  pub unheld : (m : ℕ) → locks_on (living slots) m ≡ 0 → place_of held m ≡ None
  unheld m none = by_place (place_of held m) (was.each m)
    where
      by_place : (o : Option ℕ) → IsSlotOf slots m o → o ≡ None
      by_place None h = refl
      by_place (Some i) there = absurd (omega (arith, none, counted_at (is_lock m) slots i there))

  -- a lock more
  pub monitor_pushed : (held' : Found) (lock : Lock) (n m : ℕ) → lock.mon ≡ m → n ≡ length slots
      → Puts (place_of held) (place_of held') m (Some n) → count_of held' ≡ count_of held + 1 → IsByMonitor (slots ++ Some lock ∷ []) held'
  monitor_pushed held' lock n m its last puts count = record {
    each = λ k. elim (cases_eq k m) [
      | inl same
          ↦ subst (IsSlotOf (slots ++ Some lock ∷ []) k) (sym (ap (place_of held') same ∙ puts.here))
          (has_pushed (is_lock k) slots (Some lock) n last ∙ eq-eqb lock.mon k (its ∙ sym same))
      | inr away ↦ subst (IsSlotOf (slots ++ Some lock ∷ []) k) (sym (puts.others k away)) (other k away (place_of held k) (was.each k))
    ];
    counted = omega (arith, count, was.counted, ap length (living-push slots (Some lock)), length_push (living slots) lock);
  }
    where
      other : (k : ℕ) → k ≢ m → (o : Option ℕ) → IsSlotOf slots k o → IsSlotOf (slots ++ Some lock ∷ []) k o
      other k away None none = omega (
        arith,
        none,
        ap (λ xs. locks_on xs k) (living-push slots (Some lock)),
        count-push (is_lock k) (living slots) lock,
        ap one (ne_eqb lock.mon k (λ same. away (sym same ∙ its))),
      )
      other k away (Some i) there = has_push (is_lock k) slots (Some lock) i (has_within (is_lock k) slots i there) ∙ there

  -- a lock less
  pub monitor_emptied : (held' : Found) (i m : ℕ) (lock : Lock) → get_or slots i None ≡ Some lock → lock.mon ≡ m
      → locks_on (living slots) m ≤ 1 → Puts (place_of held) (place_of held') m None → count_of held' + 1 ≡ count_of held → IsByMonitor (set slots i None) held'
  monitor_emptied held' i m lock is its once puts count = record {
    each = λ k. elim (cases_eq k m) [
      | inl same ↦ subst (IsSlotOf (set slots i None) k) (sym (ap (place_of held') same ∙ puts.here)) (gone k same)
      | inr away ↦ subst (IsSlotOf (set slots i None) k) (sym (puts.others k away)) (other k away (place_of held k) (was.each k))
    ];
    counted = omega (arith, count, was.counted, living-set slots i None (slot_within slots i lock is), ap one_of is);
  }
    where
      here : has_in (is_lock m) slots i ≡ true
      here = ap (passes (is_lock m)) is ∙ eq-eqb lock.mon m its

      gone : (k : ℕ) → k ≡ m → locks_on (living (set slots i None)) k ≡ 0
      gone k same = none_counted (is_lock k) (set slots i None) (λ j less. elim (cases_eq j i) [
        | inl at ↦ ap (has_in (is_lock k) (set slots i None)) at ∙ has_emptied (is_lock k) slots i
        | inr away ↦ has_other (is_lock k) slots i j None away ∙ lone j away
      ])
        where
          lone : (j : ℕ) → j ≢ i → has_in (is_lock k) slots j ≡ false
          lone j away = by_test (has_in (is_lock k) slots j) refl
            where
              by_test : (b : Bool) → has_in (is_lock k) slots j ≡ b → b ≡ false
              by_test true there = absurd
                  (omega (arith, two_counted (is_lock m) slots i j (λ e. away (sym e)) here (ap (λ n. has_in (is_lock n) slots j) (sym same) ∙ there), once))
              by_test false none = refl

      other : (k : ℕ) → k ≢ m → (o : Option ℕ) → IsSlotOf slots k o → IsSlotOf (set slots i None) k o
      other k away None none = none_counted (is_lock k) (set slots i None) (λ j less. elim (cases_eq j i) [
        | inl at ↦ ap (has_in (is_lock k) (set slots i None)) at ∙ has_emptied (is_lock k) slots i
        | inr off ↦ has_other (is_lock k) slots i j None off ∙ counted_none (is_lock k) slots none j
      ])
      other k away (Some j) there = elim (cases_eq j i) [
        | inl at ↦ absurd (away (sym (eqb-true lock.mon k (sym (ap (passes (is_lock k)) is) ∙ ap (has_in (is_lock k) slots) (sym at) ∙ there)) ∙ its))
        | inr off ↦ has_other (is_lock k) slots i j None off ∙ there
      ]

-- slots that have the same locks by their monitors
pub monitor_as : (slots new : List (Option Lock)) (held : Found) → ((k j : ℕ) → has_in (is_lock k) new j ≡ has_in (is_lock k) slots j)
    → ((k : ℕ) → locks_on (living new) k ≡ locks_on (living slots) k) → length (living new) ≡ length (living slots) → IsByMonitor slots held
    → IsByMonitor new held
monitor_as slots new held same counts len was = record {
  each = λ k. by_place k (place_of held k) (was.each k);
  counted = was.counted ∙ sym len;
}
  where
    by_place : (k : ℕ) (o : Option ℕ) → IsSlotOf slots k o → IsSlotOf new k o
    by_place k None none = counts k ∙ none
    by_place k (Some i) there = same k i ∙ there

-- ---- by their owners

module _ (t : ℕ) (slots new : List (Option Lock)) where
  -- over slots that have the same
  none_as : (from to : ℕ) → ((j : ℕ) → j < to → has_in (is_owned_by t) new j ≡ has_in (is_owned_by t) slots j)
      → NoneIn (is_owned_by t) slots from to → NoneIn (is_owned_by t) new from to
  none_as from to same none j ge less = same j less ∙ none j ge less

  last_as : (end : ℕ) → ((j : ℕ) → j < end → has_in (is_owned_by t) new j ≡ has_in (is_owned_by t) slots j) → (o : Option ℕ)
      → IsLastIn (is_owned_by t) slots end o → IsLastIn (is_owned_by t) new end o
  last_as end same None none = none_as 0 end same none
  last_as end same (Some i) last = (same i last.1 ∙ last.0, last.1, none_as (suc i) end same last.2)

  leads_as : (links links' : List Link) (end : ℕ)
      → ((j : ℕ) → j < end → has_in (is_owned_by t) slots j ≡ false → has_in (is_owned_by t) new j ≡ false)
      → ((j : ℕ) → j < end → link_at links' j ≡ link_at links j) → (way : Option ℕ) → LeadsOn t slots links end way → LeadsOn t new links' end way
  leads_as links links' end fewer same None none = λ j ge less. fewer j less (none j ge less)
  leads_as links links' end fewer same (Some b) leads =
      (leads.0, ap (λ (l : Link). l.owner) (same b leads.0) ∙ leads.1, λ j ge less. fewer j less (leads.2 j ge less))

-- the end moves over slots that have none
last_longer : (t : ℕ) (slots : List (Option Lock)) (end more : ℕ) → end ≤ more → NoneIn (is_owned_by t) slots end more → (o : Option ℕ)
    → IsLastIn (is_owned_by t) slots end o → IsLastIn (is_owned_by t) slots more o
last_longer t slots end more longer none None nobody = λ j ge less. by_side j (cases_lt j end) less
  where
    by_side : (j : ℕ) → (j < end) ⊎ (end ≤ j) → j < more → has_in (is_owned_by t) slots j ≡ false
    by_side j (inl under) less = nobody j (omega arith) under
    by_side j (inr over) less = none j over less
last_longer t slots end more longer none (Some i) last = (last.0, omega (arith, last.1, longer), λ j ge less. by_side j (cases_lt j end) ge less)
  where
    by_side : (j : ℕ) → (j < end) ⊎ (end ≤ j) → suc i ≤ j → j < more → has_in (is_owned_by t) slots j ≡ false
    by_side j (inl under) ge less = last.2 j ge under
    by_side j (inr over) ge less = none j over less

-- or back over one that has none
last_shorter : (t : ℕ) (slots : List (Option Lock)) (end : ℕ) → has_in (is_owned_by t) slots end ≡ false → (o : Option ℕ)
    → IsLastIn (is_owned_by t) slots (suc end) o → IsLastIn (is_owned_by t) slots end o
last_shorter t slots end none None nobody = λ j ge less. nobody j ge (omega (arith, less))
last_shorter t slots end none (Some i) last = elim (cases_eq i end) [
  | inl same ↦ absurd (let both : true ≡ false = sym last.0 ∙ ap (has_in (is_owned_by t) slots) same ∙ none in cc)
  | inr away ↦ (last.0, omega (arith, last.1, away), λ j ge less. last.2 j ge (omega (arith, less)))
]

-- each slot leads on, where some have fewer
linked_fewer : (slots new : List (Option Lock)) (links : List Link) → length new ≡ length slots → HasFewer slots new → AreLinked slots links
    → AreLinked new links
linked_fewer slots new links len fewer was = record {
  as_many = was.as_many ∙ sym len;
  owners = λ i t has. was.owners i t (still_has (has_in (is_owned_by t) slots i) (has_in (is_owned_by t) new i) (fewer t i) has);
  ways = λ i within. leads_as (link_at links i).owner slots new links links i (λ j less. fewer (link_at links i).owner j) (λ j less. refl)
      (link_at links i).below (was.ways i within);
}

-- the same locks by their owners
pub owner_as : (slots new : List (Option Lock)) (links : List Link) (last : Found) → length new ≡ length slots
    → ((t j : ℕ) → has_in (is_owned_by t) new j ≡ has_in (is_owned_by t) slots j) → IsByOwner slots links last → IsByOwner new links last
owner_as slots new links last len same was = record {
  linked = linked_fewer slots new links len (λ t j none. same t j ∙ none) was.linked;
  each = λ t. rw len (last_as t slots new (length slots) (λ j less. same t j) (place_of last t) (was.each t));
  few = was.few;
}

-- whose lock lies there is known
pub is_known : (slots : List (Option Lock)) (links : List Link) (last : Found) (i t : ℕ) → IsByOwner slots links last
    → has_in (is_owned_by t) slots i ≡ true → is_some (place_of last t) ≡ true
is_known slots links last i t was has = by_place (place_of last t) (was.each t)
  where
    by_place : (o : Option ℕ) → IsLastIn (is_owned_by t) slots (length slots) o → is_some o ≡ true
    by_place None none = absurd (let both : true ≡ false = sym has ∙ none i (omega arith) (has_within (is_owned_by t) slots i has) in cc)
    by_place (Some j) h = refl

-- a lock more
module _ (slots : List (Option Lock)) (links : List Link) (last last' : Found) (was : IsByOwner slots links last) (lock : Lock) (n : ℕ)
    (end : n ≡ length slots) (link : Link) (its : link.owner ≡ lock.owner) (below : link.below ≡ place_of last lock.owner) where
  new_slots : List (Option Lock)
  new_slots = slots ++ Some lock ∷ []

  new_links : List Link
  new_links = links ++ link ∷ []

  links_end : n ≡ length links
  links_end = end ∙ sym was.linked.as_many

  leads : LeadsOn lock.owner slots links n link.below
  leads = subst (LeadsOn lock.owner slots links n) (sym below) (by_place (place_of last lock.owner) (was.each lock.owner))
    where
      by_place : (o : Option ℕ) → IsLastIn (is_owned_by lock.owner) slots (length slots) o → LeadsOn lock.owner slots links n o
      by_place None none = λ j ge less. none j ge (omega (arith, less, end))
      by_place (Some i) h = (omega (arith, h.1, end), was.linked.owners i lock.owner h.0, λ j ge less. h.2 j ge (omega (arith, less, end)))

  linked_pushed : AreLinked new_slots new_links
  unfolding new_slots new_links
  linked_pushed = record {
    as_many = omega (arith, was.linked.as_many, length_push slots (Some lock), length_push links link);
    owners = λ i t has. owners i t (cases_lt i n) has;
    ways = λ i within. ways i (cases_lt i n) within;
  }
    where
      same_link : (j : ℕ) → j < n → link_at (links ++ link ∷ []) j ≡ link_at links j
      same_link j less = get_or_append_left links (link ∷ []) (record { owner = 0; below = None }) j (omega (arith, less, links_end))

      last_link : (j : ℕ) → j ≡ n → link_at (links ++ link ∷ []) j ≡ link
      last_link j is = get_or_push links link (record { owner = 0; below = None }) j (omega (arith, is, links_end))

      owners : (i t : ℕ) → (i < n) ⊎ (n ≤ i) → has_in (is_owned_by t) (slots ++ Some lock ∷ []) i ≡ true → (link_at (links ++ link ∷ []) i).owner ≡ t
      owners i t (inl under) has = ap (λ (l : Link). l.owner) (same_link i under)
          ∙ was.linked.owners i t (sym (has_push (is_owned_by t) slots (Some lock) i (omega (arith, under, end))) ∙ has)
      owners i t (inr over) has =
          let at : i ≡ n = omega (arith, over, end, has_within (is_owned_by t) (slots ++ Some lock ∷ []) i has, length_push slots (Some lock)) in
          ap (λ (l : Link). l.owner) (last_link i at) ∙ its ∙ eqb-true lock.owner t (sym (has_pushed (is_owned_by t) slots (Some lock) i (at ∙ end)) ∙ has)

      grown : (t i : ℕ) → i ≤ n → (way : Option ℕ) → LeadsOn t slots links i way → LeadsOn t (slots ++ Some lock ∷ []) (links ++ link ∷ []) i way
      grown t i bound way led = leads_as t slots (slots ++ Some lock ∷ []) links (links ++ link ∷ []) i
          (λ j less none. has_push (is_owned_by t) slots (Some lock) j (omega (arith, less, bound, end)) ∙ none)
          (λ j less. same_link j (omega (arith, less, bound))) way led

      ways : (i : ℕ) → (i < n) ⊎ (n ≤ i) → i < length (links ++ link ∷ [])
          → LeadsOn (link_at (links ++ link ∷ []) i).owner (slots ++ Some lock ∷ []) (links ++ link ∷ []) i (link_at (links ++ link ∷ []) i).below
      ways i (inl under) within = subst (λ (l : Link). LeadsOn l.owner (slots ++ Some lock ∷ []) (links ++ link ∷ []) i l.below) (sym (same_link i under))
          (grown (link_at links i).owner i (omega (arith, under)) (link_at links i).below (was.linked.ways i (omega (arith, under, links_end))))
      ways i (inr over) within =
          let at : i ≡ n = omega (arith, over, within, length_push links link, links_end) in
          subst (λ (l : Link). LeadsOn l.owner (slots ++ Some lock ∷ []) (links ++ link ∷ []) i l.below) (sym (last_link i at))
          (subst (λ k. LeadsOn link.owner (slots ++ Some lock ∷ []) (links ++ link ∷ []) k link.below) (sym at)
          (subst (λ t. LeadsOn t (slots ++ Some lock ∷ []) (links ++ link ∷ []) n link.below) (sym its) (grown lock.owner n (omega arith) link.below leads)))

  pub owner_pushed : place_of last' lock.owner ≡ Some n → ((t : ℕ) → t ≢ lock.owner → place_of last' t ≡ place_of last t)
      → count_of last' ≤ count_of last + 1 → (is_some link.below ≡ true → count_of last' ≤ count_of last)
      → IsByOwner (slots ++ Some lock ∷ []) (links ++ link ∷ []) last'
  unfolding new_slots new_links
  owner_pushed here others more same = record {
    linked = linked_pushed;
    each = λ t. elim (cases_eq t lock.owner) [
      | inl own ↦ subst (IsLastIn (is_owned_by t) (slots ++ Some lock ∷ []) (length (slots ++ Some lock ∷ []))) (sym (ap (place_of last') own ∙ here)) (
        has_pushed (is_owned_by t) slots (Some lock) n end ∙ eq-eqb lock.owner t (sym own),
        omega (arith, end, length_push slots (Some lock)),
        λ j ge less. absurd (omega (arith, ge, less, end, length_push slots (Some lock))),
      )
      | inr away ↦ subst (IsLastIn (is_owned_by t) (slots ++ Some lock ∷ []) (length (slots ++ Some lock ∷ []))) (sym (others t away)) (other t away)
    ];
    few = by_way (is_some link.below) refl;
  }
    where
      other : (t : ℕ) → t ≢ lock.owner → IsLastIn (is_owned_by t) (slots ++ Some lock ∷ []) (length (slots ++ Some lock ∷ [])) (place_of last t)
      other t away = last_longer t (slots ++ Some lock ∷ []) (length slots) (length (slots ++ Some lock ∷ [])) (omega (arith, length_push slots (Some lock)))
          (λ j ge less. let at : j ≡ n = omega (arith, ge, less, end, length_push slots (Some lock)) in
          has_pushed (is_owned_by t) slots (Some lock) j (at ∙ end) ∙ ne_eqb lock.owner t (λ e. away (sym e)))
          (place_of last t) (last_as t slots (slots ++ Some lock ∷ []) (length slots)
          (λ j less. has_push (is_owned_by t) slots (Some lock) j less) (place_of last t) (was.each t))

      by_way : (b : Bool) → is_some link.below ≡ b → count_of last' + count_by goes_on (links ++ link ∷ []) ≤ length (links ++ link ∷ [])
      by_way true is = omega (arith, was.few, same is, count-push goes_on links link, ap one is, length_push links link)
      by_way false is = omega (arith, was.few, more, count-push goes_on links link, ap one is, length_push links link)

-- ---- a lock less

-- what a link says of its slot's lock
pub own_leads : (slots : List (Option Lock)) (links : List Link) (i t : ℕ) → AreLinked slots links → has_in (is_owned_by t) slots i ≡ true
    → LeadsOn t slots links i (link_at links i).below
own_leads slots links i t was has = subst (λ u. LeadsOn u slots links i (link_at links i).below) (was.owners i t has)
    (was.ways i (omega (arith, has_within (is_owned_by t) slots i has, was.as_many)))

-- an empty slot has fewer
pub emptied_fewer : (slots : List (Option Lock)) (i : ℕ) → HasFewer slots (set slots i None)
emptied_fewer slots i t j none = elim (cases_eq j i) [
  | inl at ↦ ap (has_in (is_owned_by t) (set slots i None)) at ∙ has_emptied (is_owned_by t) slots i
  | inr away ↦ has_other (is_owned_by t) slots i j None away ∙ none
]

pub linked_emptied : (slots : List (Option Lock)) (links : List Link) (i : ℕ) → AreLinked slots links → AreLinked (set slots i None) links
linked_emptied slots links i was = linked_fewer slots (set slots i None) links (length-set slots i None) (emptied_fewer slots i) was

pub leads_emptied : (slots : List (Option Lock)) (links : List Link) (i t : ℕ) (way : Option ℕ) → LeadsOn t slots links i way
    → LeadsOn t (set slots i None) links i way
leads_emptied slots links i t way leads =
    leads_as t slots (set slots i None) links links i (λ j less none. emptied_fewer slots i t j none) (λ j less. refl) way leads

module _ (slots : List (Option Lock)) (links : List Link) (last last' : Found) (was : IsByOwner slots links last) (i owner : ℕ)
    (has : has_in (is_owned_by owner) slots i ≡ true) where
  -- of another nothing changes
  others_have : (t j : ℕ) → t ≢ owner → has_in (is_owned_by t) (set slots i None) j ≡ has_in (is_owned_by t) slots j
  others_have t j away = elim (cases_eq j i) [
    | inl at ↦ ap (has_in (is_owned_by t) (set slots i None)) at ∙ has_emptied (is_owned_by t) slots i ∙ sym (ap (has_in (is_owned_by t) slots) at ∙ none)
    | inr off ↦ has_other (is_owned_by t) slots i j None off
  ]
    where
      none : has_in (is_owned_by t) slots i ≡ false
      none =
          let one_ = has_lock (is_owned_by owner) (get_or slots i None) has in
          ap (passes (is_owned_by t)) one_.is ∙ ne_eqb one_.lock.owner t (λ e. away (sym e ∙ eqb-true one_.lock.owner owner one_.passed))

  each_other : (t : ℕ) → t ≢ owner → IsLastIn (is_owned_by t) (set slots i None) (length (set slots i None)) (place_of last t)
  each_other t away = rw (length-set slots i None)
      (last_as t slots (set slots i None) (length slots) (λ j less. others_have t j away) (place_of last t) (was.each t))

  -- the last one of its owner's
  pub owner_relinked : place_of last owner ≡ Some i → IsLastIn (is_owned_by owner) (set slots i None) i (place_of last' owner)
      → ((t : ℕ) → (t ≡ owner → ⊥) → place_of last' t ≡ place_of last t) → count_of last' ≤ count_of last → IsByOwner (set slots i None) links last'
  owner_relinked here own others fewer = record {
    linked = linked_emptied slots links i was.linked;
    each = λ t. elim (cases_eq t owner) [
      | inl same ↦ subst (λ u. IsLastIn (is_owned_by u) (set slots i None) (length (set slots i None)) (place_of last' u)) (sym same)
          (last_longer owner (set slots i None) i (length (set slots i None))
          (omega (arith, has_within (is_owned_by owner) slots i has, length-set slots i None)) behind (place_of last' owner) own)
      | inr away ↦ subst (IsLastIn (is_owned_by t) (set slots i None) (length (set slots i None))) (sym (others t away)) (each_other t away)
    ];
    few = omega (arith, was.few, fewer);
  }
    where
      behind : NoneIn (is_owned_by owner) (set slots i None) i (length (set slots i None))
      behind j ge less = elim (cases_eq j i) [
        | inl at ↦ ap (has_in (is_owned_by owner) (set slots i None)) at ∙ has_emptied (is_owned_by owner) slots i
        | inr away ↦ has_other (is_owned_by owner) slots i j None away ∙ rest j (omega (arith, ge, away)) (omega (arith, less, length-set slots i None))
      ]
        where
          rest : (j : ℕ) → suc i ≤ j → j < length slots → has_in (is_owned_by owner) slots j ≡ false
          rest = (subst (IsLastIn (is_owned_by owner) slots (length slots)) here (was.each owner)).2

  -- another than the last one
  pub owner_left : (place_of last owner ≡ Some i → ⊥) → IsByOwner (set slots i None) links last
  owner_left away = record {
    linked = linked_emptied slots links i was.linked;
    each = λ t. elim (cases_eq t owner) [
      | inl same
          ↦ subst (λ u. IsLastIn (is_owned_by u) (set slots i None) (length (set slots i None)) (place_of last u)) (sym same)
          (by_place (place_of last owner) refl (was.each owner))
      | inr other ↦ each_other t other
    ];
    few = was.few;
  }
    where
      by_place : (o : Option ℕ) → place_of last owner ≡ o → IsLastIn (is_owned_by owner) slots (length slots) o
          → IsLastIn (is_owned_by owner) (set slots i None) (length (set slots i None)) o
      by_place None is none = λ j ge less. emptied_fewer slots i owner j (none j ge (omega (arith, less, length-set slots i None)))
      by_place (Some k) is h =
          let off : k ≢ i = λ e. away (is ∙ ap Some e) in (
            has_other (is_owned_by owner) slots i k None off ∙ h.0,
            omega (arith, h.1, length-set slots i None),
            λ j ge less. emptied_fewer slots i owner j (h.2 j ge (omega (arith, less, length-set slots i None))),
          )

-- ---- the last slot goes

count_taken : (links : List Link) (n : ℕ) → suc n ≡ length links → count_by goes_on (take n links) + one (goes_on (link_at links n)) ≡ count_by goes_on links
count_taken [] n last = absurd (omega (arith, last))
count_taken (x ∷ []) zero last = omega (arith, count-cons goes_on x [])
count_taken (x ∷ y ∷ links) zero last = absurd (omega (arith, last))
count_taken (x ∷ links) (suc n) last = omega (arith, count-cons goes_on x links, count-cons goes_on x (take n links), count_taken links n (omega (arith, last)))

module _ (slots : List (Option Lock)) (links : List Link) (n : ℕ) (end : suc n ≡ length slots) where
  pub linked_cut : AreLinked slots links → AreLinked (take n slots) (take n links)
  linked_cut was = record {
    as_many = omega (arith, length-take-le n slots (omega (arith, end)), length-take-le n links (omega (arith, end, was.as_many)));
    owners = λ i t has. owners i t (cases_lt i n) has;
    ways = λ i within. ways i (omega (arith, within, length-take-le n links (omega (arith, end, was.as_many))));
  }
    where
      same_link : (j : ℕ) → j < n → link_at (take n links) j ≡ link_at links j
      same_link j less = get_or-take n links j (record { owner = 0; below = None }) less

      owners : (i t : ℕ) → (i < n) ⊎ (n ≤ i) → has_in (is_owned_by t) (take n slots) i ≡ true → (link_at (take n links) i).owner ≡ t
      owners i t (inl under) has = ap (λ (l : Link). l.owner) (same_link i under) ∙ was.owners i t (sym (has_taken (is_owned_by t) slots n i under) ∙ has)
      owners i t (inr over) has = absurd (omega (arith, over, has_within (is_owned_by t) (take n slots) i has, length-take-le n slots (omega (arith, end))))

      ways : (i : ℕ) → i < n → LeadsOn (link_at (take n links) i).owner (take n slots) (take n links) i (link_at (take n links) i).below
      ways i under = subst (λ (l : Link). LeadsOn l.owner (take n slots) (take n links) i l.below) (sym (same_link i under))
          (leads_as (link_at links i).owner slots (take n slots) links (take n links) i
          (λ j less none. has_taken (is_owned_by (link_at links i).owner) slots n j (omega (arith, less, under)) ∙ none)
          (λ j less. same_link j (omega (arith, less, under)))
          (link_at links i).below (was.ways i (omega (arith, under, end, was.as_many))))

  pub leads_cut : (t : ℕ) (way : Option ℕ) → LeadsOn t slots links n way → LeadsOn t (take n slots) (take n links) n way
  leads_cut t way leads = leads_as t slots (take n slots) links (take n links) n
      (λ j less none. has_taken (is_owned_by t) slots n j less ∙ none) (λ j less. get_or-take n links j (record { owner = 0; below = None }) less) way leads

  pub owner_cut : (last last' : Found) (owner : ℕ) → IsByOwner slots links last → has_in (is_owned_by owner) slots n ≡ true
      → IsLastIn (is_owned_by owner) (take n slots) n (place_of last' owner)
      → ((t : ℕ) → (t ≡ owner → ⊥) → place_of last' t ≡ place_of last t) → count_of last' ≤ count_of last
      → ((link_at links n).below ≡ None → count_of last' + 1 ≡ count_of last) → IsByOwner (take n slots) (take n links) last'
  owner_cut last last' owner was has own others fewer gone = record {
    linked = linked_cut was.linked;
    each = λ t. elim (cases_eq t owner) [
      | inl same ↦ rw len (subst (λ u. IsLastIn (is_owned_by u) (take n slots) n (place_of last' u)) (sym same) own)
      | inr away ↦ subst (IsLastIn (is_owned_by t) (take n slots) (length (take n slots))) (sym (others t away)) (rw len (other t away))
    ];
    few = by_way (link_at links n).below refl;
  }
    where
      len : length (take n slots) ≡ n
      len = length-take-le n slots (omega (arith, end))

      other : (t : ℕ) → t ≢ owner → IsLastIn (is_owned_by t) (take n slots) n (place_of last t)
      other t away = last_as t slots (take n slots) n (λ j less. has_taken (is_owned_by t) slots n j less) (place_of last t)
          (last_shorter t slots n none (place_of last t) (subst (λ k. IsLastIn (is_owned_by t) slots k (place_of last t)) (sym end) (was.each t)))
        where
          none : has_in (is_owned_by t) slots n ≡ false
          none =
              let one_ = has_lock (is_owned_by owner) (get_or slots n None) has in
              ap (passes (is_owned_by t)) one_.is ∙ ne_eqb one_.lock.owner t (λ e. away (sym e ∙ eqb-true one_.lock.owner owner one_.passed))

      links_len : length (take n links) + 1 ≡ length links
      links_len = omega (arith, length-take-le n links (omega (arith, end, was.linked.as_many)), end, was.linked.as_many)

      by_way : (o : Option ℕ) → (link_at links n).below ≡ o → count_of last' + count_by goes_on (take n links) ≤ length (take n links)
      by_way None is = omega (arith, was.few, gone is, links_len, count_taken links n (omega (arith, end, was.linked.as_many)), ap (λ o. one (is_some o)) is)
      by_way (Some b) is = omega (arith, was.few, fewer, links_len, count_taken links n (omega (arith, end, was.linked.as_many)), ap (λ o. one (is_some o)) is)

-- where the way leads to a lock, that is the thread's last one
pub leads_here : (slots : List (Option Lock)) (links : List Link) (end t b : ℕ) → AreLinked slots links → LeadsOn t slots links end (Some b)
    → is_some (get_or slots b None) ≡ true → IsLastIn (is_owned_by t) slots end (Some b)
leads_here slots links end t b was led some = by_slot (get_or slots b None) refl some
  where
    by_slot : (o : Option Lock) → get_or slots b None ≡ o → is_some o ≡ true → IsLastIn (is_owned_by t) slots end (Some b)
    by_slot None is some = absurd (cc)
    by_slot (Some x) is some =
        let has : has_in (is_owned_by x.owner) slots b ≡ true = ap (passes (is_owned_by x.owner)) is ∙ eq-eqb x.owner x.owner refl in
        let own : x.owner ≡ t = sym (was.owners b x.owner has) ∙ led.1 in
        (ap (passes (is_owned_by t)) is ∙ eq-eqb x.owner t own, led.0, led.2)

-- ---- whether a place is this one

pub same_place : (o : Option ℕ) (i : ℕ) → option_eq eqb o (Some i) ≡ true → o ≡ Some i
same_place None i same = absurd (cc)
same_place (Some j) i same = ap Some (eqb-true j i same)

pub other_place : (o : Option ℕ) (i : ℕ) → option_eq eqb o (Some i) ≡ false → o ≡ Some i → ⊥
other_place None i other is = absurd (cc)
other_place (Some j) i other is =
    let same : j ≡ i = cc in
    let both : true ≡ false = sym (eq-eqb j i same) ∙ other in
    absurd (cc)
