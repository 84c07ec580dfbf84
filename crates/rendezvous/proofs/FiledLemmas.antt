-- Each change of the directory leaves the letters filed, and the directory sound.
use Rattle.lists.proofs.ChainPushes.{items_pushed_other, items_pushed_same, length-pushed}
use Rattle.lists.specs.ChainLists.{Lists, after_clear, after_move_to_back, after_remove, empty_lists, items, without}
use Rattle.lwp_types.specs.CountLaws.{count-cons, count-failed, count-filter-le, count-map, count-push, length-failed, one}
use Rattle.lwp_types.specs.Messages.{as_received, is_letter_of, is_to, letters_of, letter_with_reception}
use Rattle.lwp_types.specs.State.{passes}
use Rattle.lwp_types.specs.declared.rows.Letter.{Letter}
use Rattle.rendezvous.proofs.Found.{marked_there, removed_there}
use Rattle.rendezvous.proofs.SlotLemmas.{counted_at, few_living, first_none, first_some, has_one, keys-alike, keys-nothing, keys-out, keys-push}
use Rattle.rendezvous.proofs.SlotLemmas.{keys_below, living-push, ranked, slot_at-none, slot_at-past, slot_at-push, slot_within}
use Rattle.rendezvous.specs.Kept.{IsFiled, IsSound, keys_of}
use Rattle.rendezvous.specs.Slots.{IsFirstAt, IsOnce, IsSlotOf, is_unread_by, keys_from}
use Rattle.rendezvous.specs.declared.directory.Directory.{Directory}
use Rattle.std.proofs.Common.{Bool, IfSome, IsSome, List, None, Option, Some, [], ap, append-nil, arith, false, get_or, get_or-set_other}
use Rattle.std.proofs.Common.{get_or-set_same, inl, inr, length, length-take, map, not, refl, set, slice_get, sym, take, true}
use Rattle.std.proofs.Common.{ℕ, ◌&&◌, ◌++◌, ◌+◌, ◌-◌, ◌<◌, ◌^◌, ◌∙◌, ◌∷◌, ◌≡◌, ◌≢◌, ◌≤◌, suc, zero}
use Rattle.std.proofs.lemmas.Bool.{cases_eq, eq-eqb, eqb-true, ne_eqb}
use Rattle.std.proofs.lemmas.List.{length-map, length_push, take_more}
use Rattle.lists.specs.ThreadIndex.{Found, IsEmpty, Puts, count_of, place_of, width_of}
use Rattle.std.specs.List.{filter, find}
use Rattle.lists.specs.Living.{living}

-- ---- the keys of a list

items_removed : (key : ℕ) (lists : List (List ℕ)) (b : ℕ) → get_or (map (without key) lists) b [] ≡ without key (get_or lists b [])
items_removed key [] b = refl
items_removed key (ks ∷ lists) zero = refl
items_removed key (ks ∷ lists) (suc b) = items_removed key lists b

pub keys_removed : (key : ℕ) (s : Lists) (o : Option ℕ) → keys_of (after_remove s key) o ≡ without key (keys_of s o)
keys_removed key s None = refl
keys_removed key s (Some b) = items_removed key s.lists b

items_moved_same : (s : Lists) (b key : ℕ) → b < length s.lists → items (after_move_to_back s b key) b ≡ without key (items s b) ++ key ∷ []
items_moved_same s b key inside =
    items_pushed_same b key (map (without key) s.lists) (omega (arith, inside, length-map s.lists (without key)))
    ∙ ap (λ ks. ks ++ key ∷ []) (items_removed key s.lists b)

items_moved_other : (s : Lists) (b key i : ℕ) → i ≢ b → items (after_move_to_back s b key) i ≡ without key (items s i)
items_moved_other s b key i away = items_pushed_other b key i (map (without key) s.lists) away ∙ items_removed key s.lists i

pub length-moved : (s : Lists) (b key : ℕ) → length (after_move_to_back s b key).lists ≡ length s.lists
length-moved s b key = length-pushed b key (map (without key) s.lists) ∙ length-map s.lists (without key)

pub items_cleared : (s : Lists) (b : ℕ) → items (after_clear s) b ≡ []
items_cleared s b = go s.lists b
  where
    go : (lists : List (List ℕ)) (b : ℕ) → items (after_clear (record { lists = lists; limit = 0 })) b ≡ []
    go [] b = refl
    go (ks ∷ lists) zero = refl
    go (ks ∷ lists) (suc b) = go lists b

pub length_cleared : (s : Lists) → length (after_clear s).lists ≡ length s.lists
length_cleared s = length-map s.lists _

pub items_empty : (n b : ℕ) → items (empty_lists n) b ≡ []
items_empty zero b = refl
items_empty (suc n) zero = refl
items_empty (suc n) (suc b) = items_empty n b

pub length_empty : (n : ℕ) → length (empty_lists n).lists ≡ n
length_empty zero = refl
length_empty (suc n) = ap suc (length_empty n)

-- ---- numbers that may be there

below_more : (o : Option ℕ) (n : ℕ) → IfSome o (λ b. b < n) → IfSome o (λ b. b < n + 1)
below_more None n low = tt
below_more (Some b) n low = omega (arith, low)

pub is_below : (o : Option ℕ) (b n : ℕ) → o ≡ Some b → IfSome o (λ c. c < n) → b < n
is_below None b n is low = absurd (cc)
is_below (Some c) b n is low = let same : c ≡ b = cc in omega (arith, same, low)

some_same : (a b : ℕ) → Some a ≡ Some b → a ≡ b
some_same a b is = cc

and-false : (b : Bool) → (b && false) ≡ false
and-false true = refl
and-false false = refl

-- ---- slots that have the same letters

module _ (old new : List (Option Letter)) (d : Directory) (letters : living new ≡ living old)
    (at : (i : ℕ) → get_or new i None ≡ get_or old i None) (keys : (n : ℕ) (p : Letter → Bool) → keys_from n p new ≡ keys_from n p old)
    (was : IsFiled old d) where
  found_same : (x : ℕ) (o : Option ℕ) → IsSlotOf old x o → IsSlotOf new x o
  found_same x None none = ap (λ ls. letters_of ls x) letters ∙ none
  found_same x (Some i) its = ap (passes (is_letter_of x)) (at i) ∙ its

  IsFiled-same : IsFiled new d
  IsFiled-same = record {
    found = λ x. found_same x (place_of d.senders x) (was.found x);
    counted = was.counted ∙ ap length (sym letters);
    held = λ t. was.held t ∙ sym (keys d.width (is_to t));
    unread = λ t. was.unread t ∙ sym (keys d.width (is_unread_by t));
  }

module _ (slots : List (Option Letter)) (d : Directory) where
  pub living-nothing : living (slots ++ None ∷ []) ≡ living slots
  living-nothing = living-push slots None ∙ append-nil (living slots)

  pub IsFiled-nothing : IsFiled slots d → IsFiled (slots ++ None ∷ []) d
  IsFiled-nothing was = IsFiled-same slots (slots ++ None ∷ []) d living-nothing (slot_at-none slots) (λ n p. keys-nothing p n slots) was

  pub IsFiled-trimmed : IsFiled (slots ++ None ∷ []) d → IsFiled slots d
  IsFiled-trimmed was = IsFiled-same (slots ++ None ∷ []) slots d (sym living-nothing) (λ i. sym (slot_at-none slots i))
      (λ n p. sym (keys-nothing p n slots)) was

-- ---- the first letter of a list

module _ (d : Directory) (p : Letter → Bool) (slots : List (Option Letter)) (s : Lists) (o : Option ℕ) (keys : keys_of s o ≡ keys_from d.width p slots) where
  pub first_no_list : o ≡ None → find p (living slots) ≡ None
  first_no_list is = first_none p d.width slots (ap (λ ks. slice_get ks 0) (sym keys ∙ ap (keys_of s) is))

  module _ (list : ℕ) (is : o ≡ Some list) where
    of_list : keys_from d.width p slots ≡ items s list
    of_list = sym keys ∙ ap (keys_of s) is

    pub first_no_key : slice_get (items s list) 0 ≡ None → find p (living slots) ≡ None
    first_no_key none = first_none p d.width slots (ap (λ ks. slice_get ks 0) of_list ∙ none)

    pub first_key : (key : ℕ) → slice_get (items s list) 0 ≡ Some key → d.width ≤ key → IsFirstAt p slots (key - d.width)
    first_key key some past = first_some p d.width key (key - d.width) slots (omega (arith, past)) (ap (λ ks. slice_get ks 0) of_list ∙ some)

-- ---- nothing is filed

pub IsFiled-bare : (d : Directory) → IsEmpty d.senders → IsEmpty d.boxes → IsFiled [] d
IsFiled-bare d senders boxes = record {
  found = λ x. rw (senders.nobody x) refl;
  counted = senders.none;
  held = λ t. rw (boxes.nobody t) refl;
  unread = λ t. rw (boxes.nobody t) refl;
}

pub IsSound-bare : (d : Directory) → d.used ≡ 0 → d.width ≤ 2 ^ 62 → IsEmpty d.boxes → ((b : ℕ) → items d.held b ≡ [])
    → ((b : ℕ) → items d.unread b ≡ []) → width_of d.senders ≡ d.width → d.width ≤ d.senders.room → width_of d.boxes ≡ d.width
    → d.width ≤ d.boxes.room → length d.held.lists ≡ d.width → length d.unread.lists ≡ d.width → d.held.limit ≡ d.width + d.width
    → d.unread.limit ≡ d.width + d.width → IsSound d
IsSound-bare d unused most boxes held unread sender_cells sender_room box_cells box_room held_lists unread_lists held_limit unread_limit = record {
  low = λ t. rw (boxes.nobody t) tt;
  apart = λ t u b its other. let none : None ≡ Some b = sym (boxes.nobody t) ∙ its in absurd (cc);
  spare_held = λ b spare. held b;
  spare_unread = λ b spare. unread b;
  box_count = boxes.none ∙ sym unused;
  used_fit = omega (arith, unused);
  most = most;
  sender_cells = sender_cells;
  sender_room = sender_room;
  box_cells = box_cells;
  box_room = box_room;
  held_lists = held_lists;
  unread_lists = unread_lists;
  held_limit = held_limit;
  unread_limit = unread_limit;
}

-- ---- a thread has a list from now on

module _ (d : Directory) (sound : IsSound d) (t : ℕ) (boxes' : Found) (none : place_of d.boxes t ≡ None)
    (puts : Puts (place_of d.boxes) (place_of boxes') t (Some d.used)) where
  module _ (more : d.used < d.width) (count : count_of boxes' ≡ count_of d.boxes + 1) (cells : width_of boxes' ≡ width_of d.boxes)
      (room : boxes'.room ≡ d.boxes.room) where
    apart_boxed : (u v b : ℕ) → place_of boxes' u ≡ Some b → place_of boxes' v ≡ Some b → u ≡ v
    apart_boxed u v b of_u of_v = elim (cases_eq u t) [
      | inl u_is ↦ elim (cases_eq v t) [
        | inl v_is ↦ u_is ∙ sym v_is
        | inr v_not ↦
            let b_is : d.used ≡ b = some_same d.used b (sym puts.here ∙ ap (place_of boxes') (sym u_is) ∙ of_u) in
            let low : b < d.used = is_below (place_of d.boxes v) b d.used (sym (puts.others v v_not) ∙ of_v) (sound.low v) in
            absurd (omega (arith, b_is, low))
      ]
      | inr u_not ↦ elim (cases_eq v t) [
        | inl v_is ↦
            let b_is : d.used ≡ b = some_same d.used b (sym puts.here ∙ ap (place_of boxes') (sym v_is) ∙ of_v) in
            let low : b < d.used = is_below (place_of d.boxes u) b d.used (sym (puts.others u u_not) ∙ of_u) (sound.low u) in
            absurd (omega (arith, b_is, low))
        | inr v_not ↦ sound.apart u v b (sym (puts.others u u_not) ∙ of_u) (sym (puts.others v v_not) ∙ of_v)
      ]
    ]

    low_boxed : (u : ℕ) → IfSome (place_of boxes' u) (λ b. b < d.used + 1)
    low_boxed u = elim (cases_eq u t) [
      | inl same ↦ rw (same, puts.here) (omega arith)
      | inr away ↦ rw (puts.others u away) (below_more (place_of d.boxes u) d.used (sound.low u))
    ]

    pub IsSound-boxed : IsSound (record d { boxes = boxes'; used = d.used + 1 })
    IsSound-boxed = record {
      low = low_boxed;
      apart = apart_boxed;
      spare_held = λ b spare. sound.spare_held b (omega (arith, spare));
      spare_unread = λ b spare. sound.spare_unread b (omega (arith, spare));
      box_count = omega (arith, count, sound.box_count);
      used_fit = omega (arith, more);
      most = sound.most;
      sender_cells = sound.sender_cells;
      sender_room = sound.sender_room;
      box_cells = cells ∙ sound.box_cells;
      box_room = omega (arith, room, sound.box_room);
      held_lists = sound.held_lists;
      unread_lists = sound.unread_lists;
      held_limit = sound.held_limit;
      unread_limit = sound.unread_limit;
    }

  keys_boxed : (s : Lists) → items s d.used ≡ [] → (u : ℕ) → keys_of s (place_of boxes' u) ≡ keys_of s (place_of d.boxes u)
  keys_boxed s spare u = elim (cases_eq u t) [
    | inl same ↦ rw (same, puts.here, none) spare
    | inr away ↦ ap (keys_of s) (puts.others u away)
  ]

  pub IsFiled-boxed : (slots : List (Option Letter)) → IsFiled slots d → IsFiled slots (record d { boxes = boxes'; used = d.used + 1 })
  IsFiled-boxed slots was = record {
    found = was.found;
    counted = was.counted;
    held = λ u. keys_boxed d.held (sound.spare_held d.used (omega arith)) u ∙ was.held u;
    unread = λ u. keys_boxed d.unread (sound.spare_unread d.used (omega arith)) u ∙ was.unread u;
  }

-- ---- one letter more

module _ (d : Directory) (sound : IsSound d) (list key : ℕ) (to : ℕ) (its : place_of d.boxes to ≡ Some list) (s : Lists)
    (lists : length s.lists ≡ d.width) where
  list_in : list < length s.lists
  list_in = omega (arith, is_below (place_of d.boxes to) list d.used its (sound.low to), sound.used_fit, lists)

  pub spare_moved : ((b : ℕ) → d.used ≤ b → items s b ≡ []) → (b : ℕ) → d.used ≤ b → items (after_move_to_back s list key) b ≡ []
  spare_moved spare b past =
      items_moved_other s list key b (λ same. absurd (omega (arith, same, past, is_below (place_of d.boxes to) list d.used its (sound.low to))))
      ∙ ap (without key) (spare b past)

  keys_moved_here : keys_of (after_move_to_back s list key) (place_of d.boxes to) ≡ without key (keys_of s (place_of d.boxes to)) ++ key ∷ []
  keys_moved_here = rw its (items_moved_same s list key list_in)

  keys_moved_past : (t : ℕ) → t ≢ to → keys_of (after_move_to_back s list key) (place_of d.boxes t) ≡ without key (keys_of s (place_of d.boxes t))
  keys_moved_past t away = by_place (place_of d.boxes t) refl
    where
      by_place : (o : Option ℕ) → place_of d.boxes t ≡ o → keys_of (after_move_to_back s list key) o ≡ without key (keys_of s o)
      by_place None is = refl
      by_place (Some b) is = items_moved_other s list key b (λ same. away (sound.apart t to b is (its ∙ ap Some (sym same))))

  module _ (p : ℕ → Letter → Bool) (slots : List (Option Letter)) (letter : Letter) (key_is : key ≡ d.width + length slots)
      (others : (t : ℕ) → t ≢ to → p t letter ≡ false) (was : (t : ℕ) → keys_of s (place_of d.boxes t) ≡ keys_from d.width (p t) slots) where
    push_past : (t : ℕ) → p t letter ≡ false → keys_from d.width (p t) slots ≡ keys_from d.width (p t) (slots ++ Some letter ∷ [])
    push_past t out = sym (keys-push (p t) d.width key slots (Some letter) key_is ∙ rw out (append-nil (keys_from d.width (p t) slots)))

    -- it is not one of these
    pub keys_unmoved : p to letter ≡ false → (t : ℕ) → keys_of s (place_of d.boxes t) ≡ keys_from d.width (p t) (slots ++ Some letter ∷ [])
    keys_unmoved out t = elim (cases_eq t to) [
      | inl same ↦ was t ∙ push_past t (ap (λ u. p u letter) same ∙ out)
      | inr away ↦ was t ∙ push_past t (others t away)
    ]

    -- it is the last of these
    pub keys_moved : p to letter ≡ true → (t : ℕ)
        → keys_of (after_move_to_back s list key) (place_of d.boxes t) ≡ keys_from d.width (p t) (slots ++ Some letter ∷ [])
    keys_moved in_it t = elim (cases_eq t to) [
      | inl same ↦ rw same (
          keys_moved_here
          ∙ ap (λ ks. without key ks ++ key ∷ []) (was to)
          ∙ ap (λ ks. ks ++ key ∷ []) (keys_below (p to) d.width key slots (omega (arith, key_is)))
          ∙ sym (keys-push (p to) d.width key slots (Some letter) key_is ∙ rw in_it refl))
      | inr away ↦
          keys_moved_past t away
          ∙ ap (without key) (was t)
          ∙ keys_below (p t) d.width key slots (omega (arith, key_is))
          ∙ push_past t (others t away)
    ]

module _ (d : Directory) (sound : IsSound d) (slot list : ℕ) (letter : Letter) (its : place_of d.boxes letter.to ≡ Some list)
    (senders' : Found) (puts : Puts (place_of d.senders) (place_of senders') letter.from (Some slot))
    (count : count_of senders' ≡ count_of d.senders + 1) (unread' : Lists) where
  after_added : Directory
  after_added = record d { senders = senders'; held = after_move_to_back d.held list (d.width + slot); unread = unread' }

  pub IsSound-added : width_of senders' ≡ width_of d.senders → senders'.room ≡ d.senders.room
      → ((b : ℕ) → d.used ≤ b → items unread' b ≡ []) → length unread'.lists ≡ d.width → unread'.limit ≡ d.unread.limit
      → IsSound (record d { senders = senders'; held = after_move_to_back d.held list (d.width + slot); unread = unread' })
  IsSound-added cells room spare lists limit = record {
    low = sound.low;
    apart = sound.apart;
    spare_held = spare_moved d sound list (d.width + slot) letter.to its d.held sound.held_lists sound.spare_held;
    spare_unread = spare;
    box_count = sound.box_count;
    used_fit = sound.used_fit;
    most = sound.most;
    sender_cells = cells ∙ sound.sender_cells;
    sender_room = omega (arith, room, sound.sender_room);
    box_cells = sound.box_cells;
    box_room = sound.box_room;
    held_lists = length-moved d.held list (d.width + slot) ∙ sound.held_lists;
    unread_lists = lists;
    held_limit = sound.held_limit;
    unread_limit = limit ∙ sound.unread_limit;
  }

  module _ (slots : List (Option Letter)) (last : length slots ≡ slot) (new : place_of d.senders letter.from ≡ None) (was : IsFiled slots d) where
    found_added : (x : ℕ) → IsSlotOf (slots ++ Some letter ∷ []) x (place_of senders' x)
    found_added x = elim (cases_eq x letter.from) [
      | inl same ↦ rw (same, puts.here) (rw (sym last, slot_at-push slots (Some letter)) (eq-eqb letter.from letter.from refl))
      | inr away ↦ rw (puts.others x away) (by_place away (place_of d.senders x) (was.found x))
    ]
      where
        by_place : x ≢ letter.from → (o : Option ℕ) → IsSlotOf slots x o → IsSlotOf (slots ++ Some letter ∷ []) x o
        by_place away None none =
            let other : is_letter_of x letter ≡ false = ne_eqb letter.from x (λ same. away (sym same)) in
            let more = ap (λ ls. letters_of ls x) (living-push slots (Some letter)) in
            omega (arith, more, count-push (is_letter_of x) (living slots) letter, ap one other, none)
        by_place away (Some i) at =
            let one_there = has_one (is_letter_of x) (get_or slots i None) at in
            let inside = slot_within slots i one_there.letter one_there.is in
            ap (passes (is_letter_of x)) (slot_at-past slots (Some letter) i (λ same. absurd (omega (arith, same, inside)))) ∙ at

    pub IsFiled-added : ((t : ℕ) → keys_of unread' (place_of d.boxes t) ≡ keys_from d.width (is_unread_by t) (slots ++ Some letter ∷ []))
        → IsFiled (slots ++ Some letter ∷ []) (record d { senders = senders'; held = after_move_to_back d.held list (d.width + slot); unread = unread' })
    IsFiled-added unread = record {
      found = found_added;
      counted = omega (arith, count, was.counted, ap length (living-push slots (Some letter)), length_push (living slots) letter);
      held = keys_moved d sound list (d.width + slot) letter.to its d.held sound.held_lists is_to slots letter (omega (arith, last))
          (λ t away. ne_eqb letter.to t (λ same. away (sym same))) was.held (eq-eqb letter.to letter.to refl);
      unread = unread;
    }

-- whether a letter is unread by the thread that it is for
pub unread_is : (letter : Letter) → is_unread_by letter.to letter ≡ not letter.received
unread_is letter = rw (eq-eqb letter.to letter.to refl) (and-true (not letter.received))
  where
    and-true : (b : Bool) → (b && true) ≡ b
    and-true true = refl
    and-true false = refl

pub others_unread : (letter : Letter) (t : ℕ) → t ≢ letter.to → is_unread_by t letter ≡ false
others_unread letter t away = rw (ne_eqb letter.to t (λ same. away (sym same))) refl

-- ---- a letter is received

module _ (d : Directory) (sound : IsSound d) (key : ℕ) where
  pub IsSound-received : IsSound (record d { unread = after_remove d.unread key })
  IsSound-received = record {
    low = sound.low;
    apart = sound.apart;
    spare_held = sound.spare_held;
    spare_unread = λ b spare. items_removed key d.unread.lists b ∙ ap (without key) (sound.spare_unread b spare);
    box_count = sound.box_count;
    used_fit = sound.used_fit;
    most = sound.most;
    sender_cells = sound.sender_cells;
    sender_room = sound.sender_room;
    box_cells = sound.box_cells;
    box_room = sound.box_room;
    held_lists = sound.held_lists;
    unread_lists = length-map d.unread.lists (without key) ∙ sound.unread_lists;
    held_limit = sound.held_limit;
    unread_limit = sound.unread_limit;
  }

  module _ (slots : List (Option Letter)) (slot : ℕ) (letter : Letter) (key_is : key ≡ d.width + slot)
      (is : get_or slots slot None ≡ Some letter) (once : IsOnce slots) where
    pub living_received : living (set slots slot (Some (as_received letter))) ≡ map (letter_with_reception letter.from) (living slots)
    living_received =
        let r = ranked slots slot letter is in
        r.written (as_received letter) ∙ marked_there (living slots) r.rank letter once r.here r.within

    found_received : (x : ℕ) (o : Option ℕ) → IsSlotOf slots x o → IsSlotOf (set slots slot (Some (as_received letter))) x o
    found_received x None none =
        let more = ap (λ ls. letters_of ls x) living_received in
        omega (arith, more, count-map (is_letter_of x) (letter_with_reception letter.from) (living slots), none)
    found_received x (Some i) at = elim (cases_eq i slot) [
      | inl same ↦
          let there : passes (is_letter_of x) (Some letter) ≡ true = ap (passes (is_letter_of x)) (sym is ∙ ap (λ j. get_or slots j None) (sym same)) ∙ at in
          rw (same, get_or-set_same slots slot (Some (as_received letter)) None (slot_within slots slot letter is)) there
      | inr away ↦ rw (get_or-set_other slots slot i (Some (as_received letter)) None away) at
    ]

    pub IsFiled-received : IsFiled slots d → IsFiled (set slots slot (Some (as_received letter))) (record d { unread = after_remove d.unread key })
    IsFiled-received was = record {
      found = λ x. found_received x (place_of d.senders x) (was.found x);
      counted = omega (arith, was.counted, ap length living_received, length-map (living slots) (letter_with_reception letter.from));
      held = λ t. was.held t ∙ sym (keys-alike (is_to t) d.width slots slot (Some (as_received letter)) (sym (ap (passes (is_to t)) is)));
      unread = λ t. keys_removed key d.unread (place_of d.boxes t) ∙ ap (without key) (was.unread t)
          ∙ sym (keys-out (is_unread_by t) d.width key slots slot (Some (as_received letter)) key_is (and-false (is_to t letter)));
    }

-- ---- a letter goes

pub living_gone : (slots : List (Option Letter)) (slot from : ℕ) → IsOnce slots → passes (is_letter_of from) (get_or slots slot None) ≡ true
    → living (set slots slot None) ≡ filter (λ l. not (is_letter_of from l)) (living slots)
living_gone slots slot from once its =
    let there = has_one (is_letter_of from) (get_or slots slot None) its in
    let r = ranked slots slot there.letter there.is in
    let same : there.letter.from ≡ from = eqb-true there.letter.from from there.passed in
    r.emptied ∙ removed_there (living slots) r.rank there.letter once r.here r.within ∙ ap (λ x. filter (λ l. not (is_letter_of x l)) (living slots)) same

module _ (d : Directory) (sound : IsSound d) (key from : ℕ) (senders' : Found) where
  pub IsSound-taken : width_of senders' ≡ width_of d.senders → senders'.room ≡ d.senders.room
      → IsSound (record d { senders = senders'; held = after_remove d.held key; unread = after_remove d.unread key })
  IsSound-taken cells room = record {
    low = sound.low;
    apart = sound.apart;
    spare_held = λ b spare. items_removed key d.held.lists b ∙ ap (without key) (sound.spare_held b spare);
    spare_unread = λ b spare. items_removed key d.unread.lists b ∙ ap (without key) (sound.spare_unread b spare);
    box_count = sound.box_count;
    used_fit = sound.used_fit;
    most = sound.most;
    sender_cells = cells ∙ sound.sender_cells;
    sender_room = omega (arith, room, sound.sender_room);
    box_cells = sound.box_cells;
    box_room = sound.box_room;
    held_lists = length-map d.held.lists (without key) ∙ sound.held_lists;
    unread_lists = length-map d.unread.lists (without key) ∙ sound.unread_lists;
    held_limit = sound.held_limit;
    unread_limit = sound.unread_limit;
  }

  module _ (puts : Puts (place_of d.senders) (place_of senders') from None) (count : count_of senders' + 1 ≡ count_of d.senders)
      (slots : List (Option Letter)) (slot : ℕ) (key_is : key ≡ d.width + slot) (once : IsOnce slots)
      (its : passes (is_letter_of from) (get_or slots slot None) ≡ true) where
    living_taken : living (set slots slot None) ≡ filter (λ l. not (is_letter_of from l)) (living slots)
    living_taken = living_gone slots slot from once its

    found_gone : (x : ℕ) (o : Option ℕ) → x ≢ from → IsSlotOf slots x o → IsSlotOf (set slots slot None) x o
    found_gone x None away none =
        let less = ap (λ ls. letters_of ls x) living_taken in
        omega (arith, less, count-filter-le (is_letter_of x) (λ l. not (is_letter_of from l)) (living slots), none)
    found_gone x (Some i) away at = rw (get_or-set_other slots slot i None None elsewhere) at
      where
        elsewhere : i ≢ slot
        elsewhere same =
            let there = has_one (is_letter_of from) (get_or slots slot None) its in
            let here = has_one (is_letter_of x) (get_or slots i None) at in
            let letters : Some there.letter ≡ Some here.letter = sym there.is ∙ ap (λ j. get_or slots j None) (sym same) ∙ here.is in
            let one_letter : there.letter ≡ here.letter = cc in
            away (sym (eqb-true here.letter.from x here.passed) ∙ ap (λ (l : Letter). l.from) (sym one_letter) ∙ eqb-true there.letter.from from there.passed)

    pub IsFiled-taken : IsFiled slots d
        → IsFiled (set slots slot None) (record d { senders = senders'; held = after_remove d.held key; unread = after_remove d.unread key })
    IsFiled-taken was = record {
      found = λ x. elim (cases_eq x from) [
        | inl same ↦ rw (same, puts.here) (ap (λ ls. letters_of ls from) living_taken ∙ count-failed (is_letter_of from) (living slots))
        | inr away ↦ rw (puts.others x away) (found_gone x (place_of d.senders x) away (was.found x))
      ];
      counted =
          let there = has_one (is_letter_of from) (get_or slots slot None) its in
          omega (
            arith,
            count,
            was.counted,
            ap length living_taken,
            length-failed (is_letter_of from) (living slots),
            once from,
            counted_at slots slot there.letter from there.is there.passed,
          );
      held = λ t. keys_removed key d.held (place_of d.boxes t) ∙ ap (without key) (was.held t)
          ∙ sym (keys-out (is_to t) d.width key slots slot None key_is refl);
      unread = λ t. keys_removed key d.unread (place_of d.boxes t) ∙ ap (without key) (was.unread t)
          ∙ sym (keys-out (is_unread_by t) d.width key slots slot None key_is refl);
    }

-- ---- filing one after the other

once_before : (slots : List (Option Letter)) (i : ℕ) (letter : Letter) → get_or slots i None ≡ Some letter
    → letters_of (living (take i slots)) letter.from + 1 ≤ letters_of (living slots) letter.from
once_before [] i letter is = absurd (cc)
once_before (None ∷ slots) zero letter is = absurd (cc)
once_before (Some x ∷ slots) zero letter is =
    let same : x ≡ letter = cc in
    omega (arith, count-cons (is_letter_of letter.from) x (living slots), ap one (eq-eqb x.from letter.from (ap (λ (l : Letter). l.from) same)))
once_before (None ∷ slots) (suc i) letter is = once_before slots i letter is
once_before (Some x ∷ slots) (suc i) letter is = omega (
  arith,
  once_before slots i letter is,
  count-cons (is_letter_of letter.from) x (living slots),
  count-cons (is_letter_of letter.from) x (living (take i slots)),
)

-- a thread without a letter is not found
pub unfiled : (slots : List (Option Letter)) (d : Directory) (x : ℕ) → IsFiled slots d → letters_of (living slots) x ≡ 0 → place_of d.senders x ≡ None
unfiled slots d x was none = by_place (place_of d.senders x) refl (was.found x)
  where
    by_place : (o : Option ℕ) → place_of d.senders x ≡ o → IsSlotOf slots x o → o ≡ None
    by_place None is at = refl
    by_place (Some i) is at =
        let there = has_one (is_letter_of x) (get_or slots i None) at in
        absurd (omega (arith, none, counted_at slots i there.letter x there.is there.passed))

-- a thread with a letter is found
pub some_filed : (slots : List (Option Letter)) (d : Directory) (x slot : ℕ) → IsFiled slots d
    → passes (is_letter_of x) (get_or slots slot None) ≡ true → IsSome (place_of d.senders x)
some_filed slots d x slot was its = by_place (place_of d.senders x) (was.found x)
  where
    by_place : (o : Option ℕ) → IsSlotOf slots x o → IsSome o
    by_place (Some i) at = refl
    by_place None none =
        let there = has_one (is_letter_of x) (get_or slots slot None) its in
        absurd (omega (arith, none, counted_at slots slot there.letter x there.is there.passed))

module _ (slots : List (Option Letter)) (once : IsOnce slots) (d : Directory) (i : ℕ) (within : i < length slots) (was : IsFiled (take i slots) d) where
  pub taken_length : length (take i slots) ≡ i
  taken_length = omega (arith, length-take i slots, within)

  pub few_filed : count_of d.senders ≤ i
  few_filed = omega (arith, was.counted, few_living (take i slots), taken_length)

  pub IsFiled-next_none : get_or slots i None ≡ None → IsFiled (take (i + 1) slots) d
  IsFiled-next_none is = rw (take_more slots i None within, is) (IsFiled-nothing (take i slots) d was)

  pub unfiled_next : (letter : Letter) → get_or slots i None ≡ Some letter → place_of d.senders letter.from ≡ None
  unfiled_next letter is = unfiled (take i slots) d letter.from was (omega (arith, once letter.from, once_before slots i letter is))

  pub next_some : (letter : Letter) → get_or slots i None ≡ Some letter → (d' : Directory) → IsFiled (take i slots ++ Some letter ∷ []) d'
      → IsFiled (take (i + 1) slots) d'
  next_some letter is d' now = rw (take_more slots i None within, is) now
