-- Each change of the links leaves them sound, and the lists changed as said.
use Rattle.lists.proofs.ChainRings.{IsWound-crossed, Spells-before, Spells-push, Spells-without, alone, instead, past_step, toward_step, walk_all}
use Rattle.lists.specs.ChainLinks.{Crosses, Grows, IsRing, IsSound, IsWound, Spells, keys_of, lists_of, next_of, no_link, prev_of}
use Rattle.lists.specs.ChainLists.{Lists, after_clear, after_move_before, after_move_to_back, after_push, after_remove, before, empty_lists, items}
use Rattle.lists.specs.ChainLists.{with_limit, without}
use Rattle.lists.specs.declared.chain_links.Link.{Link}
use Rattle.std.proofs.Common.{Bool, List, None, Some, [], ap, arith, cond, eqb, false, get_or, inl, inr, length, map, max, not, refl, replicate}
use Rattle.std.proofs.Common.{slice_get, subst, suc, sym, true, zero, ℕ, ◌++◌, ◌+◌, ◌<◌, ◌∙◌, ◌∷◌, ◌≡◌, ◌≢◌, ◌≤◌}
use Rattle.std.proofs.lemmas.Bool.{cases_eq, cases_lt, eq-eqb, eqb-false, ne_eqb}
use Rattle.std.proofs.lemmas.List.FromFn.{get_or-map-range_with_len, length-map-range_with_len}
use Rattle.std.specs.List.{AllByRecursion, range_with_len}

-- ---- facts of each element

module _ (P : ℕ → Type 0) where
  All-without : (key : ℕ) (keys : List ℕ) → AllByRecursion P keys → AllByRecursion P (without key keys)
  All-without key [] all = tt
  All-without key (k ∷ keys) all = by_test (eqb k key) (All-without key keys all.1)
    where
      by_test : (t : Bool) → AllByRecursion P (without key keys) → AllByRecursion P (cond (not t) (k ∷ without key keys) (without key keys))
      by_test true rest = rest
      by_test false rest = (all.0, rest)

  All-before : (key other : ℕ) (keys : List ℕ) → P key → AllByRecursion P keys → AllByRecursion P (before key other keys)
  All-before key other [] of_key all = tt
  All-before key other (k ∷ keys) of_key all = by_test (eqb k other) (All-before key other keys of_key all.1)
    where
      by_test : (t : Bool) → AllByRecursion P (before key other keys) → AllByRecursion P (cond t (key ∷ k ∷ before key other keys) (k ∷ before key other keys))
      by_test true rest = (of_key, (all.0, rest))
      by_test false rest = (all.0, rest)

  All-push : (keys : List ℕ) (key : ℕ) → P key → AllByRecursion P keys → AllByRecursion P (keys ++ key ∷ [])
  All-push [] key of_key all = (of_key, tt)
  All-push (k ∷ keys) key of_key all = (all.0, All-push keys key of_key all.1)

All-weaker : (P Q : ℕ → Type 0) → ((k : ℕ) → P k → Q k) → (keys : List ℕ) → AllByRecursion P keys → AllByRecursion Q keys
All-weaker P Q weaker [] all = tt
All-weaker P Q weaker (k ∷ keys) all = (weaker k all.0, All-weaker P Q weaker keys all.1)

All-gone : (key : ℕ) (keys : List ℕ) → AllByRecursion (λ k. k ≢ key) (without key keys)
All-gone key [] = tt
All-gone key (k ∷ keys) = by_test (eqb k key) refl (All-gone key keys)
  where
    by_test : (t : Bool) → eqb k key ≡ t → AllByRecursion (λ k. k ≢ key) (without key keys)
        → AllByRecursion (λ k. k ≢ key) (cond (not t) (k ∷ without key keys) (without key keys))
    by_test true e rest = rest
    by_test false e rest = (eqb-false k key e, rest)

-- keys are no heads
away_from : (heads list : ℕ) → list < heads → (keys : List ℕ) → AllByRecursion (λ k. heads ≤ k) keys → AllByRecursion (λ k. k ≢ list) keys
away_from heads list head keys are_keys = All-weaker (λ k. heads ≤ k) (λ k. k ≢ list) (λ k past same. absurd (omega arith)) keys are_keys

-- ---- lists by their numbers

map-range_same : (f g : ℕ → List ℕ) (h : List ℕ → List ℕ) (a n : ℕ) → ((i : ℕ) → i < a + n → f i ≡ h (g i))
    → map f (range_with_len a n) ≡ map h (map g (range_with_len a n))
map-range_same f g h a zero same = refl
map-range_same f g h a (suc n) same =
    let here : f a ≡ h (g a) = same a (omega arith) in
    let rest = map-range_same f g h (a + 1) n (λ i below. same i (omega arith)) in
    cc

range_same : (f g : ℕ → List ℕ) (a n : ℕ) → ((i : ℕ) → a ≤ i → i < a + n → f i ≡ g i) → map f (range_with_len a n) ≡ map g (range_with_len a n)
range_same f g a zero same = refl
range_same f g a (suc n) same =
    let here : f a ≡ g a = same a (omega arith) (omega arith) in
    let rest = range_same f g (a + 1) n (λ i from below. same i (omega arith) (omega arith)) in
    cc

range_pushed : (f g : ℕ → List ℕ) (key l a n list : ℕ) → a + l ≡ list → l < n → f list ≡ g list ++ key ∷ []
    → ((i : ℕ) → i < a + n → i ≢ list → f i ≡ g i) → map f (range_with_len a n) ≡ after_push l key (map g (range_with_len a n))
range_pushed f g key l a zero list at inside here same = absurd (omega arith)
range_pushed f g key zero a (suc n) list at inside here same =
    let first : a ≡ list = omega arith in
    let pushed_here : f a ≡ g a ++ key ∷ [] = rw first here in
    let rest = range_same f g (a + 1) n (λ i from below. same i (omega arith) (λ is. omega arith)) in
    cc
range_pushed f g key (suc l) a (suc n) list at inside here same =
    let first : f a ≡ g a = same a (omega arith) (λ is. omega arith) in
    let rest = range_pushed f g key l (a + 1) n list (omega arith) (omega arith) here (λ i below. same i (omega arith)) in
    cc

-- ---- one ring

module _ (links : List Link) (heads : ℕ) (few : heads ≤ length links) (wound : IsWound (next_of links) (prev_of links) (length links)) where
  -- what the links spell is what a contract sees
  found : (list : ℕ) (keys : List ℕ) → list < heads → AllByRecursion (λ k. heads ≤ k) keys
      → Spells (next_of links) (next_of links list) keys list → keys_of links list ≡ keys
  unfolding keys_of
  found list keys head are_keys spells =
      walk_all (next_of links) list (length links) wound.next_in (next_of links list) keys (wound.next_in list (omega arith))
      (away_from heads list head keys are_keys) spells

  pub IsRing-found : (list : ℕ) (keys : List ℕ) → list < heads → AllByRecursion (λ k. heads ≤ k) keys
      → Spells (next_of links) (next_of links list) keys list → IsRing (next_of links) heads list (keys_of links list)
  IsRing-found list keys head are_keys spells =
      subst (IsRing (next_of links) heads list) (sym (found list keys head are_keys spells)) (record { closes = spells; are_keys = are_keys })

-- ---- a key leaves its list

module _ (links links' : List Link) (heads key : ℕ) (sound : IsSound links heads) (len : length links' ≡ length links)
    (is_key : heads ≤ key) (key_in : key < length links)
    (crosses : Crosses (next_of links) (prev_of links) (next_of links') (prev_of links') key (prev_of links key)) where
  pub wound_removed : IsWound (next_of links') (prev_of links') (length links')
  wound_removed = rw len (IsWound-crossed _ _ _ _ key (prev_of links key) (length links) sound.wound crosses key_in (sound.wound.prev_in key key_in))

  few_removed : heads ≤ length links'
  few_removed = omega (arith, sound.few)

  keys_removed : (list : ℕ) → list < heads → AllByRecursion (λ k. heads ≤ k) (without key (keys_of links list))
  keys_removed list head = All-without (λ k. heads ≤ k) key (keys_of links list) (sound.rings list head).are_keys

  spells_removed : (list : ℕ) → list < heads → Spells (next_of links') (next_of links' list) (without key (keys_of links list)) list
  spells_removed list head =
      let list_in : list < length links = omega (arith, sound.few) in
      let other : list ≢ key = λ same. absurd (omega arith) in
      rw (past_step _ _ _ _ key (length links) sound.wound crosses key_in list list_in other)
      (Spells-without _ _ _ _ key (length links) sound.wound crosses key_in (next_of links list) (keys_of links list) list
      (sound.wound.next_in list list_in) other (sound.rings list head).closes)

  pub keys_of-removed : (list : ℕ) → list < heads → keys_of links' list ≡ without key (keys_of links list)
  keys_of-removed list head = found links' heads few_removed wound_removed list _ head (keys_removed list head) (spells_removed list head)

  pub IsSound-removed : IsSound links' heads
  IsSound-removed = record {
    few = few_removed;
    wound = wound_removed;
    rings = λ list head. IsRing-found links' heads few_removed wound_removed list _ head (keys_removed list head) (spells_removed list head);
  }

  pub lists_removed : lists_of links' heads ≡ after_remove (lists_of links heads) key
  lists_removed =
      let lists = map-range_same (keys_of links') (keys_of links) (without key) 0 heads (λ list below. keys_of-removed list (omega arith)) in
      cc (lists, len)

  pub alone_removed : next_of links' key ≡ key
  alone_removed = alone _ _ _ _ key (length links) sound.wound crosses key_in

  pub gone_removed : (list : ℕ) → list < heads → AllByRecursion (λ k. k ≢ key) (keys_of links' list)
  gone_removed list head = rw (keys_of-removed list head) (All-gone key (keys_of links list))

-- ---- a key that is in no list joins one

module _ (links links' : List Link) (heads key other : ℕ) (sound : IsSound links heads) (len : length links' ≡ length links)
    (is_key : heads ≤ key) (key_in : key < length links) (other_in : other < length links) (by_itself : next_of links key ≡ key)
    (gone : (list : ℕ) → list < heads → AllByRecursion (λ k. k ≢ key) (keys_of links list))
    (crosses : Crosses (next_of links) (prev_of links) (next_of links') (prev_of links') key (prev_of links other)) where
  wound_joined : IsWound (next_of links') (prev_of links') (length links')
  wound_joined = rw len (IsWound-crossed _ _ _ _ key (prev_of links other) (length links) sound.wound crosses key_in (sound.wound.prev_in other other_in))

  few_joined : heads ≤ length links'
  few_joined = omega (arith, sound.few)

  toward : (list : ℕ) → list < heads → next_of links' list ≡ instead other key (next_of links list)
  toward list head = toward_step _ _ _ _ key other (length links) sound.wound crosses key_in other_in by_itself list
      (omega (arith, sound.few)) (λ same. absurd (omega arith))

  keys_before : (list : ℕ) → list < heads → AllByRecursion (λ k. heads ≤ k) (before key other (keys_of links list))
  keys_before list head = All-before (λ k. heads ≤ k) key other (keys_of links list) is_key (sound.rings list head).are_keys

  spells_before : (list : ℕ) → list < heads → list ≢ other → Spells (next_of links') (next_of links' list) (before key other (keys_of links list)) list
  spells_before list head differs =
      rw (toward list head)
      (Spells-before _ _ _ _ key other (length links) sound.wound crosses key_in other_in by_itself (next_of links list)
      (keys_of links list) list (sound.wound.next_in list (omega (arith, sound.few))) differs (gone list head) (sound.rings list head).closes)

  keys_of-before : (list : ℕ) → list < heads → list ≢ other → keys_of links' list ≡ before key other (keys_of links list)
  keys_of-before list head differs = found links' heads few_joined wound_joined list _ head (keys_before list head) (spells_before list head differs)

  ring_before : (list : ℕ) → list < heads → list ≢ other → IsRing (next_of links') heads list (keys_of links' list)
  ring_before list head differs = IsRing-found links' heads few_joined wound_joined list _ head (keys_before list head) (spells_before list head differs)

  module _ (other_is_key : heads ≤ other) where
    no_head : (list : ℕ) → list < heads → list ≢ other
    no_head list head same = absurd (omega arith)

    pub IsSound-before : IsSound links' heads
    IsSound-before = record { few = few_joined; wound = wound_joined; rings = λ list head. ring_before list head (no_head list head) }

    pub lists_before : lists_of links' heads ≡ record { lists = map (before key other) (lists_of links heads).lists; limit = length links }
    lists_before =
        let lists = map-range_same (keys_of links') (keys_of links) (before key other) 0 heads
        (λ list below. keys_of-before list (omega arith) (no_head list (omega arith))) in
        cc (lists, len)

  module _ (head : other < heads) where
    keys_push : AllByRecursion (λ k. heads ≤ k) (keys_of links other ++ key ∷ [])
    keys_push = All-push (λ k. heads ≤ k) (keys_of links other) key is_key (sound.rings other head).are_keys

    spells_push : Spells (next_of links') (next_of links' other) (keys_of links other ++ key ∷ []) other
    spells_push =
        let ring = sound.rings other head in
        rw (toward other head)
        (Spells-push _ _ _ _ key other (length links) sound.wound crosses key_in other_in by_itself (next_of links other)
        (keys_of links other) (sound.wound.next_in other other_in) (gone other head)
        (away_from heads other head (keys_of links other) ring.are_keys) ring.closes)

    keys_of-push : keys_of links' other ≡ keys_of links other ++ key ∷ []
    keys_of-push = found links' heads few_joined wound_joined other _ head keys_push spells_push

    -- no list but that one has its head
    before_none : (keys : List ℕ) → AllByRecursion (λ k. heads ≤ k) keys → before key other keys ≡ keys
    before_none [] are_keys = refl
    before_none (k ∷ keys) are_keys =
        let differs : eqb k other ≡ false = ne_eqb k other (λ same. absurd (omega (arith, are_keys.0))) in
        rw differs (ap (λ ks. k ∷ ks) (before_none keys are_keys.1))

    pub IsSound-push : IsSound links' heads
    IsSound-push = record {
      few = few_joined;
      wound = wound_joined;
      rings = λ list below. elim (cases_eq list other) [
        | inl same ↦ rw same (IsRing-found links' heads few_joined wound_joined other _ head keys_push spells_push)
        | inr differs ↦ ring_before list below differs
      ];
    }

    pub lists_push : lists_of links' heads ≡ record { lists = after_push other key (lists_of links heads).lists; limit = length links }
    lists_push =
        let lists = range_pushed (keys_of links') (keys_of links) key other 0 heads other (omega arith) head keys_of-push
        (λ list below differs. keys_of-before list (omega arith) differs ∙ before_none _ (sound.rings list (omega arith)).are_keys) in
        cc (lists, len)

-- ---- what a contract sees

pub list_count : (links : List Link) (heads : ℕ) → length (lists_of links heads).lists ≡ heads
list_count links heads = length-map-range_with_len (keys_of links) 0 heads

-- ---- a key leaves its list and joins another

module _ (links links₁ links₂ : List Link) (heads key other : ℕ) (sound : IsSound links heads) (len₁ : length links₁ ≡ length links)
    (len₂ : length links₂ ≡ length links₁) (is_key : heads ≤ key) (key_in : key < length links) (other_in : other < length links)
    (out : Crosses (next_of links) (prev_of links) (next_of links₁) (prev_of links₁) key (prev_of links key))
    (into : Crosses (next_of links₁) (prev_of links₁) (next_of links₂) (prev_of links₂) key (prev_of links₁ other)) where
  between : IsSound links₁ heads
  between = IsSound-removed links links₁ heads key sound len₁ is_key key_in out

  by_itself : next_of links₁ key ≡ key
  by_itself = alone_removed links links₁ heads key sound len₁ is_key key_in out

  gone : (list : ℕ) → list < heads → AllByRecursion (λ k. k ≢ key) (keys_of links₁ list)
  gone = gone_removed links links₁ heads key sound len₁ is_key key_in out

  left : lists_of links₁ heads ≡ after_remove (lists_of links heads) key
  left = lists_removed links links₁ heads key sound len₁ is_key key_in out

  key_in₁ : key < length links₁
  key_in₁ = rw len₁ key_in

  other_in₁ : other < length links₁
  other_in₁ = rw len₁ other_in

  pub IsSound-moved_to_back : other < heads → IsSound links₂ heads
  IsSound-moved_to_back head = IsSound-push links₁ links₂ heads key other between len₂ is_key key_in₁ other_in₁ by_itself gone into head

  pub lists_moved_to_back : other < heads → lists_of links₂ heads ≡ after_move_to_back (lists_of links heads) other key
  lists_moved_to_back head =
      let push = lists_push links₁ links₂ heads key other between len₂ is_key key_in₁ other_in₁ by_itself gone into head in
      push ∙ ap (λ (s : Lists). record { lists = after_push other key s.lists; limit = s.limit }) left

  pub IsSound-moved_before : heads ≤ other → IsSound links₂ heads
  IsSound-moved_before other_is_key = IsSound-before links₁ links₂ heads key other between len₂ is_key key_in₁ other_in₁ by_itself gone into other_is_key

  pub lists_moved_before : heads ≤ other → lists_of links₂ heads ≡ after_move_before (lists_of links heads) key other
  lists_moved_before other_is_key =
      lists_before links₁ links₂ heads key other between len₂ is_key key_in₁ other_in₁ by_itself gone into other_is_key
      ∙ ap (λ (s : Lists). record { lists = map (before key other) s.lists; limit = s.limit }) left

-- ---- a key that is the last of its list already

module _ (links : List Link) (heads key list : ℕ) (sound : IsSound links heads) (is_key : heads ≤ key) (key_in : key < length links)
    (head : list < heads) (last : prev_of links list ≡ key) where
  -- it leads to the head of its list
  leads : next_of links key ≡ list
  leads = ap (next_of links) (sym last) ∙ sound.wound.back list (omega (arith, sound.few))

  -- so none comes after it
  none_behind : (at : ℕ) (keys : List ℕ) (end : ℕ) → AllByRecursion (λ k. heads ≤ k) keys → Spells (next_of links) at keys end → at ≡ list → keys ≡ []
  none_behind at [] end are_keys spells same = refl
  none_behind at (k ∷ keys) end are_keys spells same = absurd (omega (arith, are_keys.0, spells.0, same, head))

  -- and no other list has it
  elsewhere : (at : ℕ) (keys : List ℕ) (end : ℕ) → AllByRecursion (λ k. heads ≤ k) keys → Spells (next_of links) at keys end → end ≢ list
      → without key keys ≡ keys
  elsewhere at [] end are_keys spells away = refl
  elsewhere at (k ∷ keys) end are_keys spells away = elim (cases_eq k key) [
    | inl same ↦
        let ends : next_of links k ≡ list = ap (next_of links) same ∙ leads in
        let none : keys ≡ [] = none_behind (next_of links k) keys end are_keys.1 spells.1 ends in
        absurd (away (sym (rw none at spells.1) ∙ ends))
    | inr differs ↦ rw (ne_eqb k key differs) (ap (λ ks. k ∷ ks) (elsewhere (next_of links k) keys end are_keys.1 spells.1 away))
  ]

  at_end : (at : ℕ) (keys : List ℕ) → at < length links → AllByRecursion (λ k. heads ≤ k) keys → Spells (next_of links) at keys list
      → at ≢ list → without key keys ++ key ∷ [] ≡ keys
  at_end at [] at_in are_keys spells away = absurd (away spells)
  at_end at (k ∷ keys) at_in are_keys spells away = elim (cases_eq k key) [
    | inl same ↦
        let none : keys ≡ [] = none_behind (next_of links k) keys list are_keys.1 spells.1 (ap (next_of links) same ∙ leads) in
        rw (none, eq-eqb k key same, same) refl
    | inr differs ↦
        let k_in : k < length links = rw (← spells.0) at_in in
        let on : next_of links k ≢ list = λ ends. differs (sym (sound.wound.there k k_in) ∙ ap (prev_of links) ends ∙ last) in
        rw (ne_eqb k key differs) (ap (λ ks. k ∷ ks) (at_end (next_of links k) keys (sound.wound.next_in k k_in) are_keys.1 spells.1 on))
  ]

  keys_here : keys_of links list ≡ without key (keys_of links list) ++ key ∷ []
  keys_here =
      let list_in : list < length links = omega (arith, sound.few) in
      let away : next_of links list
      ≢ list = λ alone. absurd (omega (arith, sym (sound.wound.there list list_in) ∙ ap (prev_of links) alone ∙ last, is_key, head)) in
      sym (at_end (next_of links list) (keys_of links list) (sound.wound.next_in list list_in) (sound.rings list head).are_keys
      (sound.rings list head).closes away)

  keys_there : (other : ℕ) → other < heads → other ≢ list → keys_of links other ≡ without key (keys_of links other)
  keys_there other below differs =
      sym (elsewhere (next_of links other) (keys_of links other) other (sound.rings other below).are_keys (sound.rings other below).closes differs)

  pub lists_stay : lists_of links heads ≡ after_move_to_back (lists_of links heads) list key
  lists_stay =
      let each = map-range_same (λ l. without key (keys_of links l)) (keys_of links) (without key) 0 heads (λ l below. refl) in
      let lists = range_pushed (keys_of links) (λ l. without key (keys_of links l)) key list 0 heads list (omega arith) head keys_here
      (λ l below differs. keys_there l (omega arith) differs) in
      ap (λ ls. record { lists = ls; limit = length links }) (lists ∙ ap (after_push list key) each)

-- ---- further places

module _ (links links' : List Link) (wound : IsWound (next_of links) (prev_of links) (length links)) (grows : Grows links links')
    (longer : length links ≤ length links') where
  next_kept : (x : ℕ) → x < length links → next_of links' x ≡ next_of links x
  next_kept x x_in = ap (λ (link : Link). link.next) (grows.kept x x_in)

  prev_kept : (x : ℕ) → x < length links → prev_of links' x ≡ prev_of links x
  prev_kept x x_in = ap (λ (link : Link). link.prev) (grows.kept x x_in)

  next_alone : (x : ℕ) → length links ≤ x → x < length links' → next_of links' x ≡ x
  next_alone x past x_in = ap (λ (link : Link). link.next) (grows.alone x past x_in)

  prev_alone : (x : ℕ) → length links ≤ x → x < length links' → prev_of links' x ≡ x
  prev_alone x past x_in = ap (λ (link : Link). link.prev) (grows.alone x past x_in)

  pub IsWound-grown : IsWound (next_of links') (prev_of links') (length links')
  IsWound-grown = record {
    next_in = λ x x_in. elim (cases_lt x (length links)) [
      | inl old ↦ omega (arith, next_kept x old, wound.next_in x old)
      | inr new ↦ omega (arith, next_alone x new x_in)
    ];
    prev_in = λ x x_in. elim (cases_lt x (length links)) [
      | inl old ↦ omega (arith, prev_kept x old, wound.prev_in x old)
      | inr new ↦ omega (arith, prev_alone x new x_in)
    ];
    there = λ x x_in. elim (cases_lt x (length links)) [
      | inl old ↦ ap (prev_of links') (next_kept x old) ∙ prev_kept _ (wound.next_in x old) ∙ wound.there x old
      | inr new ↦ ap (prev_of links') (next_alone x new x_in) ∙ prev_alone x new x_in
    ];
    back = λ x x_in. elim (cases_lt x (length links)) [
      | inl old ↦ ap (next_of links') (prev_kept x old) ∙ next_kept _ (wound.prev_in x old) ∙ wound.back x old
      | inr new ↦ ap (next_of links') (prev_alone x new x_in) ∙ next_alone x new x_in
    ];
  }

  Spells-grown : (at : ℕ) (keys : List ℕ) (end : ℕ) → at < length links → Spells (next_of links) at keys end → Spells (next_of links') at keys end
  Spells-grown at [] end at_in spells = spells
  Spells-grown at (k ∷ keys) end at_in spells =
      let k_in : k < length links = rw (← spells.0) at_in in
      (spells.0, rw (next_kept k k_in) (Spells-grown (next_of links k) keys end (wound.next_in k k_in) spells.1))

module _ (links links' : List Link) (heads : ℕ) (sound : IsSound links heads) (grows : Grows links links') (longer : length links ≤ length links') where
  wound_grown : IsWound (next_of links') (prev_of links') (length links')
  wound_grown = IsWound-grown links links' sound.wound grows longer

  few_grown : heads ≤ length links'
  few_grown = omega (arith, sound.few)

  spells_grown : (list : ℕ) → list < heads → Spells (next_of links') (next_of links' list) (keys_of links list) list
  spells_grown list head =
      let list_in : list < length links = omega (arith, sound.few) in
      rw (next_kept links links' sound.wound grows longer list list_in)
      (Spells-grown links links' sound.wound grows longer (next_of links list) (keys_of links list) list (sound.wound.next_in list list_in)
      (sound.rings list head).closes)

  pub IsSound-grown : IsSound links' heads
  IsSound-grown = record {
    few = few_grown;
    wound = wound_grown;
    rings = λ list head. IsRing-found links' heads few_grown wound_grown list _ head (sound.rings list head).are_keys (spells_grown list head);
  }

  pub lists_grown : lists_of links' heads ≡ with_limit (lists_of links heads) (length links')
  lists_grown =
      let lists = range_same (keys_of links') (keys_of links) 0 heads (λ list from below.
      found links' heads few_grown wound_grown list _ (omega arith) (sound.rings list (omega arith)).are_keys (spells_grown list (omega arith))) in
      let limit : max (length links) (length links') ≡ length links' = omega arith in
      rw (lists, limit) refl

module _ (links : List Link) (grows : Grows [] links) where
  wound_new : IsWound (next_of links) (prev_of links) (length links)
  wound_new = IsWound-grown [] links
      (record {
        next_in = λ x none. absurd (omega arith);
        prev_in = λ x none. absurd (omega arith);
        there = λ x none. absurd (omega arith);
        back = λ x none. absurd (omega arith);
      })
      grows (omega arith)

  spells_new : (list : ℕ) → list < length links → Spells (next_of links) (next_of links list) [] list
  spells_new list head = ap (λ (link : Link). link.next) (grows.alone list (omega arith) head)

  pub IsSound-new : IsSound links (length links)
  IsSound-new = record {
    few = omega arith;
    wound = wound_new;
    rings = λ list head. IsRing-found links (length links) (omega arith) wound_new list [] head tt (spells_new list head);
  }

  range_empty : (f : ℕ → List ℕ) (a n : ℕ) → ((i : ℕ) → i < a + n → f i ≡ []) → map f (range_with_len a n) ≡ replicate n []
  range_empty f a zero empty = refl
  range_empty f a (suc n) empty =
      let here : f a ≡ [] = empty a (omega arith) in
      let rest = range_empty f (a + 1) n (λ i below. empty i (omega arith)) in
      cc

  pub lists_new : lists_of links (length links) ≡ empty_lists (length links)
  lists_new =
      let lists = range_empty (keys_of links) 0 (length links)
      (λ list below. found links (length links) (omega arith) wound_new list [] (omega arith) tt (spells_new list (omega arith))) in
      rw lists refl

-- ---- each place leads to itself

module _ (links : List Link) (heads : ℕ) (few : heads ≤ length links) (alone : (x : ℕ) → x < length links
    → get_or links x no_link ≡ record { next = x; prev = x }) where
  grows_reset : Grows [] links
  grows_reset = record { kept = λ x none. absurd (omega arith); alone = λ x none inside. alone x inside }

  wound_reset : IsWound (next_of links) (prev_of links) (length links)
  wound_reset = wound_new links grows_reset

  spells_reset : (list : ℕ) → list < heads → Spells (next_of links) (next_of links list) [] list
  spells_reset list head = spells_new links grows_reset list (omega (arith, head, few))

  pub IsSound-reset : IsSound links heads
  IsSound-reset = record {
    few = few;
    wound = wound_reset;
    rings = λ list head. IsRing-found links heads few wound_reset list [] head tt (spells_reset list head);
  }

  pub lists_reset : (old : List Link) → length links ≡ length old → lists_of links heads ≡ after_clear (lists_of old heads)
  lists_reset old len =
      let lists = map-range_same (keys_of links) (keys_of old) (λ keys. []) 0 heads
      (λ list below. found links heads few wound_reset list [] (omega arith) tt (spells_reset list (omega arith))) in
      rw (lists, len) refl

-- ---- the first key of a list

module _ (links : List Link) (heads list : ℕ) (sound : IsSound links heads) (head : list < heads) where
  pub list_in : list < length links
  list_in = omega (arith, sound.few)

  pub items_of : items (lists_of links heads) list ≡ keys_of links list
  items_of = get_or-map-range_with_len (keys_of links) 0 heads list list [] head (omega arith)

  none_spelled : (at : ℕ) (keys : List ℕ) → AllByRecursion (λ k. heads ≤ k) keys → Spells (next_of links) at keys list → at ≡ list → slice_get keys 0 ≡ None
  none_spelled at [] are_keys spells same = refl
  none_spelled at (k ∷ keys) are_keys spells same = absurd (omega (arith, are_keys.0, spells.0, head))

  some_spelled : (at : ℕ) (keys : List ℕ) → AllByRecursion (λ k. heads ≤ k) keys → Spells (next_of links) at keys list → at ≢ list
      → (slice_get keys 0 ≡ Some at) × (heads ≤ at)
  some_spelled at [] are_keys spells differs = absurd (differs spells)
  some_spelled at (k ∷ keys) are_keys spells differs = (ap Some (sym spells.0), omega (arith, are_keys.0, spells.0))

  pub first_none : next_of links list ≡ list → slice_get (items (lists_of links heads) list) 0 ≡ None
  first_none same = rw items_of (none_spelled _ _ (sound.rings list head).are_keys (sound.rings list head).closes same)

  pub first_some : next_of links list ≢ list → (slice_get (items (lists_of links heads) list) 0 ≡ Some (next_of links list)) × (heads ≤ next_of links list)
  first_some differs = rw items_of (some_spelled _ _ (sound.rings list head).are_keys (sound.rings list head).closes differs)

  -- after a key of the list come the keys that follow it

  spelled_behind : (at : ℕ) (front back : List ℕ) (key : ℕ) → Spells (next_of links) at (front ++ key ∷ back) list
      → Spells (next_of links) (next_of links key) back list
  spelled_behind at [] back key spells = spells.1
  spelled_behind at (k ∷ front) back key spells = spelled_behind (next_of links k) front back key spells.1

  keys_behind : (front back : List ℕ) (key : ℕ) → AllByRecursion (λ k. heads ≤ k) (front ++ key ∷ back) → AllByRecursion (λ k. heads ≤ k) back
  keys_behind [] back key all = all.1
  keys_behind (k ∷ front) back key all = keys_behind front back key all.1

  module _ (front back : List ℕ) (key : ℕ) (is : items (lists_of links heads) list ≡ front ++ key ∷ back) where
    split : keys_of links list ≡ front ++ key ∷ back
    split = sym items_of ∙ is

    closes_behind : Spells (next_of links) (next_of links key) back list
    closes_behind = spelled_behind (next_of links list) front back key (rw split at (sound.rings list head).closes)

    are_behind : AllByRecursion (λ k. heads ≤ k) back
    are_behind = keys_behind front back key (rw split at (sound.rings list head).are_keys)

    pub behind_none : next_of links key ≡ list → None ≡ slice_get back 0
    behind_none same = sym (none_spelled (next_of links key) back are_behind closes_behind same)

    pub behind_some : next_of links key ≢ list → Some (next_of links key) ≡ slice_get back 0
    behind_some differs = sym (some_spelled (next_of links key) back are_behind closes_behind differs).0
