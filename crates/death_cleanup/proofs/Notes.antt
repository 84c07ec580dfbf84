-- The note of those that wait by name, as the living change.
use Rattle.death_cleanup.proofs.Living.{later-absent}
use Rattle.death_cleanup.proofs.Orders.{same-run}
use Rattle.death_cleanup.specs.Moves.{pair_with_block, kind_with_marks, kind_with_block, pair_with_stack}
use Rattle.death_cleanup.specs.Named.{IsNoteOf, NameNote, are_all_noted, block_name, covers, is_on, is_one}
use Rattle.death_cleanup.specs.Named.{is_wait, kind_name, named_wait, run_number, run_of, threads_in}
use Rattle.death_cleanup.specs.View.{known_of, row_onto, rows_of}
use Rattle.death_cleanup.specs.Waits.{block_waits, waits_for}
use Rattle.death_cleanup.specs.declared.rows.Awaited.{Awaited}
use Rattle.death_cleanup.specs.declared.rows.Awaited.TheVariants as awaited
use Rattle.death_cleanup.specs.declared.rows.Kind.{Kind}
use Rattle.death_cleanup.specs.declared.rows.Kind.TheVariants as kind
use Rattle.death_cleanup.specs.declared.rows.NamedWait.{NamedWait}
use Rattle.lwp_types.specs.CountLaws.{count-cons, count-filter-le, count-map, count-push, count_agree, one}
use Rattle.lwp_types.specs.declared.rows.Block.{Block}
use Rattle.lwp_types.specs.declared.rows.Block.TheVariants as block
use Rattle.lwp_types.specs.declared.rows.Mark.{Mark}
use Rattle.pod_sched.specs.declared.rows.Known.{Known}
use Rattle.pod_laws.proofs.Elements.{all_filter, all_map, all_push, all_weaker}
use Rattle.stale_ids.specs.Register.{AreRising, value_of, without}
use Rattle.std.proofs.Common.{Bool, List, None, Option, Some, [], ap, arith, cond, eqb, false, inl, inr, length}
use Rattle.std.proofs.Common.{map, not, refl, sym, true, ℕ, ◌*◌, ◌++◌, ◌+◌, ◌||◌, ◌∙◌, ◌∷◌, ◌≡◌, ◌≤◌, ◌⊎◌}
use Rattle.std.proofs.lemmas.Bool.{and_from, and_parts, cases_eq, eq-eqb, eqb-true, ne_eqb, or_right}
use Rattle.std.specs.List.{filter, list_all, list_any}
use Rattle.std.specs.List.Retain.{IsFiltered, ReturnsInTurn}

-- as many threads live after these changes

block-one : (t : ℕ) (b : Block) (live : ℕ × Kind) → is_one (pair_with_block t b live).1 ≡ is_one live.1
block-one t b live = by_test (eqb live.0 t) live.1
  where
    by_test : (c : Bool) (k : Kind) → is_one (cond c (kind_with_block b k) k) ≡ is_one k
    by_test true (kind.Thread rec) = refl
    by_test true kind.Agent = refl
    by_test false k = refl

stack-one : (t : ℕ) (ms : List Mark) (live : ℕ × Kind) → is_one (pair_with_stack t ms live).1 ≡ is_one live.1
stack-one t ms live = by_test (eqb live.0 t) live.1
  where
    by_test : (c : Bool) (k : Kind) → is_one (cond c (kind_with_marks ms k) k) ≡ is_one k
    by_test true (kind.Thread rec) = refl
    by_test true kind.Agent = refl
    by_test false k = refl

as-many : (f : ℕ × Kind → ℕ × Kind) → ((live : ℕ × Kind) → is_one (f live).1 ≡ is_one live.1) → (living : List (ℕ × Kind))
    → threads_in (map f living) ≡ threads_in living
as-many f same living = count-map (λ (live : ℕ × Kind). is_one live.1) f living
    ∙ count_agree (λ (live : ℕ × Kind). is_one (f live).1) (λ (live : ℕ × Kind). is_one live.1) same living

-- the threads are those of the machine's state
pub threads-rows : (p : ℕ) (known : List Known) (living : List (ℕ × Kind)) → length (rows_of p known living) ≡ threads_in living
threads-rows p known [] = refl
threads-rows p known (live ∷ living) = omega (arith, by_kind live.1, count-cons (λ (l : ℕ × Kind). is_one l.1) live living, threads-rows p known living)
  where
    by_kind : (k : Kind) → length (row_onto (known_of p known live.0) live.0 k (rows_of p known living)) ≡ one (is_one k) + length (rows_of p known living)
    by_kind (kind.Thread rec) = omega arith
    by_kind kind.Agent = omega arith

module _ (note : NameNote) where
  abbrev noted_live : ℕ × Kind → Bool
  noted_live live = covers note.waits live.0 (kind_name live.1)

  -- a thread waits for something that is noted, or not by name
  pub noted-block : (t : ℕ) (b : Block) → covers note.waits t (block_name b) ≡ true → (living : List (ℕ × Kind)) → IsNoteOf note living
      → IsNoteOf note (map (pair_with_block t b) living)
  noted-block t b here living was = record {
    noted = all_map noted_live noted_live (pair_with_block t b) (λ live h. one_live live.0 live.1 (cases_eq live.0 t) h) living was.noted;
    room = omega (arith, as-many (pair_with_block t b) (block-one t b) living, was.room);
  }
    where
      set_kind : (n : ℕ) (k : Kind) → covers note.waits n (block_name b) ≡ true → covers note.waits n (kind_name (kind_with_block b k)) ≡ true
      set_kind n (kind.Thread rec) h = h
      set_kind n kind.Agent h = refl

      one_live : (n : ℕ) (k : Kind) → (n ≡ t) ⊎ (n ≡ t → ⊥) → covers note.waits n (kind_name k) ≡ true
          → covers note.waits n (kind_name (cond (eqb n t) (kind_with_block b k) k)) ≡ true
      one_live n k (inl same) h = rw (eq-eqb n t same) (set_kind n k (rw same here))
      one_live n k (inr away) h = rw (ne_eqb n t away) h

  -- other marks
  pub noted-stack : (t : ℕ) (ms : List Mark) (living : List (ℕ × Kind)) → IsNoteOf note living → IsNoteOf note (map (pair_with_stack t ms) living)
  noted-stack t ms living was = record {
    noted = all_map noted_live noted_live (pair_with_stack t ms) (λ live h. one_live live.0 live.1 (eqb live.0 t) h) living was.noted;
    room = omega (arith, as-many (pair_with_stack t ms) (stack-one t ms) living, was.room);
  }
    where
      marked : (n : ℕ) (k : Kind) → covers note.waits n (kind_name k) ≡ true → covers note.waits n (kind_name (kind_with_marks ms k)) ≡ true
      marked n (kind.Thread rec) h = h
      marked n kind.Agent h = h

      one_live : (n : ℕ) (k : Kind) (c : Bool) → covers note.waits n (kind_name k) ≡ true
          → covers note.waits n (kind_name (cond c (kind_with_marks ms k) k)) ≡ true
      one_live n k true h = marked n k h
      one_live n k false h = h

  pub noted-removed : (t : ℕ) (living : List (ℕ × Kind)) → IsNoteOf note living → IsNoteOf note (without t living)
  noted-removed t living was = record {
    noted = all_filter noted_live noted_live (λ live. not (eqb live.0 t)) (λ live keep h. h) living was.noted;
    room = omega (arith, count-filter-le (λ (live : ℕ × Kind). is_one live.1) (λ (live : ℕ × Kind). not (eqb live.0 t)) living, was.room);
  }

  -- a newborn doesn't wait; there is room for the waits of a thread more
  pub noted-born : (n : ℕ) (k : Kind) → covers note.waits n (kind_name k) ≡ true → (living : List (ℕ × Kind)) → IsNoteOf note living
      → 2 * (threads_in living + one (is_one k)) ≤ note.places → IsNoteOf note (living ++ (n, k) ∷ [])
  noted-born n k here living was room = record {
    noted = all_push noted_live living (n, k) was.noted here;
    room = omega (arith, count-push (λ (live : ℕ × Kind). is_one live.1) living (n, k), room);
  }

-- with more room
pub noted-roomier : (note : NameNote) (places : ℕ) (living : List (ℕ × Kind)) → note.places ≤ places → IsNoteOf note living
    → IsNoteOf (record note { places = places }) living
noted-roomier note places living more was = record { noted = was.noted; room = omega (arith, was.room, more) }

-- one that is found passes what all pass, and the other way round
pub looked : (p : ℕ → Kind → Bool) (living : List (ℕ × Kind)) → list_all (λ live. p live.0 live.1) living ≡ true → (n : ℕ) (k : Kind)
    → value_of n living ≡ Some k → p n k ≡ true
looked p [] all n k is = absurd (cc)
looked p (live ∷ living) all n k is =
    let parts = and_parts (p live.0 live.1) (list_all (λ l. p l.0 l.1) living) all in
    elim (cases_eq live.0 n) [
      | inl same ↦ let own : Some live.1 ≡ Some k = (rw (eq-eqb live.0 n same) at is) in let kind_is : live.1 ≡ k = cc in rw (sym same, sym kind_is) parts.0
      | inr away ↦ looked p living parts.1 n k (rw (ne_eqb live.0 n away) at is)
    ]

pub all_looked : (p : ℕ → Kind → Bool) (living : List (ℕ × Kind)) → AreRising living
    → ((n : ℕ) (k : Kind) → value_of n living ≡ Some k → p n k ≡ true) → list_all (λ live. p live.0 live.1) living ≡ true
all_looked p [] rising each = refl
all_looked p (live ∷ living) rising each =
    and_from _ _ (each live.0 live.1 (rw (eq-eqb live.0 live.0 refl) refl))
    (all_looked p living rising.1 (λ n k is. each n k (rw (ne_eqb live.0 n (λ same. gone n k same is)) is)))
  where
    gone : (n : ℕ) (k : Kind) → live.0 ≡ n → value_of n living ≡ Some k → ⊥
    gone n k same is = let none : value_of n living ≡ None = later-absent n living (rw (sym same) rising.0) in
        let no : None ≡ Some k = sym none ∙ is in absurd (cc)

-- what a thread waits for, and whom it names
pub named-by : (what : Awaited) (t : ℕ) (k : Kind) → waits_for what t k ≡ true → kind_name k ≡ Some (what, t)
named-by what t kind.Agent h = absurd (cc)
named-by what t (kind.Thread rec) h = by_block what rec.block h
  where
    by_block : (w : Awaited) (b : Block) → block_waits w t b ≡ true → block_name b ≡ Some (w, t)
    by_block awaited.Death block.Not h = absurd (cc)
    by_block awaited.Death (block.Joining u) h = ap (λ n. Some (awaited.Death, n)) (eqb-true u t h)
    by_block awaited.Death block.Sending h = absurd (cc)
    by_block awaited.Death (block.Receiving o) h = absurd (cc)
    by_block awaited.Death (block.Entering m) h = absurd (cc)
    by_block awaited.Death (block.Waiting c) h = absurd (cc)
    by_block awaited.Death block.Sleeping h = absurd (cc)
    by_block awaited.Letter block.Not h = absurd (cc)
    by_block awaited.Letter (block.Joining u) h = absurd (cc)
    by_block awaited.Letter block.Sending h = absurd (cc)
    by_block awaited.Letter (block.Receiving None) h = absurd (cc)
    by_block awaited.Letter (block.Receiving (Some u)) h = ap (λ n. Some (awaited.Letter, n)) (eqb-true u t h)
    by_block awaited.Letter (block.Entering m) h = absurd (cc)
    by_block awaited.Letter (block.Waiting c) h = absurd (cc)
    by_block awaited.Letter block.Sleeping h = absurd (cc)

pub waits-named : (k : Kind) (name : Awaited × ℕ) → kind_name k ≡ Some name → waits_for name.0 name.1 k ≡ true
waits-named kind.Agent name e = absurd (cc)
waits-named (kind.Thread rec) name e = by_block rec.block e
  where
    by_block : (b : Block) → block_name b ≡ Some name → block_waits name.0 name.1 b ≡ true
    by_block block.Not e = absurd (cc)
    by_block (block.Joining u) e = let same : (awaited.Death, u) ≡ name = cc in rw (sym same) (eq-eqb u u refl)
    by_block block.Sending e = absurd (cc)
    by_block (block.Receiving None) e = absurd (cc)
    by_block (block.Receiving (Some u)) e = let same : (awaited.Letter, u) ≡ name = cc in rw (sym same) (eq-eqb u u refl)
    by_block (block.Entering m) e = absurd (cc)
    by_block (block.Waiting c) e = absurd (cc)
    by_block block.Sleeping e = absurd (cc)

-- the wait of a thread that waits so goes on
is-on-named : (living : List (ℕ × Kind)) (n : ℕ) (k : Kind) (name : Awaited × ℕ) → value_of n living ≡ Some k → kind_name k ≡ Some name
    → (w : NamedWait) → is_wait (run_number name.0 name.1) n w ≡ true → is_on living w ≡ true
is-on-named living n k name is e w here =
    let both = and_parts (eqb w.tid n) (eqb (run_of w) (run_number name.0 name.1)) here in
    let same = same-run w.what name.0 w.of name.1 (eqb-true (run_of w) (run_number name.0 name.1) both.1) in
    rw (eqb-true w.tid n both.0, is, same.0, same.1) (waits-named k name e)

any_kept : {X : Type 0} (p keep : X → Bool) → ((x : X) → p x ≡ true → keep x ≡ true) → (xs : List X) → list_any p xs ≡ true → list_any p (filter keep xs) ≡ true
any_kept p keep imp [] h = h
any_kept p keep imp (x ∷ xs) h = by_here (p x) refl h (λ rest. any_kept p keep imp xs rest)
  where
    by_keep : (c : Bool) → list_any p (filter keep xs) ≡ true → list_any p (cond c (x ∷ filter keep xs) (filter keep xs)) ≡ true
    by_keep true rest = or_right (p x) _ rest
    by_keep false rest = rest

    by_here : (c : Bool) → p x ≡ c → (c || list_any p xs) ≡ true → (list_any p xs ≡ true → list_any p (filter keep xs) ≡ true)
        → list_any p (cond (keep x) (x ∷ filter keep xs) (filter keep xs)) ≡ true
    by_here true e h later = rw (imp x e, e) refl
    by_here false e h later = by_keep (keep x) (later h)

-- other waits are noted, which have those of the threads that wait
noted-waits : (waits others : List NamedWait) (living : List (ℕ × Kind)) → AreRising living
    → ((n : ℕ) (k : Kind) (name : Awaited × ℕ) → value_of n living ≡ Some k → kind_name k ≡ Some name
    → list_any (is_wait (run_number name.0 name.1) n) waits ≡ true → list_any (is_wait (run_number name.0 name.1) n) others ≡ true)
    → are_all_noted waits living ≡ true → are_all_noted others living ≡ true
noted-waits waits others living rising has all = all_looked (λ n k. covers others n (kind_name k)) living rising
    (λ n k is. by_name n k is (kind_name k) refl (looked (λ m l. covers waits m (kind_name l)) living all n k is))
  where
    by_name : (n : ℕ) (k : Kind) → value_of n living ≡ Some k → (o : Option (Awaited × ℕ)) → kind_name k ≡ o → covers waits n o ≡ true
        → covers others n o ≡ true
    by_name n k is None e h = refl
    by_name n k is (Some name) e h = has n k name is e h

-- what each answer of a test tells is so, if anything was tested
module _ {X F : Type 0} (R : F → X → Bool → F → Type 0) (Q : Type 0) (f : F) (tells : (x : X) (b : Bool) (f' : F) → R f x b f' → Q) where
  by_first : (bs : List Bool) (xs : List X) (q : F) → length bs ≡ length xs → ReturnsInTurn R f bs xs q → 1 ≤ length xs → Q
  by_first [] [] q same told some = absurd (omega (arith, some))
  by_first [] (x ∷ xs) q same told some = absurd (omega (arith, same))
  by_first (b ∷ bs) [] q same told some = absurd told
  by_first (b ∷ bs) (x ∷ xs) q same told some = tells x b told.0 told.1

  pub tested : (xs ys : List X) → IsFiltered R f xs ys → 1 ≤ length xs → Q
  tested xs ys filtered some = by_first filtered.0 xs filtered.1 filtered.2 filtered.3 some

-- without the waits that go on no longer
pub noted-pruned : (waits : List NamedWait) (living : List (ℕ × Kind)) → AreRising living → are_all_noted waits living ≡ true
    → are_all_noted (filter (is_on living) waits) living ≡ true
noted-pruned waits living rising all = noted-waits waits (filter (is_on living) waits) living rising
    (λ n k name is e h. any_kept (is_wait (run_number name.0 name.1) n) (is_on living) (is-on-named living n k name is e) waits h) all

-- a wait that goes on no longer is left out
pub noted-left : (waits less : List NamedWait) (w : NamedWait) (living : List (ℕ × Kind)) → AreRising living → is_on living w ≡ false
    → ((r n : ℕ) → is_wait r n w ≡ false → list_any (is_wait r n) waits ≡ true → list_any (is_wait r n) less ≡ true)
    → are_all_noted waits living ≡ true → are_all_noted less living ≡ true
noted-left waits less w living rising off others all = noted-waits waits less living rising
    (λ n k name is e h. others (run_number name.0 name.1) n (by_test n k name is e (is_wait (run_number name.0 name.1) n w) refl) h) all
  where
    by_test : (n : ℕ) (k : Kind) (name : Awaited × ℕ) → value_of n living ≡ Some k → kind_name k ≡ Some name → (c : Bool)
        → is_wait (run_number name.0 name.1) n w ≡ c → is_wait (run_number name.0 name.1) n w ≡ false
    by_test n k name is e false other = other
    by_test n k name is e true same = absurd (let no : false ≡ true = sym off ∙ is-on-named living n k name is e w same in cc)

-- the waits that are noted are a superset
pub noted-more : (waits more : List NamedWait) (living : List (ℕ × Kind))
    → ((r n : ℕ) → list_any (is_wait r n) waits ≡ true → list_any (is_wait r n) more ≡ true) → are_all_noted waits living ≡ true
    → are_all_noted more living ≡ true
noted-more waits more living grows all = all_weaker (λ (live : ℕ × Kind). covers waits live.0 (kind_name live.1))
    (λ live. covers more live.0 (kind_name live.1)) (λ live h. by_name live.0 (kind_name live.1) h) living all
  where
    by_name : (n : ℕ) (o : Option (Awaited × ℕ)) → covers waits n o ≡ true → covers more n o ≡ true
    by_name n None h = refl
    by_name n (Some name) h = grows (run_number name.0 name.1) n h

-- the wait that a thread is about to begin is noted, if it begins one
pub covers-none : (waits : List NamedWait) (n : ℕ) (o : Option (Awaited × ℕ)) → named_wait n o ≡ None → covers waits n o ≡ true
covers-none waits n None e = refl
covers-none waits n (Some name) e = absurd (cc)

pub covers-wait : (waits : List NamedWait) (n : ℕ) (o : Option (Awaited × ℕ)) (w : NamedWait) → named_wait n o ≡ Some w
    → list_any (is_wait (run_of w) w.tid) waits ≡ true → covers waits n o ≡ true
covers-wait waits n None w e h = refl
covers-wait waits n (Some name) w e h =
    let own : NamedWait = record { what = name.0; of = name.1; tid = n } in
    let same : own ≡ w = cc in
    (rw (sym same) at h)
