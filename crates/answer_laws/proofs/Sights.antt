-- Single changes, as another thread sees them.
use Rattle.answer_laws.specs.Sights.{IsLeft, IsWoken, answer_for, answers_to, going_on, is_attentive, Hears, sight, sight_by, open_letters}
use Rattle.lwp_types.specs.CountLaws.{count-filter, count_agree, count_found_by}
use Rattle.lwp_types.specs.Messages.{is_letter_of, is_to, with_reception, received_letter, letter_with_reception, senders_to, without_letter}
use Rattle.lwp_types.specs.State.{Outcome, State, ThreadRow, and_then, row_with_block, is_number, still, thread_of, with_block}
use Rattle.lwp_types.specs.declared.call.Answer.{Answer}
use Rattle.lwp_types.specs.declared.call.Effect.{Effect}
use Rattle.lwp_types.specs.declared.rows.Block.{Block}
use Rattle.lwp_types.specs.declared.rows.Letter.{Letter}
use Rattle.pod_laws.proofs.Elements.{find_passes}
use Rattle.pod_laws.proofs.Rows.{KeepsNumber, find_rowed, number_known}
use Rattle.std.proofs.Common.{Bool, List, None, Option, Some, [], ap, append-nil, arith, cond, count_by, eqb, false}
use Rattle.std.proofs.Common.{inl, inr, not, refl, sym, true, ℕ, ◌&&◌, ◌++◌, ◌||◌, ◌∙◌, ◌∷◌, ◌≡◌, ◌≢◌}
use Rattle.std.proofs.lemmas.Bool.{and_parts, cases_eq, eq-eqb, eqb-true, ne_eqb}
use Rattle.std.specs.List.{filter, filter_map, find}
use Rattle.std.specs.Prelude.{is_none, map, option_map}
use Rattle.lwp_types.specs.declared.call.Effect.TheVariants as effect
use Rattle.lwp_types.specs.declared.rows.Block.TheVariants as block

-- ---- lists

module _ {X : Type 0} (p : X → Bool) where
  pub filter_part : (q : X → Bool) → ((x : X) → p x ≡ true → q x ≡ true) → (xs : List X) → filter p (filter q xs) ≡ filter p xs
  filter_part q keeps [] = refl
  filter_part q keeps (x ∷ xs) = by_tests (p x) refl (q x) refl (filter_part q keeps xs)
    where
      by_tests : (a : Bool) → p x ≡ a → (b : Bool) → q x ≡ b → filter p (filter q xs) ≡ filter p xs
          → filter p (cond b (x ∷ filter q xs) (filter q xs)) ≡ cond a (x ∷ filter p xs) (filter p xs)
      by_tests true e true f rest = rw e (ap (λ ys. x ∷ ys) rest)
      by_tests false e true f rest = rw e rest
      by_tests true e false f rest = absurd (let bad : true ≡ false = sym (keeps x e) ∙ f in cc)
      by_tests false e false f rest = rest

  pub filter_push : (xs : List X) (x : X) → p x ≡ false → filter p (xs ++ x ∷ []) ≡ filter p xs
  filter_push [] x e = rw e refl
  filter_push (y ∷ ys) x e = by_test (p y) (filter_push ys x e)
    where
      by_test : (b : Bool) → filter p (ys ++ x ∷ []) ≡ filter p ys
          → cond b (y ∷ filter p (ys ++ x ∷ [])) (filter p (ys ++ x ∷ [])) ≡ cond b (y ∷ filter p ys) (filter p ys)
      by_test true rest = ap (λ zs. y ∷ zs) rest
      by_test false rest = rest

  pub filter_map_same : (g : X → X) → ((x : X) → p (g x) ≡ p x) → ((x : X) → p x ≡ true → g x ≡ x) → (xs : List X) → filter p (map g xs) ≡ filter p xs
  filter_map_same g keeps same [] = refl
  filter_map_same g keeps same (x ∷ xs) = by_test (p x) refl (filter_map_same g keeps same xs)
    where
      by_test : (b : Bool) → p x ≡ b → filter p (map g xs) ≡ filter p xs
          → cond (p (g x)) (g x ∷ filter p (map g xs)) (filter p (map g xs)) ≡ cond b (x ∷ filter p xs) (filter p xs)
      by_test true e rest = rw (keeps x, e) (ap (λ y. y ∷ filter p (map g xs)) (same x e) ∙ ap (λ zs. x ∷ zs) rest)
      by_test false e rest = rw (keeps x, e) rest

pub answers_append : (u : ℕ) (es fs : List Effect) → answers_to u (es ++ fs) ≡ answers_to u es ++ answers_to u fs
answers_append u [] fs = refl
answers_append u (e ∷ es) fs = by_answer (answer_for u e) (answers_append u es fs)
  where
    push : Option Answer → List Answer → List Answer
    push None rest = rest
    push (Some a) rest = a ∷ rest

    by_answer : (o : Option Answer) → answers_to u (es ++ fs) ≡ answers_to u es ++ answers_to u fs
        → push o (answers_to u (es ++ fs)) ≡ push o (answers_to u es) ++ answers_to u fs
    by_answer None rest = rest
    by_answer (Some a) rest = ap (λ x. a ∷ x) rest

pub answers_push : (u : ℕ) (es : List Effect) (e : Effect) → answer_for u e ≡ None → answers_to u (es ++ e ∷ []) ≡ answers_to u es
answers_push u es e none = answers_append u es (e ∷ []) ∙ ap (λ x. answers_to u es ++ x) (by_answer (answer_for u e) none) ∙ append-nil (answers_to u es)
  where
    push : Option Answer → List Answer → List Answer
    push None rest = rest
    push (Some a) rest = a ∷ rest

    by_answer : (o : Option Answer) → o ≡ None → push o [] ≡ []
    by_answer None e = refl
    by_answer (Some a) e = absurd (cc)

-- ---- one thread

module _ (u : ℕ) (Fits : Option ℕ → Answer → Type 0) where
  pub data Turn (s : State) (out : Outcome) : Type 0 where
    Left : IsLeft u s out → Turn s out
    Woken : IsWoken u Fits s out → Turn s out

  -- it is there, and attentive
  pub record Attends (s : State) : Type 0 where
    pub row : ThreadRow
    pub known : thread_of s u ≡ Some row
    pub attends : is_attentive row.block ≡ true

  -- none of its letters is for v
  abbrev pub Away : ℕ → State → Type 0
  Away v s = open_letters s u v ≡ 0

  pub turn_still : (s : State) → Turn s (still s)
  turn_still s = Left (record { same = refl; quiet = refl })

  -- one after the other
  pub turn_then : (s : State) (first : Outcome) (more : State → Outcome) → Turn s first → Turn first.after (more first.after) → Turn s (and_then first more)
  unfolding and_then
  turn_then s first more (Left a) (Left b) = Left (record {
    same = b.same ∙ a.same;
    quiet = answers_append u first.effects (more first.after).effects ∙ ap (λ x. x ++ answers_to u (more first.after).effects) a.quiet ∙ b.quiet;
  })
  turn_then s first more (Left a) (Woken b) = Woken (record {
    from = b.from;
    waited = ap (λ x. x.waits) (sym a.same) ∙ b.waited;
    goes_on = b.goes_on ∙ ap going_on a.same;
    heard = b.heard;
    told = answers_append u first.effects (more first.after).effects ∙ ap (λ x. x ++ answers_to u (more first.after).effects) a.quiet ∙ b.told;
    right = b.right;
  })
  turn_then s first more (Woken a) (Left b) = Woken (record {
    from = a.from;
    waited = a.waited;
    goes_on = b.same ∙ a.goes_on;
    heard = a.heard;
    told = answers_append u first.effects (more first.after).effects ∙ ap (λ x. x ++ answers_to u (more first.after).effects) a.told
        ∙ ap (λ x. a.heard ∷ x) b.quiet;
    right = a.right;
  })
  turn_then s first more (Woken a) (Woken b) =
      absurd (let no : Some block.Not ≡ Some (block.Receiving b.from) = ap (λ x. x.waits) (sym a.goes_on) ∙ b.waited in cc)

  -- what is seen of one that attends
  seen_known : (s : State) (row : ThreadRow) → thread_of s u ≡ Some row → (sight s u).waits ≡ Some row.block
  seen_known s row known = ap (option_map (λ row. row.block)) known

  attends_by : (o : Option ThreadRow) (b : Block) → option_map (λ row. row.block) o ≡ Some b → is_attentive b ≡ true
      → (row : ThreadRow) × (o ≡ Some row) × (is_attentive row.block ≡ true)
  attends_by None b e h = absurd (cc)
  attends_by (Some row) b e h = let same : row.block ≡ b = cc in (row, refl, ap is_attentive same ∙ h)

  attends_of : (s : State) (b : Block) → (sight s u).waits ≡ Some b → is_attentive b ≡ true → Attends s
  attends_of s b e h = let w = attends_by (thread_of s u) b e h in record { row = w.0; known = w.1; attends = w.2 }

  pub attends_after : (s : State) (out : Outcome) → Attends s → Turn s out → Attends out.after
  attends_after s out was (Left a) = attends_of out.after was.row.block (ap (λ x. x.waits) a.same ∙ seen_known s was.row was.known) was.attends
  attends_after s out was (Woken a) = attends_of out.after block.Not (ap (λ x. x.waits) a.goes_on) refl

  pub away_after : (v : ℕ) (s : State) (out : Outcome) → Away v s → Turn s out → Away v out.after
  away_after v s out away (Left a) = ap (λ x. count_by (is_to v) x.letters) a.same ∙ away
  away_after v s out away (Woken a) = ap (λ x. count_by (is_to v) x.letters) a.goes_on ∙ away

  -- a change that tells nobody
  pub turn_plain : (s : State) (out : Outcome) → sight out.after u ≡ sight s u → out.effects ≡ [] → Turn s out
  turn_plain s out same none = Left (record { same = same; quiet = ap (answers_to u) none })

  -- rows change, but not that of u
  pub rowed : (g : ThreadRow → ThreadRow) → KeepsNumber g → (s : State) (row : ThreadRow) → thread_of s u ≡ Some row → g row ≡ row
      → find (is_number u) (map g s.threads) ≡ Some row
  rowed g keeps s row known same = find_rowed g keeps s.threads u ∙ ap (option_map g) known ∙ ap Some same

  -- a block that is put for another
  pub block_other : (v : ℕ) (b : Block) (row : ThreadRow) → row.number ≡ u → v ≢ u → row_with_block v b row ≡ row
  block_other v b row is other = rw (ne_eqb row.number v (λ e. other (sym e ∙ is))) refl

  pub sight_same : (s after : State) → (row : ThreadRow) → thread_of s u ≡ Some row → thread_of after u ≡ Some row
      → filter (is_letter_of u) after.letters ≡ filter (is_letter_of u) s.letters → sight after u ≡ sight s u
  sight_same s after row known now letters = λ i. sight_by ((now ∙ sym known) i) (letters i)

  pub blocked_other : (s : State) → Attends s → (v : ℕ) (b : Block) → v ≢ u → find (is_number u) (with_block v b s.threads) ≡ find (is_number u) s.threads
  blocked_other s was v b other =
      rowed (row_with_block v b) (λ row. refl) s was.row was.known (block_other v b was.row (number_known s.threads u was.row was.known) other)
      ∙ sym was.known

  -- another goes on
  pub left_wake : (s : State) → Attends s → (out : Outcome) (a : Answer) (v : ℕ) → v ≢ u
      → out.after.threads ≡ with_block v block.Not s.threads → filter (is_letter_of u) out.after.letters ≡ filter (is_letter_of u) s.letters
      → out.effects ≡ effect.Answered v a ∷ [] → IsLeft u s out
  left_wake s was out a v other threads letters told = record {
    same = λ i. sight_by ((ap (find (is_number u)) threads ∙ blocked_other s was v block.Not other) i) (letters i);
    quiet = ap (answers_to u) told ∙ none (eqb v u) (ne_eqb v u other);
  }
    where
      none : (b : Bool) → b ≡ false → filter_map (λ (o : Option Answer). o) (cond b (Some a) None ∷ []) ≡ []
      none true e = absurd (cc)
      none false e = refl

  pub turn_wake : (s : State) → Attends s → (out : Outcome) (a : Answer) (v : ℕ) → v ≢ u
      → out.after.threads ≡ with_block v block.Not s.threads → filter (is_letter_of u) out.after.letters ≡ filter (is_letter_of u) s.letters
      → out.effects ≡ effect.Answered v a ∷ [] → Turn s out
  turn_wake s was out a v other threads letters told = Left (left_wake s was out a v other threads letters told)

  -- u itself goes on, with an answer to its wait
  pub turn_own : (s : State) (was : Attends s) (out : Outcome) (a : Answer) (from : Option ℕ) → was.row.block ≡ block.Receiving from → Hears Fits from a
      → out.after.threads ≡ with_block u block.Not s.threads → filter (is_letter_of u) out.after.letters ≡ filter (is_letter_of u) s.letters
      → out.effects ≡ effect.Answered u a ∷ [] → Turn s out
  turn_own s was out a from waits right threads letters told = Woken (record {
    from = from;
    waited = seen_known s was.row was.known ∙ ap Some waits;
    goes_on = (λ i. sight_by (now i) (letters i)) ∙ goes (is_number u was.row) (eq-eqb was.row.number u (number_known s.threads u was.row was.known));
    heard = a;
    told = ap (answers_to u) told ∙ one (eqb u u) (eq-eqb u u refl);
    right = right;
  })
    where
      now : find (is_number u) out.after.threads ≡ Some (row_with_block u block.Not was.row)
      now = ap (find (is_number u)) threads ∙ find_rowed (row_with_block u block.Not) (λ row. refl) s.threads u
          ∙ ap (option_map (row_with_block u block.Not)) was.known

      goes : (b : Bool) → b ≡ true
          → sight_by (Some (record was.row { block = cond b block.Not was.row.block })) (filter (is_letter_of u) s.letters) ≡ going_on (sight s u)
      goes true e = ap (λ o. going_on (sight_by o (filter (is_letter_of u) s.letters))) (sym was.known)
      goes false e = absurd (cc)

      one : (b : Bool) → b ≡ true → filter_map (λ (o : Option Answer). o) (cond b (Some a) None ∷ []) ≡ a ∷ []
      one true e = refl
      one false e = absurd (cc)

  -- v goes on; if that is u, with an answer to its wait
  pub turn_waked : (s : State) (was : Attends s) (out : Outcome) (a : Answer) (v : ℕ)
      → (v ≡ u → (from : Option ℕ) × (was.row.block ≡ block.Receiving from) × Hears Fits from a)
      → out.after.threads ≡ with_block v block.Not s.threads → filter (is_letter_of u) out.after.letters ≡ filter (is_letter_of u) s.letters
      → out.effects ≡ effect.Answered v a ∷ [] → Turn s out
  turn_waked s was out a v own threads letters told = elim (cases_eq v u) [
    | inl e
        ↦ turn_own s was out a (own e).0 (own e).1 (own e).2 (threads ∙ ap (λ n. with_block n block.Not s.threads) e) letters
        (told ∙ ap (λ n. effect.Answered n a ∷ []) e)
    | inr other ↦ turn_wake s was out a v other threads letters told
  ]

  -- who waits for anything else isn't u
  pub own_row : (s : State) (was : Attends s) (v : ℕ) (x : ThreadRow) → thread_of s v ≡ Some x → v ≡ u → was.row ≡ x
  own_row s was v x known e = let both : Some was.row ≡ Some x = sym was.known ∙ ap (thread_of s) (sym e) ∙ known in cc

  pub not_own : (s : State) → Attends s → (v : ℕ) (x : ThreadRow) → thread_of s v ≡ Some x → is_attentive x.block ≡ false → v ≢ u
  not_own s was v x known off e = let bad : true ≡ false = sym was.attends ∙ ap (λ (r : ThreadRow). is_attentive r.block) (own_row s was v x known e) ∙ off in
      cc

  -- ---- letters of another

  not_both : (v : ℕ) → v ≢ u → (n : ℕ) → eqb n u ≡ true → not (eqb n v) ≡ true
  not_both v other n e = by_test (eqb n v) refl
    where
      by_test : (b : Bool) → eqb n v ≡ b → not b ≡ true
      by_test true is = absurd (other (sym (eqb-true n v is) ∙ eqb-true n u e))
      by_test false is = refl

  pub without_own : (v : ℕ) → v ≢ u → (letters : List Letter) → filter (is_letter_of u) (without_letter v letters) ≡ filter (is_letter_of u) letters
  without_own v other letters = filter_part (is_letter_of u) (λ letter. not (is_letter_of v letter)) (λ letter e. not_both v other letter.from e) letters

  pub received_own : (v : ℕ) → v ≢ u → (letters : List Letter) → filter (is_letter_of u) (with_reception v letters) ≡ filter (is_letter_of u) letters
  received_own v other letters = filter_map_same (is_letter_of u) (letter_with_reception v) (λ letter. refl)
      (λ letter e. off letter (is_letter_of v letter) (not_both v other letter.from e)) letters
    where
      off : (letter : Letter) (b : Bool) → not b ≡ true → record letter { received = b || letter.received } ≡ letter
      off letter true e = absurd (cc)
      off letter false e = refl

  pub pushed_own : (letter : Letter) → letter.from ≢ u → (letters : List Letter)
      → filter (is_letter_of u) (letters ++ letter ∷ []) ≡ filter (is_letter_of u) letters
  pushed_own letter other letters = filter_push (is_letter_of u) letters letter (ne_eqb letter.from u other)

  -- whose letter v finds isn't u
  pub found_other : (v : ℕ) (s : State) → Away v s → (q : Letter → Bool) (letter : Letter) → find q (filter (is_to v) s.letters) ≡ Some letter → letter.from ≢ u
  found_other v s away q letter found e =
      omega (
        arith,
        away,
        count_found_by q (is_letter_of u) (filter (is_to v) s.letters) letter found (eq-eqb letter.from u e),
        count-filter (is_letter_of u) (is_to v) s.letters,
        count-filter (is_to v) (is_letter_of u) s.letters,
        count_agree (λ letter. is_to v letter && is_letter_of u letter) (λ letter. is_letter_of u letter && is_to v letter)
            (λ letter. either (is_to v letter) (is_letter_of u letter)) s.letters,
      )
    where
      either : (a b : Bool) → (a && b) ≡ (b && a)
      either true true = refl
      either true false = refl
      either false true = refl
      either false false = refl

  pub replied_other : (v : ℕ) (s : State) → Away v s → (w : ℕ) → is_none (received_letter s.letters v w) ≡ false → w ≢ u
  replied_other v s away w some = by_found (received_letter s.letters v w) refl some
    where
      by_found : (o : Option Letter) → received_letter s.letters v w ≡ o → is_none o ≡ false → w ≢ u
      by_found None e h = absurd (cc)
      by_found (Some letter) e h = λ same. found_other v s away (λ letter. letter.received && is_letter_of w letter) letter e
          (eqb-true letter.from w (and_parts letter.received (is_letter_of w letter)
          (find_passes (λ letter. letter.received && is_letter_of w letter) (filter (is_to v) s.letters) letter e)).1
          ∙ same)

  pub first_other : (v : ℕ) (s : State) → Away v s → (w : ℕ) (ws : List ℕ) → senders_to s.letters v ≡ w ∷ ws → w ≢ u
  first_other v s away w ws listed same = by_letters (filter (is_to v) s.letters) refl listed
    where
      by_letters : (ls : List Letter) → filter (is_to v) s.letters ≡ ls → map (λ (letter : Letter). letter.from) ls ≡ w ∷ ws → ⊥
      by_letters [] e h = absurd (cc)
      by_letters (l ∷ ls) e h =
          let is : l.from ≡ w = cc in
          found_other v s away (λ letter. true) l (ap (find (λ letter. true)) e) (is ∙ same)
