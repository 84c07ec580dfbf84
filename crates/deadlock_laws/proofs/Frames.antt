-- What a change of the state leaves as it is for a thread that waits: its block, its letter and the owners of monitors.
use Rattle.deadlock_laws.specs.Deadlocks.{block_in}
use Rattle.lwp_types.specs.Case.{Case, Check, unless}
use Rattle.lwp_types.specs.Messages.{is_letter_of, with_reception, without_letter}
use Rattle.lwp_types.specs.MonitorRelease.{is_lock, lock_of}
use Rattle.lwp_types.specs.Monitors.{lock_with_depth, with_depth, with_entry}
use Rattle.lwp_types.specs.State.{State, ThreadRow, is_number, is_thread, row_with_block, thread_of}
use Rattle.lwp_types.specs.declared.rows.Block.{Block}
use Rattle.lwp_types.specs.declared.rows.Letter.{Letter}
use Rattle.lwp_types.specs.declared.rows.Lock.{Lock}
use Rattle.pod_laws.proofs.Checks.{Passed, unless_keeps}
use Rattle.pod_laws.proofs.Elements.{find_filter_same, find_push_some, not_of}
use Rattle.pod_laws.proofs.Rows.{KeepsNumber, find_rowed, live_rowed, number_known}
use Rattle.state_text.specs.Waiting.{awaited, awaited_by, named_thread, next_of, owner_of, receiver_of}
use Rattle.std.proofs.Common.{Bool, List, None, Option, Some, [], ap, arith, cond, false, length, map}
use Rattle.std.proofs.Common.{not, refl, sym, true, ℕ, ◌+◌, ◌++◌, ◌∙◌, ◌∷◌, ◌||◌, ◌≡◌, ◌≢◌, ◌≤◌}
use Rattle.std.proofs.lemmas.Bool.{eqb-true, ne_eqb}
use Rattle.std.proofs.lemmas.List.{length-append, length-map}
use Rattle.std.proofs.lemmas.Option.{none-some}
use Rattle.std.specs.List.{find}
use Rattle.std.specs.Prelude.{is_some, option_and_then, option_map}
use Rattle.lwp_types.specs.declared.rows.Block.TheVariants as block

-- letters

pub letter_pushed : (letters : List Letter) (h v : ℕ) (letter : Letter) → receiver_of letters h ≡ Some v → receiver_of (letters ++ letter ∷ []) h ≡ Some v
letter_pushed letters h v letter e = by_letter (find (is_letter_of h) letters) refl e
  where
    by_letter : (o : Option Letter) → find (is_letter_of h) letters ≡ o → option_map (λ (l : Letter). l.to) o ≡ Some v
        → receiver_of (letters ++ letter ∷ []) h ≡ Some v
    by_letter None found e = absurd (none-some v e)
    by_letter (Some l) found e = ap (option_map (λ (l : Letter). l.to)) (find_push_some (is_letter_of h) letters l letter found) ∙ e

pub letter_received : (x : ℕ) (letters : List Letter) (h : ℕ) → receiver_of (with_reception x letters) h ≡ receiver_of letters h
letter_received x [] h = refl
letter_received x (l ∷ ls) h = by_test (is_letter_of h l) (letter_received x ls h)
  where
    by_test : (b : Bool) → receiver_of (with_reception x ls) h ≡ receiver_of ls h
        → option_map (λ (l : Letter). l.to) (cond b (Some (record l { received = is_letter_of x l || l.received }))
        (find (is_letter_of h) (with_reception x ls)))
        ≡ option_map (λ (l : Letter). l.to) (cond b (Some l) (find (is_letter_of h) ls))
    by_test true rest = refl
    by_test false rest = rest

pub letter_left : (u : ℕ) (letters : List Letter) (h : ℕ) → h ≢ u → receiver_of (without_letter u letters) h ≡ receiver_of letters h
letter_left u letters h away = ap (option_map (λ (l : Letter). l.to)) (find_filter_same (is_letter_of h) (λ l. not (is_letter_of u l))
    (λ l e. not_of _ (ne_eqb l.from u (λ f. away (sym (eqb-true l.from h e) ∙ f)))) letters)

-- locks

pub owner_pushed : (locks : List Lock) (m v : ℕ) (lock : Lock) → owner_of locks m ≡ Some v → owner_of (locks ++ lock ∷ []) m ≡ Some v
owner_pushed locks m v lock e = by_lock (lock_of locks m) refl e
  where
    by_lock : (o : Option Lock) → lock_of locks m ≡ o → option_map (λ (l : Lock). l.owner) o ≡ Some v → owner_of (locks ++ lock ∷ []) m ≡ Some v
    by_lock None found e = absurd (none-some v e)
    by_lock (Some l) found e = ap (option_map (λ (l : Lock). l.owner)) (find_push_some (is_lock m) locks l lock found) ∙ e

pub owner_deepened : (k n : ℕ) (locks : List Lock) (m : ℕ) → owner_of (with_depth k n locks) m ≡ owner_of locks m
owner_deepened k n [] m = refl
owner_deepened k n (l ∷ ls) m = by_test (is_lock m l) (owner_deepened k n ls m)
  where
    by_test : (b : Bool) → owner_of (with_depth k n ls) m ≡ owner_of ls m
        → option_map (λ (l : Lock). l.owner) (cond b (Some (lock_with_depth k n l)) (find (is_lock m) (with_depth k n ls)))
        ≡ option_map (λ (l : Lock). l.owner) (cond b (Some l) (find (is_lock m) ls))
    by_test true rest = refl
    by_test false rest = rest

pub owner_entered : (t k : ℕ) (o : Option Lock) (locks : List Lock) (m v : ℕ) → owner_of locks m ≡ Some v → owner_of (with_entry t k o locks) m ≡ Some v
owner_entered t k None locks m v e = owner_pushed locks m v _ e
owner_entered t k (Some lock) locks m v e = owner_deepened k (lock.depth + 1) locks m ∙ e

-- h waits as it did, and if that is for v, then v is there
pub record Framed (h v : ℕ) (s after : State) : Type 0 where
  pub block : block_in after h ≡ block_in s h
  pub letter : receiver_of s.letters h ≡ Some v → receiver_of after.letters h ≡ Some v
  pub owner : (m : ℕ) → owner_of s.locks m ≡ Some v → owner_of after.locks m ≡ Some v
  pub lives : is_thread s v ≡ true → is_thread after v ≡ true
  pub more : length s.threads ≤ length after.threads

module _ (h v : ℕ) where
  -- the rows of threads stay
  pub same_threads : (s after : State) → after.threads ≡ s.threads
      → (receiver_of s.letters h ≡ Some v → receiver_of after.letters h ≡ Some v)
      → ((m : ℕ) → owner_of s.locks m ≡ Some v → owner_of after.locks m ≡ Some v) → Framed h v s after
  same_threads s after same letter owner = record {
    block = ap (λ rows. option_map (λ (row : ThreadRow). row.block) (find (is_number h) rows)) same;
    letter = letter;
    owner = owner;
    lives = λ e. ap (λ rows. is_some (find (is_number v) rows)) same ∙ e;
    more = omega (arith, ap length same);
  }

  -- letters and locks stay too
  pub same_lists : (s after : State) → after.threads ≡ s.threads → after.letters ≡ s.letters → after.locks ≡ s.locks → Framed h v s after
  same_lists s after same letters locks = same_threads s after same (λ e. ap (λ ls. receiver_of ls h) letters ∙ e) (λ m e. ap (λ ls. owner_of ls m) locks ∙ e)

  pub framed_still : (s : State) → Framed h v s s
  framed_still s = same_lists s s refl refl refl

  -- each row is changed, and that of h keeps its block
  pub mapped : (s after : State) (g : ThreadRow → ThreadRow) → KeepsNumber g → ((row : ThreadRow) → row.number ≡ h → (g row).block ≡ row.block)
      → after.threads ≡ map g s.threads
      → (receiver_of s.letters h ≡ Some v → receiver_of after.letters h ≡ Some v)
      → ((m : ℕ) → owner_of s.locks m ≡ Some v → owner_of after.locks m ≡ Some v) → Framed h v s after
  mapped s after g keeps same rows letter owner = record {
    block = ap (λ rows. option_map (λ (row : ThreadRow). row.block) (find (is_number h) rows)) rows
        ∙ ap (option_map (λ (row : ThreadRow). row.block)) (find_rowed g keeps s.threads h) ∙ by_row (thread_of s h) refl;
    letter = letter;
    owner = owner;
    lives = λ e. ap (λ rows. is_some (find (is_number v) rows)) rows ∙ live_rowed g keeps s.threads v ∙ e;
    more = omega (arith, ap length rows, length-map s.threads g);
  }
    where
      by_row : (o : Option ThreadRow) → thread_of s h ≡ o
          → option_map (λ (row : ThreadRow). row.block) (option_map g o) ≡ option_map (λ (row : ThreadRow). row.block) o
      by_row None e = refl
      by_row (Some row) e = ap Some (same row (number_known s.threads h row e))

  -- letters and locks stay too
  pub mapped_lists : (s after : State) (g : ThreadRow → ThreadRow) → KeepsNumber g → ((row : ThreadRow) → row.number ≡ h → (g row).block ≡ row.block)
      → after.threads ≡ map g s.threads → after.letters ≡ s.letters → after.locks ≡ s.locks → Framed h v s after
  mapped_lists s after g keeps same rows letters locks =
      mapped s after g keeps same rows (λ e. ap (λ ls. receiver_of ls h) letters ∙ e) (λ m e. ap (λ ls. owner_of ls m) locks ∙ e)

  -- another thread's block is put
  pub other_block : (t : ℕ) → h ≢ t → (b : Block) (row : ThreadRow) → row.number ≡ h → (row_with_block t b row).block ≡ row.block
  other_block t other b row same = rw (ne_eqb row.number t (λ e. other (sym same ∙ e))) refl

  -- a thread is born
  pub pushed : (s after : State) (row : ThreadRow) → thread_of s h ≡ Some row → (new : ThreadRow) → after.threads ≡ s.threads ++ new ∷ []
      → after.letters ≡ s.letters → after.locks ≡ s.locks → Framed h v s after
  pushed s after row known new rows letters locks = record {
    block = ap (λ rows. option_map (λ (row : ThreadRow). row.block) (find (is_number h) rows)) rows
        ∙ ap (option_map (λ (row : ThreadRow). row.block)) (find_push_some (is_number h) s.threads row new known ∙ sym known);
    letter = λ e. ap (λ ls. receiver_of ls h) letters ∙ e;
    owner = λ m e. ap (λ ls. owner_of ls m) locks ∙ e;
    lives = λ e. ap (λ rows. is_some (find (is_number v) rows)) rows ∙ by_row (thread_of s v) refl e;
    more = omega (arith, ap length rows, length-append s.threads (new ∷ []));
  }
    where
      by_row : (o : Option ThreadRow) → thread_of s v ≡ o → is_some o ≡ true → is_some (find (is_number v) (s.threads ++ new ∷ [])) ≡ true
      by_row None found e = absurd (cc)
      by_row (Some x) found e = ap is_some (find_push_some (is_number v) s.threads x new found)

  pub framed_then : (s middle after : State) → Framed h v s middle → Framed h v middle after → Framed h v s after
  framed_then s middle after one two = record {
    block = two.block ∙ one.block;
    letter = λ e. two.letter (one.letter e);
    owner = λ m e. two.owner m (one.owner m e);
    lives = λ e. two.lives (one.lives e);
    more = omega (arith, one.more, two.more);
  }

  pub framed_end : (s after : State) (b : Bool) → Framed h v s after → Framed h v s (record after { ended = b })
  framed_end s after b f = record { block = f.block; letter = f.letter; owner = f.owner; lives = f.lives; more = f.more }

  pub framed_unless : (s : State) (checks : List Check) (otherwise : Case) → (Passed checks → Framed h v s otherwise.after)
      → Framed h v s (unless s checks otherwise).after
  framed_unless s checks otherwise fine = unless_keeps (Framed h v s) s checks otherwise (framed_still s) fine

  pub framed_cond : (s : State) (b : Bool) (one two : Case) → Framed h v s one.after → Framed h v s two.after → Framed h v s (cond b one two).after
  framed_cond s true one two first second = first
  framed_cond s false one two first second = second

  -- whom h waits for
  pub next_framed : (s after : State) → Framed h v s after → next_of s h ≡ Some v → next_of after h ≡ Some v
  next_framed s after f waits = by_rows (thread_of s h) refl (thread_of after h) refl
    where
      named : (from : Option ℕ) → named_thread s from ≡ Some v → named_thread after from ≡ Some v
      named None e = e
      named (Some x) e = by_thread (is_thread s x) refl e
        where
          by_thread : (b : Bool) → is_thread s x ≡ b → cond b (Some x) None ≡ Some v → cond (is_thread after x) (Some x) None ≡ Some v
          by_thread true lives e =
              let same : x ≡ v = cc in
              let there : is_thread after x ≡ true = ap (is_thread after) same ∙ f.lives (ap (is_thread s) (sym same) ∙ lives) in
              rw there e
          by_thread false lives e = absurd (none-some v e)

      by_block : (b : Block) → awaited_by s h b ≡ Some v → awaited_by after h b ≡ Some v
      by_block block.Not e = e
      by_block (block.Joining u) e = e
      by_block block.Sending e = f.letter e
      by_block (block.Receiving from) e = named from e
      by_block (block.Entering m) e = f.owner m e
      by_block (block.Waiting c) e = e
      by_block block.Sleeping e = e

      by_rows : (o : Option ThreadRow) → thread_of s h ≡ o → (o' : Option ThreadRow) → thread_of after h ≡ o' → next_of after h ≡ Some v
      by_rows None e o' e' = absurd (none-some v (sym (ap (option_and_then (awaited s)) e) ∙ waits))
      by_rows (Some row) e None e' = absurd
          (none-some row.block (sym (ap (option_map (λ (row : ThreadRow). row.block)) e') ∙ f.block ∙ ap (option_map (λ (row : ThreadRow). row.block)) e))
      by_rows (Some row) e (Some row') e' =
          let blocks : Some row'.block
          ≡ Some row.block = sym (ap (option_map (λ (row : ThreadRow). row.block)) e') ∙ f.block ∙ ap (option_map (λ (row : ThreadRow). row.block)) e in
          let its : row'.block ≡ row.block = cc in
          let now : awaited_by s h row.block
          ≡ Some v = ap (λ n. awaited_by s n row.block) (sym (number_known s.threads h row e)) ∙ sym (ap (option_and_then (awaited s)) e) ∙ waits in
          ap (option_and_then (awaited after)) e' ∙ ap (λ n. awaited_by after n row'.block) (number_known after.threads h row' e')
          ∙ ap (awaited_by after h) its ∙ by_block row.block now
