-- The answers to lines that are short are short.
use Rattle.answer_laws.specs.Lengths.{ShortLinesHaveShortAnswers, is_short}
use Rattle.line_server.specs.Commands.{Command, Del, Get, Put, alone, command_by, command_of, is_key_length, key_len, put_command}
use Rattle.line_server.specs.Tables.{Table, ServedTable, at_key, is_quit, key_cmp, replies, served_command, served_text, get_reply, value_reply}
use Rattle.std.proofs.Common.{Bool, List, None, Option, Some, [], arith, cond, drop, false, length, refl, suc, take, true, zero, ℕ, ◌&&◌, ◌∙◌, ◌∷◌, ◌≡◌, ◌≤◌}
use Rattle.std.proofs.lemmas.Bool.{and_from, and_parts, le-leb, leb-true}
use Rattle.std.proofs.lemmas.List.{length-drop}
use Rattle.std.proofs.lemmas.List.Folds.{list_all-append}
use Rattle.std.specs.BTreeMap.{insert_entry, is_at}
use Rattle.std.specs.List.{before_first, list_all, list_any, prefix_len}
use Rattle.std.specs.Map.{lookup, remove_entry}
use Rattle.std.specs.Ordering.{match_ordering}
use Rattle.std.specs.declared.cmp.Ordering.{Ordering}
use Rattle.std.specs.declared.cmp.Ordering.TheVariants.{Equal, Greater, Less}
use Rattle.std.specs.Prelude.{codes, is_none, is_some, nat_le, not, ◌==◌}
use Rattle.std.specs.Str.{bytes_eq}

-- ---- the value of a put

abbrev value_of : Option Command → List ℕ
value_of (Some (Put key value)) = value
value_of _ = []

abbrev Few : List ℕ → Type 0
Few value = length value ≤ 237

either : (b : Bool) (x y : Option Command) → Few (value_of x) → Few (value_of y) → Few (value_of (cond b x y))
either true x y hx hy = hx
either false x y hx hy = hy

put_few : (key behind : List ℕ) → Few (drop 1 behind) → Few (value_of (put_command key behind))
put_few key [] h = omega arith
put_few key (s ∷ []) h = omega arith
put_few key (s ∷ b ∷ bs) h = either (s == 32) _ _ h (omega arith)

alone_few : (c : Command) → Few (value_of (Some c)) → (behind : List ℕ) → Few (value_of (alone c behind))
alone_few c h [] = h
alone_few c h (b ∷ bs) = omega arith

asked_few : (word key behind : List ℕ) → Few (drop 1 behind) → Few (value_of (command_by word key behind))
asked_few word key behind h =
    either (bytes_eq word (codes "put ")) _ _ (put_few key behind h)
    (either (bytes_eq word (codes "get ")) _ _ (alone_few (Get key) (omega arith) behind)
    (either (bytes_eq word (codes "del ")) _ _ (alone_few (Del key) (omega arith) behind) (omega arith)))

command_few : (text : List ℕ) → is_short text ≡ true → Few (value_of (command_of text))
command_few text h =
    let rest = drop 4 text in
    let n = key_len rest in
    let small = leb-true (length text) 240 h in
    let word = take 4 text in
    either (is_key_length n) (command_by word (take n rest) (drop n rest)) None
    (asked_few word (take n rest) (drop n rest) (omega (arith, small, length-drop 1 (drop n rest), length-drop n rest, length-drop 4 text)))
    (omega arith)

-- ---- tables

-- whatever a get of it can be told
abbrev pub Kept : Table → Type 0
Kept table = list_all (λ (e : List ℕ × List ℕ). is_short e.1) table ≡ true

shown_short : (value : List ℕ) → Few value → is_short (value_reply value) ≡ true
shown_short [] h = refl
shown_short (b ∷ bs) h = le-leb (length (value_reply (b ∷ bs))) 240 (omega (arith, h))

inserted : (key value : List ℕ) → is_short value ≡ true → (table : Table) → Kept table → Kept (insert_entry key_cmp table key value)
inserted key value short [] h = and_from _ _ short refl
inserted key value short (e ∷ es) h = by_order (key_cmp key e.0) (inserted key value short es parts.1)
  where
    parts : (is_short e.1 ≡ true) × Kept es
    parts = and_parts (is_short e.1) (list_all (λ (e : List ℕ × List ℕ). is_short e.1) es) h

    by_order : (o : Ordering) → Kept (insert_entry key_cmp es key value)
        → Kept (match_ordering o ((key, value) ∷ e ∷ es) ((e.0, value) ∷ es) (e ∷ insert_entry key_cmp es key value))
    by_order Less rest = and_from _ _ short h
    by_order Equal rest = and_from _ _ short parts.1
    by_order Greater rest = and_from _ _ parts.0 rest

module _ (test : List ℕ → Bool) where
  removed : (table : Table) → Kept table → Kept (remove_entry test table)
  removed [] h = refl
  removed (e ∷ es) h = by_test (test e.0) (removed es parts.1)
    where
      parts : (is_short e.1 ≡ true) × Kept es
      parts = and_parts (is_short e.1) (list_all (λ (e : List ℕ × List ℕ). is_short e.1) es) h

      by_test : (b : Bool) → Kept (remove_entry test es) → Kept (cond b es (e ∷ remove_entry test es))
      by_test true rest = parts.1
      by_test false rest = and_from _ _ parts.0 rest

  looked_up : (table : Table) → Kept table → is_short (get_reply (lookup test table)) ≡ true
  looked_up [] h = refl
  looked_up (e ∷ es) h = by_test (test e.0) (looked_up es parts.1)
    where
      parts : (is_short e.1 ≡ true) × Kept es
      parts = and_parts (is_short e.1) (list_all (λ (e : List ℕ × List ℕ). is_short e.1) es) h

      by_test : (b : Bool) → is_short (get_reply (lookup test es)) ≡ true → is_short (get_reply (cond b (Some e.1) (lookup test es))) ≡ true
      by_test true rest = parts.0
      by_test false rest = rest

-- ---- replies

command_told : (o : Option Command) → Few (value_of o) → (table : Table) → Kept table
    → (is_short (served_command o table).reply ≡ true) × Kept (served_command o table).table
command_told None few table h = (refl, h)
command_told (Some (Put key value)) few table h = by_full (nat_le 100 (length table) && is_none (at_key key table))
  where
    full : ServedTable
    full = record { reply = codes "full"; table = table }

    put : ServedTable
    put = record { reply = codes "ok"; table = insert_entry key_cmp table key (value_reply value) }

    by_full : (b : Bool) → (is_short (cond b full put).reply ≡ true) × Kept (cond b full put).table
    by_full true = (refl, h)
    by_full false = (refl, inserted key (value_reply value) (shown_short value few) table h)
command_told (Some (Get key)) few table h = (looked_up (is_at (key_cmp key)) table h, h)
command_told (Some (Del key)) few table h = (by_there (is_some (at_key key table)), removed (is_at (key_cmp key)) table h)
  where
    by_there : (b : Bool) → is_short (cond b (codes "ok") (codes "none")) ≡ true
    by_there true = refl
    by_there false = refl

pub replies_short : (texts : List (List ℕ)) (table : Table) → list_all is_short texts ≡ true → Kept table → list_all is_short (replies table texts) ≡ true
replies_short [] table all h = refl
replies_short (text ∷ texts) table all h =
    let parts = and_parts (is_short text) (list_all is_short texts) all in
    let now = command_told (command_of text) (command_few text parts.0) table h in
    and_from _ _ now.0 (replies_short texts (served_text text table).table parts.1 now.1)

taken_all : (n : ℕ) (texts : List (List ℕ)) → list_all is_short texts ≡ true → list_all is_short (take n texts) ≡ true
taken_all zero texts all = refl
taken_all (suc n) [] all = refl
taken_all (suc n) (text ∷ texts) all = let parts = and_parts (is_short text) (list_all is_short texts) all in and_from _ _ parts.0 (taken_all n texts parts.1)

pub short_lines_have_short_answers : ShortLinesHaveShortAnswers
short_lines_have_short_answers lines all =
    list_all-append is_short (replies [] (before_first is_quit lines)) (cond (list_any is_quit lines) (codes "bye" ∷ []) [])
    ∙ and_from _ _ (replies_short (before_first is_quit lines) [] (taken_all (prefix_len (λ x. not (is_quit x)) lines) lines all) refl)
    (by_quit (list_any is_quit lines))
  where
    by_quit : (b : Bool) → list_all is_short (cond b (codes "bye" ∷ []) []) ≡ true
    by_quit true = refl
    by_quit false = refl
