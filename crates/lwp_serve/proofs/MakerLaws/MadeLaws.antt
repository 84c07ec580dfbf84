-- The text that is made spells a script.
use Rattle.std.proofs.Common.{◌≡◌, ℕ, ◌*◌, ◌<◌, ◌≤◌, true, List, [], ◌∷◌, ◌++◌, length, fold, Option, Some}
use Rattle.std.proofs.Common.{None, refl, sym, ap, subst, ◌∙◌, arith, length-append, append_assoc}
use Rattle.std.specs.Prelude.{IsTrue, is_some, option_to_list, codes}
use Rattle.std.specs.List.{AllByRecursion}
use Rattle.std.proofs.lemmas.List.Sums.{fold-append}
use Rattle.script_lines.specs.Table.{row_of}
use Rattle.script_text.specs.declared.draft.Draft.{Draft}
use Rattle.script_text.specs.declared.reader.Declared.{Declared}
use Rattle.script_text.specs.declared.script.Proc.{Proc}
use Rattle.script_lines.specs.Phrase.{Phrase}
use Rattle.script_text.specs.Grammar.{spelling, is_declared, declared_of, SpelledBy}
use Rattle.script_lines.specs.Line.{IsLine}
use Rattle.script_text.specs.Meaning.{after_add, with_last_procedure, empty_draft, draft_of, script_of}
use Rattle.lwp_serve.specs.declared.maker.script.ClientLine.TheVariants as line
use Rattle.lwp_serve.specs.Maker.Laws.{MadeSpells}
use Rattle.lwp_serve.specs.Maker.Made.{each, client_line, declarations, procedure, post_line, past, round, rounds, made_script}
use Rattle.lwp_serve.specs.Maker.Order.{IsAllowed}
use Rattle.lwp_serve.proofs.MakerLaws.Gathered.{spelling_append, all_append, all_gathered, length_each}
use Rattle.lwp_serve.proofs.MakerLaws.Standing.{moved, start, stands_append, all_stand, known_is, some_behind}
use Rattle.lwp_serve.proofs.MakerLaws.Heading.{client_phrase, client_phrases, head, heading, are_client_lines, are_lines}
use Rattle.lwp_serve.proofs.MakerLaws.Heading.{clients_spelt, heading_spelt, heads, has_procedure}
use Rattle.lwp_serve.proofs.MakerLaws.Posts.{round_says, rounds_say, rounds_spelt, rounds_are_lines, post_length, quit_length, IsReady, all_posts}

-- what the posts say
abbrev posts : ℕ → ℕ → ℕ → List Phrase
posts seed threads lines = rounds_say seed threads lines ++ client_phrases line.Quit threads

-- what the whole text says
abbrev says : ℕ → ℕ → ℕ → List Phrase
says seed threads lines = head threads ++ posts seed threads lines

text_is : (seed threads lines : ℕ) → lines ≤ 10000 → made_script seed threads lines ≡ spelling (says seed threads lines)
unfolding made_script
text_is seed threads lines few =
    let behind : rounds seed threads lines ++ each (client_line line.Quit) threads ≡ spelling (posts seed threads lines) =
    ap (λ (l : List ℕ). l ++ each (client_line line.Quit) threads) (rounds_spelt seed threads lines few)
    ∙ ap (λ (l : List ℕ). spelling (rounds_say seed threads lines) ++ l) (clients_spelt line.Quit threads)
    ∙ sym (spelling_append (rounds_say seed threads lines) (client_phrases line.Quit threads)) in
    sym (append_assoc (declarations threads) (procedure threads) (rounds seed threads lines ++ each (client_line line.Quit) threads))
    ∙ ap (λ (l : List ℕ). l ++ (rounds seed threads lines ++ each (client_line line.Quit) threads)) (heading_spelt threads)
    ∙ ap (λ (l : List ℕ). spelling (head threads) ++ l) behind
    ∙ sym (spelling_append (head threads) (posts seed threads lines))

-- posts start no procedure
posts_declared : (seed threads lines : ℕ) (d : Declared) → AllByRecursion (λ q. IsTrue (is_declared d q)) (posts seed threads lines)
unfolding row_of
posts_declared seed threads lines d =
    all_append (λ q. IsTrue (is_declared d q)) (rounds_say seed threads lines) (client_phrases line.Quit threads)
    (all_gathered (λ q. IsTrue (is_declared d q)) (λ i. round_says threads (past seed (i * threads)) i) lines
    (λ i lt. all_gathered (λ q. IsTrue (is_declared d q)) _ threads (λ c l. (refl, tt))))
    (all_gathered (λ q. IsTrue (is_declared d q)) (λ c. client_phrase line.Quit c ∷ []) threads (λ c lt. (refl, tt)))

round_length : (threads x i : ℕ) → threads ≤ 16 → i < 10000 → length (round threads x i) ≤ 640
round_length threads x i few h =
    omega (arith, length_each (λ c. post_line (past x c) i c) 40 threads (λ c lt. post_length (past x c) i c (omega arith) h))

rounds_length : (seed threads n : ℕ) → threads ≤ 16 → n ≤ 10000 → length (rounds seed threads n) ≤ n * 640
rounds_length seed threads n few h =
    length_each (λ i. round threads (past seed (i * threads)) i) 640 n (λ i lt. round_length threads (past seed (i * threads)) i few (omega arith))

quits_length : (threads : ℕ) → threads ≤ 16 → length (each (client_line line.Quit) threads) ≤ 640
quits_length threads few = omega (arith, length_each (client_line line.Quit) 40 threads (λ c lt. quit_length c (omega arith)))

short : (seed threads lines : ℕ) → threads ≤ 16 → lines ≤ 10000 → length (heading threads) ≤ 10000 → length (made_script seed threads lines) ≤ 16777216
unfolding made_script
short seed threads lines few h head_short =
    omega (
      arith,
      length-append (declarations threads) (procedure threads ++ (rounds seed threads lines ++ each (client_line line.Quit) threads)),
      length-append (procedure threads) (rounds seed threads lines ++ each (client_line line.Quit) threads),
      length-append (declarations threads) (procedure threads),
      length-append (rounds seed threads lines) (each (client_line line.Quit) threads),
      head_short,
      rounds_length seed threads lines few h,
      quits_length threads few,
    )

some_closed : (d : Draft) → is_some d.current ≡ true → 0 < length (with_last_procedure d).procs
some_closed d h = some_more d.current h
  where
    some_more : (o : Option Proc) → is_some o ≡ true → 0 < length (d.script.procs ++ option_to_list o)
    some_more None e = absurd cc
    some_more (Some p) e = omega (arith, length-append d.script.procs (p ∷ []))

spelled : (seed threads lines : ℕ) → IsAllowed threads lines
    → SpelledBy (made_script seed threads lines) (script_of (says seed threads lines)) (says seed threads lines)
spelled seed threads lines a =
    let few = a.few_threads in
    let h = heads threads a.some_threads few in
    let ready : IsReady threads 0 0 (fold moved start (head threads)).known (fold moved start (head threads)) = record {
      posts_follow = h.posts_follow;
      low = λ d from lt. omega (arith, h.none_posted d lt);
      most = λ d lt. omega (arith, h.none_posted d lt);
      knows = refl;
    } in
    let p = all_posts seed threads lines (fold moved start (head threads)).known (fold moved start (head threads)) (λ c. codes "quit")
    (omega (arith, a.few_lines)) ready in
    let known : declared_of (says seed threads lines) ≡ declared_of (head threads) =
    known_is (says seed threads lines) ∙ ap (λ s. s.known) (fold-append moved start (head threads) (posts seed threads lines))
    ∙ p.ready.knows ∙ sym (known_is (head threads)) in
    let some : is_some (draft_of (says seed threads lines)).current ≡ true =
    subst (λ d. is_some d.current ≡ true) (sym (fold-append after_add empty_draft (head threads) (posts seed threads lines)))
    (some_behind (draft_of (head threads)) (posts seed threads lines) (has_procedure threads)) in
    record {
      text_is = text_is seed threads lines a.few_lines;
      short = short seed threads lines few a.few_lines h.short;
      are_lines = all_append IsLine (head threads) (posts seed threads lines) (are_lines threads few) (all_append IsLine (rounds_say seed
          threads lines) (client_phrases line.Quit threads) (rounds_are_lines seed threads lines few a.few_lines) (are_client_lines line.Quit threads few));
      stand = all_stand (says seed threads lines) (stands_append start (head threads) (posts seed threads lines) h.stand p.stand);
      declared = subst (λ d. AllByRecursion (λ q. IsTrue (is_declared d q)) (says seed threads lines)) (sym known)
          (all_append (λ q. IsTrue (is_declared (declared_of (head threads)) q)) (head threads) (posts seed threads lines) h.declared
          (posts_declared seed threads lines (declared_of (head threads))));
      some = some_closed (draft_of (says seed threads lines)) some;
      script_is = refl;
    }

pub made_spells : (seed threads lines : ℕ) → IsAllowed threads lines → MadeSpells seed threads lines
made_spells seed threads lines a = (script_of (says seed threads lines), (says seed threads lines, spelled seed threads lines a))
