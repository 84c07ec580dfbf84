-- The posts keep every rule: each client has posted fewer lines than it may.
use Rattle.std.proofs.Common.{◌≡◌, ℕ, zero, suc, ◌*◌, ◌^◌, ◌/◌, ◌<◌, ◌≤◌, true, ◌&&◌, leb, ltb, List, [], ◌∷◌, ◌++◌}
use Rattle.std.proofs.Common.{length, fold, refl, sym, ap, subst, arith, rules, inl, inr, length-append}
use Rattle.std.specs.Prelude.{codes, slice_index_or}
use Rattle.std.specs.Fmt.{decimal}
use Rattle.std.specs.List.{AllByRecursion}
use Rattle.std.specs.Str.{all_ascii_digits}
use Rattle.std.specs.Char.{is_ascii_digit}
use Rattle.std.proofs.lemmas.Bool.{cases_lt, lt-ltb, le-leb}
use Rattle.std.proofs.lemmas.Bool.Decides.{nat_tests}
use Rattle.std.proofs.lemmas.List.Sums.{fold-append}
use Rattle.std.proofs.lemmas.List.Folds.{list_all-append}
use Rattle.std.proofs.lemmas.Fmt.{digits_decimal, length-decimal-le}
use Rattle.std.proofs.lemmas.Nat.{mod_below}
use Rattle.std.proofs.lemmas.Str.Parse.{IsNumeralModel, numerals_by_fold}
use Rattle.lwp_types.specs.TextFields.{is_printable, is_text}
use Rattle.script_lines.specs.Table.{row_of}
use Rattle.script_text.specs.declared.reader.Declared.{Declared}
use Rattle.script_lines.specs.declared.table.Role.TheVariants as role
use Rattle.script_lines.specs.Phrase.{Phrase}
use Rattle.script_lines.specs.Words.{value_after}
use Rattle.trace_text.specs.Lines.{with_space}
use Rattle.script_text.specs.Grammar.{spelling, follows}
use Rattle.script_lines.specs.Line.{IsLine}
use Rattle.script_text.specs.Meaning.{after_raise}
use Rattle.lwp_serve.specs.Maker.Draws.{next, draw_below}
use Rattle.lwp_serve.specs.declared.maker.script.ClientLine.TheVariants as line
use Rattle.lwp_serve.specs.Maker.Made.{client_line, command, post_line, past, round, rounds}
use Rattle.lwp_serve.proofs.MakerLaws.Gathered.{both, gathered, spelt_each, all_gathered}
use Rattle.lwp_serve.proofs.MakerLaws.Standing.{Place, moved, stands, stands_append}
use Rattle.lwp_serve.proofs.MakerLaws.Heading.{post, line_end}

-- ---- Texts.

digit_is_printable : (b : ℕ) → is_ascii_digit b ≡ true → (leb 32 b && leb b 126) ≡ true
digit_is_printable b h = grind (arith, nat_tests)

digits_are_printable : (bs : List ℕ) → all_ascii_digits bs ≡ true → is_printable bs ≡ true
digits_are_printable [] h = refl
digits_are_printable (b ∷ bs) h =
    let t = both (is_ascii_digit b) (all_ascii_digits bs) h in
    rw (digit_is_printable b t.0, digits_are_printable bs t.1) refl

own : IsNumeralModel (λ ds. all_ascii_digits ds ≡ true) (value_after 0)
own = numerals_by_fold _ (search rules) value_after (search rules)

number_is_printable : (n : ℕ) → n < 2 ^ 32 → is_printable (decimal n) ≡ true
number_is_printable n h = digits_are_printable (decimal n) (digits_decimal own n (omega arith))

printable_append : (xs ys : List ℕ) → is_printable xs ≡ true → is_printable ys ≡ true → is_printable (xs ++ ys) ≡ true
printable_append xs ys h k = rw (list_all-append (λ b. leb 32 b && leb b 126) xs ys, h, k) refl

short_decimal : (n : ℕ) → n < 10000 → length (decimal n) ≤ 4
short_decimal n h = length-decimal-le 4 n (omega arith) (omega arith) (omega arith)

-- what is written of a command
record Written (text : List ℕ) : Type 0 where
  printable : is_printable text ≡ true
  short : length text ≤ 20
  seen : with_space text ≡ 32 ∷ text

written : (kind k i : ℕ) → k < 10000 → i < 10000 → Written (command kind k i)
written zero k i hk hi = record {
  printable = printable_append (decimal k) (codes " v" ++ decimal i) (number_is_printable k (omega arith)) (number_is_printable i (omega arith));
  short = omega (arith, length-append (decimal k) (codes " v" ++ decimal i), short_decimal k hk, short_decimal i hi);
  seen = refl;
}
written (suc zero) k i hk hi = record { printable = number_is_printable k (omega arith); short = omega (arith, short_decimal k hk); seen = refl }
written (suc (suc zero)) k i hk hi = record { printable = number_is_printable k (omega arith); short = omega (arith, short_decimal k hk); seen = refl }
written (suc (suc (suc n))) k i hk hi = record { printable = refl; short = omega arith; seen = refl }

-- the command that is drawn at a state
abbrev drawn_command : ℕ → ℕ → List ℕ
drawn_command x i = command (draw_below 4 (next (next x))) (draw_below 50 (next x)) i

drawn_written : (x i : ℕ) → i < 10000 → Written (drawn_command x i)
drawn_written x i h =
    let k : draw_below 50 (next x) < 50 = mod_below (next x / 2 ^ 33) 50 (omega arith) in
    written (draw_below 4 (next (next x))) (draw_below 50 (next x)) i (omega arith) h

-- what a post says
abbrev drawn_post : ℕ → ℕ → ℕ → Phrase
drawn_post x i c = post c (drawn_command x i)

post_is_line : (c : ℕ) (text : List ℕ) → c < 16 → Written text → IsLine (post c text)
unfolding row_of
post_is_line c text h w =
    let fits : leb (length text) 240 ≡ true = le-leb (length text) 240 (omega (arith, w.short)) in
    let is : is_text text ≡ true = rw (fits, w.printable) refl in
    ((omega arith, (is, tt)), refl)

post_spelt : (c : ℕ) (text : List ℕ) → with_space text ≡ 32 ∷ text
    → codes "post " ++ (decimal c ++ (codes " " ++ (text ++ codes "\n"))) ≡ spelling (post c text ∷ [])
unfolding row_of
post_spelt c text h = rw h (ap (λ (l : List ℕ). codes "post " ++ l) (line_end (decimal c) (32 ∷ text)))

pub post_length : (x i c : ℕ) → c < 16 → i < 10000 → length (post_line x i c) ≤ 40
post_length x i c few h =
    let text = drawn_command x i in
    let w = drawn_written x i h in
    omega (arith, length-append (decimal c) (codes " " ++ (text ++ codes "\n")), length-append text (codes "\n"), short_decimal c (omega arith), w.short)

pub quit_length : (c : ℕ) → c < 16 → length (client_line line.Quit c) ≤ 40
quit_length c few = omega (arith, length-append (decimal c) (codes " quit\n"), short_decimal c (omega arith))

-- ---- Rounds.

-- what a round says, begun at a state
abbrev pub round_says : ℕ → ℕ → ℕ → List Phrase
round_says n x i = gathered (λ c. drawn_post (past x c) i c ∷ []) n

-- what the rounds below n say
abbrev pub rounds_say : ℕ → ℕ → ℕ → List Phrase
rounds_say seed threads n = gathered (λ i. round_says threads (past seed (i * threads)) i) n

round_spelt : (threads x i : ℕ) → i < 10000 → round threads x i ≡ spelling (round_says threads x i)
round_spelt threads x i h = spelt_each (λ c. post_line (past x c) i c) (λ c. drawn_post (past x c) i c ∷ []) threads
    (λ c lt. post_spelt c (drawn_command (past x c) i) (drawn_written (past x c) i h).seen)

pub rounds_spelt : (seed threads n : ℕ) → n ≤ 10000 → rounds seed threads n ≡ spelling (rounds_say seed threads n)
rounds_spelt seed threads n h = spelt_each (λ i. round threads (past seed (i * threads)) i)
    (λ i. round_says threads (past seed (i * threads)) i) n (λ i lt. round_spelt threads (past seed (i * threads)) i (omega arith))

pub rounds_are_lines : (seed threads n : ℕ) → threads ≤ 16 → n ≤ 10000 → AllByRecursion IsLine (rounds_say seed threads n)
rounds_are_lines seed threads n few h = all_gathered IsLine (λ i. round_says threads (past seed (i * threads)) i) n (λ i lt.
    all_gathered IsLine (λ c. drawn_post (past (past seed (i * threads)) c) i c ∷ []) threads (λ c l.
    (post_is_line c (drawn_command (past (past seed (i * threads)) c) i) (omega arith) (drawn_written (past (past seed (i * threads)) c) i (omega arith)), tt)))

-- ---- They stand.

raised_more : (c d e : ℕ) (ns : List ℕ) → slice_index_or (after_raise c ns) d e ≤ suc (slice_index_or ns d e)
raised_more c d e [] = omega arith
raised_more zero zero e (n ∷ ns) = omega arith
raised_more zero (suc d) e (n ∷ ns) = omega arith
raised_more (suc c) zero e (n ∷ ns) = omega arith
raised_more (suc c) (suc d) e (n ∷ ns) = raised_more c d e ns

raised_other : (c d e : ℕ) (ns : List ℕ) → c < d → slice_index_or (after_raise c ns) d e ≡ slice_index_or ns d e
raised_other c d e [] lt = refl
raised_other zero zero e (n ∷ ns) lt = absurd (omega arith)
raised_other zero (suc d) e (n ∷ ns) lt = refl
raised_other (suc c) zero e (n ∷ ns) lt = absurd (omega arith)
raised_other (suc c) (suc d) e (n ∷ ns) lt = raised_other c d e ns (omega arith)

raised_behind : (c d e : ℕ) (ns : List ℕ) → d < c → slice_index_or (after_raise c ns) d e ≡ slice_index_or ns d e
raised_behind c d e [] lt = refl
raised_behind zero d e (n ∷ ns) lt = absurd (omega arith)
raised_behind (suc c) zero e (n ∷ ns) lt = refl
raised_behind (suc c) (suc d) e (n ∷ ns) lt = raised_behind c d e ns (omega arith)

-- each client may post: those from c on have posted n lines at most, and none has posted more than one line more
pub record IsReady (threads c n : ℕ) (known : Declared) (s : Place) : Type 0 where
  pub posts_follow : follows s.stage role.Post ≡ true
  pub low : (d : ℕ) → c ≤ d → d < threads → slice_index_or s.posted d 20000 ≤ n
  pub most : (d : ℕ) → d < threads → slice_index_or s.posted d 20000 ≤ suc n
  pub knows : s.known ≡ known

-- what holds after posts that may stand
pub record Posted (threads c n : ℕ) (known : Declared) (s : Place) (ps : List Phrase) : Type 0 where
  pub stand : stands s ps ≡ true
  pub ready : IsReady threads c n known (fold moved s ps)

most_behind : (threads c n d : ℕ) (known : Declared) (s : Place) → c < threads → d < threads → IsReady threads c n known s
    → slice_index_or (after_raise c s.posted) d 20000 ≤ suc n
most_behind threads c n d known s inside lt r = elim (cases_lt d c) [
  | inl less ↦ omega (arith, raised_behind c d 20000 s.posted less, r.most d lt)
  | inr more ↦ omega (arith, raised_more c d 20000 s.posted, r.low d more lt)
]

one_post : (threads c n : ℕ) (known : Declared) (s : Place) (text : List ℕ) → c < threads → n < 20000 → IsReady threads c n known s
    → Posted threads (suc c) n known s (post c text ∷ [])
unfolding row_of
one_post threads c n known s text inside few r =
    let fewer : ltb (slice_index_or s.posted c 20000) 20000
    ≡ true = lt-ltb (slice_index_or s.posted c 20000) 20000 (omega (arith, r.low c (omega arith) inside)) in
    record {
      stand = rw (r.posts_follow, fewer) refl;
      ready = record {
        posts_follow = refl;
        low = λ d from lt. omega (arith, raised_other c d 20000 s.posted (omega arith), r.low d (omega arith) lt);
        most = λ d lt. most_behind threads c n d known s inside lt r;
        knows = r.knows;
      };
    }

posts_append : (threads c d n m : ℕ) (known : Declared) (s : Place) (ps qs : List Phrase) → Posted threads c n known s ps
    → Posted threads d m known (fold moved s ps) qs → Posted threads d m known s (ps ++ qs)
posts_append threads c d n m known s ps qs h k = record {
  stand = stands_append s ps qs h.stand k.stand;
  ready = subst (IsReady threads d m known) (sym (fold-append moved s ps qs)) k.ready;
}

nothing_posted : (threads c n : ℕ) (known : Declared) (s : Place) → IsReady threads c n known s → Posted threads c n known s []
nothing_posted threads c n known s r = record { stand = refl; ready = r }

one_round : (threads k n : ℕ) (known : Declared) (s : Place) (text : ℕ → List ℕ) → k ≤ threads → n < 20000 → IsReady threads 0 n known s
    → Posted threads k n known s (gathered (λ c. post c (text c) ∷ []) k)
one_round threads zero n known s text le few r = nothing_posted threads 0 n known s r
one_round threads (suc k) n known s text le few r =
    let before = one_round threads k n known s text (omega arith) few r in
    posts_append threads k (suc k) n n known s (gathered (λ c. post c (text c) ∷ []) k) (post k (text k) ∷ []) before
    (one_post threads k n known (fold moved s (gathered (λ c. post c (text c) ∷ []) k)) (text k) (omega arith) few before.ready)

-- after a whole round the next one begins
next_round : (threads n : ℕ) (known : Declared) (s : Place) → IsReady threads threads n known s → IsReady threads 0 (suc n) known s
next_round threads n known s r = record {
  posts_follow = r.posts_follow;
  low = λ d from lt. r.most d lt;
  most = λ d lt. omega (arith, r.most d lt);
  knows = r.knows;
}

whole_round : (threads n : ℕ) (known : Declared) (s : Place) (text : ℕ → List ℕ) → n < 20000 → IsReady threads 0 n known s
    → Posted threads 0 (suc n) known s (gathered (λ c. post c (text c) ∷ []) threads)
whole_round threads n known s text few r =
    let p = one_round threads threads n known s text (omega arith) few r in
    record { stand = p.stand; ready = next_round threads n known (fold moved s (gathered (λ c. post c (text c) ∷ []) threads)) p.ready }

rounds_stand : (seed threads n : ℕ) (known : Declared) (s : Place) → n ≤ 20000 → IsReady threads 0 0 known s
    → Posted threads 0 n known s (rounds_say seed threads n)
rounds_stand seed threads zero known s few r = nothing_posted threads 0 0 known s r
rounds_stand seed threads (suc n) known s few r =
    let before = rounds_stand seed threads n known s (omega arith) r in
    posts_append threads 0 0 n (suc n) known s (rounds_say seed threads n) (round_says threads (past seed (n * threads)) n) before
    (whole_round threads n known (fold moved s (rounds_say seed threads n)) (λ c. drawn_command (past (past seed (n * threads)) c) n)
    (omega arith) before.ready)

-- the posts of all rounds, and then one of each client
pub all_posts : (seed threads n : ℕ) (known : Declared) (s : Place) (text : ℕ → List ℕ) → n < 20000 → IsReady threads 0 0 known s
    → Posted threads 0 (suc n) known s (rounds_say seed threads n ++ gathered (λ c. post c (text c) ∷ []) threads)
all_posts seed threads n known s text few r =
    let before = rounds_stand seed threads n known s (omega arith) r in
    posts_append threads 0 0 n (suc n) known s (rounds_say seed threads n) (gathered (λ c. post c (text c) ∷ []) threads) before
    (whole_round threads n known (fold moved s (rounds_say seed threads n)) text few before.ready)
