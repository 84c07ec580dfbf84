-- How lines are answered, one after the other.
use Rattle.answer_laws.specs.Talks.{AreFirst}
use Rattle.line_server.specs.Tables.{Table, is_quit, line_answers, replies, served_text}
use Rattle.std.proofs.Common.{Bool, List, [], ap, cond, false, refl, sym, true, ℕ, ◌++◌, ◌∙◌, ◌∷◌, ◌≡◌, ◌||◌}
use Rattle.std.proofs.lemmas.List.{append-nil, append_assoc}
use Rattle.std.proofs.Math.Numerals.{one-add}
use Rattle.std.specs.List.{before_first, list_any, prefix_len}
use Rattle.std.specs.Prelude.{codes, not, take}

abbrev pub Texts : Type 0
Texts = List (List ℕ)

-- the table after these texts
abbrev pub table_after : Table → Texts → Table
table_after table [] = table
table_after table (text ∷ texts) = table_after (served_text text table).table texts

-- how lines are answered, with this table at first
abbrev pub answers_from : Table → Texts → Texts
answers_from table texts = replies table (before_first is_quit texts) ++ cond (list_any is_quit texts) (codes "bye" ∷ []) []

module _ (p : List ℕ → Bool) (text : List ℕ) (texts : Texts) where
  pub before_stays : p text ≡ false → before_first p (text ∷ texts) ≡ text ∷ before_first p texts
  before_stays e = rw e (ap (λ n. take n (text ∷ texts)) (one-add (prefix_len (λ x. not (p x)) texts)))

  pub before_ends : p text ≡ true → before_first p (text ∷ texts) ≡ []
  before_ends e = rw e refl

  pub any_stays : p text ≡ false → list_any p (text ∷ texts) ≡ list_any p texts
  any_stays e = rw e refl

  pub any_ends : p text ≡ true → list_any p (text ∷ texts) ≡ true
  any_ends e = rw e refl

abbrev answers_of : Table → Texts → Bool → Texts
answers_of table before ends = replies table before ++ cond ends (codes "bye" ∷ []) []

-- a line that isn't the last is replied to
answers_cons : (table : Table) (text : List ℕ) (texts : Texts) → is_quit text ≡ false
    → answers_from table (text ∷ texts) ≡ (served_text text table).reply ∷ answers_from (served_text text table).table texts
answers_cons table text texts e = ap (λ before. answers_of table before (list_any is_quit (text ∷ texts))) (before_stays is_quit text texts e)
    ∙ ap (answers_of table (text ∷ before_first is_quit texts)) (any_stays is_quit text texts e)

-- the last one is answered
answers_last : (table : Table) (text : List ℕ) → is_quit text ≡ true → answers_from table (text ∷ []) ≡ codes "bye" ∷ []
answers_last table text e = ap (λ before. answers_of table before (list_any is_quit (text ∷ []))) (before_ends is_quit text [] e)
    ∙ ap (answers_of table []) (any_ends is_quit text [] e)

answers_quit : (table : Table) (text : List ℕ) (texts : Texts) → is_quit text ≡ true → answers_from table (text ∷ texts) ≡ codes "bye" ∷ []
answers_quit table text texts e = ap (λ before. answers_of table before (list_any is_quit (text ∷ texts))) (before_ends is_quit text texts e)
    ∙ ap (answers_of table []) (any_ends is_quit text texts e)

-- the answers to some lines are the first to more
answers_grow : (xs ys : Texts) (table : Table) → AreFirst (answers_from table xs) (answers_from table (xs ++ ys))
answers_grow [] ys table = record { rest = answers_from table ys; whole = refl }
answers_grow (x ∷ xs) ys table = by_quit (answers_grow xs ys (served_text x table).table) (is_quit x) refl
  where
    by_quit : AreFirst (answers_from (served_text x table).table xs) (answers_from (served_text x table).table (xs ++ ys)) → (b : Bool)
        → is_quit x ≡ b → AreFirst (answers_from table (x ∷ xs)) (answers_from table (x ∷ (xs ++ ys)))
    by_quit later true e = record {
      rest = [];
      whole = append-nil (answers_from table (x ∷ xs)) ∙ answers_quit table x xs e ∙ sym (answers_quit table x (xs ++ ys) e);
    }
    by_quit later false e =
        record {
          rest = later.rest;
          whole = ap (λ zs. zs ++ later.rest) (answers_cons table x xs e) ∙ ap (λ zs. (served_text x table).reply ∷ zs) later.whole
              ∙ sym (answers_cons table x (xs ++ ys) e);
        }

pub first_more : (said xs ys : Texts) → AreFirst said (line_answers xs) → AreFirst said (line_answers (xs ++ ys))
first_more said xs ys first =
    let more = answers_grow xs ys [] in
    record { rest = first.rest ++ more.rest; whole = sym (append_assoc said first.rest more.rest) ∙ ap (λ zs. zs ++ more.rest) first.whole ∙ more.whole }

pub either_false : (a b : Bool) → (a || b) ≡ false → (a ≡ false) × (b ≡ false)
either_false true b e = absurd (cc)
either_false false b e = (refl, e)

-- lines of which none is the last are replied to, and then come the answers to the others
answers_append : (done more : Texts) (table : Table) → list_any is_quit done ≡ false
    → answers_from table (done ++ more) ≡ replies table done ++ answers_from (table_after table done) more
answers_append [] more table clean = refl
answers_append (text ∷ done) more table clean =
    let parts = either_false (is_quit text) (list_any is_quit done) clean in
    answers_cons table text (done ++ more) parts.0
    ∙ ap (λ rest. (served_text text table).reply ∷ rest) (answers_append done more (served_text text table).table parts.1)

pub first_replies : (done more : Texts) → list_any is_quit done ≡ false → AreFirst (replies [] done) (line_answers (done ++ more))
first_replies done more clean = record { rest = answers_from (table_after [] done) more; whole = sym (answers_append done more [] clean) }

pub first_all : (done : Texts) → list_any is_quit done ≡ false → AreFirst (replies [] done) (line_answers done)
first_all done clean = record { rest = (first_replies done [] clean).rest; whole = (first_replies done [] clean).whole ∙ ap line_answers (append-nil done) }

-- the last line
pub first_quit : (done : Texts) (text : List ℕ) → list_any is_quit done ≡ false → is_quit text ≡ true
    → AreFirst (replies [] done ++ codes "bye" ∷ []) (line_answers (done ++ text ∷ []))
first_quit done text clean quits = record {
  rest = [];
  whole = append-nil (replies [] done ++ codes "bye" ∷ [])
      ∙ sym (answers_append done (text ∷ []) [] clean ∙ ap (λ rest. replies [] done ++ rest) (answers_last (table_after [] done) text quits));
}

-- one line more
pub replies_push : (done : Texts) (text : List ℕ) (table : Table)
    → replies table (done ++ text ∷ []) ≡ replies table done ++ (served_text text (table_after table done)).reply ∷ []
replies_push [] text table = refl
replies_push (first ∷ done) text table = ap (λ rest. (served_text first table).reply ∷ rest) (replies_push done text (served_text first table).table)

pub table_push : (done : Texts) (text : List ℕ) (table : Table) → table_after table (done ++ text ∷ []) ≡ (served_text text (table_after table done)).table
table_push [] text table = refl
table_push (first ∷ done) text table = table_push done text (served_text first table).table

pub clean_push : (done : Texts) (text : List ℕ) → list_any is_quit done ≡ false → is_quit text ≡ false → list_any is_quit (done ++ text ∷ []) ≡ false
clean_push [] text clean stays = by_quit (is_quit text) stays
  where
    by_quit : (b : Bool) → b ≡ false → (b || false) ≡ false
    by_quit true e = absurd (cc)
    by_quit false e = refl
clean_push (first ∷ done) text clean stays =
    let parts = either_false (is_quit first) (list_any is_quit done) clean in
    by_quit (is_quit first) parts.0 (clean_push done text parts.1 stays)
  where
    by_quit : (b : Bool) → b ≡ false → list_any is_quit (done ++ text ∷ []) ≡ false → (b || list_any is_quit (done ++ text ∷ [])) ≡ false
    by_quit true e later = absurd (cc)
    by_quit false e later = later
