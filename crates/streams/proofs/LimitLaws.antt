-- What was read of a source, once it ends or enough was read.
use Rattle.lwp_types.specs.Streams.{Reads}
use Rattle.std.proofs.Common.{List, None, Ok, Err, OnErr, Option, Result, Some, [], ap, arith, drop, length, length-take, refl, sym, take, take_all}
use Rattle.std.proofs.Common.{ℕ, ◌++◌, ◌+◌, ◌<◌, ◌∙◌, ◌∷◌, ◌≡◌, ◌≤◌}
use Rattle.std.proofs.Math.Seq.{drop-append-add}
use Rattle.std.proofs.lemmas.List.{drop_all, take-append-drop, take-append-le}
use Rattle.streams.proofs.ReadLaws.{read_end}
use Rattle.streams.specs.Limited.{HasFront, IsReadUp, IsReadWithin, left_after}
use Rattle.streams.specs.Reading.{HasRead, IsReadPart, ReadSoFar}

take-front : (n : ℕ) (xs ys : List ℕ) → length xs ≡ n → take n (xs ++ ys) ≡ xs
take-front n xs ys h = let short : n ≤ length xs = omega arith in take-append-le n xs ys short ∙ take_all n xs (omega arith)

-- no more may be read
pub front-full : (most : ℕ) (left now : Option (List ℕ)) (bytes : List ℕ) → ReadSoFar left now bytes → length bytes ≡ most → HasFront most left bytes
front-full most None now bytes h full = tt
front-full most (Some told) now bytes h full = sym (ap (take most) h.2 ∙ take-front most bytes h.0 full)

-- no more is there
pub front-end : (most : ℕ) (left now after : Option (List ℕ)) (bytes got : List ℕ) (n : ℕ) → ReadSoFar left now bytes
    → Reads now after got n → n ≡ 0 → length bytes ≤ most → HasFront most left bytes
front-end most None now after bytes got n h r none short = tt
front-end most (Some told) now after bytes got n h r none short =
    let all = read_end (Some told) now after bytes got n h r none in sym (ap (take most) all.0 ∙ take_all most bytes short)

-- ---- what is left

drop-front : (xs ys : List ℕ) → drop (length xs) (xs ++ ys) ≡ ys
drop-front [] ys = refl
drop-front (x ∷ xs) ys = drop-front xs ys

-- between two reads
after-so_far : (left now : Option (List ℕ)) (bytes : List ℕ) → ReadSoFar left now bytes → now ≡ left_after (length bytes) left
after-so_far None now bytes h = h
after-so_far (Some told) now bytes h = h.1 ∙ ap (λ xs. Some xs) (sym (ap (drop (length bytes)) h.2 ∙ drop-front bytes h.0))

-- after a read
after-read : (now after : Option (List ℕ)) (got : List ℕ) (n : ℕ) → Reads now after got n → after ≡ left_after n now
after-read None after got n r = r
after-read (Some rest) after got n r = r.1

after-more : (left now : Option (List ℕ)) (bytes : List ℕ) (n : ℕ) → ReadSoFar left now bytes → left_after n now ≡ left_after (length bytes + n) left
after-more None now bytes n h = ap (left_after n) h
after-more (Some told) now bytes n h = ap (left_after n) h.1 ∙ ap (λ xs. Some xs) (sym (ap (drop (length bytes + n)) h.2 ∙ drop-append-add bytes h.0 n))

pub part-read : (most : ℕ) (left now after : Option (List ℕ)) (bytes got : List ℕ) (n : ℕ) → ReadSoFar left now bytes
    → Reads now after got n → length bytes + n ≤ most → IsReadWithin most left after
part-read most left now after bytes got n h r within = (length bytes + n, within, after-read now after got n r ∙ after-more left now bytes n h)

-- no more may be read
pub up-full : (most : ℕ) (left now : Option (List ℕ)) (bytes : List ℕ) → ReadSoFar left now bytes → length bytes ≡ most → IsReadUp most left now
up-full most left now bytes h full = after-so_far left now bytes h ∙ ap (λ n. left_after n left) full

-- no more is there
pub up-end : (most : ℕ) (left now after : Option (List ℕ)) (bytes got : List ℕ) (n : ℕ) → ReadSoFar left now bytes → Reads now after got n
    → n ≡ 0 → length bytes ≤ most → IsReadUp most left after
up-end most None now after bytes got n h r none within = read_end None now after bytes got n h r none
up-end most (Some told) now after bytes got n h r none within =
    let all = read_end (Some told) now after bytes got n h r none in
    all.1 ∙ ap (λ xs. Some xs) (sym (ap (drop most) all.0 ∙ drop_all most bytes within))

-- ---- without a limit

-- fewer bytes were read than might have been: they are all that there were
pub read-all : (most : ℕ) (left now : Option (List ℕ)) (text : List ℕ) → HasFront most left text → IsReadUp most left now
    → length text < most → HasRead left now text
read-all most None now text front up short = up
read-all most (Some told) now text front up short =
    let all : length told ≤ most = omega (arith, length-take most told, ap length front, short) in
    (sym (front ∙ take_all most told all), up ∙ ap (λ xs. Some xs) (drop_all most told all))

pub part-within : (most : ℕ) (left now : Option (List ℕ)) → IsReadWithin most left now → IsReadPart left now
part-within most None now h = ([], h.2)
part-within most (Some told) now h = (take h.0 told, (drop h.0 told, h.2, sym (take-append-drop h.0 told)))

pub part-up : (most : ℕ) (left now : Option (List ℕ)) → IsReadUp most left now → IsReadPart left now
part-up most left now up = part-within most left now (most, omega arith, up)

-- a fact of an error holds where there is one
pub on_err : {X E : Type 0} (r : Result X E) (P : Type 0) → P → OnErr r P
on_err (Ok x) P h = tt
on_err (Err e) P h = h
