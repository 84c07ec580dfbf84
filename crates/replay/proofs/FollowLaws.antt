-- What a sink that is written to keeps, and what a step of a walk comes to.
use Rattle.lwp_types.specs.Streams.{after_append}
use Rattle.replay.specs.Following.{Following, front_of, bytes_told}
use Rattle.pod_runner.proofs.Appends.{writes_base}
use Rattle.pod_runner.specs.Run.{Writes}
use Rattle.std.specs.Prelude.{Option}
use Rattle.std.proofs.Common.{List, None, Some, [], ap, append-nil, arith, length, refl, suc, sym, take, ℕ, ◌++◌, ◌∙◌, ◌∷◌, ◌≡◌}

abbrev head_in : ℕ → List ℕ → ℕ
head_in d [] = d
head_in d (x ∷ xs) = x

abbrev tail_in : List ℕ → List ℕ
tail_in [] = []
tail_in (x ∷ xs) = xs

suc-same : {m n : ℕ} → suc m ≡ suc n → m ≡ n
suc-same h = omega (arith, h)

-- of two texts that are the same, the fronts of the same length are
fronts-same : (a b x y : List ℕ) → length a ≡ length b → a ++ x ≡ b ++ y → (a ≡ b) × (x ≡ y)
fronts-same [] [] x y long h = (refl, h)
fronts-same [] (c ∷ b) x y long h = absurd (omega (arith, long))
fronts-same (c ∷ a) [] x y long h = absurd (omega (arith, long))
fronts-same (c ∷ a) (d ∷ b) x y long h =
    let first : c ≡ d = ap (head_in 0) h in
    let rest = fronts-same a b x y (suc-same long) (ap tail_in h) in
    (ap (λ z. z ∷ a) first ∙ ap (λ zs. d ∷ zs) rest.0, rest.1)

some-same : {A : Type 0} {x y : A} → Some x ≡ Some y → x ≡ y
some-same {A} {x} h = ap un h
  where
    un : Option A → A
    un None = x
    un (Some z) = z

-- a write of a trace that goes on leaves what was recorded and how far it was told
pub record Kept (old new : Following) (after : List ℕ) : Type 0 where
  pub recorded : new.recorded ≡ old.recorded
  pub at : new.at ≡ old.at
  pub lines : new.lines ≡ old.lines
  pub ticks : new.ticks ≡ old.ticks
  pub told : take old.at old.recorded ++ new.step ≡ after

pub kept : (old new : Following) (before after : List ℕ) → old.step ≡ [] → take old.at old.recorded ≡ before
    → Writes (Some (bytes_told old)) (Some (bytes_told new)) before after → Kept old new after
kept old new before after clean is writes =
    let start : Some (bytes_told old)
    ≡ after_append (Some (front_of old)) before = ap (λ s. Some (front_of old ++ (take old.at old.recorded ++ s))) clean
    ∙ ap (λ l. Some (front_of old ++ l)) (append-nil (take old.at old.recorded) ∙ is) in
    let wrote : bytes_told new ≡ front_of old ++ after = some-same (writes_base writes (Some (front_of old)) start) in
    let long : length new.recorded ≡ length old.recorded = ap (head_in 0) wrote in
    let one = ap tail_in wrote in
    let at : new.at ≡ old.at = ap (head_in 0) one in
    let two = ap tail_in one in
    let lines : new.lines ≡ old.lines = ap (head_in 0) two in
    let three = ap tail_in two in
    let ticks : new.ticks ≡ old.ticks = ap (head_in 0) three in
    let both = fronts-same new.recorded old.recorded (take new.at new.recorded ++ new.step) after long (ap tail_in three) in
    record {
      recorded = both.0;
      at = at;
      lines = lines;
      ticks = ticks;
      told = ap (λ n. take n old.recorded ++ new.step) (sym at) ∙ ap (λ r. take new.at r ++ new.step) (sym both.0) ∙ both.1;
    }
