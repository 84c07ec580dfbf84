-- What is put at the front of a buffer.
use Rattle.c_pods.specs.Effects.{put_front}
use Rattle.std.proofs.Common.{◌≡◌, List, [], ◌∷◌, length, refl, ap}
use Rattle.std.specs.Prelude.{take}

-- of some bytes the first that there is room for are enough
pub front_of_first : {A : Type 0} (xs buffer : List A) → put_front (take (length buffer) xs) buffer ≡ put_front xs buffer
front_of_first [] [] = refl
front_of_first [] (b ∷ buffer) = refl
front_of_first (x ∷ xs) [] = refl
front_of_first (x ∷ xs) (b ∷ buffer) = ap (λ ys. x ∷ ys) (front_of_first xs buffer)
