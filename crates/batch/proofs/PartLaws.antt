-- The parts of a text, one after another.
use Rattle.batch.specs.Parts.{in_front, line_length, part_at, part_after, parts_from, length_told}
use Rattle.batch.specs.declared.part.Part.{Part}
use Rattle.std.proofs.Common.{Err, List, None, Ok, Option, Result, Some, [], ap, append-nil, append_assoc, arith, drop, length, refl, suc, sym, take}
use Rattle.std.proofs.Common.{zero, ℕ, ◌++◌, ◌+◌, ◌<◌, ◌∙◌, ◌∷◌, ◌≡◌, ◌≤◌}
use Rattle.std.proofs.lemmas.Bool.{le-leb, lt-leb}
use Rattle.std.proofs.lemmas.List.{length-append}

-- parts that were found, in front of those that come after them
abbrev pub all_after : List Part → Result (List Part) ℕ → Result (List Part) ℕ
all_after found (Ok parts) = Ok (found ++ parts)
all_after found (Err bad) = Err (length found + bad)

pushed : (found : List Part) (part : Part) (r : Result (List Part) ℕ) → all_after found (in_front part r) ≡ all_after (found ++ part ∷ []) r
pushed found part (Ok parts) = ap (λ xs. Ok xs) (sym (append_assoc found (part ∷ []) parts))
pushed found part (Err bad) = ap (λ n. Err n) (omega (arith, length-append found (part ∷ [])))

-- one more part is found
pub found-more : (found : List Part) (bytes : List ℕ) (at many left : ℕ) (part : Part) → left ≡ suc many → at < length bytes → part_at bytes at ≡ Some part
    → all_after found (parts_from left bytes at) ≡ all_after (found ++ part ∷ []) (parts_from many bytes part.to)
found-more found bytes at many left part is inside here = rw (is, lt-leb (length bytes) at inside, here) (pushed found part (parts_from many bytes part.to))

-- no more is there
pub found-all : (found : List Part) (bytes : List ℕ) (at left : ℕ) → length bytes ≤ at → all_after found (parts_from left bytes at) ≡ Ok found
found-all found bytes at zero over = rw (le-leb (length bytes) at over) (ap (λ xs. Ok xs) (append-nil found))
found-all found bytes at (suc many) over = rw (le-leb (length bytes) at over) (ap (λ xs. Ok xs) (append-nil found))

-- the next one is bad
pub found-bad : (found : List Part) (bytes : List ℕ) (at many left : ℕ) → left ≡ suc many → at < length bytes → part_at bytes at ≡ None
    → all_after found (parts_from left bytes at) ≡ Err (length found)
found-bad found bytes at many left is inside bad = rw (is, lt-leb (length bytes) at inside, bad) (ap (λ n. Err n) (omega arith))

-- one more may not come
pub found-many : (found : List Part) (bytes : List ℕ) (at left : ℕ) → left ≡ 0 → at < length bytes
    → all_after found (parts_from left bytes at) ≡ Err (length found)
found-many found bytes at left is inside = rw (is, lt-leb (length bytes) at inside) (ap (λ n. Err n) (omega arith))

-- the part at a place, by what its line says
pub part-is : (bytes : List ℕ) (at line : ℕ) (said : Option ℕ) → line ≡ line_length (drop at bytes)
    → said ≡ length_told (take line (drop at bytes)) → part_after at line said (length bytes) ≡ part_at bytes at
part-is bytes at line said l s = ap (λ x. part_after at line x (length bytes)) s
    ∙ ap (λ k. part_after at k (length_told (take k (drop at bytes))) (length bytes)) l

-- a part of which bytes are missing
pub part-short : (bytes : List ℕ) (at line size : ℕ) → line ≡ line_length (drop at bytes)
    → Some size ≡ length_told (take line (drop at bytes)) → length bytes < at + line + 1 + size → None ≡ part_at bytes at
part-short bytes at line size l s short =
    let no : None ≡ part_after at line (Some size) (length bytes) = rw (lt-leb (at + line + 1 + size) (length bytes) short) refl in
    no ∙ part-is bytes at line (Some size) l s

-- a part that is there
pub part-whole : (bytes : List ℕ) (at line size : ℕ) → line ≡ line_length (drop at bytes)
    → Some size ≡ length_told (take line (drop at bytes)) → at + line + 1 + size ≤ length bytes
    → Some (record { from = at + line + 1; to = at + line + 1 + size }) ≡ part_at bytes at
part-whole bytes at line size l s whole =
    let yes : Some (record { from = at + line + 1; to = at + line + 1 + size })
    ≡ part_after at line (Some size) (length bytes) = rw (le-leb (at + line + 1 + size) (length bytes) whole) refl in
    yes ∙ part-is bytes at line (Some size) l s
