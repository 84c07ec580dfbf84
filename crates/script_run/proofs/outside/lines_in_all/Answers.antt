use Rattle.script_run.proofs.outside.lines_in_all.Goals as goal
use Rattle.lwp_types.specs.declared.text.Text.{Text}
use Rattle.std.proofs.Common.{All, Global, List, Vec, [], ap, arith, length, map, refl, slice_index_or, sum_by, sym, take, ℕ, ◌+◌, ◌<◌, ◌∙◌, ◌∷◌, ◌≡◌, ◌≤◌}
use Rattle.std.proofs.lemmas.List.Sums.{sum_by-cons, sum_by-le, sum_by_more_le}

-- the texts of all lists, whether they stand in vectors or not
sum-items : (vs : List (Vec Text Global)) → sum_by (λ (v : Vec Text Global). length v.items) vs ≡ sum_by length (map (λ (v : Vec Text Global). v.items) vs)
sum-items [] = refl
sum-items (v ∷ vs) = sum_by-cons (λ (w : Vec Text Global). length w.items) v vs ∙ ap (λ n. length v.items + n) (sum-items vs)
    ∙ sym (sum_by-cons length v.items (map (λ (w : Vec Text Global). w.items) vs))

-- the texts so far and those of one list more are few enough
few-more : (vs : List (Vec Text Global)) (i : ℕ) (v : Vec Text Global) → i < length vs → v ≡ slice_index_or vs i v
    → length (map (λ (w : Vec Text Global). w.items) vs) ≤ 16
    → All (λ ts. length ts ≤ 20000) (map (λ (w : Vec Text Global). w.items) vs)
    → sum_by (λ (w : Vec Text Global). length w.items) (take i vs) + length v.items ≤ 320000
few-more vs i v within is small few =
    let part = sum_by_more_le (λ (w : Vec Text Global). length w.items) vs i v within in
    let whole = sum_by-le length 20000 (map (λ (w : Vec Text Global). w.items) vs) few in
    let same = sum-items vs in
    let here = ap (λ (w : Vec Text Global). length w.items) is in
    omega (arith, part, whole, same, here, small)

pub overflow_cast-lines : goal.overflow_cast-lines
overflow_cast-lines c =
    let few = few-more c.args.texts.now c.loop-of_client.of_client-index c.of_client-item.result c.loop-of_client-test.true
    c.of_client-item.is c.requires.clients c.requires.few in
    omega (arith, few, c.len.ensures)

pub overflow_add-lines : goal.overflow_add-lines
overflow_add-lines c =
    let few = few-more c.args.texts.now c.loop-of_client.of_client-index c.of_client-item.result c.loop-of_client-test.true
    c.of_client-item.is c.requires.clients c.requires.few in
    omega (arith, few, c.len.ensures, c.loop-of_client.invariant)
