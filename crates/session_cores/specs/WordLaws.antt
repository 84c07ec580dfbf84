-- The numbers of words tell them apart.
use Rattle.keys.specs.NumberLaws.{alone_is_code, also, bits_apart, counted_is_code, heads, made_of, numbered, rests}
use Rattle.keys.specs.Numbers.{Always, IsCode, TellsApart, alone, bit, counted, pair_numbers}
use Rattle.lwp_types.specs.declared.call.Answer.TheVariants as answer
use Rattle.lwp_types.specs.declared.call.ExitCall.TheVariants as exit
use Rattle.lwp_types.specs.declared.call.Func.{Func}
use Rattle.lwp_types.specs.declared.call.Func.TheVariants as func
use Rattle.lwp_types.specs.declared.call.IdKind.{IdKind}
use Rattle.lwp_types.specs.declared.call.IdKind.TheVariants as kind
use Rattle.lwp_types.specs.declared.call.LwpErr.{LwpErr}
use Rattle.lwp_types.specs.declared.call.LwpErr.TheVariants as error
use Rattle.lwp_types.specs.declared.call.Pattern.TheVariants as pattern
use Rattle.session_cores.specs.Words.{answer_numbers, error_number, exit_numbers, flags_numbers, func_number, kind_number, pattern_numbers, value_numbers}
use Rattle.std.proofs.Common.{[], ap, arith, negsuc, pos, refl, sym, ℕ, ◌∙◌, ◌∷◌, ◌≡◌}
use Rattle.std.specs.Prelude.{slice_index_or}

-- ---- a number for each

pub bit_is_code : TellsApart (λ b. bit b ∷ [])
bit_is_code = numbered bit bits_apart

abbrev func_at : ℕ → Func
func_at n = slice_index_or (func.Nothing ∷ func.Give ∷ func.Sum ∷ []) n func.Nothing

func_back : (f : Func) → func_at (func_number f) ≡ f
func_back func.Nothing = refl
func_back func.Give = refl
func_back func.Sum = refl

func_apart : (f g : Func) → func_number f ≡ func_number g → f ≡ g
func_apart f g e = sym (func_back f) ∙ ap func_at e ∙ func_back g

pub func_is_code : TellsApart (λ f. func_number f ∷ [])
func_is_code = numbered func_number func_apart

abbrev kind_at : ℕ → IdKind
kind_at n = slice_index_or (kind.Thread ∷ kind.Monitor ∷ kind.Cond ∷ []) n kind.Thread

kind_back : (k : IdKind) → kind_at (kind_number k) ≡ k
kind_back kind.Thread = refl
kind_back kind.Monitor = refl
kind_back kind.Cond = refl

kind_is_code : TellsApart (λ k. kind_number k ∷ [])
kind_is_code = numbered kind_number (λ k l e. sym (kind_back k) ∙ ap kind_at e ∙ kind_back l)

abbrev error_at : ℕ → LwpErr
error_at n =
    slice_index_or (error.NoError ∷ error.NonExist ∷ error.Timeout ∷ error.InUse ∷ error.InvalidArg ∷ error.NoRoom ∷ error.NotOwned ∷ error.IllPrio
    ∷ error.NoWait ∷ []) n error.NoError

error_back : (e : LwpErr) → error_at (error_number e) ≡ e
error_back error.NoError = refl
error_back error.NonExist = refl
error_back error.Timeout = refl
error_back error.InUse = refl
error_back error.InvalidArg = refl
error_back error.NoRoom = refl
error_back error.NotOwned = refl
error_back error.IllPrio = refl
error_back error.NoWait = refl

error_is_code : TellsApart (λ e. error_number e ∷ [])
error_is_code = numbered error_number (λ d f e. sym (error_back d) ∙ ap error_at e ∙ error_back f)

-- ---- a few numbers

pub flags_is_code : TellsApart flags_numbers
flags_is_code =
    made_of (also bit_is_code (also bit_is_code bit_is_code)) (λ f. (f.suspended, (f.nolastrites, f.server)))
    (λ a b e i. record { suspended = (e i).0; nolastrites = (e i).1.0; server = (e i).1.1 })

pattern_apart : IsCode Always pattern_numbers
pattern_apart pattern.All pattern.All more others ha hb e = (refl, rests e)
pattern_apart (pattern.Num n) (pattern.Num m) more others ha hb e =
    let same = alone_is_code.apart n m more others tt tt (rests e) in (ap pattern.Num same.0, same.1)
pattern_apart pattern.All (pattern.Num m) more others ha hb e = absurd (omega (arith, heads e))
pattern_apart (pattern.Num n) pattern.All more others ha hb e = absurd (omega (arith, heads e))

pub pattern_is_code : TellsApart pattern_numbers
pattern_is_code = record { apart = pattern_apart }

value_apart : IsCode Always value_numbers
value_apart (pos n) (pos m) more others ha hb e = let same = alone_is_code.apart n m more others tt tt (rests e) in (ap pos same.0, same.1)
value_apart (negsuc n) (negsuc m) more others ha hb e =
    let same = alone_is_code.apart n m more others tt tt (rests e) in (ap negsuc same.0, same.1)
value_apart (pos n) (negsuc m) more others ha hb e = absurd (omega (arith, heads e))
value_apart (negsuc n) (pos m) more others ha hb e = absurd (omega (arith, heads e))

value_is_code : TellsApart value_numbers
value_is_code = record { apart = value_apart }

-- ---- variants by their first number, and what each holds

to_text_is_code : TellsApart (pair_numbers alone counted)
to_text_is_code = also alone_is_code counted_is_code

exit_apart : IsCode Always exit_numbers
exit_apart (exit.MonExit m1) (exit.MonExit m2) more others ha hb e =
    let same = alone_is_code.apart m1 m2 more others tt tt (rests e) in (ap exit.MonExit same.0, same.1)
exit_apart (exit.MonBreak m1) (exit.MonBreak m2) more others ha hb e =
    let same = alone_is_code.apart m1 m2 more others tt tt (rests e) in (ap exit.MonBreak same.0, same.1)
exit_apart (exit.Notify c1) (exit.Notify c2) more others ha hb e =
    let same = alone_is_code.apart c1 c2 more others tt tt (rests e) in (ap exit.Notify same.0, same.1)
exit_apart (exit.Broadcast c1) (exit.Broadcast c2) more others ha hb e =
    let same = alone_is_code.apart c1 c2 more others tt tt (rests e) in (ap exit.Broadcast same.0, same.1)
exit_apart (exit.Reply to1 text1) (exit.Reply to2 text2) more others ha hb e =
    let same = to_text_is_code.apart (to1, text1) (to2, text2) more others tt tt (rests e) in (ap (λ p. exit.Reply p.0 p.1) same.0, same.1)
exit_apart (exit.Resume t1) (exit.Resume t2) more others ha hb e =
    let same = alone_is_code.apart t1 t2 more others tt tt (rests e) in (ap exit.Resume same.0, same.1)
exit_apart (exit.SetExit code1) (exit.SetExit code2) more others ha hb e =
    let same = alone_is_code.apart code1 code2 more others tt tt (rests e) in (ap exit.SetExit same.0, same.1)
exit_apart (exit.Note text1) (exit.Note text2) more others ha hb e =
    let same = counted_is_code.apart text1 text2 more others tt tt (rests e) in (ap exit.Note same.0, same.1)
exit_apart _ _ more others ha hb e = absurd (omega (arith, heads e))

pub exit_is_code : TellsApart exit_numbers
exit_is_code = record { apart = exit_apart }

letter_is_code : TellsApart (pair_numbers alone (pair_numbers alone counted))
letter_is_code = also alone_is_code to_text_is_code

bound_is_code : TellsApart (pair_numbers (λ f. func_number f ∷ []) alone)
bound_is_code = also func_is_code alone_is_code

caught_is_code : TellsApart (pair_numbers alone (pair_numbers alone alone))
caught_is_code = also alone_is_code (also alone_is_code alone_is_code)

ids_is_code : TellsApart (pair_numbers (λ k. kind_number k ∷ []) counted)
ids_is_code = also kind_is_code counted_is_code

answer_apart : IsCode Always answer_numbers
answer_apart (answer.Value v1) (answer.Value v2) more others ha hb e =
    let same = value_is_code.apart v1 v2 more others tt tt (rests e) in (ap answer.Value same.0, same.1)
answer_apart (answer.Thread t1) (answer.Thread t2) more others ha hb e =
    let same = alone_is_code.apart t1 t2 more others tt tt (rests e) in (ap answer.Thread same.0, same.1)
answer_apart (answer.Monitor m1) (answer.Monitor m2) more others ha hb e =
    let same = alone_is_code.apart m1 m2 more others tt tt (rests e) in (ap answer.Monitor same.0, same.1)
answer_apart (answer.Cond c1) (answer.Cond c2) more others ha hb e =
    let same = alone_is_code.apart c1 c2 more others tt tt (rests e) in (ap answer.Cond same.0, same.1)
answer_apart (answer.Letter from1 text1 room1) (answer.Letter from2 text2 room2) more others ha hb e =
    let same = letter_is_code.apart (from1, (room1, text1)) (from2, (room2, text2)) more others tt tt (rests e) in
    (ap (λ p. answer.Letter p.0 p.1.1 p.1.0) same.0, same.1)
answer_apart (answer.Reply text1) (answer.Reply text2) more others ha hb e =
    let same = counted_is_code.apart text1 text2 more others tt tt (rests e) in (ap answer.Reply same.0, same.1)
answer_apart (answer.Bound f1 arg1) (answer.Bound f2 arg2) more others ha hb e =
    let same = bound_is_code.apart (f1, arg1) (f2, arg2) more others tt tt (rests e) in (ap (λ p. answer.Bound p.0 p.1) same.0, same.1)
answer_apart (answer.Caught depth1 mark1 p1) (answer.Caught depth2 mark2 p2) more others ha hb e =
    let same = caught_is_code.apart (depth1, (mark1, p1)) (depth2, (mark2, p2)) more others tt tt (rests e) in
    (ap (λ p. answer.Caught p.0 p.1.0 p.1.1) same.0, same.1)
answer_apart (answer.Ids k1 ids1) (answer.Ids k2 ids2) more others ha hb e =
    let same = ids_is_code.apart (k1, ids1) (k2, ids2) more others tt tt (rests e) in (ap (λ p. answer.Ids p.0 p.1) same.0, same.1)
answer_apart (answer.Refused err1) (answer.Refused err2) more others ha hb e =
    let same = error_is_code.apart err1 err2 more others tt tt (rests e) in (ap answer.Refused same.0, same.1)
answer_apart _ _ more others ha hb e = absurd (omega (arith, heads e))

pub answer_is_code : TellsApart answer_numbers
answer_is_code = record { apart = answer_apart }
