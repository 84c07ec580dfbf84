-- A statement that is passed over.
use Rattle.std.proofs.Common.{◌≡◌, ◌<◌, ◌+◌, ℕ, suc, Bool, true, false, List, drop, drop-cons, length, sym, ap, ◌∙◌, arith}
use Rattle.lwp_types.specs.declared.call.Answer.{Answer}
use Rattle.script_body.specs.Walk.{At, next_stmt}
use Rattle.script_text.specs.declared.script.Stmt.{Stmt}
use Rattle.script_text.specs.declared.script.Stmt.TheVariants as stmt

pub passed : (a : Answer) (all : List Stmt) (over : Bool) (place : ℕ) (at : At) → over ≡ true → place < length all
    → next_stmt a all over place (drop place all) ≡ at → next_stmt a all false (place + 1) (drop (place + 1) all) ≡ at
passed a all over place at e lt h =
    let next : place + 1 ≡ suc place = omega arith in
    let first = ap (λ (b : Bool). next_stmt a all b place (drop place all)) e in
    let there = ap (next_stmt a all true place) (drop-cons all place stmt.Return lt) in
    ap (λ n. next_stmt a all false (place + 1) (drop n all)) next ∙ sym there ∙ sym first ∙ h
