-- The numbers of a script's threads tell them apart; and what is asked of the threads of one script holds from the start on.
use Rattle.keys.specs.NumberLaws.{alone_is_code, also, counted_is_code, heads, lists_of, made_of, numbered, rests, turned_apart}
use Rattle.keys.specs.Numbers.{IsCode, TellsApart, alone, list_numbers, pair_numbers, turned}
use Rattle.line_server.specs.KeyLaws.{session_is_code, store_is_code}
use Rattle.lwp_types.specs.Names.{Names}
use Rattle.lwp_types.specs.Poll.{is_refused}
use Rattle.lwp_types.specs.declared.call.Answer.{Answer}
use Rattle.lwp_types.specs.declared.call.Answer.TheVariants as answer
use Rattle.script_body.specs.Bodies.{bodies_of, body_next, native_body, proc_bodies}
use Rattle.script_body.specs.BodyKeys.{IsBodyOf, IsScripted, StandsBefore, body_numbers, frame_numbers, last_number, script_numbers}
use Rattle.script_body.specs.Frame.{Frame, without_handler}
use Rattle.script_body.specs.ScriptBody.{ScriptBody, after_return, after_take, after_take_by, after_take_caught, after_take_plain, after_take_refused}
use Rattle.script_body.specs.ScriptBody.{after_unhandle, caught_at, frame_above, is_return, poll_of_answer, script_next, stmt_after, with_sender_by, with_top}
use Rattle.script_body.specs.Walk.{At, first_stmt, meets, next_stmt}
use Rattle.script_body.specs.declared.thread_body.ThreadBody.{ThreadBody}
use Rattle.script_body.specs.declared.thread_body.ThreadBody.TheVariants.{Scripted, Serving, Storing}
use Rattle.script_text.specs.Script.{stmts_at}
use Rattle.script_text.specs.declared.script.Native.{Native}
use Rattle.script_text.specs.declared.script.NativeKind.{NativeKind}
use Rattle.script_text.specs.declared.script.NativeKind.TheVariants as native
use Rattle.script_text.specs.declared.script.Proc.{Proc}
use Rattle.script_text.specs.declared.script.Script.{Script}
use Rattle.script_text.specs.declared.script.Stmt.{Stmt}
use Rattle.script_text.specs.declared.script.Stmt.TheVariants as stmt
use Rattle.std.proofs.Common.{Bool, List, None, Option, Some, [], ap, arith, drop, false, if◌then◌else◌, length, map, nat_lt, refl}
use Rattle.std.proofs.Common.{slice_get, subst, suc, sym, take, true, zero, ℕ, ◌+◌, ◌++◌, ◌-◌, ◌==◌, ◌||◌, ◌∙◌, ◌∷◌, ◌≡◌}
use Rattle.std.specs.List.{AllByRecursion}

-- ---- told apart

frame_is_code : TellsApart frame_numbers
frame_is_code =
    made_of (also alone_is_code (also alone_is_code counted_is_code))
    (λ f. (f.number, (f.place, f.handlers))) (λ a b e i. record { number = (e i).0; place = (e i).1.0; handlers = (e i).1.1 })

turned_is_code : TellsApart (λ n. turned n ∷ [])
turned_is_code = numbered turned turned_apart

-- what is written of a thread
abbrev written : ScriptBody → (Frame × List Frame) × (ℕ × ℕ)
written body = ((body.top, body.below), (body.sender, last_number body.last))

abbrev written_numbers : (Frame × List Frame) × (ℕ × ℕ) → List ℕ
written_numbers = pair_numbers (pair_numbers frame_numbers (list_numbers frame_numbers)) (pair_numbers (λ n. turned n ∷ []) alone)

written_is_code : TellsApart written_numbers
written_is_code = also (also frame_is_code (lists_of frame_is_code)) (also turned_is_code alone_is_code)

return_is : (s : Stmt) → is_return s ≡ true → s ≡ stmt.Return
return_is stmt.Return e = refl
return_is _ e = absurd cc

-- of two last statements
lasts_same : (script : Script) (frame : Frame) (x y : Option Stmt) → last_number x ≡ last_number y → StandsBefore script frame x
    → StandsBefore script frame y → x ≡ y
lasts_same script frame None None e hx hy = refl
lasts_same script frame None (Some s) e hx hy = by_test (is_return s) e where
  by_test : (b : Bool) → ◌≡◌ {A = ℕ} 0 (if b then 1 else 2) → None ≡ Some s
  by_test true f = absurd cc
  by_test false f = absurd cc
lasts_same script frame (Some r) None e hx hy = by_test (is_return r) e where
  by_test : (b : Bool) → ◌≡◌ {A = ℕ} (if b then 1 else 2) 0 → Some r ≡ None
  by_test true f = absurd cc
  by_test false f = absurd cc
lasts_same script frame (Some r) (Some s) e hx hy = by_tests (is_return r) refl (is_return s) refl e where
  by_tests : (b : Bool) → is_return r ≡ b → (d : Bool) → is_return s ≡ d → ◌≡◌ {A = ℕ} (if b then 1 else 2) (if d then 1 else 2) → Some r ≡ Some s
  by_tests true of_r true of_s f = ap (λ t. Some t) (return_is r of_r ∙ sym (return_is s of_s))
  by_tests true of_r false of_s f = absurd cc
  by_tests false of_r true of_s f = absurd cc
  by_tests false of_r false of_s f = sym (hx of_r) ∙ hy of_s

pub script_is_code : (script : Script) → IsCode (IsScripted script) script_numbers
script_is_code script a b more others ha hb e =
    let parts = written_is_code.apart (written a) (written b) more others tt tt e in
    let tops : a.top ≡ b.top = ap (λ p. p.0.0) parts.0 in
    let scripts : a.script ≡ b.script = ha.of ∙ sym hb.of in
    let belows : a.below ≡ b.below = ap (λ p. p.0.1) parts.0 in
    let senders : a.sender ≡ b.sender = ap (λ p. p.1.0) parts.0 in
    let lasts : a.last ≡ b.last =
    lasts_same script b.top a.last b.last (ap (λ p. p.1.1) parts.0) (subst (λ top. StandsBefore script top a.last) tops ha.last) hb.last in
    ((λ i. record { script = scripts i; top = tops i; below = belows i; sender = senders i; last = lasts i }), parts.1)

pub body_is_code : (script : Script) → IsCode (IsBodyOf script) body_numbers
body_is_code script (Scripted a) (Scripted b) more others ha hb e =
    let same = script_is_code script a b more others ha hb (rests e) in (ap Scripted same.0, same.1)
body_is_code script (Serving a) (Serving b) more others ha hb e =
    let same = session_is_code.apart a b more others tt tt (rests e) in (ap Serving same.0, same.1)
body_is_code script (Storing a) (Storing b) more others ha hb e =
    let same = store_is_code.apart a b more others tt tt (rests e) in (ap Storing same.0, same.1)
body_is_code script (Scripted a) (Serving b) more others ha hb e = absurd (omega (arith, heads e))
body_is_code script (Scripted a) (Storing b) more others ha hb e = absurd (omega (arith, heads e))
body_is_code script (Serving a) (Scripted b) more others ha hb e = absurd (omega (arith, heads e))
body_is_code script (Serving a) (Storing b) more others ha hb e = absurd (omega (arith, heads e))
body_is_code script (Storing a) (Scripted b) more others ha hb e = absurd (omega (arith, heads e))
body_is_code script (Storing a) (Serving b) more others ha hb e = absurd (omega (arith, heads e))

-- ---- threads of one script stay such

-- a thread that an answer leads to runs the same script
abbrev Keeps : ScriptBody → Option ScriptBody → Type 0
Keeps body None = Unit {0}
Keeps body (Some now) = now.script ≡ body.script

keeps_caught : (body : ScriptBody) (depth mark : ℕ) → Keeps body (after_take_caught body depth mark)
keeps_caught body depth mark = by_test ((depth == 0) || nat_lt (length body.below + 1) depth) where
  by_place : (place : Option ℕ) → Keeps body (caught_at body (depth - 1) mark place)
  by_place None = tt
  by_place (Some place) = refl

  by_test : (b : Bool) → Keeps body (if b then None else caught_at body (depth - 1) mark (slice_get (frame_above body (depth - 1)).handlers mark))
  by_test true = tt
  by_test false = by_place (slice_get (frame_above body (depth - 1)).handlers mark)

keeps_return : (body : ScriptBody) → Keeps body (after_return body)
keeps_return body = by_test (length body.below == 0) where
  by_test : (b : Bool) → Keeps body (if b then None else Some (record body {
    top = frame_above body (length body.below - 1);
    below = take (length body.below - 1) body.below;
  }))
  by_test true = tt
  by_test false = refl

keeps_unhandle : (body : ScriptBody) → Keeps body (after_unhandle body)
keeps_unhandle body = by_test (length body.top.handlers == 0) where
  by_test : (b : Bool) → Keeps body (if b then None else Some (with_top body (without_handler body.top)))
  by_test true = tt
  by_test false = refl

keeps_sender : (a : Answer) (body : ScriptBody) → (with_sender_by a body).script ≡ body.script
keeps_sender (answer.Letter from text room) body = refl
keeps_sender _ body = refl

keeps_by : (body : ScriptBody) (a : Answer) (s : Stmt) → Keeps body (after_take_by body a s)
keeps_by body a (stmt.Recv from mode) = keeps_sender a body
keeps_by body a (stmt.Handle pat func arg) = refl
keeps_by body a stmt.Unhandle = keeps_unhandle body
keeps_by body a (stmt.CallProc name) = refl
keeps_by body a stmt.Return = keeps_return body
keeps_by body a _ = refl

keeps_refused : (body : ScriptBody) (s : Stmt) → Keeps body (after_take_refused body s)
keeps_refused body s = by_test (is_return s) where
  by_test : (b : Bool) → Keeps body (if b then after_return body else Some body)
  by_test true = keeps_return body
  by_test false = refl

keeps_plain : (body : ScriptBody) (a : Answer) (last : Option Stmt) → Keeps body (after_take_plain body a last)
keeps_plain body a None = refl
keeps_plain body a (Some s) = by_test (is_refused a) where
  by_test : (b : Bool) → Keeps body (if b then after_take_refused body s else after_take_by body a s)
  by_test true = keeps_refused body s
  by_test false = keeps_by body a s

keeps_script : (body : ScriptBody) (a : Answer) → Keeps body (after_take body a)
keeps_script body (answer.Caught depth mark p) = keeps_caught body depth mark
keeps_script body (answer.Value v) = keeps_plain body (answer.Value v) body.last
keeps_script body (answer.Thread t) = keeps_plain body (answer.Thread t) body.last
keeps_script body (answer.Monitor m) = keeps_plain body (answer.Monitor m) body.last
keeps_script body (answer.Cond c) = keeps_plain body (answer.Cond c) body.last
keeps_script body (answer.Letter from text room) = keeps_plain body (answer.Letter from text room) body.last
keeps_script body (answer.Reply text) = keeps_plain body (answer.Reply text) body.last
keeps_script body (answer.Bound f arg) = keeps_plain body (answer.Bound f arg) body.last
keeps_script body (answer.Ids kind ids) = keeps_plain body (answer.Ids kind ids) body.last
keeps_script body (answer.Refused e) = keeps_plain body (answer.Refused e) body.last

-- where these are left from a place on, the first of them stands there
stands_here : (all : List Stmt) (place : ℕ) (s : Stmt) (rest : List Stmt) → s ∷ rest ≡ drop place all → slice_get all place ≡ Some s
stands_here [] zero s rest e = absurd cc
stands_here [] (suc place) s rest e = absurd cc
stands_here (x ∷ all) zero s rest e = cc
stands_here (x ∷ all) (suc place) s rest e = stands_here all place s rest e

after_it : (all : List Stmt) (place : ℕ) (s : Stmt) (rest : List Stmt) → s ∷ rest ≡ drop place all → rest ≡ drop (suc place) all
after_it [] zero s rest e = absurd cc
after_it [] (suc place) s rest e = absurd cc
after_it (x ∷ all) zero s rest e = ap (drop 1) e
after_it (x ∷ all) (suc place) s rest e = after_it all place s rest e

one_left : (all : List Stmt) (place : ℕ) (s : Stmt) (rest : List Stmt) → s ∷ rest ≡ drop place all → rest ≡ drop (place + 1) all
one_left all place s rest e =
    let next : suc place ≡ place + 1 = omega arith in
    after_it all place s rest e ∙ ap (λ n. drop n all) next

-- a statement that was found is a return, or stands before the place after it
abbrev IsFound : List Stmt → At → Type 0
IsFound all at = is_return at.stmt ≡ false → slice_get all (at.place - 1) ≡ Some at.stmt

first_found : (all : List Stmt) → IsFound all (first_stmt all)
first_found [] e = absurd cc
first_found (s ∷ rest) e = refl

found_here : (all : List Stmt) (place : ℕ) (s : Stmt) (rest : List Stmt) → s ∷ rest ≡ drop place all
    → IsFound all (record { stmt = s; place = place + 1 })
found_here all place s rest left e =
    let back : place + 1 - 1 ≡ place = omega arith in
    ap (slice_get all) back ∙ stands_here all place s rest left

found : (a : Answer) (all : List Stmt) (over : Bool) (place : ℕ) (rest : List Stmt) → rest ≡ drop place all
    → IsFound all (next_stmt a all over place rest)
found a all over place [] left = λ e. absurd cc
found a all true place (s ∷ rest) left = found a all false (place + 1) rest (one_left all place s rest left)
found a all false place (stmt.Skip test ∷ rest) left = found a all (meets a test) (place + 1) rest (one_left all place (stmt.Skip test) rest left)
found a all false place (stmt.Again ∷ rest) left = first_found all
found a all false place (s ∷ rest) left = found_here all place s rest left

stays_scripted : (script : Script) (body : ScriptBody) (names : Names) (a : Answer) → IsScripted script body → (now : Option ScriptBody)
    → Keeps body now → IsScripted script (poll_of_answer body names a now).1
stays_scripted script body names a h None keeps = h
stays_scripted script body names a h (Some now) keeps = record {
  of = keeps ∙ h.of;
  last = subst (λ from. IsFound (stmts_at from now.top.number) (stmt_after a now)) (keeps ∙ h.of)
      (found a (stmts_at now.script now.top.number) false now.top.place (drop now.top.place (stmts_at now.script now.top.number)) refl);
}

-- whatever a thread of a script does next, it is one of that script
pub stays : (script : Script) (body : ThreadBody) (names : Names) (a : Answer) → IsBodyOf script body
    → IsBodyOf script (body_next body names a).1
unfolding script_next
stays script (Scripted body) names a h = stays_scripted script body names a h (after_take body a) (keeps_script body a)
stays script (Serving body) names a h = tt
stays script (Storing body) names a h = tt

-- ---- and they begin so

opens_procs : (script : Script) (n : ℕ) (ps : List Proc) (others : List ThreadBody) → AllByRecursion (IsBodyOf script) others
    → AllByRecursion (IsBodyOf script) (proc_bodies script n ps ++ others)
opens_procs script n [] others rest = rest
opens_procs script n (p ∷ ps) others rest = (record { of = refl; last = tt }, opens_procs script (n + 1) ps others rest)

opens_native : (script : Script) (kind : NativeKind) → IsBodyOf script (native_body kind)
opens_native script native.Store = tt
opens_native script (native.Session event store) = tt

opens_natives : (script : Script) (ns : List Native) → AllByRecursion (IsBodyOf script) (map (λ n. native_body n.kind) ns)
opens_natives script [] = tt
opens_natives script (n ∷ ns) = (opens_native script n.kind, opens_natives script ns)

-- the bodies that a script's threads begin as are of that script
pub opens : (script : Script) → AllByRecursion (IsBodyOf script) (bodies_of script)
opens script = opens_procs script 0 script.procs (map (λ n. native_body n.kind) script.natives) (opens_natives script script.natives)
