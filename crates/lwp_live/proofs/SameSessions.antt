-- With lines after its own a script has the same sessions.
use Rattle.line_server.specs.Sessions.{session_next}
use Rattle.line_server.specs.Stores.{store_next}
use Rattle.lists.specs.Texts.{text_at}
use Rattle.lwp_live.proofs.Mapped.{MeansTheSame, as_reply, as_session, defined_too, plays_are_same}
use Rattle.lwp_live.specs.Laws.{HasTexts, IsExitWithin, IsWithin, RecordedSessions}
use Rattle.lwp_live.specs.Recorded.{recorded, with_arrival}
use Rattle.lwp_live.specs.declared.arrival.Arrival.{Arrival}
use Rattle.lwp_types.specs.Names.{Names}
use Rattle.lwp_types.specs.Poll.{Polled, is_refused}
use Rattle.lwp_types.specs.declared.call.Answer.{Answer}
use Rattle.lwp_types.specs.declared.call.Answer.TheVariants as answer
use Rattle.lwp_types.specs.declared.call.Call.TheVariants as call
use Rattle.lwp_types.specs.declared.call.ExitCall.TheVariants as exit_call
use Rattle.pod_runner.specs.Session.{Session}
use Rattle.pod_runner.specs.declared.session.Took.{Took}
use Rattle.script_body.specs.Bodies.{bodies_of, body_next, native_body, proc_bodies}
use Rattle.script_body.specs.Calls.{call_of, exit_call_of, lock_call, plain_call, thread_call, who_id}
use Rattle.script_body.specs.Frame.{opening_frame}
use Rattle.script_body.specs.Naming.{after_name}
use Rattle.script_body.specs.ScriptBody.{ScriptBody, after_return, after_take, after_take_by, after_take_caught, after_take_plain}
use Rattle.script_body.specs.ScriptBody.{after_take_refused, after_unhandle, caught_at, frame_above, is_return, poll_of_answer}
use Rattle.script_body.specs.ScriptBody.{poll_of_call, script_next, script_opening, stmt_after, with_frame}
use Rattle.script_body.specs.Walk.{At, first_stmt, meets, next_stmt}
use Rattle.script_body.specs.declared.thread_body.ThreadBody.{ThreadBody}
use Rattle.script_body.specs.declared.thread_body.ThreadBody.TheVariants.{Scripted, Serving, Storing}
use Rattle.script_session.specs.SoFar.{AreDue, session_at, setting_of}
use Rattle.script_text.specs.Script.{proc_number, stmts_at, stmts_of}
use Rattle.script_text.specs.declared.script.ExitStmt.{ExitStmt}
use Rattle.script_text.specs.declared.script.ExitStmt.TheVariants as exit
use Rattle.script_text.specs.declared.script.Native.{Native}
use Rattle.script_text.specs.declared.script.NativeKind.{NativeKind}
use Rattle.script_text.specs.declared.script.NativeKind.TheVariants as native
use Rattle.script_text.specs.declared.script.Proc.{Proc}
use Rattle.script_text.specs.declared.script.Script.{Script}
use Rattle.script_text.specs.declared.script.Stmt.{Stmt}
use Rattle.script_text.specs.declared.script.Stmt.TheVariants as stmt
use Rattle.std.proofs.Common.{Bool, List, None, Option, Some, [], ap, append_assoc, arith, drop, false, fold, if◌then◌else◌}
use Rattle.std.proofs.Common.{length, length-append, map, nat_lt, option_map, refl, slice_get, slice_index_or, subst}
use Rattle.std.proofs.Common.{suc, sym, true, zero, ℕ, ◌+◌, ◌++◌, ◌-◌, ◌<◌, ◌==◌, ◌||◌, ◌∙◌, ◌∷◌, ◌≡◌}
use Rattle.std.proofs.lemmas.List.{get_or_append_left, map-append}
use Rattle.std.specs.List.{AllByRecursion}

-- the same script but for texts that come after its own
pub record Extends (a b : Script) : Type 0 where
  pub maxpri : b.maxpri ≡ a.maxpri
  pub births : b.births ≡ a.births
  pub procs : b.procs ≡ a.procs
  pub natives : b.natives ≡ a.natives
  pub names : b.names ≡ a.names
  pub texts : (n : ℕ) → n < length a.texts → text_at b.texts n ≡ text_at a.texts n

extends_none : (a : Script) → Extends a a
extends_none a = record { maxpri = refl; births = refl; procs = refl; natives = refl; names = refl; texts = λ n low. refl }

extends_more : (a b : Script) (x : Arrival) → length a.texts < suc (length b.texts) → Extends a b → Extends a (with_arrival b x)
extends_more a b x more h = record {
  maxpri = h.maxpri;
  births = h.births;
  procs = h.procs;
  natives = h.natives;
  names = h.names;
  texts = λ n low. get_or_append_left b.texts (x.text ∷ []) [] n (omega (arith, low, more)) ∙ h.texts n low;
}

extends_all : (arrivals : List Arrival) (a b : Script) → length a.texts < suc (length b.texts) → Extends a b → Extends a (fold with_arrival b arrivals)
extends_all [] a b more h = h
extends_all (x ∷ arrivals) a b more h =
    extends_all arrivals a (with_arrival b x) (let n = length-append b.texts (x.text ∷ []) in omega (arith, n, more)) (extends_more a b x more h)

pub extends_recorded : (a : Script) (arrivals : List Arrival) → Extends a (recorded a arrivals)
unfolding recorded
extends_recorded a arrivals = extends_all arrivals a a (omega arith) (extends_none a)

module _ (a b : Script) (same : Extends a b) (has : HasTexts a) where
  -- ---- statements

  stmts_same : (n : ℕ) → stmts_at b n ≡ stmts_at a n
  stmts_same n = ap (λ (ps : List Proc). stmts_of (slice_get ps n)) same.procs

  number_same : (n : ℕ) → proc_number b n ≡ proc_number a n
  number_same n = λ i. proc_number (record a { procs = same.procs i; natives = same.natives i }) n

  within_at : (procs : List Proc) (n : ℕ) → AllByRecursion (λ (p : Proc). AllByRecursion (IsWithin (length a.texts)) p.stmts) procs
      → AllByRecursion (IsWithin (length a.texts)) (stmts_of (slice_get procs n))
  within_at [] n h = tt
  within_at (p ∷ ps) zero h = h.0
  within_at (p ∷ ps) (suc n) h = within_at ps n h.1

  within_first : (stmts : List Stmt) → AllByRecursion (IsWithin (length a.texts)) stmts → IsWithin (length a.texts) (first_stmt stmts).stmt
  within_first [] h = tt
  within_first (s ∷ rest) h = h.0

  within_next : (ans : Answer) (all : List Stmt) (over : Bool) (place : ℕ) (rest : List Stmt)
      → AllByRecursion (IsWithin (length a.texts)) all → AllByRecursion (IsWithin (length a.texts)) rest
      → IsWithin (length a.texts) (next_stmt ans all over place rest).stmt
  within_next ans all true place [] p q = tt
  within_next ans all false place [] p q = tt
  within_next ans all true place (s ∷ rest) p q = within_next ans all false (place + 1) rest p q.1
  within_next ans all false place (stmt.Skip test ∷ rest) p q = within_next ans all (meets ans test) (place + 1) rest p q.1
  within_next ans all false place (stmt.Again ∷ rest) p q = within_first all p
  within_next ans all false place (s ∷ rest) p q = q.0

  within_drop : (n : ℕ) (stmts : List Stmt) → AllByRecursion (IsWithin (length a.texts)) stmts → AllByRecursion (IsWithin (length a.texts)) (drop n stmts)
  within_drop zero stmts h = h
  within_drop (suc n) [] h = tt
  within_drop (suc n) (s ∷ stmts) h = within_drop n stmts h.1

  -- ---- calls

  exit_same : (sender : ℕ) (names : Names) (x : ExitStmt) → IsExitWithin (length a.texts) x
      → exit_call_of b.texts sender names x ≡ exit_call_of a.texts sender names x
  exit_same sender names (exit.Reply to n) h = λ i. exit_call.Reply (who_id sender names to) (same.texts n h i)
  exit_same sender names (exit.Note n) h = λ i. exit_call.Note (same.texts n h i)
  exit_same sender names _ h = refl

  call_same : (sender : ℕ) (names : Names) (s : Stmt) → IsWithin (length a.texts) s → call_of b sender names s ≡ call_of a sender names s
  call_same sender names (stmt.Create name number prio flags) h = λ i. call.Create (number_same number i) prio flags
  call_same sender names (stmt.CallProc number) h = λ i. call.CallProc (number_same number i)
  call_same sender names (stmt.Send to room n) h = λ i. call.Send (who_id sender names to) room (same.texts n h i)
  call_same sender names (stmt.Reply to n) h = λ i. call.Reply (who_id sender names to) (same.texts n h i)
  call_same sender names (stmt.Say n) h = λ i. call.Say (same.texts n h i)
  call_same sender names (stmt.OnExit x) h = λ i. call.OnExit (exit_same sender names x h i)
  call_same sender names _ h = refl

  -- ---- bodies

  -- the same body, of the other script
  abbrev rescript : ScriptBody → ScriptBody
  rescript x = record x { script = b }

  abbrev as_other : ThreadBody → ThreadBody
  as_other (Scripted x) = Scripted (rescript x)
  as_other (Serving x) = Serving x
  as_other (Storing x) = Storing x

  abbrev IsOfScript : ThreadBody → Type 0
  IsOfScript (Scripted x) = x.script ≡ a
  IsOfScript (Serving x) = Unit {0}
  IsOfScript (Storing x) = Unit {0}

  -- an answer is taken in the same way, if it can be
  abbrev TakesSame : ScriptBody → Option ScriptBody → Option ScriptBody → Type 0
  TakesSame x o p = (p ≡ option_map rescript o) × ((y : ScriptBody) → o ≡ Some y → y.script ≡ a)

  some_same : (x y : ScriptBody) → y.script ≡ a → TakesSame x (Some y) (Some (rescript y))
  some_same x y is = (refl, λ z e. let same : y ≡ z = cc e in subst (λ (w : ScriptBody). w.script ≡ a) same is)

  none_same : (x : ScriptBody) → TakesSame x None None
  none_same x = (refl, λ z e. absurd (cc e))

  same_if : (x : ScriptBody) (t : Bool) (o p u v : Option ScriptBody) → TakesSame x o u → TakesSame x p v
      → TakesSame x (if t then o else p) (if t then u else v)
  same_if x true o p u v f g = f
  same_if x false o p u v f g = g

  caught_same : (x : ScriptBody) (depth mark : ℕ) (o : Option ℕ) → x.script ≡ a → TakesSame x (caught_at x depth mark o) (caught_at (rescript x) depth mark o)
  caught_same x depth mark None is = none_same x
  caught_same x depth mark (Some place) is = some_same x _ is

  take_by_same : (x : ScriptBody) (ans : Answer) (s : Stmt) → x.script ≡ a → TakesSame x (after_take_by x ans s) (after_take_by (rescript x) ans s)
  take_by_same x ans (stmt.Recv from mode) is = recv_same ans
    where
      recv_same : (ans : Answer) → TakesSame x (after_take_by x ans (stmt.Recv from mode)) (after_take_by (rescript x) ans (stmt.Recv from mode))
      recv_same (answer.Letter sender text room) = some_same x _ is
      recv_same _ = some_same x _ is
  take_by_same x ans (stmt.Handle pat func arg) is = some_same x _ is
  take_by_same x ans stmt.Unhandle is = same_if x (length x.top.handlers == 0) None (Some _) None (Some _) (none_same x) (some_same x _ is)
  take_by_same x ans (stmt.CallProc name) is = (
    (λ i. Some (record x {
      script = b;
      top = opening_frame ((number_same name ∙ ap (λ (s : Script). proc_number s name) (sym is)) i);
      below = x.below ++ x.top ∷ [];
    })),
    (some_same x (with_frame x (proc_number x.script name)) is).1,
  )
  take_by_same x ans stmt.Return is = same_if x (length x.below == 0) None (Some _) None (Some _) (none_same x) (some_same x _ is)
  take_by_same x ans _ is = some_same x x is

  take_refused_same : (x : ScriptBody) (s : Stmt) → x.script ≡ a → TakesSame x (after_take_refused x s) (after_take_refused (rescript x) s)
  take_refused_same x s is =
      same_if x (is_return s) _ _ _ _ (same_if x (length x.below == 0) None (Some _) None (Some _) (none_same x) (some_same x _ is)) (some_same x x is)

  take_plain_same : (x : ScriptBody) (ans : Answer) (o : Option Stmt) → x.script ≡ a
      → TakesSame x (after_take_plain x ans o) (after_take_plain (rescript x) ans o)
  take_plain_same x ans None is = some_same x x is
  take_plain_same x ans (Some s) is = same_if x (is_refused ans) _ _ _ _ (take_refused_same x s is) (take_by_same x ans s is)

  take_same : (x : ScriptBody) (ans : Answer) → x.script ≡ a → TakesSame x (after_take x ans) (after_take (rescript x) ans)
  take_same x (answer.Caught depth mark p) is = same_if x _ None _ None _ (none_same x) (caught_same x (depth - 1) mark _ is)
  take_same x ans is = take_plain_same x ans x.last is

  abbrev script_reply : Polled ScriptBody → Polled ScriptBody
  script_reply reply = (reply.0, rescript reply.1, reply.2)

  abbrev scripted : Polled ScriptBody → Polled ThreadBody
  scripted reply = (reply.0, Scripted reply.1, reply.2)

  poll_same : (x : ScriptBody) (names : Names) (ans : Answer) (o p : Option ScriptBody) → x.script ≡ a → TakesSame x o p
      → (poll_of_answer (rescript x) names ans p ≡ script_reply (poll_of_answer x names ans o)) × ((poll_of_answer x names ans o).1.script ≡ a)
  poll_same x names ans None p is h = (ap (poll_of_answer (rescript x) names ans) h.0, is)
  poll_same x names ans (Some y) p is h =
      let own : y.script ≡ a = h.1 y refl in
      let stmts : stmts_at b y.top.number ≡ stmts_at y.script y.top.number = stmts_same y.top.number ∙ ap (λ (s : Script). stmts_at s y.top.number) (sym own) in
      let at : stmt_after ans (rescript y) ≡ stmt_after ans y = λ i. next_stmt ans (stmts i) false y.top.place (drop y.top.place (stmts i)) in
      let within : IsWithin (length a.texts) (stmt_after ans y).stmt =
      subst (λ (ss : List Stmt). IsWithin (length a.texts) (next_stmt ans ss false y.top.place (drop y.top.place ss)).stmt)
      (ap (λ (s : Script). stmts_at s y.top.number) (sym own))
      (within_next ans (stmts_at a y.top.number) false y.top.place (drop y.top.place (stmts_at a y.top.number))
      (within_at a.procs y.top.number has) (within_drop y.top.place (stmts_at a y.top.number) (within_at a.procs y.top.number has))) in
      let names' : Names = after_name ans x.last names in
      let calls : call_of b y.sender names' (stmt_after ans y).stmt ≡ call_of y.script y.sender names' (stmt_after ans y).stmt
      = call_same y.sender names' (stmt_after ans y).stmt within ∙ ap (λ (s : Script). call_of s y.sender names' (stmt_after ans y).stmt) (sym own) in (
        ap (poll_of_answer (rescript x) names ans) h.0
            ∙ ap (poll_of_call (rescript y) names') at
            ∙ (λ i. (calls i, record y { script = b; top = record y.top { place = (stmt_after ans y).place }; last = Some (stmt_after ans y).stmt }, names')),
        own,
      )

  script_same : (x : ScriptBody) (names : Names) (ans : Answer) → x.script ≡ a
      → (script_next (rescript x) names ans ≡ script_reply (script_next x names ans)) × ((script_next x names ans).1.script ≡ a)
  unfolding script_next
  script_same x names ans is = poll_same x names ans (after_take x ans) (after_take (rescript x) ans) is (take_same x ans is)

  bodies_mean_same : MeansTheSame as_other IsOfScript body_next body_next
  bodies_mean_same (Scripted x) names ans is = let s = script_same x names ans is in (ap scripted s.0, s.1)
  bodies_mean_same (Serving x) names ans is = (refl, tt)
  bodies_mean_same (Storing x) names ans is = (refl, tt)

  -- ---- programs

  procs_map : (n : ℕ) (ps : List Proc) → proc_bodies b n ps ≡ map as_other (proc_bodies a n ps)
  procs_map n [] = refl
  procs_map n (p ∷ ps) = ap (λ bs. Scripted (script_opening b n) ∷ bs) (procs_map (n + 1) ps)

  native_map : (kind : NativeKind) → native_body kind ≡ as_other (native_body kind)
  native_map native.Store = refl
  native_map (native.Session event store) = refl

  good_native : (kind : NativeKind) → IsOfScript (native_body kind)
  good_native native.Store = tt
  good_native (native.Session event store) = tt

  natives_map : (ns : List Native) → map (λ (n : Native). native_body n.kind) ns ≡ map as_other (map (λ (n : Native). native_body n.kind) ns)
  natives_map [] = refl
  natives_map (n ∷ ns) = λ i. native_map n.kind i ∷ natives_map ns i

  bodies_map : bodies_of b ≡ map as_other (bodies_of a)
  bodies_map =
      (λ i. proc_bodies b 0 (same.procs i) ++ map (λ (n : Native). native_body n.kind) (same.natives i))
      ∙ (λ i. procs_map 0 a.procs i ++ natives_map a.natives i)
      ∙ sym (map-append as_other (proc_bodies a 0 a.procs) (map (λ (n : Native). native_body n.kind) a.natives))

  good_procs : (n : ℕ) (ps : List Proc) → AllByRecursion IsOfScript (proc_bodies a n ps)
  good_procs n [] = tt
  good_procs n (p ∷ ps) = (refl, good_procs (n + 1) ps)

  good_natives : (ns : List Native) → AllByRecursion IsOfScript (map (λ (n : Native). native_body n.kind) ns)
  good_natives [] = tt
  good_natives (n ∷ ns) = (good_native n.kind, good_natives ns)

  good_both : (xs ys : List ThreadBody) → AllByRecursion IsOfScript xs → AllByRecursion IsOfScript ys → AllByRecursion IsOfScript (xs ++ ys)
  good_both [] ys p q = q
  good_both (x ∷ xs) ys p q = (p.0, good_both xs ys p.1 q)

  good_bodies : AllByRecursion IsOfScript (bodies_of a)
  good_bodies = good_both (proc_bodies a 0 a.procs) (map (λ (n : Native). native_body n.kind) a.natives) (good_procs 0 a.procs) (good_natives a.natives)

  params_same : (setting_of b).params ≡ (setting_of a).params
  params_same = λ i. (setting_of (record a { maxpri = same.maxpri i; births = same.births i; procs = same.procs i; natives = same.natives i })).params

  names_same : (setting_of b).names ≡ (setting_of a).names
  names_same = λ i. (setting_of (record a { names = same.names i })).names

  pub sessions_same : (takes : List Took) (n : ℕ) → session_at b takes n ≡ as_session as_other IsOfScript (session_at a takes n)
  sessions_same takes n = plays_are_same as_other IsOfScript body_next body_next bodies_mean_same (bodies_of a) good_bodies (setting_of a)
      (setting_of b) refl refl refl bodies_map params_same names_same takes n

  pub due_same : (takes : List Took) (n : ℕ) → AreDue a takes n → AreDue b takes n
  due_same takes n due = defined_too as_other IsOfScript body_next body_next bodies_mean_same (bodies_of a) good_bodies (setting_of a)
      (setting_of b) refl refl refl bodies_map params_same names_same takes n due

pub recorded_sessions : RecordedSessions
recorded_sessions script arrivals has takes n =
    let same : Extends script (recorded script arrivals) = extends_recorded script arrivals in
    let whole = sessions_same script (recorded script arrivals) same has takes n in (
      ap (λ (s : Session ThreadBody). s.live.pod) whole,
      ap (λ (s : Session ThreadBody). s.steps) whole,
      due_same script (recorded script arrivals) same has takes n,
    )
