-- The trace of the way to the first core of a kind.
use Rattle.lwp_explore.proofs.CycleLaws.{leap_add, on_way}
use Rattle.lwp_explore.proofs.Played.{some_is}
use Rattle.lwp_explore.proofs.QuietLaws.{calls_along, empty_is}
use Rattle.lwp_explore.proofs.SearchedLaws.{code_back, first_core_there, first_is, first_low, get_range, is_searched, listing_is, searched}
use Rattle.lwp_explore.specs.Cores.{Step, World, after, call_made, calls_at, first_core, takes_at}
use Rattle.lwp_explore.specs.Cycles.{IsInCycle, jump, leap}
use Rattle.lwp_explore.specs.Ends.{Searched, kinds_in}
use Rattle.lwp_explore.specs.Explored.{IsExplored}
use Rattle.lwp_explore.specs.FoundRounds.{IsShortRound, RoundAfter}
use Rattle.lwp_explore.specs.KindCodes.{code_kind, kind_code}
use Rattle.lwp_explore.specs.Kinds.{halt_of, lines_left, only_call, only_calls}
use Rattle.lwp_explore.specs.Listing.{first_place, listed_in, listing}
use Rattle.lwp_explore.specs.Quiet.{kinds_at, quiet_next, quiet_nexts}
use Rattle.lwp_explore.specs.Searching.{script_moves}
use Rattle.lwp_explore.specs.Sessions.{world_of}
use Rattle.lwp_explore.specs.TraceSaid.{AreAfter, IsRound, IsTraceOf, TraceSays}
use Rattle.lwp_explore.specs.Ways.{tail_of, way, way_text}
use Rattle.lwp_explore.specs.declared.ending.Ending.TheVariants as ending
use Rattle.lwp_explore.specs.declared.kinds.End.{End}
use Rattle.lwp_explore.specs.declared.kinds.End.TheVariants as end
use Rattle.lwp_explore.specs.declared.kinds.Kind.{Kind}
use Rattle.lwp_explore.specs.declared.listing.Listed.{Listed}
use Rattle.pod_events.specs.Events.{has_turn}
use Rattle.script_body.specs.BodyKeys.{body_numbers}
use Rattle.script_body.specs.declared.thread_body.ThreadBody.{ThreadBody}
use Rattle.script_text.specs.Script.{proc_names}
use Rattle.script_text.specs.declared.script.Script.{Script}
use Rattle.search.proofs.Places.{get_within}
use Rattle.search.proofs.Walks.{walk-append}
use Rattle.search.specs.Found.{cores_of, path_of}
use Rattle.search.specs.Moves.{Moves, walk}
use Rattle.search.specs.declared.found.Found.{Found}
use Rattle.search.specs.declared.found.Row.{Row}
use Rattle.session_cores.specs.Core.{Core}
use Rattle.std.proofs.Common.{Bool, List, None, Option, Some, [], ap, append-nil, append_assoc, arith, false, get_or, inl, inr, length, map, refl, replicate}
use Rattle.std.proofs.Common.{slice_get, subst, suc, sym, true, zero, ℕ, ◌++◌, ◌+◌, ◌<◌, ◌∙◌, ◌∷◌, ◌≡◌, ◌≢◌, ◌≤◌}
use Rattle.std.proofs.lemmas.Bool.{cases_lt}
use Rattle.std.proofs.lemmas.List.{length-map, replicate-append-replicate}
use Rattle.std.proofs.lemmas.List.FromFn.{length-map-range_with_len}
use Rattle.std.proofs.lemmas.Option.{get_or_from_slice_get, slice_get-map}
use Rattle.std.specs.Option.{option_map_or}
use Rattle.std.specs.Prelude.{IsSome, if◌then◌else◌, option_and_then, option_map, slice_index_or, unwrap_or, ◌&&◌, ◌-◌, ◌==◌}
use Rattle.trace_text.specs.Lines.{end_text}
use Rattle.trace_text.specs.declared.ends.Halt.{Halt}

-- ---- the calls of a round

-- so many calls lead from a place to another, and none but the last may lead back
pub record Rounding (nexts : List (Option ℕ)) (start calls here : ℕ) (old new : List ℕ) : Type 0 where
  pub came : leap nexts calls start ≡ Some here
  pub path : new ≡ old ++ replicate calls 0
  pub first : (m : ℕ) → m < calls → leap nexts (suc m) start ≡ Some start → ⊥
  pub low : here < length nexts

pub rounding_first : (nexts : List (Option ℕ)) (start : ℕ) (path : List ℕ) → start < length nexts → Rounding nexts start 0 start path path
rounding_first nexts start path low = record {
  came = refl;
  path = sym (append-nil path);
  first = λ m less back. absurd (omega (arith, less));
  low = low;
}

module _ (nexts : List (Option ℕ)) (start calls here next : ℕ) (old new put : List ℕ) (so : Rounding nexts start calls here old new)
    (leads : jump nexts here ≡ Some next) (pushed : put ≡ new ++ 0 ∷ []) where
  one_leap_more : leap nexts (calls + 1) start ≡ Some next
  one_leap_more = leap_add nexts calls 1 start ∙ ap (option_and_then (leap nexts 1)) so.came ∙ ap (option_and_then (leap nexts 0)) leads

  one_on : calls + 1 ≡ suc calls
  one_on = omega arith

  path_more : put ≡ old ++ replicate (calls + 1) 0
  path_more = pushed ∙ ap (λ l. l ++ 0 ∷ []) so.path ∙ append_assoc old (replicate calls 0) (0 ∷ []) ∙ ap (λ l. old ++ l) (replicate-append-replicate calls 1 0)

  pub rounding_more : next ≢ start → next < length nexts → Rounding nexts start (calls + 1) next old put
  rounding_more other low = record {
    came = one_leap_more;
    path = path_more;
    first = λ m less back. elim (cases_lt m calls) [
      | inl before ↦ so.first m before back
      | inr after ↦ (let same : suc m ≡ calls + 1 = omega (arith, less, after) in
          other (some_is (sym one_leap_more ∙ ap (λ k. leap nexts k start) (sym same) ∙ back)))
    ];
    low = low;
  }

  pub round_there : next ≡ start → (n : ℕ) × IsShortRound nexts start n × (put ≡ old ++ replicate (suc n) 0)
  round_there same = (
    calls,
    record { back = ap (λ k. leap nexts k start) (sym one_on) ∙ one_leap_more ∙ ap (λ k. Some k) same; first = so.first },
    path_more ∙ ap (λ k. old ++ replicate k 0) one_on,
  )

-- a round, or no step, comes after the path to a core with this end
pub after_path : (nexts : List (Option ℕ)) (place n : ℕ) (e : End) → e ≡ end.Endless → IsShortRound nexts place n → RoundAfter nexts place e (suc n)
after_path nexts place n e same round = subst (λ x. RoundAfter nexts place x (suc n)) (sym same) (n, refl, round)

pub no_round : (nexts : List (Option ℕ)) (place status : ℕ) (e : End) → e ≡ end.Ended status → RoundAfter nexts place e 0
no_round nexts place status e same = subst (λ x. RoundAfter nexts place x 0) (sym same) refl

pub no_round_stuck : (nexts : List (Option ℕ)) (place : ℕ) (e : End) → e ≡ end.Stuck → RoundAfter nexts place e 0
no_round_stuck nexts place e same = subst (λ x. RoundAfter nexts place x 0) (sym same) refl

-- a path, and what comes after it; of the same rows and the same places
abbrev pub Whole : List Row → List (Option ℕ) → Listed → List ℕ → Type 0
Whole rows nexts l path = (more : ℕ) × RoundAfter nexts l.first (code_kind l.number).end more × (path ≡ path_of rows l.first ++ replicate more 0)

pub whole_now : (rows now : List Row) (nexts places : List (Option ℕ)) (l : Listed) (path : List ℕ) → now ≡ rows → places ≡ nexts
    → Whole now places l path → Whole rows nexts l path
whole_now rows now nexts places l path same is whole = subst (λ r. Whole r nexts l path) same (subst (λ n. Whole now n l path) is whole)

-- as many places as rows
pub many_now : (rows now : List Row) (lasts places : List (Option ℕ)) → now ≡ rows → places ≡ quiet_nexts rows lasts → length places ≡ length now
many_now rows now lasts places same is = ap (λ (l : List (Option ℕ)). length l) is
    ∙ length-map-range_with_len (quiet_next rows lasts) 0 (length rows) ∙ ap (λ (l : List Row). length l) (sym same)

-- ---- the lines after the last step

module _ {B : Type 0} (world : World B) (core : Core B) (o : Option Halt) (is : o ≡ halt_of world core) where
  pub tail_none : o ≡ None → [] ≡ tail_of world core
  tail_none so = ap (λ x. option_map_or (end_text 0 (lines_left world core)) x []) (sym so ∙ is)

-- ---- calls as steps

module _ {B : Type 0} (world : World B) where
  only_zero : (core to : Core B) → only_call world core ≡ Some to → slice_get (after world core) 0 ≡ Some to
  only_zero core to h = by (length (takes_at world core) == 0) refl (has_turn core.pod.state) refl h
    where
      by : (a : Bool) → (length (takes_at world core) == 0) ≡ a → (b : Bool) → has_turn core.pod.state ≡ b
          → (if a && b then Some (call_made world core).to else None) ≡ Some to → slice_get (after world core) 0 ≡ Some to
      by true ea true eb h =
          ap (λ (takes : List (Step B)). slice_get (map (λ (s : Step B). s.to) (takes ++ calls_at world core)) 0) (empty_is world (takes_at world core) ea)
          ∙ ap (λ b. slice_get (map (λ (s : Step B). s.to) (if b then call_made world core ∷ [] else [])) 0) eb ∙ h
      by true ea false eb h = absurd cc
      by false ea b eb h = absurd cc

  calls_walk : (n : ℕ) (core to : Core B) → only_calls world n core ≡ Some to → walk (after world) core (replicate n 0) ≡ Some to
  calls_walk zero core to h = h
  calls_walk (suc n) core to h = by (only_call world core) refl h (λ next led. calls_walk n next to led)
    where
      by : (o : Option (Core B)) → only_call world core ≡ o → option_and_then (only_calls world n) o ≡ Some to
          → ((next : Core B) → only_calls world n next ≡ Some to → walk (after world) next (replicate n 0) ≡ Some to)
          → walk (after world) core (replicate (suc n) 0) ≡ Some to
      by None e h rest = absurd cc
      by (Some next) e h rest = ap (option_and_then (λ c. walk (after world) c (replicate n 0))) (only_zero core next e) ∙ rest next h

  after_walk : (core : Core B) (e : End) (more : ℕ) → AreAfter world core e more → walk (after world) core (replicate more 0) ≡ Some core
  after_walk core (end.Ended status) more none = ap (λ k. walk (after world) core (replicate k 0)) none
  after_walk core end.Stuck more none = ap (λ k. walk (after world) core (replicate k 0)) none
  after_walk core end.Endless more round =
      ap (λ k. walk (after world) core (replicate k 0)) round.1 ∙ calls_walk (suc round.0) core core round.2.back

-- ---- the trace of a kind

module _ (script : Script) (sought : Option (List ℕ)) (limit : ℕ) (found : Found) (ex : IsExplored (script_moves script sought) limit found)
    (few_clients : length script.clients ≤ 16) (some : 1 ≤ limit) (few : limit ≤ 1000000) (rounds : List Bool)
    (in_round : (c : ℕ) → slice_index_or rounds c false ≡ true → IsInCycle (quiet_nexts found.rows.items found.lasts.items) c)
    (all_rounds : found.whole ≡ true → (c : ℕ) → IsInCycle (quiet_nexts found.rows.items found.lasts.items) c → slice_index_or rounds c false ≡ true) where
  abbrev world : World ThreadBody
  world = world_of script

  abbrev procs : List (List ℕ)
  procs = proc_names script

  abbrev moves : Moves (Core ThreadBody)
  moves = script_moves script sought

  abbrev rows : List Row
  rows = found.rows.items

  abbrev cores : List (Core ThreadBody)
  cores = cores_of moves rows

  abbrev nexts : List (Option ℕ)
  nexts = quiet_nexts rows found.lasts.items

  abbrev all : Searched ThreadBody
  all = searched script sought limit found ex few_clients some few rounds in_round all_rounds

  -- a round of places is one of cores
  core_round : (at n : ℕ) (core : Core ThreadBody) → slice_get cores at ≡ Some core → IsShortRound nexts at n → IsRound world core n
  core_round at n core there round = record {
    back =
        let back = calls_along world body_numbers procs sought rows found.lasts.items ex.kinds ex.lasts (suc n) at at core there round.back in
        back.2 ∙ sym back.1 ∙ there;
    first = λ m less h.
        let split : suc m + (n - m) ≡ suc n = omega (arith, less) in
        let on : leap nexts (suc m) at ≡ Some (unwrap_or (leap nexts (suc m) at) 0) =
        on_way nexts (suc m) (n - m) at at (ap (λ k. leap nexts k at) split ∙ round.back) in
        let j = unwrap_or (leap nexts (suc m) at) 0 in
        let led = calls_along world body_numbers procs sought rows found.lasts.items ex.kinds ex.lasts (suc m) at j core there on in
        let same : j ≡ at = ex.distinct j at core (led.1 ∙ sym led.2 ∙ h) there in
        round.first m less (on ∙ ap (λ k. Some k) same);
  }

  are_after : (at more : ℕ) (core : Core ThreadBody) (e : End) → slice_get cores at ≡ Some core → RoundAfter nexts at e more → AreAfter world core e more
  are_after at more core (end.Ended status) there none = none
  are_after at more core end.Stuck there none = none
  are_after at more core end.Endless there round = (round.0, round.1, core_round at round.0 core there round.2)

  pub many : length (listing (kinds_at rows rounds)) ≡ length (kinds_in all.kinds)
  many = ap (λ (l : List Listed). length l) (listing_is script sought limit found ex few_clients some few rounds in_round all_rounds)
      ∙ length-map (map kind_code (kinds_in all.kinds)) (listed_in (map (option_map kind_code) all.kinds)) ∙ length-map (kinds_in all.kinds) kind_code

  pub missing : (number : ℕ) → length (listing (kinds_at rows rounds)) < number → length (kinds_in all.kinds) < number
  missing number more = omega (arith, more, many)

  module _ (k : ℕ) (low : k < length (listing (kinds_at rows rounds))) (l : Listed) (is : l ≡ get_or (listing (kinds_at rows rounds)) k l) where
    abbrev kind_there : (kind : Kind) × (slice_get (kinds_in all.kinds) k ≡ Some kind)
    kind_there = get_within (kinds_in all.kinds) k (omega (arith, low, many))

    abbrev kind : Kind
    kind = kind_there.0

    l_is : l ≡ listed_in (map (option_map kind_code) all.kinds) (kind_code kind)
    l_is = is ∙ ap (λ (ls : List Listed). get_or ls k l) (listing_is script sought limit found ex few_clients some few rounds in_round all_rounds)
        ∙ get_or_from_slice_get (map (listed_in (map (option_map kind_code) all.kinds)) (map kind_code (kinds_in all.kinds))) k
        (listed_in (map (option_map kind_code) all.kinds) (kind_code kind)) l
        (slice_get-map (listed_in (map (option_map kind_code) all.kinds)) (map kind_code (kinds_in all.kinds)) k
        ∙ ap (option_map (listed_in (map (option_map kind_code) all.kinds)))
        (slice_get-map kind_code (kinds_in all.kinds) k ∙ ap (option_map kind_code) kind_there.1))

    abbrev at : ℕ
    at = first_place (kind_code kind) (map (option_map kind_code) all.kinds)

    at_is : l.first ≡ at
    at_is = ap (λ (x : Listed). x.first) l_is

    at_low : at < length rows
    at_low = first_low script sought limit found ex few_clients some few rounds in_round all_rounds k kind kind_there.1

    pub l_low : l.first < length rows
    l_low = omega (arith, at_low, at_is)

    abbrev core_there : (core : Core ThreadBody) × (slice_get cores at ≡ Some core)
    core_there = first_core_there script sought limit found ex few_clients some few rounds in_round all_rounds k kind kind_there.1

    end_is : (code_kind l.number).end ≡ kind.end
    end_is = ap (λ (x : Listed). (code_kind x.number).end) l_is ∙ ap (λ (x : Kind). x.end) (code_back kind)

    module _ (more : ℕ) (after_it : RoundAfter nexts l.first (code_kind l.number).end more) (path : List ℕ)
        (path_is : path ≡ path_of rows l.first ++ replicate more 0) where
      on_after : AreAfter world core_there.0 kind.end more
      on_after = are_after at more core_there.0 kind.end core_there.1
          (subst (λ e. RoundAfter nexts at e more) end_is (subst (λ p. RoundAfter nexts p (code_kind l.number).end more) at_is after_it))

      path_so : path ≡ path_of rows at ++ replicate more 0
      path_so = path_is ∙ ap (λ p. path_of rows p ++ replicate more 0) at_is

      pub led : walk (after world) (first_core world) path ≡ Some core_there.0
      led = ap (walk (after world) (first_core world)) path_so
          ∙ walk-append (after world) (first_core world) (path_of rows at) (replicate more 0)
          ∙ ap (option_and_then (λ c. walk (after world) c (replicate more 0))) (ex.sound at core_there.0 core_there.1)
          ∙ after_walk world core_there.0 kind.end more on_after

      leads_there : IsSome (walk (after world) (first_core world) path)
      leads_there = subst (λ o. IsSome o) (sym led) refl

      trace_is : (text : List ℕ) → ((core : Core ThreadBody) → walk (after world) (first_core world) path ≡ Some core
          → text ≡ way_text procs (way world path) ++ tail_of world core) → IsTraceOf world procs all kind text
      trace_is text said = record {
        at = at;
        first = first_is script sought limit found ex few_clients some few rounds in_round all_rounds k kind kind_there.1;
        path = path_of rows at;
        along = get_range (path_of rows) (length rows) at at_low;
        core = core_there.0;
        there = core_there.1;
        more = more;
        on = on_after;
        said = said core_there.0 led ∙ ap (λ p. way_text procs (way world p) ++ tail_of world core_there.0) path_so;
      }

      pub leads_now : (now : List ℕ) → now ≡ path → IsSome (walk (after world) (first_core world) now)
      leads_now now same = subst (λ p. IsSome (walk (after world) (first_core world) p)) (sym same) leads_there

      trace_says : (number : ℕ) (text : List ℕ) → number - 1 ≡ k → 1 ≤ number → ((core : Core ThreadBody)
          → walk (after world) (first_core world) path ≡ Some core → text ≡ way_text procs (way world path) ++ tail_of world core)
          → TraceSays world procs limit number text ending.Well
      trace_says zero text same one said = absurd (omega (arith, one))
      trace_says (suc n) text same one said =
          let at_k : n ≡ k = omega (arith, same) in
          record {
            found = all;
            right = is_searched script sought limit found ex few_clients some few rounds in_round all_rounds;
            trace = (kind, ap (slice_get (kinds_in all.kinds)) at_k ∙ kind_there.1, trace_is text said);
          }

      pub says_now : (number : ℕ) (now text : List ℕ) → now ≡ path → number - 1 ≡ k → 1 ≤ number → ((core : Core ThreadBody)
          → walk (after world) (first_core world) now ≡ Some core → text ≡ way_text procs (way world now) ++ tail_of world core)
          → TraceSays world procs limit number text ending.Well
      says_now number now text same k_is one said = trace_says number text k_is one (subst (λ (p : List ℕ). (core : Core ThreadBody)
          → walk (after world) (first_core world) p ≡ Some core → text ≡ way_text procs (way world p) ++ tail_of world core) same said)

  pub none_says : (number : ℕ) (text : List ℕ) → length (listing (kinds_at rows rounds)) < number → text ≡ []
      → TraceSays world procs limit number text ending.Missing
  none_says number text more empty = record {
    found = all;
    right = is_searched script sought limit found ex few_clients some few rounds in_round all_rounds;
    trace = (missing number more, empty);
  }
