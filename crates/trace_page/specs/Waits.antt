-- Who waits for whom after the last line, and who waits in a cycle.
use Rattle.lwp_types.specs.Names.{null_id}
use Rattle.std.specs.List.{flat_map}
use Rattle.std.specs.Prelude.{Bool, List, [], false, if◌then◌else◌, length, nat_lt, slice_index_or, suc, true, zero, ℕ, ◌&&◌, ◌+◌, ◌++◌, ◌==◌, ◌∷◌}
use Rattle.trace_page.specs.Scene.{need_of, place}
use Rattle.trace_page.specs.Spans.{is_held}
use Rattle.trace_page.specs.declared.scene.Hop.{Hop}
use Rattle.trace_page.specs.declared.scene.Lane.{Lane}
use Rattle.trace_page.specs.declared.scene.Need.{Need}
use Rattle.trace_page.specs.declared.scene.Need.TheVariants as need
use Rattle.trace_page.specs.declared.scene.Span.{Span}
use Rattle.trace_page.specs.declared.waits.Link.{Link}

-- what each of so many numbers gives, from this one on
abbrev pub each_from : {A : Type 0} → (ℕ → List A) → ℕ → ℕ → List A
each_from f n zero = []
each_from f n (suc count) = f n ++ each_from f (n + 1) count

-- who holds a monitor; nobody, where it is free
abbrev pub holder : ℕ → List Span → ℕ
holder m [] = null_id
holder m (span ∷ spans) = if is_held span.kind && (span.of == m) then span.tid else holder m spans

-- the thread that a wait is for, by what it needs and names: the holder of a monitor, and otherwise who is named
abbrev pub awaited_by : Need → ℕ → List Span → ℕ
awaited_by need.Monitor target spans = holder target spans
awaited_by need.Reply target spans = target
awaited_by need.Letter target spans = target
awaited_by need.Death target spans = target
awaited_by need.Condition target spans = null_id
awaited_by need.Clock target spans = null_id
awaited_by need.Nothing target spans = null_id

-- whom a thread waits for; nobody, where it doesn't wait, or for no single thread
abbrev pub awaited : List Span → Lane → ℕ
awaited spans lane = if lane.waits then awaited_by (need_of lane.verb) lane.target spans else null_id

-- the place of whom somebody waits for; after all lanes, where that is nobody
abbrev pub place_awaited : ℕ → List Lane → ℕ
place_awaited id all = if id == null_id then length all else place id all

-- each lane with the place of whom it waits for
abbrev pub links_of : List Lane → List Span → List Lane → List Link
links_of all spans [] = []
links_of all spans (lane ∷ lanes) =
    record { id = lane.id; next = place_awaited (awaited spans lane) all } ∷ links_of all spans lanes

abbrev pub link_at : List Link → ℕ → Link
link_at links at = slice_index_or links at (record { id = null_id; next = length links })

-- who goes from here to whom each waits for, at most so often, comes back to where they began, and to none before it
abbrev pub comes_back : List Link → ℕ → ℕ → ℕ → Bool
comes_back links start zero at = false
comes_back links start (suc left) at =
    let next = (link_at links at).next in
    if nat_lt start next && nat_lt next (length links) then comes_back links start left next else next == start

-- the steps of that way
abbrev pub hops_from : List Link → ℕ → ℕ → ℕ → Bool → List Hop
hops_from links start zero at begins = []
hops_from links start (suc left) at begins =
    let next = (link_at links at).next in
    record { from = (link_at links at).id; to = (link_at links next).id; begins = begins }
    ∷ (if next == start then [] else hops_from links start left next false)

-- the deadlock that begins at this place: threads that wait for one another, none of them born before the first
abbrev pub cycle : List Link → ℕ → List Hop
cycle links start = if comes_back links start (length links) start
    then hops_from links start (length links) start true
    else []

-- all deadlocks, in order of their first threads
abbrev pub cycles : List Link → List Hop
cycles links = each_from (λ start. cycle links start) 0 (length links)

-- a thread is in one of them
abbrev pub is_stuck : ℕ → List Hop → Bool
is_stuck id [] = false
is_stuck id (hop ∷ hops) = if hop.from == id then true else is_stuck id hops

-- all deadlocks among these lanes
abbrev pub deadlocks : List Lane → List Span → List Hop
deadlocks lanes spans = cycles (links_of lanes spans lanes)
