-- The reader's thread: how it begins, what it does with lines, and what it brings back.
use Rattle.lwp_live.specs.Input.{Standing, heard_lines}
use Rattle.lwp_live.specs.Reading.{HasRead, HavePosted, IsOnRecord, texts_by}
use Rattle.lwp_live.specs.Recorded.{counts_by}
use Rattle.lwp_live.specs.declared.arrival.Arrival.{Arrival}
use Rattle.lwp_live.specs.declared.outside.Reading.{Reading}
use Rattle.lwp_live.specs.declared.outside.Reading.TheVariants.{Here, There}
use Rattle.lwp_live.specs.declared.reader.Reader.{Reader}
use Rattle.lwp_live.specs.declared.reader.ReaderEnd.{ReaderEnd}
use Rattle.lwp_live.specs.declared.stop.Stop.{Stop}
use Rattle.script_run.specs.Ends.{AnyPosting, posting_of}
use Rattle.streams.specs.Streams.{sides}
use Rattle.std.specs.List.{All, slice_index_or}
use Rattle.std.specs.Prelude.{List, OnOk, Option, Result, [], length, map, take, ℕ, ◌++◌, ◌<◌, ◌≡◌, ◌≤◌}

-- ---- clients' ends

-- what its clients have posted
abbrev pub ends_of : {I P C : Type 0} → Reader I P C → List AnyPosting
ends_of r = map posting_of r.posters.items

-- where the inlets are that its clients post to
abbrev pub places_in : {I P C : Type 0} → Reader I P C → List (List ℕ)
places_in r = map (λ (p : AnyPosting). p.place) (ends_of r)

-- nobody's end
abbrev pub no_posting : AnyPosting
no_posting = record { place = []; client = 0; posted = []; room = 0; refused = 0 }

-- the end of a client
abbrev pub end_at : List AnyPosting → ℕ → AnyPosting
end_at ends c = slice_index_or ends c no_posting

-- a client can post one line more
pub record CanPost (c : ℕ) (p : AnyPosting) : Type 0 where
  pub client_is : p.client ≡ c
  pub room : length p.posted < p.room

-- ---- what is counted

-- each client has as many lines as it has texts among these, 20,000 at most
pub record AreCounted (counts : List ℕ) (arrivals : List Arrival) : Type 0 where
  pub counted : (c : ℕ) → c < length counts → slice_index_or counts c 0 ≡ length (texts_by c arrivals)
  pub few : All (λ n. n ≤ 20000) counts
  pub known : All (λ (a : Arrival). a.client < length counts) arrivals

-- the clients have posted these, which the desk has counted
pub record IsServing {I P C : Type 0} (places : List (List ℕ)) (arrivals : List Arrival) (r : Reader I P C) : Type 0 where
  pub posted : HavePosted places arrivals (ends_of r)
  pub counts : AreCounted r.desk.counts arrivals
  pub size : length r.desk.counts ≡ length places
  pub small : length places ≤ 16

-- so it is of some of these
abbrev pub IsAtWork : {I P C : Type 0} → Reader I P C → Type 0
IsAtWork r = (places : List (List ℕ)) × (arrivals : List Arrival) × IsServing places arrivals r

-- ---- what comes of lines

-- The lines were heard. Of the posts among them so many were posted, which were written down before; without an error all
-- were, and the desk stands as it then does.
pub record HasTaken {I P C T : Type 0} (written : P → Option (List ℕ)) (faults : P → ℕ) (said : C → Option (List ℕ))
    (misses : C → ℕ) (places : List (List ℕ)) (arrivals : List Arrival) (lines : List (List ℕ)) (old new : Reader I P C)
    (done : Result T Stop) : Type 0 where
  pub posted_count : ℕ
  pub posted : HavePosted places (arrivals ++ take posted_count (heard_lines old.desk lines).posts) (ends_of new)
  pub whole : OnOk done (take posted_count (heard_lines old.desk lines).posts ≡ (heard_lines old.desk lines).posts)
  pub stands : OnOk done (new.desk ≡ (heard_lines old.desk lines).standing)
  pub record_of : IsOnRecord (sides written faults old.supply.posts new.supply.posts)
      (sides said misses old.supply.said new.supply.said) (heard_lines old.desk lines).posts
      (heard_lines old.desk lines).said posted_count done

-- ---- the whole

-- It has posted nothing, and knows of what it posts first. Each of that is of one of its clients, of whom there are as
-- many as it has ends, and is counted.
pub record IsAtStart {I P C : Type 0} (r : Reader I P C) : Type 0 where
  pub posted : HavePosted (places_in r) [] (ends_of r)
  pub counts : AreCounted r.desk.counts r.first.now
  pub size : length r.desk.counts ≡ length (places_in r)
  pub small : length (places_in r) ≤ 16
  pub begun_none : r.begun.items ≡ []

-- It was given some bytes, and has served them from where it stood.
pub record HasServed {I P C : Type 0} (given : I → List ℕ) (written : P → Option (List ℕ)) (faults : P → ℕ)
    (said : C → Option (List ℕ)) (misses : C → ℕ) (r : Reader I P C) (e : ReaderEnd I P C) : Type 0 where
  pub bytes : List ℕ
  pub given_more : given e.supply.input ≡ given r.supply.input ++ bytes
  pub read : HasRead (places_in r) r.desk r.first.now bytes (sides written faults r.supply.posts e.supply.posts)
      (sides said misses r.supply.said e.supply.said) (map posting_of e.posters.items) e.done

-- a reader at its work, in a thread or here, is this one's
abbrev pub IsReadingOf : {I P C : Type 0} → (I → List ℕ) → (P → Option (List ℕ)) → (P → ℕ) → (C → Option (List ℕ)) → (C → ℕ)
    → Reader I P C → Reading I P C → Type 0
IsReadingOf given written faults said misses r (There handle) = handle.promise.reader.value ≡ r
IsReadingOf given written faults said misses r (Here e) = HasServed given written faults said misses r e
