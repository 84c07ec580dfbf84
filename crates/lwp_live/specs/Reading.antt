-- What the reader of an input has posted, and written down.
use Rattle.event_gate.specs.Port.{of}
use Rattle.event_gate.specs.Texts.{lines_from}
use Rattle.lwp_live.specs.Input.{Standing, post_line, posts_of, said_of}
use Rattle.lwp_live.specs.declared.arrival.Arrival.{Arrival}
use Rattle.lwp_live.specs.declared.stop.Stop.{Stop}
use Rattle.lwp_live.specs.declared.stop.Stop.TheVariants as stop
use Rattle.lwp_types.specs.Streams.{AppendsPrefix, after_append}
use Rattle.lwp_types.specs.declared.call.Line.{Line}
use Rattle.script_run.specs.Ends.{AnyPosting}
use Rattle.streams.specs.Streams.{IsFaultless, IsFaulty, Stream}
use Rattle.std.specs.List.{filter, flat_map, fold, slice_index_or}
use Rattle.std.specs.Prelude.{Err, List, Ok, OnOk, Option, Result, [], eqb, length, map, take, ℕ, ◌++◌, ◌-◌, ◌<◌, ◌∷◌, ◌≡◌, ◌≤◌, ◌⊎◌}

-- ---- lines

-- one line more, with its number among its client's
abbrev pub with_line : List Line → Arrival → List Line
with_line lines a = lines ++ record { client = a.client; seq = length (of a.client lines); text = a.text } ∷ []

-- lines that are posted in this order, each with its number among its client's
unfoldable pub lines_of_posts : List Arrival → List Line
lines_of_posts arrivals = fold with_line [] arrivals

-- the texts of a client, in order
abbrev pub texts_by : ℕ → List Arrival → List (List ℕ)
texts_by c arrivals = map (λ (a : Arrival). a.text) (filter (λ (a : Arrival). eqb a.client c) arrivals)

-- ---- clients

-- each client has posted its lines among these, to the inlet that stands in its place, and could post 20,000
pub record HavePosted (places : List (List ℕ)) (arrivals : List Arrival) (ends : List AnyPosting) : Type 0 where
  pub size : length ends ≡ length places
  pub place_is : (c : ℕ) (d : AnyPosting) → c < length places → (slice_index_or ends c d).place ≡ slice_index_or places c []
  pub client_is : (c : ℕ) (d : AnyPosting) → c < length places → (slice_index_or ends c d).client ≡ c
  pub posted_is : (c : ℕ) (d : AnyPosting) → c < length places
      → (slice_index_or ends c d).posted ≡ lines_from c 0 (texts_by c arrivals)
  pub room : (c : ℕ) (d : AnyPosting) → c < length places → 20000 ≤ (slice_index_or ends c d).room

-- ---- the record

-- What was written down, where so many of the posts were posted: all of these at least, and no more than all.
pub record AreWritten (old new : Option (List ℕ)) (posts : List Arrival) (posted : ℕ) : Type 0 where
  pub count : ℕ
  pub before : posted ≤ count
  pub rest : List ℕ
  pub written : new ≡ after_append old (flat_map post_line (take count posts) ++ rest)
  pub first : AppendsPrefix old new (flat_map post_line posts)

-- the sink of the posts fails only where that is what ends the reader's work
abbrev pub RecordFails : {T : Type 0} → Stream → Result T Stop → Type 0
RecordFails posts (Ok x) = IsFaultless posts
RecordFails posts (Err stop.RecordFault) = IsFaulty posts
RecordFails posts (Err stop.NoMemory) = IsFaultless posts
RecordFails posts (Err _) = ⊥

-- So many posts were written down before they were posted: without an error all of them, and what is said of the other
-- lines was said, unless its sink failed.
pub record IsOnRecord {T : Type 0} (posts said : Stream) (arrivals : List Arrival) (faults : List ℕ) (posted : ℕ)
    (done : Result T Stop) : Type 0 where
  pub written : AreWritten posts.old posts.new arrivals posted
  pub all_written : OnOk done (posts.new ≡ after_append posts.old (flat_map post_line arrivals))
  pub cause : RecordFails posts done
  pub rising : said.faults_old ≤ said.faults_new
  pub all_said : IsFaulty said ⊎ OnOk done (said.new ≡ after_append said.old faults)

-- ---- the end

-- What a reader has come to that began where the input stood so, and has been given these bytes: of what was to be posted
-- first, and then of its posts, so many were posted. Without an error all were.
pub record HasRead (places : List (List ℕ)) (s : Standing) (first : List Arrival) (bytes : List ℕ) (posts said : Stream)
    (ends : List AnyPosting) (done : Result (Unit {0}) Stop) : Type 0 where
  pub count : ℕ
  pub posted : HavePosted places (take count (first ++ posts_of s bytes)) ends
  pub all : OnOk done (take count (first ++ posts_of s bytes) ≡ first ++ posts_of s bytes)
  pub record_of : IsOnRecord posts said (posts_of s bytes) (said_of s bytes) (count - length first) done
