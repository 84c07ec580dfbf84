-- What contracts see of a client's end that is a lane's or a port's.
use Rattle.event_gate.specs.Ends.{Posting, port_place}
use Rattle.event_gate.specs.Inlet.{Intake}
use Rattle.event_gate.specs.Port.{is_noted, is_told, lines_in_pass}
use Rattle.event_gate.specs.Texts.{lines_from}
use Rattle.lanes.specs.Ends.{LanePosting, lane_place}
use Rattle.script_run.specs.Inlets.{is_lane}
use Rattle.script_run.specs.declared.poster.AnyEnd.{AnyEnd}
use Rattle.script_run.specs.declared.poster.AnyPass.{AnyPass}
use Rattle.script_run.specs.declared.poster.AnyPoster.{AnyPoster}
use Rattle.lwp_types.specs.declared.call.Line.{Line}
use Rattle.std.specs.Prelude.{List, [], ◌++◌, ◌∷◌, cond, eqb, false, length, take, true, ℕ, ◌+◌, ◌<◌, ◌≡◌, ◌≤◌}
use Rattle.script_run.specs.declared.poster.AnyPass.TheVariants as passes
use Rattle.script_run.specs.declared.poster.AnyPoster.TheVariants as posters

-- a client's end: of which inlet it is, its client, the lines that it has posted, how many it can post in all, and how many of
-- its posts were refused
pub record AnyPosting : Type 0 where
  pub place : List ℕ
  pub client : ℕ
  pub posted : List Line
  pub room : ℕ
  pub refused : ℕ

-- a lane's client
abbrev pub of_lane : LanePosting → AnyPosting
of_lane p = record { place = lane_place p.lane; client = p.client; posted = p.posted; room = p.lines; refused = 0 }

-- a port's client
abbrev pub of_port : Posting → AnyPosting
of_port p = record {
  place = port_place p.port;
  client = p.client;
  posted = p.posted;
  room = 4294967295;
  refused = p.refused;
}

-- a client's end
abbrev pub posting_of : AnyPoster → AnyPosting
posting_of (posters.Lane p) = of_lane p
posting_of (posters.Port p) = of_port p

-- what a client has posted, for good
abbrev pub pass_posting : AnyPass → AnyPosting
pass_posting (passes.Lane p) = of_lane p
pass_posting (passes.Port p) = of_port p

-- the end of this inlet and client has posted nothing, was never refused, and can post so many lines
pub record HasRoom (place : List ℕ) (client lines : ℕ) (p : AnyPosting) : Type 0 where
  pub place_is : p.place ≡ place
  pub client_is : p.client ≡ client
  pub posted_is : p.posted ≡ []
  pub room : lines ≤ p.room
  pub unrefused : p.refused ≡ 0

-- it can post these texts
abbrev pub IsReady : List ℕ → ℕ → List (List ℕ) → AnyPosting → Type 0
IsReady place client texts p = HasRoom place client (length texts) p

-- a client's line is posted
abbrev pub with_post : AnyPosting → Line → AnyPosting
with_post p line = record p { posted = p.posted ++ line ∷ [] }

-- one more of its posts was refused
abbrev pub with_refusal : AnyPosting → AnyPosting
with_refusal p = record p { refused = p.refused + 1 }

-- the client of this inlet has posted the first of these texts: all of them where it says so, and else fewer, since its next
-- post was refused; on a lane it says so
pub record IsEnd (place : List ℕ) (client : ℕ) (texts : List (List ℕ)) (e : AnyEnd) : Type 0 where
  pub place_is : (pass_posting e.pass).place ≡ place
  pub client_is : (pass_posting e.pass).client ≡ client
  pub count : ℕ
  pub posted : (pass_posting e.pass).posted ≡ lines_from client 0 (take count texts)
  pub whole : e.all ≡ true → take count texts ≡ texts
  pub short : e.all ≡ false → count < length texts
  pub tried : (pass_posting e.pass).refused ≡ cond e.all 0 1
  pub sure : is_lane place ≡ true → e.all ≡ true

-- the lines of which the client's gate was asked: those posted, and where these aren't all the next one, which was
-- refused
abbrev pub lines_tried : ℕ → List (List ℕ) → AnyEnd → List Line
lines_tried client texts e = lines_from client 0 (take (length (pass_posting e.pass).posted + cond e.all 0 1) texts)

-- what the client has posted in all is known from now on; of the inlet's other clients that is known which was known
-- before
pub record IsTakenIn (t : Intake) (p : AnyPosting) (u : Intake) : Type 0 where
  pub same : u ≡ record t { known = u.known }
  pub told : is_told p.client u.known ≡ true
  pub posted : lines_in_pass p.client u.known ≡ p.posted
  pub others : (d : ℕ) → is_noted d t.noted ≡ true → eqb p.client d ≡ false
      → (is_told d u.known ≡ is_told d t.known) × (lines_in_pass d u.known ≡ lines_in_pass d t.known)
