-- What is known of the lines so far.
use Rattle.lwp_types.specs.Names.{null_id}
use Rattle.std.specs.Prelude.{Bool, List, [], false, if◌then◌else◌, min, not, slice_index_or, slice_set, suc, true, ℕ, ◌&&◌, ◌++◌, ◌+◌, ◌==◌, ◌^◌, ◌-◌, ◌∷◌}
use Rattle.trace_lines.specs.declared.entry.Verb.{Verb}
use Rattle.trace_lines.specs.declared.entry.Verb.TheVariants as verb
use Rattle.trace_page.specs.declared.scene.Hop.{Hop}
use Rattle.trace_page.specs.declared.scene.Kind.TheVariants as kind
use Rattle.trace_page.specs.declared.scene.Lane.{Lane}
use Rattle.trace_page.specs.declared.scene.Moment.{Moment}
use Rattle.trace_page.specs.declared.scene.Naming.{Naming}
use Rattle.trace_page.specs.declared.scene.Need.{Need}
use Rattle.trace_page.specs.declared.scene.Need.TheVariants as need
use Rattle.trace_page.specs.declared.scene.Rows.{Rows}
use Rattle.trace_page.specs.declared.scene.Setting.{Setting}
use Rattle.trace_page.specs.declared.scene.Shape.{Shape}
use Rattle.trace_page.specs.declared.scene.Span.{Span}

-- The calls after `base`, up to `last`, are drawn; there are more where a call came after the last. `time` is when
-- the last line happened, the caller who made the last call, and the agent who sent the last letter. The words are what
-- the last call says, or the procedure of the thread that it creates. Lanes stand in the order of birth.
pub record Seen : Type 0 where
  pub base : ℕ
  pub last : ℕ
  pub more : Bool
  pub time : Moment
  pub caller : ℕ
  pub events : ℕ
  pub rows : Rows
  pub agent : ℕ
  pub closings : ℕ
  pub words : List ℕ
  pub lanes : List Lane
  pub spans : List Span
  pub settings : List Setting
  pub names : List Naming
  -- who waits in a cycle, when all is told
  pub hops : List Hop
  -- what is drawn for the last line
  pub shapes : List Shape

-- before the first line
abbrev pub opening : ℕ → ℕ → Seen
opening base last = record {
  base = base;
  last = last;
  more = false;
  time = record { call = 0; late = false };
  caller = null_id;
  events = 0;
  rows = record { next = 0; second = 0; third = 0 };
  agent = null_id;
  closings = 0;
  words = [];
  lanes = [];
  spans = [];
  settings = [];
  names = [];
  hops = [];
  shapes = [];
}

-- one more, up to the greatest number of 64 bits
abbrev pub one_more : ℕ → ℕ
one_more n = min (n + 1) (2 ^ 64 - 1)

-- the two are the same
abbrev pub same_bool : Bool → Bool → Bool
same_bool true b = b
same_bool false b = not b

-- the two happen together
abbrev pub together : Moment → Moment → Bool
together one other = (one.call == other.call) && same_bool one.late other.late

-- the place of a thread or an agent among the lanes; after them all, where it isn't there
abbrev pub place : ℕ → List Lane → ℕ
place id [] = 0
place id (lane ∷ lanes) = if lane.id == id then 0 else suc (place id lanes)

-- what a call of this kind may wait for
unfoldable pub need_of : Verb → Need
need_of verb.Send = need.Reply
need_of verb.Receive = need.Letter
need_of verb.Enter = need.Monitor
need_of verb.Wait = need.Condition
need_of verb.Join = need.Death
need_of verb.Sleep = need.Clock
need_of verb.Create = need.Nothing
need_of verb.Destroy = need.Nothing
need_of verb.Suspend = need.Nothing
need_of verb.Resume = need.Nothing
need_of verb.CondEnter = need.Nothing
need_of verb.MonExit = need.Nothing
need_of verb.MonBreak = need.Nothing
need_of verb.Agent = need.Nothing
need_of verb.OnExit = need.Nothing
need_of verb.Say = need.Nothing
need_of verb.Other = need.Nothing

-- a lane that has called nothing yet
abbrev pub blank : ℕ → ℕ → Moment → Lane
blank id event now = record {
  id = id;
  event = event;
  verb = verb.Other;
  target = null_id;
  suspended = false;
  since = now;
  waits = false;
  clear = 0;
}

-- the lane of a thread or an agent
abbrev pub lane_of : Seen → ℕ → Lane
lane_of s id = slice_index_or s.lanes (place id s.lanes) (blank id 0 s.time)

-- the lane has changed to this
abbrev pub after_put : Lane → Seen → Seen
after_put lane s = record s { lanes = slice_set s.lanes (place lane.id s.lanes) lane }

-- something more is drawn
abbrev pub after_draw : Shape → Seen → Seen
after_draw shape s = record s { shapes = s.shapes ++ shape ∷ [] }

-- something more goes on
abbrev pub after_begin : Span → Seen → Seen
after_begin span s = record s { spans = s.spans ++ span ∷ [] }

-- a lane more, which lives from now on
abbrev pub with_lane : ℕ → ℕ → ℕ → Seen → Seen
with_lane id event owner s =
    after_begin (record { tid = id; kind = kind.Life; of = owner; since = s.time; level = 0; event = event })
    (record s { lanes = s.lanes ++ blank id event s.time ∷ [] })
