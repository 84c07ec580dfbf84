-- The text of a line: a function of what it says.
use Rattle.std.specs.Prelude.{◌≡◌, ℕ, ◌<◌, ◌≤◌, ◌^◌, ◌⊎◌, false, ◌==◌, List, [], ◌∷◌, ◌++◌, IsTrue, codes, if◌then◌else◌}
use Rattle.std.specs.List.{flat_map, AllByRecursion}
use Rattle.std.specs.Fmt.{decimal}
use Rattle.lwp_types.specs.TextFields.{is_text}
use Rattle.lwp_types.specs.declared.call.Func.TheVariants as func
use Rattle.lwp_types.specs.declared.call.Mode.{Mode}
use Rattle.lwp_types.specs.declared.call.Mode.TheVariants as mode
use Rattle.lwp_types.specs.declared.call.Pattern.{Pattern}
use Rattle.lwp_types.specs.declared.call.Pattern.TheVariants as pattern
use Rattle.script_lines.specs.declared.table.Op.{Op}
use Rattle.script_lines.specs.declared.table.Op.TheVariants as op
use Rattle.script_lines.specs.declared.table.Kind.{Kind}
use Rattle.script_lines.specs.declared.table.Kind.TheVariants as kind
use Rattle.script_lines.specs.declared.table.Whom.{Whom}
use Rattle.script_lines.specs.declared.table.Whom.TheVariants as whom
use Rattle.script_lines.specs.declared.table.Test.{Test}
use Rattle.script_lines.specs.declared.table.Test.TheVariants as test
use Rattle.script_lines.specs.Phrase.{Phrase}
use Rattle.script_lines.specs.Words.{is_name}
use Rattle.script_lines.specs.Table.{key_of, slots_of}
use Rattle.trace_text.specs.Lines.{with_space, flags_text, mode_text, pattern_text, func_text}

-- a word that means a thread, or anybody
abbrev pub who_text : Whom → List ℕ → List ℕ
who_text whom.Named w = w
who_text whom.Me w = codes "self"
who_text whom.First w = codes "first"
who_text whom.Sender w = codes "sender"
who_text whom.Nobody w = codes "none"
who_text whom.Any w = codes "any"

-- when a `skip` passes over a statement, in words
abbrev pub test_text : Test → List ℕ
test_text test.Fine = codes "ok"
test_text test.Refused = codes "err"
test_text test.Caught = codes "caught"
test_text (test.Value n) = codes "is " ++ decimal n

-- what a built-in procedure is, in words: a session has an event, and a store has none
abbrev pub built_text : ℕ → List ℕ → List ℕ
built_text event w = if event == 0 then codes "store" else codes "session " ++ (decimal event ++ 32 ∷ w)

-- one slot, with the space before it
abbrev pub slot_text : Phrase → Kind → List ℕ
slot_text p kind.Thread = 32 ∷ p.thread
slot_text p kind.Who = 32 ∷ who_text p.who p.thread
slot_text p kind.Source = 32 ∷ who_text p.who p.thread
slot_text p kind.Procedure = 32 ∷ p.procedure
slot_text p kind.Monitor = 32 ∷ p.monitor
slot_text p kind.Condition = 32 ∷ p.condition
slot_text p kind.Number = 32 ∷ decimal p.number
slot_text p kind.Priority = 32 ∷ decimal p.number
slot_text p kind.Room = 32 ∷ decimal p.room
slot_text p kind.Client = 32 ∷ decimal p.client
slot_text p kind.Event = 32 ∷ decimal p.event
slot_text p kind.Flags = 32 ∷ flags_text p.flags
slot_text p kind.Mode = 32 ∷ mode_text p.mode
slot_text p kind.Pattern = 32 ∷ pattern_text p.pattern
slot_text p kind.Func = 32 ∷ func_text p.func
slot_text p kind.Test = 32 ∷ test_text p.test
slot_text p kind.Built = 32 ∷ built_text p.event p.thread
slot_text p kind.Text = with_space p.text

-- the key and the slots of its row
abbrev pub phrase_text : Phrase → List ℕ
phrase_text p = key_of p.op ++ flat_map (slot_text p) (slots_of p.op)

-- a word that means a thread: only a name is spelt by its bytes
abbrev pub WhoFits : Whom → List ℕ → Type 0
WhoFits whom.Named w = IsTrue (is_name w)
WhoFits whom.Me w = w ≡ []
WhoFits whom.First w = w ≡ []
WhoFits whom.Sender w = w ≡ []
WhoFits whom.Nobody w = w ≡ []
WhoFits whom.Any w = ⊥

-- a word that says from whom to receive
abbrev pub SourceFits : Whom → List ℕ → Type 0
SourceFits whom.Any w = w ≡ []
SourceFits whom.Named w = IsTrue (is_name w)
SourceFits whom.Me w = w ≡ []
SourceFits whom.First w = w ≡ []
SourceFits whom.Sender w = w ≡ []
SourceFits whom.Nobody w = w ≡ []

-- the number of a test, if it has one, is one of 32 bits
abbrev pub TestFits : Test → Type 0
TestFits test.Fine = Unit {0}
TestFits test.Refused = Unit {0}
TestFits test.Caught = Unit {0}
TestFits (test.Value n) = n < 2 ^ 32

-- so is the number of a pattern
abbrev pub PatternFits : Pattern → Type 0
PatternFits pattern.All = Unit {0}
PatternFits (pattern.Num n) = n < 2 ^ 32

-- and so are the ticks that a receive waits for
abbrev pub ModeFits : Mode → Type 0
ModeFits mode.Poll = Unit {0}
ModeFits mode.Block = Unit {0}
ModeFits (mode.Until ticks) = ticks < 2 ^ 32

-- an event; 0 is the clock
abbrev pub IsEvent : ℕ → Type 0
IsEvent e = e ≤ 31

-- an event that an agent may have: any but the clock
abbrev pub IsAgentEvent : ℕ → Type 0
IsAgentEvent e = (1 ≤ e) × (e ≤ 31)

-- a store has neither an event nor a name, and a session has both
abbrev pub BuiltFits : ℕ → List ℕ → Type 0
BuiltFits event w = (event ≡ 0) × (w ≡ []) ⊎ IsAgentEvent event × IsTrue (is_name w)

-- what a slot may hold
abbrev pub SlotFits : Phrase → Kind → Type 0
SlotFits p kind.Thread = IsTrue (is_name p.thread)
SlotFits p kind.Who = WhoFits p.who p.thread
SlotFits p kind.Source = SourceFits p.who p.thread
SlotFits p kind.Procedure = IsTrue (is_name p.procedure)
SlotFits p kind.Monitor = IsTrue (is_name p.monitor)
SlotFits p kind.Condition = IsTrue (is_name p.condition)
SlotFits p kind.Number = p.number < 2 ^ 32
SlotFits p kind.Priority = p.number < 2 ^ 32
SlotFits p kind.Room = p.room ≤ 240
SlotFits p kind.Client = p.client ≤ 15
SlotFits p kind.Event = IsEvent p.event
SlotFits p kind.Flags = Unit {0}
SlotFits p kind.Mode = ModeFits p.mode
SlotFits p kind.Pattern = PatternFits p.pattern
SlotFits p kind.Func = Unit {0}
SlotFits p kind.Test = TestFits p.test
SlotFits p kind.Built = BuiltFits p.event p.thread
SlotFits p kind.Text = IsTrue (is_text p.text)

-- each slot of the row holds what it may
abbrev pub IsPhrase : Phrase → Type 0
IsPhrase p = AllByRecursion (SlotFits p) (slots_of p.op)

-- a key with nothing after it
abbrev pub blank : Op → Phrase
blank o = record {
  op = o;
  who = whom.Named;
  thread = [];
  procedure = [];
  monitor = [];
  condition = [];
  number = 0;
  room = 0;
  client = 0;
  event = 0;
  flags = record { suspended = false; nolastrites = false; server = false };
  mode = mode.Poll;
  pattern = pattern.All;
  func = func.Nothing;
  test = test.Fine;
  text = [];
}

-- a line that says a text
abbrev pub saying : List ℕ → Phrase
saying text = record (blank op.Say) { text = text }

-- a line that a client posts
abbrev pub posting : ℕ → List ℕ → Phrase
posting client text = record (blank op.Post) { client = client; text = text }

-- q with p's slot of this kind
abbrev pub copy_slot : Kind → Phrase → Phrase → Phrase
copy_slot kind.Thread p q = record q { thread = p.thread }
copy_slot kind.Who p q = record q { who = p.who; thread = p.thread }
copy_slot kind.Source p q = record q { who = p.who; thread = p.thread }
copy_slot kind.Procedure p q = record q { procedure = p.procedure }
copy_slot kind.Monitor p q = record q { monitor = p.monitor }
copy_slot kind.Condition p q = record q { condition = p.condition }
copy_slot kind.Number p q = record q { number = p.number }
copy_slot kind.Priority p q = record q { number = p.number }
copy_slot kind.Room p q = record q { room = p.room }
copy_slot kind.Client p q = record q { client = p.client }
copy_slot kind.Event p q = record q { event = p.event }
copy_slot kind.Flags p q = record q { flags = p.flags }
copy_slot kind.Mode p q = record q { mode = p.mode }
copy_slot kind.Pattern p q = record q { pattern = p.pattern }
copy_slot kind.Func p q = record q { func = p.func }
copy_slot kind.Test p q = record q { test = p.test }
copy_slot kind.Built p q = record q { event = p.event; thread = p.thread }
copy_slot kind.Text p q = record q { text = p.text }

-- q with p's slots of all these kinds
abbrev pub copy_slots : List Kind → Phrase → Phrase → Phrase
copy_slots [] p q = q
copy_slots (k ∷ ks) p q = copy_slots ks p (copy_slot k p q)

-- p's slots of its own row, and nothing else
abbrev pub own_slots : Phrase → Phrase
own_slots p = copy_slots (slots_of p.op) p (blank p.op)

-- only the slots of its row are filled
abbrev pub IsNeeded : Phrase → Type 0
IsNeeded p = own_slots p ≡ p

-- a line: its slots fit, and nothing else is filled
abbrev pub IsLine : Phrase → Type 0
IsLine p = IsPhrase p × IsNeeded p

-- a line and its end
abbrev pub with_newline : List ℕ → List ℕ
with_newline line = line ++ 10 ∷ []
