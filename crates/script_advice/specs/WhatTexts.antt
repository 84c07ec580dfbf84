-- What is wrong, in words.
use Rattle.std.specs.Prelude.{ℕ, List, codes}
use Rattle.script_lines.specs.declared.table.Kind.{Kind}
use Rattle.script_lines.specs.declared.table.Kind.TheVariants as kind
use Rattle.script_advice.specs.declared.faults.What.{What}
use Rattle.script_advice.specs.declared.faults.What.TheVariants as what

-- what may stand in a slot, where something else stands
abbrev pub kind_text : Kind → List ℕ
kind_text kind.Thread =
    codes "no name: 1 to 16 of a to z, digits and _, a letter first, and none of self, first, sender, none and any"
kind_text kind.Who = codes "no thread: a name, self, first, sender or none"
kind_text kind.Source = codes "no thread: a name, self, first, sender, none or any"
kind_text kind.Procedure =
    codes "no name: 1 to 16 of a to z, digits and _, a letter first, and none of self, first, sender, none and any"
kind_text kind.Monitor =
    codes "no name: 1 to 16 of a to z, digits and _, a letter first, and none of self, first, sender, none and any"
kind_text kind.Condition =
    codes "no name: 1 to 16 of a to z, digits and _, a letter first, and none of self, first, sender, none and any"
kind_text kind.Number = codes "no number: decimal, no zeros in front, at most 4294967295"
kind_text kind.Priority = codes "no number: decimal, no zeros in front, at most 4294967295"
kind_text kind.Room = codes "no room: a number of at most 240"
kind_text kind.Client = codes "no client: a number of at most 15"
kind_text kind.Event = codes "no event: a number of at most 31"
kind_text kind.Flags = codes "no flags: -, or some of s, n and v in this order"
kind_text kind.Mode = codes "no mode: poll, wait or a number of ticks"
kind_text kind.Pattern = codes "no pattern: all or a number"
kind_text kind.Func = codes "no function: -, give or sum"
kind_text kind.Test = codes "no condition: ok, err, caught, or is and a number"
kind_text kind.Built = codes "no built-in procedure: store, or session, an event from 1 to 31 and the name of a thread"
kind_text kind.Text = codes "too long a text: at most 240 bytes"

abbrev pub what_text : What → List ℕ
what_text what.Blank = codes "an empty line: each line says something"
what_text what.Comment = codes "a comment: a script has none"
what_text what.Tab = codes "a tab: words stand one space apart"
what_text what.Return = codes "a carriage return: a line ends with a newline alone"
what_text what.Byte = codes "a byte that isn't printable"
what_text what.Space = codes "a space too many: words stand one space apart"
what_text what.UpperCase = codes "an upper-case letter: words and names are in lower case"
what_text what.Unknown = codes "no line begins so"
what_text what.Lacking = codes "a word is missing"
what_text what.More = codes "a word too many"
what_text what.Zero = codes "a zero in front: a number has none"
what_text (what.Slot k) = kind_text k
