-- All lines of a script in place.
use Rattle.event_gate.specs.Shelves.{Shelves, full_shelves}
use Rattle.script_text.specs.Script.{lines_posted}
use Rattle.script_text.specs.declared.script.Script.{Script}

-- the lines of its clients, of each event those that are for it, in the order of the script
abbrev pub stock_of : Script → Shelves
stock_of script = full_shelves script.clients (lines_posted script)
