-- How requests stand in a line. No public clause cites this module.
use Rattle.monitors.specs.declared.requests.EntryRequest.{EntryRequest}
use Rattle.lists.specs.declared.waiting_list.rows.Waiting.{Waiting}

-- a thread that waits there asks to enter the monitor of that number
abbrev pub request_of : Waiting → EntryRequest
request_of w = record { mon = w.what; tid = w.tid; prio = w.prio; depth = w.depth }
