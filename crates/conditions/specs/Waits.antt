-- How waits stand in a line. No public clause cites this module.
use Rattle.conditions.specs.declared.waits.WaitRec.{WaitRec}
use Rattle.lists.specs.declared.waiting_list.rows.Waiting.{Waiting}

-- a thread that waits there waits on the condition of that number
abbrev pub wait_in : Waiting → WaitRec
wait_in w = record { cond = w.what; tid = w.tid; prio = w.prio; depth = w.depth }
