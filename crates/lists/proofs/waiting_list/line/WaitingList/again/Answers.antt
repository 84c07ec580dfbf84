use Rattle.lists.proofs.CopyLaws.{kept_again}
use Rattle.lists.proofs.waiting_list.line.WaitingList.again.Goals as goal

pub invariant_of-result : goal.invariant_of-result
invariant_of-result c = kept_again _ _ _ _ _ _ _ _ _ _ _ _ _ _ _ c.self.invariant
    c.in_ok-cloned_queue.ensures.items c.in_ok-cloned_queue-2.ensures.items c.in_ok-cloned_queue-3.ensures.items
    c.in_ok-again.ensures
    c.in_ok-cloned_queue.ensures.room c.in_ok-cloned_queue-2.ensures.room c.in_ok-cloned_queue-3.ensures.room
