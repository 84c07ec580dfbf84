use Rattle.std.proofs.Common.{refl, rules}
use Rattle.trace_page.proofs.ViewLaws.{all_is_part}
use Rattle.trace_page.proofs.showing.show.Goals as goal

pub returns : goal.returns
returns c = search rules

pub returns-in-Err-Line : goal.returns-in-Err-Line
returns-in-Err-Line c = search rules

pub returns-in-Err-NoMemory-add_page : goal.returns-in-Err-NoMemory-add_page
returns-in-Err-NoMemory-add_page g c = (c.in-Ok.ensures.same, all_is_part _ _ _ c.in-Ok.ensures.read, (refl, refl))
