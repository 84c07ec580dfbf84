use Rattle.std.proofs.Common.{ap, arith, length}
use Rattle.std.proofs.lemmas.List.{length-map}
use Rattle.lists.specs.Texts.{text_in}
use Rattle.lists.proofs.text_list.TextList.len.Goals as goal

pub returns : goal.returns
returns c = omega (arith, c.len.ensures, length-map c.self.inside.spans.items (text_in c.self.inside.bytes.items), ap length c.self.view_is)
