use Rattle.search.proofs.SeenLemmas.{found_keyed}
use Rattle.search.specs.Seen.{number_of}
use Rattle.std.proofs.Common.{ap, sym, ◌∙◌}
use Rattle.search.proofs.seen.Seen.find.Goals as goal

pub returns : goal.returns
returns c = c.copied.ensures ∙ c.get.ensures.value ∙ sym (found_keyed c.args.key.now c.self.inside.keys.entries)
    ∙ ap (λ seen. number_of seen c.args.key.now) c.self.view_is
