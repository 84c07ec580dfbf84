-- A line that says something is judged by where it stands.
use Rattle.std.proofs.Common.{◌≡◌, ℕ, true, false, cond, List, Option, Some, None, Ok, Err, refl, ap, ◌∙◌}
use Rattle.script_lines.specs.Phrase.{Phrase}
use Rattle.script_text.specs.Grammar.{may_stand_at}
use Rattle.script_lines.specs.Reading.{phrase_at}
use Rattle.script_text.specs.Spelling.{reason_of}
use Rattle.script_text.specs.Track.{after_judge, after_take, after_verdict, judge_phrase_at}
use Rattle.script_text.specs.declared.reader.Declared.{Declared}
use Rattle.script_text.specs.declared.reason.Reason.TheVariants as reason
use Rattle.script_text.specs.declared.stage.Stage.{Stage}
use Rattle.script_text.specs.declared.reader.Reader.{Reader}
use Rattle.script_lines.proofs.PrintableLaws.{said_is_printable}

pub judged_good : (r : Reader) (line : List ℕ) (p : Phrase) → phrase_at line ≡ Some p
    → may_stand_at r.stage r.declared r.draft.posted p ≡ true → after_judge None r line ≡ after_take r p
judged_good r line p e s = rw (said_is_printable line p e, e, s) refl

told_bad : (s : Stage) (known : Declared) (posted line : List ℕ) (o : Option Phrase) (p : Phrase) → o ≡ Some p
    → may_stand_at s known posted p ≡ false → judge_phrase_at s known posted line o ≡ Err (reason_of s line)
told_bad s known posted line o p e f = ap (judge_phrase_at s known posted line) e ∙ ap (λ b. cond b (Ok p) (Err (reason_of s line))) f

pub judged_bad : (r : Reader) (line : List ℕ) (p : Phrase) → phrase_at line ≡ Some p
    → may_stand_at r.stage r.declared r.draft.posted p ≡ false → after_judge None r line ≡ record r { bad = Some (reason_of r.stage line) }
judged_bad r line p e s =
    let told = told_bad r.stage r.declared r.draft.posted line (phrase_at line) p e s in
    ap (λ v. after_verdict r (cond v (judge_phrase_at r.stage r.declared r.draft.posted line (phrase_at line)) (Err reason.Bytes))) (said_is_printable line p e)
    ∙ ap (after_verdict r) told
