-- What is said of a part that was read, and of one that was not.
use Rattle.lwp_serve.specs.Batches.Report.{bad_text, counts_of, counts_text, part_text, read_part_text}
use Rattle.lwp_serve.specs.declared.batches.report.Counts.{Counts}
use Rattle.script_text.specs.Spelling.{Gives, verdict}
use Rattle.script_text.specs.declared.reason.ReadErr.{ReadErr}
use Rattle.script_text.specs.declared.reason.ReadErr.TheVariants as err
use Rattle.script_text.specs.declared.reason.Reason.{Reason}
use Rattle.script_text.specs.declared.script.Script.{Script}
use Rattle.std.proofs.Common.{Err, List, Ok, Result, ap, subst, sym, ℕ, ◌∙◌, ◌≡◌}

pub bad-so : (bytes : List ℕ) (r : Result Script ReadErr) (line : ℕ) (why : Reason) → r ≡ Err (err.Bad line why) → Gives (verdict bytes) r
    → verdict bytes ≡ Err (line, why)
bad-so bytes r line why is g = subst (λ (x : Result Script ReadErr). Gives (verdict bytes) x) is g

pub said-counts : (turns : ℕ) (bytes : List ℕ) (script : Script) (counts : Counts) → verdict bytes ≡ Ok script
    → counts ≡ counts_of turns script → part_text turns bytes ≡ counts_text counts
unfolding part_text
said-counts turns bytes script counts v c = ap (read_part_text turns) v ∙ ap counts_text (sym c)

pub said-bad : (turns : ℕ) (bytes : List ℕ) (line : ℕ) (why : Reason) → verdict bytes ≡ Err (line, why) → part_text turns bytes ≡ bad_text line why
unfolding part_text
said-bad turns bytes line why v = ap (read_part_text turns) v
