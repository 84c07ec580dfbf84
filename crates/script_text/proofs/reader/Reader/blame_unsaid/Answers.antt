use Rattle.std.proofs.Common.{rules}
use Rattle.script_text.proofs.reader.Reader.blame_unsaid.Goals as goal

pub returns-else-is_printable : goal.returns-else-is_printable
returns-else-is_printable c = search rules
