use Rattle.line_server.proofs.TellLemmas.{read-fits}
use Rattle.line_server.proofs.table.Table.tell.Goals as goal
use Rattle.std.proofs.Common.{refl}

pub put-requires-clause-short : goal.put-requires-clause-short
put-requires-clause-short c = (read-fits c.args.text.now c.args.text.now c.command_of.result c.in-Some-Put.field-0 c.in-Some-Put.key
    c.in-Some-Put.value c.command_of.ensures.is_text refl c.command_of.ensures.value c.in-Some-Put.is c.in-Some-Put.field-0-is).short

pub put-requires-clause-printable : goal.put-requires-clause-printable
put-requires-clause-printable c = (read-fits c.args.text.now c.args.text.now c.command_of.result c.in-Some-Put.field-0 c.in-Some-Put.key
    c.in-Some-Put.value c.command_of.ensures.is_text refl c.command_of.ensures.value c.in-Some-Put.is c.in-Some-Put.field-0-is).printable
