use Rattle.lines_fields.proofs.FieldNeeds.{first_there, first_absent}
use Rattle.lines_fields.proofs.fields.first_field.Goals as goal

pub returns-in-Some : goal.returns-in-Some
returns-in-Some c = first_there c.args.text.now c.first_pipe.result c.first_pipe.ensures c.in-Some.end c.in-Some.is

pub returns-in-None : goal.returns-in-None
returns-in-None c = first_absent c.args.text.now c.first_pipe.result c.first_pipe.ensures c.in-None.is
