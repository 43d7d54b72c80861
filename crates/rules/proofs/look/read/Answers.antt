use Rattle.rules.proofs.ReadNeeds.{for_read}
use Rattle.rules.proofs.look.read.Goals as goal

pub returns-clause-read_as : goal.returns-clause-read_as
returns-clause-read_as c = search for_read
