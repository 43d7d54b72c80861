use Rattle.rules_lists.proofs.ListNeeds.{for_count_among}
use Rattle.rules_lists.proofs.count_among.Goals as goal

pub returns : goal.returns
returns c = search for_count_among
