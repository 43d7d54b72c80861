use Rattle.rules.proofs.ReadNeeds.{for_here_of}
use Rattle.rules.proofs.look.here_of.Goals as goal

pub own_end-own-requires-clause-from_in_bounds : goal.own_end-own-requires-clause-from_in_bounds
own_end-own-requires-clause-from_in_bounds c = search for_here_of

pub own_end-own-requires-clause-file_value : goal.own_end-own-requires-clause-file_value
own_end-own-requires-clause-file_value c = search for_here_of

pub historical_of-historical-requires : goal.historical_of-historical-requires
historical_of-historical-requires c = search for_here_of

pub day_of-day-requires : goal.day_of-day-requires
day_of-day-requires c = search for_here_of

pub returns-clause-value : goal.returns-clause-value
returns-clause-value c = search for_here_of
